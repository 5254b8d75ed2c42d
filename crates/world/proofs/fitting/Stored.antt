-- What a store leaves of media and of what may be left, for a view that is known by its locks and loose words alone.
use Rattle.std.proofs.Common.{◌≡◌, ◌⊎◌, ℕ, ◌<◌, cond, eqb, List, ◌∷◌, set, inl, inr, refl, sym, ap, ◌∙◌, subst}
use Rattle.std.proofs.lemmas.Bool.{cases_Bool, cases_eq, eqb-true}
use Rattle.trace.specs.Events.{Words, with_word}
use Rattle.trace.proofs.Replaced.{replaced_same, replaced_other}
use Rattle.image_layout.specs.Places.{Shape, words_of}
use Rattle.sound_image.specs.Segments.{frame_of}
use Rattle.frame_facts.proofs.Moved.{live_same}
use Rattle.frame_facts.specs.Core.{core_of}
use Rattle.frame_facts.specs.Owners.{HasStructure}
use Rattle.frame_facts.specs.Facts.{IsLiveSlot}
use Rattle.world.specs.Ground.{Ground}
use Rattle.world.specs.Views.{View, Has, At, IsLoose}
use Rattle.world.specs.Kinds.{loosened}
use Rattle.world.specs.Media.{MayLeave, IsPossible}
use Rattle.world.specs.areas.Areas.{Area, header_word}
use Rattle.world.specs.areas.Fitting.{LivesOn}
use Rattle.world.specs.areas.Rows.{HasStored}
use Rattle.world.proofs.basics.Lists.{set_here, set_there}
use Rattle.world.proofs.basics.Seats.{each, carry}
use Rattle.world.proofs.basics.Structures.{header_is}
use Rattle.world.proofs.basics.Tables.{core_structure_same}
use Rattle.world.proofs.invariant.KeepMedia.{storer, grown}

-- a store takes nothing from what is dirty, and adds its word where its core changes
loosened_keeps : (shape : Shape) (i n x : ℕ) (d : List (ℕ × ℕ)) (p : ℕ × ℕ) → Has p d → Has p (loosened shape i n x d)
loosened_keeps shape i n x d p h = elim (cases_Bool (eqb (core_of shape i n) (core_of shape i x))) [
  | inl t ↦ subst (λ b. Has p (cond b d ((i, n) ∷ d))) (sym t) h
  | inr f ↦ subst (λ b. Has p (cond b d ((i, n) ∷ d))) (sym f) (inr h)
]

loosened_adds : (shape : Shape) (i n x : ℕ) (d : List (ℕ × ℕ)) → (core_of shape i n ≡ core_of shape i x) ⊎ Has (i, n) (loosened shape i n x d)
loosened_adds shape i n x d = elim (cases_Bool (eqb (core_of shape i n) (core_of shape i x))) [
  | inl t ↦ inl (eqb-true (core_of shape i n) (core_of shape i x) t)
  | inr f ↦ inr (subst (λ b. Has (i, n) (cond b d ((i, n) ∷ d))) (sym f) (inl refl))
]

module _ (site : Ground) (words : Words) (views : List View) (j : ℕ) (v w : View) (i x : ℕ) (areas : List Area) (at : At views j v)
    (st : HasStored site.shape i (words i) x areas v w) where
  abbrev us : Words
  us = with_word words i x

  still_loose : (p : ℕ × ℕ) → IsLoose v p → IsLoose w p
  still_loose p l = elim l [
    | inl d ↦ inl (subst (Has p) (sym st.dirty) (loosened_keeps site.shape i (words i) x v.dirty p d))
    | inr f ↦ inr (subst (Has p) (sym st.flushed) f)
  ]

  old_value : (core_of site.shape i (words i) ≡ core_of site.shape i x) ⊎ IsLoose w (i, words i)
  old_value = elim (loosened_adds site.shape i (words i) x v.dirty) [ inl e ↦ inl e | inr h ↦ inr (inl (subst (Has (i, words i)) (sym st.dirty) h)) ]

  -- WHAT MAY BE LEFT may be left after a store too
  pub may_stays : (n y : ℕ) → MayLeave site words views n y → MayLeave site us (set views j w) n y
  may_stays n y m = elim m [
    | inl e ↦ elim (cases_eq n i) [
      | inl q ↦ elim old_value [
        | inl same ↦ inl (e ∙ ap (λ z. core_of site.shape z (words z)) q ∙ same ∙ sym (ap (λ z. core_of site.shape z (us z)) q ∙ ap (core_of site.shape i) (replaced_same words i x)))
        | inr loose ↦ inr (j, w, words i, set_here views j v w at, subst (λ z. IsLoose w (z, words i)) (sym q) loose, e ∙ ap (λ z. core_of site.shape n (words z)) q)
      ]
      | inr q ↦ inl (e ∙ ap (core_of site.shape n) (sym (replaced_other words i x n q)))
    ]
    | inr l ↦ inr (let c = carry views j v w at (λ _ u. IsLoose u (n, l.2)) (still_loose (n, l.2)) l.0 l.1 l.3 l.4 in (l.0, c.0, l.2, c.1, c.2, l.5))
  ]

  -- no more is loose than the store says
  abbrev w0 : View
  w0 = storer site words i x v.planned v.moving v.owed v

  less_loose : (p : ℕ × ℕ) → IsLoose w p → IsLoose w0 p
  less_loose p l = elim l [ inl d ↦ inl (subst (Has p) st.dirty d) | inr f ↦ inr (subst (Has p) st.flushed f) ]

  pub as_stored : (m : Words) → IsPossible site us (set views j w) m → IsPossible site us (set views j w0) m
  as_stored m p n within = elim (p n within) [
    | inl e ↦ inl e
    | inr e ↦ each views j v w at (λ a u. IsLoose u (n, e.2) → MayLeave site us (set views j w0) n (m n))
        (λ l. inr (j, w0, e.2, set_here views j v w0 at, less_loose (n, e.2) l, e.5))
        (λ a u ne b l. inr (a, u, e.2, set_there views j a u w0 ne b, l, e.5)) e.0 e.1 e.3 e.4
  ]

  module _ (near : i < words_of site.shape) where
    -- A MEDIUM AFTER is one from before, or has the structure of one with the store
    pub grown_by : (m : Words) → IsPossible site us (set views j w) m
        → IsPossible site words views m ⊎ ((q : Words) × IsPossible site words views q × HasStructure site.shape (with_word q i x) m)
    grown_by m p = elim (grown site words views j v at i x v.planned v.moving v.owed near m (as_stored m p)) [
      | inl q ↦ inl q
      | inr q ↦ inr (q.0, q.1, core_structure_same site (with_word q.0 i x) m (λ n _. sym (q.2 n)))
    ]

    -- what lives on goes on, where a medium with the store has it live
    pub lives_by : (t : ℕ) → ((q : Words) → IsPossible site words views q → IsLiveSlot (frame_of site.shape q) t → IsLiveSlot (frame_of site.shape (with_word q i x)) t)
        → LivesOn site words views t → LivesOn site us (set views j w) t
    lives_by t stored lives m p = elim (grown_by m p) [
      | inl q ↦ lives m q
      | inr q ↦ (let l = stored q.0 q.1 (lives q.0 q.1) in
          record { slot = l.slot; live = live_same (frame_of site.shape (with_word q.0 i x)) (frame_of site.shape m) t (q.2 (header_word site.shape t) (header_is site.shape t l.slot)) l.live })
    ]
