-- What a cut may leave is a table and stands in the history, at each kind of step.
use Rattle.std.proofs.Common.{◌≡◌, ◌≢◌, ◌⊎◌, ℕ, ◌<◌, List, set, cond, Bool, true, false, Option, None, Some, inl, inr, refl, sym, ap, ◌∙◌, subst}
use mathlib.Core.Logic.{dite}
use native.Mathlib.Decide.{ℕ_discrete}
use Rattle.trace.specs.Events.{Words, with_word}
use Rattle.trace.proofs.Replaced.{cases_at, replaced_same, replaced_other}
use Rattle.image_layout.specs.Places.{words_of}
use Rattle.map_model.specs.declared.call.Call.{Call}
use Rattle.map_model.specs.Map.{key_of}
use Rattle.frame_facts.specs.Core.{core_of, core}
use Rattle.world.specs.Ground.{Ground}
use Rattle.world.specs.Views.{Answer, Move, Owed, View, Has, At, HasLock, IsLoose}
use Rattle.world.specs.Media.{MayLeave, IsPossible, IsPlanned}
use Rattle.world.specs.Parts.{IsRemoving}
use Rattle.world.specs.Kinds.{with_answer, with_look, with_count, with_store}
use Rattle.map_model.specs.declared.call.Call.TheVariants.{Remove}
use Rattle.world.proofs.basics.Seats.{each, carry, loosened_has}

-- ---- the views after a step
-- a view after has no more loose words, and the same changes planned
abbrev pub IsQuiet : View → View → Type 0
IsQuiet w v = ((p : ℕ × ℕ) → IsLoose w p → IsLoose v p) × (w.planned ≡ v.planned) × ((call : Call) → Has call v.planned → (lock : ℕ) → HasLock v.held lock → HasLock w.held lock)

pub look_quiet : (t : Bool) (lock n : ℕ) (v : View) → IsQuiet (with_look t lock n v) v
look_quiet true lock n v = ((λ p l. l), refl, (λ c h lock l. l))
look_quiet false lock n v = ((λ p l. l), refl, (λ c h lock l. l))

pub count_quiet : (t : Bool) (call : Call) (n : ℕ) (v : View) → IsQuiet (with_count t call n v) v
count_quiet true call n v = ((λ p l. l), refl, (λ c h lock l. l))
count_quiet false call n v = ((λ p l. l), refl, (λ c h lock l. l))

pub answer_quiet : (t : Bool) (a : Option Answer) (v : View) → IsQuiet (with_answer t a v) v
answer_quiet false a v = ((λ p l. l), refl, (λ c h lock l. l))
answer_quiet true None v = ((λ p l. l), refl, (λ c h lock l. l))
answer_quiet true (Some a) v = ((λ p l. l), refl, (λ c h lock l. l))

module _ (views : List View) (j : ℕ) (v w : View) (at : At views j v) where
  -- a planned change stays where its view keeps it
  pub planned_stays : (k : ℕ) (a : Option ℕ) → ((call : Call) → Has call v.planned → key_of call ≡ k → Has call w.planned) → IsPlanned views k a → IsPlanned (set views j w) k a
  planned_stays k a keeps s = let t = carry views j v w at (λ i u. Has s.2 u.planned) (λ has. keeps s.2 has s.5) s.0 s.1 s.3 s.4 in (s.0, t.0, s.2, t.1, t.2, s.5, s.6)

  -- and so does a remove that is under way
  pub removing_stays : (k lock : ℕ) → (Has (Remove k) v.planned → HasLock v.held lock → Has (Remove k) w.planned × HasLock w.held lock) → IsRemoving views k lock → IsRemoving (set views j w) k lock
  removing_stays k lock keeps r = let t = carry views j v w at (λ i u. Has (Remove k) u.planned × HasLock u.held lock) (λ q. keeps q.0 q.1) r.0 r.1 r.2 (r.3, r.4) in (r.0, t.0, t.1, t.2.0, t.2.1)

module _ (site : Ground) (words us : Words) (views : List View) (j : ℕ) (v w : View) (at : At views j v)
    (same : (n : ℕ) → n < words_of site.shape → core site.shape us n ≡ core site.shape words n) (less : (p : ℕ × ℕ) → IsLoose w p → IsLoose v p) where
  -- no core changes and no word becomes loose: no more media
  pub possible_fewer : (m : Words) → IsPossible site us (set views j w) m → IsPossible site words views m
  possible_fewer m p i within = elim (p i within) [
    | inl e ↦ inl (e ∙ same i within)
    | inr e ↦ each views j v w at (λ a u. IsLoose u (i, e.2) → MayLeave site words views i (m i))
        (λ l. inr (j, v, e.2, at, less (i, e.2) l, e.5)) (λ a u n b l. inr (a, u, e.2, b, l, e.5)) e.0 e.1 e.3 e.4
  ]

-- ---- a store adds the new value of its word at most
abbrev pub storer : Ground → Words → ℕ → ℕ → List Call → List Move → List Owed → View → View
storer site words i x calls moves owed v = with_store site.shape i (words i) x calls moves owed v

module _ (site : Ground) (words : Words) (views : List View) (j : ℕ) (v : View) (at : At views j v) (i x : ℕ) (calls : List Call) (moves : List Move) (owed : List Owed) where
  grows : (n y : ℕ) → MayLeave site (with_word words i x) (set views j (storer site words i x calls moves owed v)) n y
      → MayLeave site words views n y ⊎ ((n ≡ i) × (core_of site.shape i y ≡ core_of site.shape i x))
  grows n y h = elim h [
    | inl e ↦ dite (ℕ_discrete n i)
        (λ (q : n ≡ i). inr (q, subst (λ (z : ℕ). core_of site.shape z y ≡ core_of site.shape z (with_word words i x z)) q e ∙ ap (core_of site.shape i) (replaced_same words i x)))
        (λ (q : n ≢ i). inl (inl (e ∙ ap (core_of site.shape n) (replaced_other words i x n q))))
    | inr e ↦ inl (each views j v (storer site words i x calls moves owed v) at (λ a u. IsLoose u (n, e.2) → MayLeave site words views n y)
        (λ l. elim l [
          | inl d ↦ elim (loosened_has site.shape i (words i) x v.dirty (n, e.2) d) [
            | inl q ↦ inl (e.5 ∙ ap (core_of site.shape n) (ap (λ (z : ℕ × ℕ). z.1) q ∙ ap words (sym (ap (λ (z : ℕ × ℕ). z.0) q))))
            | inr r ↦ inr (j, v, e.2, at, inl r, e.5)
          ]
          | inr f ↦ inr (j, v, e.2, at, inr f, e.5)
        ])
        (λ a u n b l. inr (a, u, e.2, b, l, e.5)) e.0 e.1 e.3 e.4)
  ]

  -- a medium that is possible after was so before, or is one that was with the word replaced, core by core
  pub grown : i < words_of site.shape → (m : Words) → IsPossible site (with_word words i x) (set views j (storer site words i x calls moves owed v)) m
      → IsPossible site words views m
      ⊎ ((q : Words) × IsPossible site words views q × ((n : ℕ) → core site.shape (with_word q i x) n ≡ core site.shape m n))
  grown near m p = elim (grows i (m i) (p i near)) [
    | inr e ↦ inr (
      with_word m i (words i),
      (λ n within. cases_at (λ b. MayLeave site words views n (cond b (words i) (m n))) n i
          (λ q. inl (ap (λ (z : ℕ). core_of site.shape n (words z)) (sym q)))
          (λ q. elim (grows n (m n) (p n within)) [ inl r ↦ r | inr r ↦ absurd (q r.0) ])),
      (λ n. cases_at (λ b. core_of site.shape n (cond b x (cond b (words i) (m n))) ≡ core_of site.shape n (m n)) n i
          (λ q. subst (λ (z : ℕ). core_of site.shape z x ≡ core_of site.shape z (m z)) (sym q) (sym e.1)) (λ q. refl)),
    )
    | inl e ↦ inl (λ n within. elim (grows n (m n) (p n within)) [ inl r ↦ r | inr r ↦ subst (λ (z : ℕ). MayLeave site words views z (m z)) (sym r.0) e ])
  ]
