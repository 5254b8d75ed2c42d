-- A word that its view holds and has not loose after a step is in whatever a cut may leave as it is; and so a slot that was taken stays taken
-- there, or is being taken still.
use Rattle.std.proofs.Common.{◌≡◌, ◌≢◌, ◌⊎◌, ℕ, ◌<◌, List, set, inl, inr, sym, ap, ◌∙◌, subst}
use Rattle.std.proofs.lemmas.Bool.{cases_eq}
use Rattle.trace.specs.Events.{Words}
use Rattle.segment_head.specs.HeadWord.{state_in, free}
use Rattle.frame_facts.specs.Core.{core}
use Rattle.frame_facts.proofs.segments.Cores.{core_structure}
use Rattle.world.specs.Ground.{Ground}
use Rattle.world.specs.Views.{View, Has, At, IsLoose}
use Rattle.world.specs.Media.{IsPossible}
use Rattle.world.specs.Invariant.{Holds}
use Rattle.world.specs.areas.Areas.{Side, Allocation, header_word}
use Rattle.world.specs.areas.Fitting.{HoldsWord}
use Rattle.world.specs.areas.Lasting.{IsBeingTaken, IsTakenInMedia, SettledSlots}
use Rattle.world.proofs.basics.Lists.{set_here, set_there}
use Rattle.world.proofs.basics.Seats.{each, is_v}
use Rattle.world.proofs.basics.Structures.{header_is}
use Rattle.world.proofs.fitting.OneHolder.{one_holder, head_in_slot}
use Rattle.world.proofs.fitting.Rows.{head_near}
use Rattle.world.proofs.moving.Known.{grounds, held_within}
use Rattle.world.proofs.moving.Stepping.{IsStill, still_back}

module _ (site : Ground) (words : Words) (views : List View) (j : ℕ) (v : View) (h : Holds site words views) (at : At views j v) (later : Words) (w : View) where
  -- ---- words of the stepping view
  pub held_settled : (i : ℕ) → HoldsWord site.shape v i → ((y : ℕ) → IsLoose w (i, y) → ⊥) → (m : Words) → IsPossible site later (set views j w) m
      → core site.shape m i ≡ core site.shape later i
  held_settled i holds firm m p = elim (p i (held_within site words views h j v i at holds)) [
    | inl e ↦ e
    | inr e ↦ absurd (each views j v w at (λ c u. IsLoose u (i, e.2) → ⊥) (firm e.2)
        (λ c u ne a l. ne (one_holder site words views (grounds site words views h) h.structure.fits c j i u v a at (h.known.loose c u i e.2 a l) holds)) e.0 e.1 e.3 e.4)
  ]

  pub head_settled : (n : ℕ) → n < site.shape.segments → HoldsWord site.shape v (header_word site.shape n) → ((y : ℕ) → IsLoose w (header_word site.shape n, y) → ⊥)
      → (m : Words) → IsPossible site later (set views j w) m → m (header_word site.shape n) ≡ later (header_word site.shape n)
  head_settled n slot holds firm m p =
      let i = header_word site.shape n in
      let is = header_is site.shape n slot in
      sym (core_structure site.shape i (m i) is) ∙ held_settled i holds firm m p ∙ core_structure site.shape i (later i) is

  -- ---- taken slots
  -- a side whose header is not loose is taken in whatever a cut may leave
  pub side_settled : (n : ℕ) → Has (Side n) v.areas → later (header_word site.shape n) ≡ words (header_word site.shape n)
      → ((y : ℕ) → IsLoose w (header_word site.shape n, y) → ⊥) → IsTakenInMedia site later (set views j w) n
  side_settled n side same firm m p is =
      let side_is = (h.structure.fits.side j v n at side).0 in
      side_is.taken (sym (ap state_in (head_settled n side_is.slot (inr (Side n, side, head_in_slot site.shape n)) firm m p ∙ same)) ∙ is)

  -- a slot that is being taken, or is taken in whatever a cut may leave
  abbrev pub IsSettled : ℕ → Type 0
  IsSettled n = IsBeingTaken (set views j w) n ⊎ IsTakenInMedia site later (set views j w) n

  -- one that was taken stays settled, where the stepping view keeps what it has, or its header is settled, and where no medium comes in which it is free
  pub stays_settled : (n : ℕ) → n < site.shape.segments → state_in (words (header_word site.shape n)) ≢ free
      → (Has Allocation v.areas → Has (Side n) v.areas → (Has Allocation w.areas × Has (Side n) w.areas) ⊎ IsTakenInMedia site later (set views j w) n)
      → ((m : Words) → IsPossible site later (set views j w) m → state_in (m (header_word site.shape n)) ≡ free
      → (q : Words) × IsPossible site words views q × (state_in (q (header_word site.shape n)) ≡ free))
      → IsSettled n
  stays_settled n slot was mine back = elim (h.structure.settled_slots n slot was) [
    | inl o ↦ elim (cases_eq o.0 j) [
      | inl e ↦ (let k = subst (λ (u : View). Has Allocation u.areas × Has (Side n) u.areas) (is_v views j v w at o.0 o.1 o.2 e) (o.3, o.4) in
          elim (mine k.0 k.1) [ inl has ↦ inl (j, w, set_here views j v w at, has.0, has.1) | inr taken ↦ inr taken ])
      | inr ne ↦ inl (o.0, o.1, set_there views j o.0 o.1 w ne o.2, o.3, o.4)
    ]
    | inr taken ↦ inr (λ m p is. let q = back m p is in taken q.0 q.1 q.2)
  ]

  -- a step that leaves the cores of the image, with which no more is loose
  pub still_settled : IsStill site words later v w
      → ((n : ℕ) → Has Allocation v.areas → Has (Side n) v.areas → (Has Allocation w.areas × Has (Side n) w.areas) ⊎ IsTakenInMedia site later (set views j w) n)
      → SettledSlots site later (set views j w)
  still_settled still mine n slot some =
      let i = header_word site.shape n in
      let is = header_is site.shape n slot in
      let same : later i ≡ words i = sym (core_structure site.shape i (later i) is) ∙ still.cores i (head_near site n slot) ∙ core_structure site.shape i (words i) is in
      stays_settled n slot (λ e. some (ap state_in same ∙ e)) (mine n) (λ m p e. (m, still_back site words later views j v w at still m p, e))
