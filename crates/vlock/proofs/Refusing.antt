-- Who replies that no slot is free knows each to be taken, and those that were free at the start stay taken.
use Rattle.std.proofs.Common.{◌≡◌, ◌⊎◌, inl, inr, ℕ, ◌<◌, Option, Some, None, List, [], ◌∷◌, refl, sym, ap, ◌∙◌, subst}
use Rattle.trace.specs.Events.{Words}
use Rattle.map_model.specs.declared.entry.Entry.{Entry}
use Rattle.map_model.specs.declared.entry.Reply.TheVariants.{Full}
use Rattle.map_model.specs.Map.{shown}
use Rattle.world.specs.Facts.{Taken}
use Rattle.world.specs.Ground.{Ground}
use Rattle.world.specs.Views.{View, Has, At}
use Rattle.world.specs.Kinds.{Kind, finds_room, refuses, validates, draws_place}
use Rattle.world.specs.Conditions.{May}
use Rattle.world.specs.Entering.{IsMadeBy}
use Rattle.world.specs.StepKinds.{StepKind, of_call, of_structure, view_by, MayTake}
use Rattle.world.specs.StepLaws.{found_of, words_of_step}
use Rattle.world.specs.Invariant.{Holds}
use Rattle.world.proofs.basics.Lists.{has_joined}
use Rattle.world.proofs.mild.Rest.{same_view}
use Rattle.world.proofs.stepping.Slots.{free_slots_stay_taken}
use Rattle.world.proofs.stepping.Steps.{steps_enter}
use Rattle.vlock.specs.Refused.{HasNoFreeSlot}

-- what is shown of a key is no refusal
shown_other : (o : Option ℕ) → shown o ≡ Full → ⊥
shown_other None e = absurd (cc)
shown_other (Some v) e = absurd (cc)

module _ (site : Ground) (words : Words) (views : List View) (j : ℕ) (v : View) (h : Holds site words views) (at : At views j v) where
  all_taken : ((n : ℕ) → n < site.shape.segments → Has (Taken n) v.facts) → HasNoFreeSlot site words
  all_taken knows s slot was = (h.structure.says j v (Taken s) words at (knows s slot) (λ i _. inl refl)).taken

  made : (kind : Kind) (n : ℕ) (e : Entry) → IsMadeBy kind n v e → e.reply ≡ Full → May site kind v → HasNoFreeSlot site words
  made (finds_room call) n e by full may = absurd (let r = sym (ap (λ (z : Entry). z.reply) by.1) ∙ full in cc)
  made (refuses call reply) n e by full may = all_taken (may.4 (sym (ap (λ (z : Entry). z.reply) by) ∙ full))
  made (validates lock) n e by full may = absurd (shown_other _ (sym (ap (λ (z : Entry). z.reply) by.2) ∙ full))
  made (draws_place call) n e by full may = absurd (let r = sym (ap (λ (z : Entry). z.reply) by) ∙ full in cc)
  made kind n e by full may = absurd by

  -- a refusal among the replies after a step stood there before, or is so now
  pub refused : (kind : StepKind) (n : ℕ) → n ≡ found_of site kind words → MayTake site kind v → (e : Entry) → Has e (view_by site.shape kind n v).own → e.reply ≡ Full
      → Has e v.own ⊎ HasNoFreeSlot site words
  refused (of_call kind) n found may e has full = elim (steps_enter site.shape kind n v) [
    | inl same ↦ inl (subst (λ (es : List Entry). Has e es) same has)
    | inr m ↦ elim (has_joined v.own (m.0 ∷ []) e (subst (λ (es : List Entry). Has e es) m.1 has)) [
      | inl old ↦ inl old
      | inr new ↦ elim new [
        | inl is ↦ inr (made kind n m.0 m.2 (sym (ap (λ (z : Entry). z.reply) is) ∙ full) may.0)
        | inr none ↦ absurd none
      ]
    ]
  ]
  refused (of_structure kind) n found may e has full =
      inl (subst (λ (es : List Entry). Has e es) (same_view site words v kind).own (subst (λ (x : ℕ). Has e (view_by site.shape (of_structure kind) x v).own) found has))

  -- and what is so stays so
  pub stays_refused : (kind : StepKind) (c : ℕ) → MayTake site kind v → HasNoFreeSlot site words → HasNoFreeSlot site (words_of_step site kind c words)
  stays_refused kind c may none s slot was = free_slots_stay_taken site words views j v kind c h at may s slot was (none s slot was)
