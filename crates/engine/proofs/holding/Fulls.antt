-- That no slot is free is told by a refusal alone.
use Rattle.std.proofs.Common.{◌≡◌, ◌⊎◌, ℕ, Option, None, Some, List, [], ◌∷◌, inl, inr, sym, ap, ◌∙◌, subst}
use Rattle.image_layout.specs.Places.{Shape}
use Rattle.map_model.specs.declared.call.Call.{Call}
use Rattle.map_model.specs.declared.entry.Reply.TheVariants as reply
use Rattle.map_model.specs.declared.entry.Entry.{Entry}
use Rattle.map_model.specs.Map.{shown}
use Rattle.world.specs.Ground.{Ground}
use Rattle.world.specs.Views.{View, Has}
use Rattle.world.specs.Kinds.{Kind, finds_room, refuses, validates, draws_place, view_after}
use Rattle.world.specs.Entering.{IsMadeBy}
use Rattle.world.specs.StepKinds.{StepKind, of_call, of_structure, view_by}
use Rattle.world.proofs.basics.Lists.{has_joined}
use Rattle.world.proofs.stepping.Steps.{steps_enter}
use Rattle.world.proofs.mild.Kept.{steps_reply_nothing}

-- a kind by which a call is told so
abbrev TellsFull : Kind → Type 0
TellsFull kind = (call : Call) × (kind ≡ refuses call reply.Full)

shown_full : (a : Option ℕ) → shown a ≡ reply.Full → ⊥
shown_full None e = cc
shown_full (Some v) e = cc

-- ---- an entry with that reply is made by such a kind
made_full : (kind : Kind) (n : ℕ) (v : View) (e : Entry) → IsMadeBy kind n v e → e.reply ≡ reply.Full → TellsFull kind
made_full (finds_room call) n v e made full = absurd (let z : reply.Spent ≡ reply.Full = sym (ap (λ (x : Entry). x.reply) made.1) ∙ full in cc)
made_full (refuses call r) n v e made full = (call, ap (λ s. refuses call s) (sym (ap (λ (x : Entry). x.reply) made) ∙ full))
made_full (validates lock) n v e made full = absurd (shown_full made.0.value (sym (ap (λ (x : Entry). x.reply) made.2) ∙ full))
made_full (draws_place call) n v e made full = absurd (let z : reply.Done ≡ reply.Full = sym (ap (λ (x : Entry). x.reply) made) ∙ full in cc)
made_full kind n v e made full = absurd made

kind_full : (shape : Shape) (kind : Kind) (n : ℕ) (v : View) (e : Entry) → Has e (view_after shape kind n v).own → e.reply ≡ reply.Full → Has e v.own ⊎ TellsFull kind
kind_full shape kind n v e has full = elim (steps_enter shape kind n v) [
  | inl same ↦ inl (subst (λ (es : List Entry). Has e es) same has)
  | inr one ↦ elim (has_joined v.own (one.0 ∷ []) e (subst (λ (es : List Entry). Has e es) one.1 has)) [
    | inl old ↦ inl old
    | inr new ↦ elim new [ inl is ↦ inr (made_full kind n v one.0 one.2 (sym (ap (λ (x : Entry). x.reply) is) ∙ full)) | inr none ↦ absurd none ]
  ]
]

-- AFTER A STEP an entry with that reply was there before, or the step is a refusal that tells it
pub entered_full : (site : Ground) (step : StepKind) (n : ℕ) (v : View) (e : Entry) → Has e (view_by site.shape step n v).own → e.reply ≡ reply.Full
    → Has e v.own ⊎ ((call : Call) × (step ≡ of_call (refuses call reply.Full)))
entered_full site (of_call kind) n v e has full = elim (kind_full site.shape kind n v e has full) [
  | inl old ↦ inl old
  | inr tells ↦ inr (tells.0, ap of_call tells.1)
]
entered_full site (of_structure kind) n v e has full = inl (subst (λ (es : List Entry). Has e es) (steps_reply_nothing.own site kind (λ i. n) v) has)
