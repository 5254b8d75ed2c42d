-- Each reply is told as it was seen, and what is stored is the shift of the lowest record that may move.
use Rattle.std.proofs.Common.{◌≡◌, ℕ, None, Some, refl, sym, ap, ◌∙◌, subst}
use Rattle.std.specs.Prelude.{⊤}
use Rattle.std.proofs.lemmas.Option.{none-some, same_Some}
use Rattle.op_core.specs.declared.want.Ans.{Ans}
use Rattle.op_core.specs.declared.want.Ans.TheVariants.{Value, Drawn, Passed}
use Rattle.map_model.specs.declared.entry.Reply.{Reply}
use Rattle.map_model.specs.declared.entry.Reply.TheVariants as reply
use Rattle.part.specs.Outcomes.{Outcome, replied, reply_of}
use Rattle.phase.specs.declared.kept.Kept.{Kept}
use Rattle.phase.specs.Takes.{take_taken}
use Rattle.phase.specs.Loads.{load_taken}
use Rattle.phase.specs.Makes.{make_taken}
use Rattle.phase.specs.declared.make.Made.{Made}
use Rattle.phase.specs.declared.make.Made.TheVariants as made
use Rattle.phase.specs.declared.ending.Ending.TheVariants as ending
use Rattle.phase.specs.Endings.{outcome_then}
use Rattle.move_op.specs.declared.step.Shift.{Shift}
use Rattle.move_op.specs.declared.step.Leg.{Leg}
use Rattle.move_op.specs.declared.step.Leg.TheVariants.{Copy, Clear, Insert}
use Rattle.move_op.specs.declared.step.MoveStep.{MoveStep}
use Rattle.move_op.specs.declared.step.MoveStep.TheVariants.{Lock, Fill, CountSpent, Draw, Give}
use Rattle.move_op.specs.declared.step.MoveStep.TheVariants as step
use Rattle.move_op.specs.Shifts.{target_of, record_of}
use Rattle.move_op.specs.Steps.{made_to, lock_of, next_in}
use Rattle.move_op.specs.Fits.{SuitsStep, outcome_at}
use Rattle.move_op.specs.Replies.{Tells, MoveRepliesAsSeen}
use Rattle.move_op.specs.MovePart.{MovesInOrder}
use Rattle.move_op.proofs.keeping.Entering.{reply_at, giving_outcome, taken_quiet, filled_quiet}

-- of any outcome
abbrev As : Kept → MoveStep → Ans → Outcome → Type 0
As kept s a (replied answer place) = Tells kept s a answer place
As kept s a more = ⊤

no_reply : (s : MoveStep) → reply_at s ≡ None → (answer : Reply) (place : ℕ) → outcome_at s ≡ Some (replied answer place) → ⊥
no_reply s quiet answer place some = none-some (answer, place) (sym quiet ∙ ap reply_of some)

made_quiet : (shift : Shift) (leg : Leg) (x : Made) → reply_at (made_to shift leg x) ≡ None
made_quiet shift leg (made.On m) = refl
made_quiet shift Copy made.Settled = refl
made_quiet shift Clear made.Settled = refl
made_quiet shift Insert made.Settled = refl

replies : (kept : Kept) (s : MoveStep) (a : Ans) → outcome_at s ≡ None → (answer : Reply) (place : ℕ) → outcome_at (next_in kept s a).step ≡ Some (replied answer place) → Tells kept s a answer place
replies kept (Lock d t) a none answer place some = absurd (no_reply (next_in kept (Lock d t) a).step (taken_quiet kept d (lock_of kept (target_of d)) (take_taken t a)) answer place some)
replies kept (Fill d load) (Value n) none answer place some = absurd (no_reply (next_in kept (Fill d load) (Value n)).step (filled_quiet kept d (load_taken load n)) answer place some)
replies kept CountSpent (Value n) none answer place some =
    subst (As kept CountSpent (Value n)) (same_Some (replied reply.Spent n) (replied answer place) (sym (giving_outcome kept.held (ending.Replied reply.Spent n)) ∙ some)) (refl, refl)
replies kept (step.Make shift leg m) Passed none answer place some =
    absurd (no_reply (next_in kept (step.Make shift leg m) Passed).step (made_quiet shift leg (make_taken (record_of shift leg).slot m)) answer place some)
replies kept (Draw shift) (Drawn n) none answer place some =
    subst (As kept (Draw shift) (Drawn n)) (same_Some (replied reply.Done n) (replied answer place) (sym (giving_outcome kept.held (ending.Replied reply.Done n)) ∙ some)) (shift, refl, refl)
replies kept (Give held end) a none answer place some = absurd (none-some (outcome_then end) (sym none))
replies kept s a none answer place some = absurd (none-some (replied answer place) (sym none ∙ some))

pub move_replies_as_seen : MoveRepliesAsSeen
move_replies_as_seen op a none answer place some = replies op.kept op.step a none answer place some

-- ---- which record moves
pub moves_in_order : MovesInOrder
moves_in_order site here call op v st shift leg make e =
    let suits : SuitsStep site op.kept (step.Make shift leg make) v = subst (λ (z : MoveStep). SuitsStep site op.kept z v) e st.view in
    suits.all.shifts.order
