-- Which replies are entered: none before the outcome is decided, and then the one that it is.
use Rattle.std.proofs.Common.{◌≡◌, ℕ, Option, None, Some, refl, ap}
use Rattle.op_core.specs.declared.why.Why.{Why}
use Rattle.op_core.specs.declared.why.Why.TheVariants.{Busy, Moved}
use Rattle.map_model.specs.declared.entry.Reply.{Reply}
use Rattle.part.specs.Outcomes.{reply_of}
use Rattle.phase.specs.declared.take.Taken.{Taken}
use Rattle.phase.specs.declared.take.Taken.TheVariants as taking
use Rattle.phase.specs.declared.load.Loaded.{Loaded}
use Rattle.phase.specs.declared.load.Loaded.TheVariants as loaded
use Rattle.phase.specs.declared.held.Held.{Held}
use Rattle.phase.specs.declared.kept.Kept.{Kept}
use Rattle.phase.specs.Buckets.{with_words}
use Rattle.phase.specs.declared.ending.Ending.{Ending}
use Rattle.phase.specs.declared.ending.Ending.TheVariants as ending
use Rattle.phase.specs.Endings.{outcome_then}
use Rattle.phase.proofs.locks.Choosing.{by_step}
use Rattle.move_op.specs.declared.step.Direction.{Direction}
use Rattle.move_op.specs.declared.step.Direction.TheVariants.{Forward, Backward}
use Rattle.move_op.specs.declared.step.Shift.{Shift}
use Rattle.move_op.specs.declared.step.MoveStep.{MoveStep}
use Rattle.move_op.specs.declared.step.MoveStep.TheVariants.{Give, Ended}
use Rattle.move_op.specs.Shifts.{target_of, shift_in}
use Rattle.move_op.specs.Steps.{end_of, giving, locked_to, chosen, filled_to}
use Rattle.move_op.specs.Fits.{outcome_at}

-- the reply that is decided
abbrev pub reply_at : MoveStep → Option (Reply × ℕ)
reply_at s = reply_of (outcome_at s)

-- ---- locks back
end_outcome : (end : Ending) → outcome_at (Ended (end_of end)) ≡ Some (outcome_then end)
end_outcome (ending.Replied answer place) = refl
end_outcome (ending.Again why) = refl

pub giving_outcome : (held : Held) (end : Ending) → outcome_at (giving held end) ≡ Some (outcome_then end)
giving_outcome held end = by_step (λ (s : MoveStep). outcome_at s ≡ Some (outcome_then end)) held (Give held end) (Ended (end_of end)) refl (end_outcome end)

giving_again : (held : Held) (why : Why) → reply_at (giving held (ending.Again why)) ≡ None
giving_again held why = ap reply_of (giving_outcome held (ending.Again why))

-- ---- nothing is entered at a lock, and while a bucket is loaded
pub taken_quiet : (kept : Kept) (d : Direction) (lock : ℕ) (x : Taken) → reply_at (locked_to kept d lock x).step ≡ None
taken_quiet kept d lock (taking.On take) = refl
taken_quiet kept d lock (taking.Held free) = refl
taken_quiet kept d lock (taking.Busy value) = giving_again kept.held (Busy lock value)
taken_quiet kept d lock (taking.Moved before after) = giving_again kept.held (Moved lock before after)
taken_quiet kept d lock taking.Spent = refl

chosen_quiet : (d : Direction) (o : Option Shift) → reply_at (chosen d o) ≡ None
chosen_quiet d (Some shift) = refl
chosen_quiet Forward None = refl
chosen_quiet Backward None = refl

pub filled_quiet : (kept : Kept) (d : Direction) (x : Loaded) → reply_at (filled_to kept d x).step ≡ None
filled_quiet kept d (loaded.On load) = refl
filled_quiet kept d (loaded.All words) = chosen_quiet d (shift_in (record kept { buckets = with_words (target_of d) words kept.buckets }) d)
