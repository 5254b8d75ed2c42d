-- By what it is answered, in any state.
use Rattle.std.specs.Prelude.{◌≡◌, ℕ, None, Some}
use Rattle.image_layout.specs.Volatile.{counter_word}
use Rattle.op_core.specs.declared.want.Want.TheVariants.{Load}
use Rattle.op_core.specs.declared.want.Ans.{Ans}
use Rattle.op_core.specs.declared.want.Ans.TheVariants.{Value, Drawn}
use Rattle.map_model.specs.declared.entry.Reply.{Reply}
use Rattle.map_model.specs.declared.entry.Reply.TheVariants.{Done, Spent}
use Rattle.part.specs.Outcomes.{replied}
use Rattle.stash_op.specs.declared.step.StashStep.TheVariants as step
use Rattle.stash_op.specs.declared.op.StashOp.{StashOp}
use Rattle.stash_op.specs.Steps.{wanted, taken}
use Rattle.stash_op.specs.Fits.{outcome_at}

-- BY WHAT IT IS ANSWERED, with this place, where its event is answered so: that a lock is spent by the load of the commit counter, with
-- its value; that the insert is done by its draw, with the place that it drew; and nothing else
module _ (op : StashOp) (a : Ans) where
  abbrev pub Tells : Reply → ℕ → Type 0
  Tells Spent place = (wanted op ≡ Load (counter_word op.kept.site.geometry)) × (a ≡ Value place)
  Tells Done place = (op.stage.step ≡ step.Draw) × (a ≡ Drawn place)
  Tells other place = ⊥

-- EACH REPLY IS TOLD AS IT WAS SEEN, by the event that decides it
abbrev pub RepliesAsSeen : Type 0
RepliesAsSeen = (op : StashOp) (a : Ans) → outcome_at op.stage.step ≡ None → (answer : Reply) (place : ℕ) → outcome_at (taken op a).stage.step ≡ Some (replied answer place) → Tells op a answer place
