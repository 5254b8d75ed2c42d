-- A displacement wants nothing more exactly where it is over.
use Rattle.std.proofs.Common.{◌≡◌, IsTrue, ◌↔◌, refl}
use Rattle.op_core.specs.declared.want.Want.TheVariants as want
use Rattle.phase.specs.declared.kept.Kept.{Kept}
use Rattle.phase.specs.Helds.{give_next}
use Rattle.phase.proofs.Wanting.{takes, makes, gives, not_over}
use Rattle.move_op.specs.declared.step.MoveStep.{MoveStep}
use Rattle.move_op.specs.declared.step.MoveStep.TheVariants.{Lock, Fill, CountSpent, Draw, Give, Ended}
use Rattle.move_op.specs.declared.step.MoveStep.TheVariants as step
use Rattle.move_op.specs.Shifts.{target_of, record_of}
use Rattle.move_op.specs.Steps.{lock_of, lock_at, wanted_in, is_over}

pub over_done : (kept : Kept) (s : MoveStep) → IsTrue (is_over s) ↔ (wanted_in kept s ≡ want.Done)
over_done kept (Lock direction take) = not_over _ (takes (lock_of kept (target_of direction)) take)
over_done kept (Fill direction load) = not_over (wanted_in kept (Fill direction load)) (λ e. cc)
over_done kept CountSpent = not_over (wanted_in kept CountSpent) (λ e. cc)
over_done kept (step.Make shift leg m) = not_over _ (makes (lock_at kept shift leg) (record_of shift leg) m)
over_done kept (Draw shift) = not_over want.Draw (λ e. cc)
over_done kept (Give held end) = gives kept.site kept.hash kept.segment (give_next held)
over_done kept (Ended end) = (λ over. refl, λ e. refl)
