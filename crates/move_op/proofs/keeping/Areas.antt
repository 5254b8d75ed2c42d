-- A displacement has no areas, whatever step it is at.
use Rattle.std.proofs.Common.{◌≡◌, []}
use Rattle.world.specs.Ground.{Ground}
use Rattle.world.specs.Views.{View}
use Rattle.phase.specs.declared.kept.Kept.{Kept}
use Rattle.move_op.specs.declared.step.MoveEnd.{MoveEnd}
use Rattle.move_op.specs.declared.step.MoveEnd.TheVariants as ends
use Rattle.move_op.specs.declared.step.MoveStep.{MoveStep}
use Rattle.move_op.specs.declared.step.MoveStep.TheVariants.{Lock, Fill, CountSpent, Draw, Give, Ended}
use Rattle.move_op.specs.declared.step.MoveStep.TheVariants as step
use Rattle.move_op.specs.Fits.{SuitsEnd, SuitsStep}

module _ (site : Ground) (kept : Kept) (v : View) where
  none_at_end : (end : MoveEnd) → SuitsEnd site kept end v → v.areas ≡ []
  none_at_end ends.NoMove suits = suits.0.holds.locks.areas
  none_at_end (ends.Replied answer place) suits = suits.areas
  none_at_end (ends.Again why) suits = suits.areas
  none_at_end ends.Off suits = suits.areas

  pub no_areas : (s : MoveStep) → SuitsStep site kept s v → v.areas ≡ []
  no_areas (Lock direction take) suits = suits.0.holds.locks.areas
  no_areas (Fill direction load) suits = suits.0.locks.areas
  no_areas CountSpent suits = suits.0.holds.locks.areas
  no_areas (step.Make shift leg make) suits = suits.all.locks.areas
  no_areas (Draw shift) suits = suits.all.locks.areas
  no_areas (Give held end) suits = suits.locks.areas
  no_areas (Ended end) suits = none_at_end end suits
