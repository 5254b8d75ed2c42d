-- A change has no areas, whatever step it is at.
use Rattle.std.proofs.Common.{◌≡◌, []}
use Rattle.world.specs.Ground.{Ground}
use Rattle.world.specs.Views.{View}
use Rattle.write_op.specs.declared.step.Task.{Task}
use Rattle.write_op.specs.declared.step.Seen.{Seen}
use Rattle.write_op.specs.declared.step.WriteEnd.{WriteEnd}
use Rattle.write_op.specs.declared.step.WriteEnd.TheVariants as ends
use Rattle.write_op.specs.declared.step.WriteStep.{WriteStep}
use Rattle.write_op.specs.declared.step.WriteStep.TheVariants.{Way, Lock, Check, Fill, Count, Draw, Unnote, CountSpent, Give, Ended}
use Rattle.write_op.specs.declared.step.WriteStep.TheVariants as step
use Rattle.write_op.specs.Fits.{SuitsEnd, SuitsStep}

module _ (site : Ground) (task : Task) (seen : Seen) (v : View) where
  none_at_end : (end : WriteEnd) → SuitsEnd site task seen end v → v.areas ≡ []
  none_at_end ends.NoSlot suits = suits.0.holds.locks.areas
  none_at_end (ends.Replied answer place) suits = suits.areas
  none_at_end (ends.Again why) suits = suits.areas
  none_at_end (ends.Stale segment version) suits = suits.0.areas
  none_at_end ends.Off suits = suits.areas

  pub no_areas : (s : WriteStep) → SuitsStep site task seen s v → v.areas ≡ []
  no_areas (Way walk) suits = suits.0.areas
  no_areas (Lock place take) suits = suits.0.locks.areas
  no_areas (Check back) suits = suits.0.locks.areas
  no_areas (Fill place load) suits = suits.0.locks.areas
  no_areas Count suits = suits.0.locks.areas
  no_areas (step.Make make) suits = suits.all.locks.areas
  no_areas Draw suits = suits.all.locks.areas
  no_areas (Unnote part place) suits = suits.all.locks.areas
  no_areas CountSpent suits = suits.0.locks.areas
  no_areas (Give held end) suits = suits.locks.areas
  no_areas (Ended end) suits = none_at_end end suits
