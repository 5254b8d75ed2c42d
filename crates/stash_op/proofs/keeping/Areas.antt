-- A record that comes to the stash has no areas, whatever step it is at.
use Rattle.std.proofs.Common.{◌≡◌, []}
use Rattle.world.specs.Ground.{Ground}
use Rattle.world.specs.Views.{View}
use Rattle.phase.specs.declared.kept.Kept.{Kept}
use Rattle.stash_op.specs.declared.step.Seen.{Seen}
use Rattle.stash_op.specs.declared.step.StashEnd.{StashEnd}
use Rattle.stash_op.specs.declared.step.StashEnd.TheVariants as ends
use Rattle.stash_op.specs.declared.step.StashStep.{StashStep}
use Rattle.stash_op.specs.declared.step.StashStep.TheVariants.{Lock, Fill, Note, Draw, CountSpent, Give, Ended}
use Rattle.stash_op.specs.declared.step.StashStep.TheVariants as step
use Rattle.stash_op.specs.Fits.{SuitsEnd, SuitsStep}

module _ (site : Ground) (kept : Kept) (seen : Seen) (v : View) where
  none_at_end : (end : StashEnd) → SuitsEnd site kept seen end v → v.areas ≡ []
  none_at_end (ends.NeedSplit segment) suits = suits.0.keeps.holds.locks.areas
  none_at_end (ends.Replied answer place) suits = suits.areas
  none_at_end (ends.Again why) suits = suits.areas
  none_at_end ends.Off suits = suits.areas

  pub no_areas : (s : StashStep) → SuitsStep site kept seen s v → v.areas ≡ []
  no_areas (Lock bucket take) suits = suits.0.locks.areas
  no_areas (Fill bucket load) suits = suits.has.locks.areas
  no_areas (step.Make make) suits = suits.all.locks.areas
  no_areas (Note part) suits = suits.all.locks.areas
  no_areas Draw suits = suits.all.locks.areas
  no_areas CountSpent suits = suits.0.locks.areas
  no_areas (Give held end) suits = suits.locks.areas
  no_areas (Ended end) suits = none_at_end end suits
