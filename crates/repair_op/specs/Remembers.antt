-- What the beginning of a repair remembers of what its attempt did, in each step: which guards it took.
use Rattle.std.specs.Prelude.{◌≡◌, ⊤, [], ◌∷◌}
use Rattle.image_layout.specs.Volatile.{segment_guard, directory_guard}
use Rattle.world.specs.Ground.{Ground}
use Rattle.world.specs.Views.{Has}
use Rattle.part.specs.Doings.{Doings}
use Rattle.repair_op.specs.declared.guarded.Guarded.{Guarded}
use Rattle.repair_op.specs.declared.step.RepairEnd.{RepairEnd}
use Rattle.repair_op.specs.declared.step.RepairEnd.TheVariants as ends
use Rattle.repair_op.specs.declared.step.RepairStep.{RepairStep}
use Rattle.repair_op.specs.declared.step.RepairStep.TheVariants.{Guard, Head, Link, Side, Slots, Free, GiveSlots, Unmark, Give, Ended}

module _ (site : Ground) (g : Guarded) (did : Doings) where
  -- no word was changed but the guard of the segment, which was taken
  abbrev pub HasTakenGuard : Type 0
  HasTakenGuard = did.changed ≡ segment_guard site.shape g.segment ∷ []

  -- WHAT IS REMEMBERED OF A GUARDED SEGMENT: its guard was taken, and that of the directory was not
  pub record RemembersGuarded : Type 0 where
    pub guard : Has (segment_guard site.shape g.segment) did.changed
    pub no_directory : Has (directory_guard site.shape) did.changed → ⊥

  abbrev pub RemembersEnd : RepairEnd → Type 0
  RemembersEnd ends.Guarded = RemembersGuarded
  RemembersEnd end = ⊤

  -- IN EACH STEP; where all is given back nothing has to be remembered
  abbrev pub RemembersAt : RepairStep → Type 0
  RemembersAt Guard = did.changed ≡ []
  RemembersAt Head = HasTakenGuard
  RemembersAt Link = HasTakenGuard
  RemembersAt (Side slot) = HasTakenGuard
  RemembersAt (Slots slot side) = HasTakenGuard
  RemembersAt (Free slot side settling) = RemembersGuarded
  RemembersAt GiveSlots = RemembersGuarded
  RemembersAt (Unmark settling) = RemembersGuarded
  RemembersAt (Give end) = ⊤
  RemembersAt (Ended end) = RemembersEnd end
