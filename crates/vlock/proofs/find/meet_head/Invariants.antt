use Rattle.std.proofs.Common.{◌+◌}
use Rattle.op_core.specs.declared.want.Want.TheVariants.{Load}
use Rattle.image_layout.specs.Places.{head_at}
use Rattle.world.specs.Kinds.{meets_head}
use Rattle.world.specs.StepKinds.{of_call}
use Rattle.vlock.specs.Ruling.{ground_of}
use Rattle.vlock.proofs.find.meet_head.Given as goal

abbrev pub ghosts-load : goal.ghosts-load
ghosts-load a = record { ground = ground_of a.image.now.key; want = Load (head_at a.image.now.key.geometry a.about.now.0 + 1); kind = λ n. of_call (meets_head a.about.now.0 a.about.now.1) }
