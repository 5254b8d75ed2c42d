use Rattle.op_core.specs.declared.want.Want.TheVariants.{Load}
use Rattle.world.specs.Kinds.{meets_root}
use Rattle.world.specs.StepKinds.{of_call}
use Rattle.vlock.specs.Ruling.{ground_of}
use Rattle.vlock.proofs.find.meet_root.Given as goal

abbrev pub ghosts-load : goal.ghosts-load
ghosts-load a = record { ground = ground_of a.image.now.key; want = Load a.about.now; kind = λ n. of_call meets_root }
