use Rattle.std.proofs.Common.{◌+◌}
use Rattle.op_core.specs.declared.want.Want.TheVariants.{Load}
use Rattle.world.specs.Kinds.{glances_word}
use Rattle.world.specs.StepKinds.{of_call}
use Rattle.vlock.specs.Ruling.{ground_of}
use Rattle.vlock.proofs.bucket.glance.Given as goal

abbrev pub ghosts-load : goal.ghosts-load
ghosts-load a = record { ground = ground_of a.image.now.key; want = Load (a.about.now.0 + a.about.now.1); kind = λ n. of_call (glances_word a.about.now.0 (a.about.now.0 + a.about.now.1)) }
