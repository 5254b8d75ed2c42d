use Rattle.std.proofs.Common.{◌+◌}
use Rattle.op_core.specs.declared.want.Want.TheVariants.{Store}
use Rattle.world.specs.Kinds.{unlocks}
use Rattle.world.specs.StepKinds.{of_call}
use Rattle.vlock.specs.Ruling.{ground_of}
use Rattle.vlock.proofs.bucket.unlock.Given as goal

abbrev pub ghosts-event : goal.ghosts-event
ghosts-event a = record { ground = ground_of a.image.now.key; want = Store a.about.now.0 (a.about.now.1 + 1); kind = λ n. of_call (unlocks a.about.now.0 (a.about.now.1 + 1)) }
