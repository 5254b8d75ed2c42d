use Rattle.image_layout.specs.Volatile.{power_word, power_off}
use Rattle.op_core.specs.declared.want.Want.TheVariants.{Store}
use Rattle.world.specs.Kinds.{cuts_power}
use Rattle.world.specs.StepKinds.{of_call}
use Rattle.vlock.specs.Ruling.{ground_of}
use Rattle.vlock.proofs.power.turn_off.Given as goal

abbrev pub ghosts-event : goal.ghosts-event
ghosts-event a = record { ground = ground_of a.image.now.key; want = Store (power_word a.image.now.key.geometry) power_off; kind = λ n. of_call cuts_power }
