use Rattle.op_core.specs.declared.want.Want.TheVariants.{Load}
use Rattle.image_layout.specs.Places.{entry_at}
use Rattle.world.specs.Kinds.{meets_entry}
use Rattle.world.specs.StepKinds.{of_call}
use Rattle.vlock.specs.Ruling.{ground_of}
use Rattle.vlock.proofs.find.meet_entry.Given as goal

abbrev pub ghosts-load : goal.ghosts-load
ghosts-load a = record { ground = ground_of a.image.now.key; want = Load (entry_at a.about.now.0 a.about.now.1); kind = λ n. of_call (meets_entry a.about.now.0 a.about.now.1) }
