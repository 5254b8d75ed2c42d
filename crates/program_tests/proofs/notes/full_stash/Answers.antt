-- Each record of the first list is of home 0 and stash bucket 0.
use Rattle.std.proofs.Common.{refl, arith}
use Rattle.std.proofs.lemmas.List.Elements.{All-replicate}
use Rattle.stash.specs.Segment.{Stashed, IsStashed}
use Rattle.program_tests.proofs.notes.full_stash.Goals as goal

pub loop-slot-init : goal.loop-slot-init
loop-slot-init c =
    let none : Stashed = (0, 0, 0) in
    record { long = refl; within = All-replicate IsStashed 28 none (omega arith, omega arith) }
