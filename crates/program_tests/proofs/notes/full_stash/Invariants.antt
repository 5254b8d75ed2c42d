use Rattle.std.proofs.Common.{◌≡◌, All, length}
use Rattle.stash.specs.Segment.{IsStashed}
use Rattle.program_tests.proofs.notes.full_stash.Given as goal

abbrev pub invariant-loop-slot : goal.invariant-loop-slot
invariant-loop-slot l = record { long : length l.stashed ≡ 28; within : All IsStashed l.stashed }
