use Rattle.std.proofs.Common.{slice_index}
use Rattle.image_rules.specs.Repairs.{SegmentsRepaired}
use Rattle.image_rules.proofs.repaired.rule_seven.Given as goal

abbrev pub invariant-loop-s : goal.invariant-loop-s
invariant-loop-s l = SegmentsRepaired l.geometry (slice_index l.words) l.s
