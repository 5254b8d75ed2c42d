use Rattle.std.proofs.Common.{slice_index}
use Rattle.image_rules.specs.Slots.{AreRepaired}
use Rattle.image_rules.proofs.repaired.segment_breach.Given as goal

abbrev pub invariant-loop-b : goal.invariant-loop-b
invariant-loop-b l = AreRepaired l.geometry (slice_index l.words) l.s l.b
