use Rattle.std.proofs.Common.{slice_index}
use Rattle.image_rules.specs.Slots.{SegmentsFollow}
use Rattle.image_rules.proofs.records.RecordRule.first_of_all.Given as goal

abbrev pub invariant-loop-s : goal.invariant-loop-s
invariant-loop-s l = SegmentsFollow l.geometry (slice_index l.words) l.self l.s
