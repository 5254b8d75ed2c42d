use Rattle.std.proofs.Common.{slice_index}
use Rattle.image_rules.specs.Slots.{BucketsFollow}
use Rattle.image_rules.proofs.records.RecordRule.first_key.Given as goal

abbrev pub invariant-loop-b : goal.invariant-loop-b
invariant-loop-b l = BucketsFollow l.geometry (slice_index l.words) l.self l.s l.b
