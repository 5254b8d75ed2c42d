use Rattle.std.proofs.Common.{slice_index}
use Rattle.image_rules.specs.Slots.{FollowBelow}
use Rattle.image_rules.proofs.records.RecordRule.first_broken.Given as goal

abbrev pub invariant-loop-slot : goal.invariant-loop-slot
invariant-loop-slot l = FollowBelow l.geometry (slice_index l.words) l.self l.s l.b l.slot
