use Rattle.std.proofs.Common.{slice_index}
use Rattle.image_rules.specs.Slots.{AgreeBelow}
use Rattle.image_rules.proofs.records.RecordRule.agree_below.Given as goal

abbrev pub invariant-loop-slot : goal.invariant-loop-slot
invariant-loop-slot l = AgreeBelow l.geometry (slice_index l.words) l.self l.record_slot l.c l.slot
