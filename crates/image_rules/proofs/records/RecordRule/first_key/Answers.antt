-- One bucket more.
use Rattle.std.proofs.Common.{below_more}
use Rattle.image_rules.proofs.records.RecordRule.first_key.Goals as goal

pub loop-b-preserved : goal.loop-b-preserved
loop-b-preserved c = below_more _ _ c.loop-b.invariant c.in_default.ensures.none
