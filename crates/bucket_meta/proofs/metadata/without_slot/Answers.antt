-- The mask lacks bit slot alone.
use Rattle.std.proofs.Common.{arith}
use Rattle.bucket_meta.proofs.fields.FieldBits.{clear_same, clear_other}
use Rattle.bucket_meta.proofs.metadata.without_slot.Goals as goal

pub returns-clause-cleared : goal.returns-clause-cleared
returns-clause-cleared c = clear_same c.args.slots c.args.slot (omega arith)

pub returns-clause-others : goal.returns-clause-others
returns-clause-others c s other = clear_other c.args.slots c.args.slot s (omega arith) (omega arith) other
