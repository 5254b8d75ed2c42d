-- The shifted 1 is bit slot alone.
use Rattle.std.proofs.Common.{arith}
use Rattle.bucket_meta.proofs.fields.FieldBits.{set_same, set_other, set_below}
use Rattle.bucket_meta.proofs.metadata.with_slot.Goals as goal

pub returns-clause-whole : goal.returns-clause-whole
returns-clause-whole c = set_below c.args.slots c.args.slot c.requires.whole c.requires.within

pub returns-clause-set : goal.returns-clause-set
returns-clause-set c = set_same c.args.slots c.args.slot (omega arith)

pub returns-clause-others : goal.returns-clause-others
returns-clause-others c s other = set_other c.args.slots c.args.slot s (omega arith) other
