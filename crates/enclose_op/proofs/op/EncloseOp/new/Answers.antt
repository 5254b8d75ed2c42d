-- By the hash of the key.
use Rattle.std.proofs.Common.{ap}
use Rattle.enclose_op.specs.Steps.{begun_with}
use Rattle.enclose_op.proofs.op.EncloseOp.new.Goals as goal

pub returns : goal.returns
returns c = ap (begun_with c.args.site c.args.change c.args.segment) c.key_hash.ensures
