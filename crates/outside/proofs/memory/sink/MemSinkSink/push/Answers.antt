-- A piece is its own first bytes, as many as it has; the rest is by the rules that all proofs share.
use Rattle.std.proofs.Common.{rules}
use Rattle.std.proofs.Math.Seq.{take-length}
use Rattle.outside.proofs.memory.sink.MemSinkSink.push.Goals as goal

pub returns-clause-bytes : goal.returns-clause-bytes
returns-clause-bytes c = rw (take-length c.args.buf.now) (search rules)

pub returns-clause-err : goal.returns-clause-err
returns-clause-err c = search rules
