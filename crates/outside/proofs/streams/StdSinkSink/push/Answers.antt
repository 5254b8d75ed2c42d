-- By the rules that all proofs share.
use Rattle.std.proofs.Common.{rules}
use Rattle.outside.proofs.streams.StdSinkSink.push.Goals as goal

pub returns-in-Ok-clause-some : goal.returns-in-Ok-clause-some
returns-in-Ok-clause-some g c = search rules
