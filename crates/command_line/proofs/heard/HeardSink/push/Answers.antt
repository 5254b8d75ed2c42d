-- By the rules that all proofs share.
use Rattle.std.proofs.Common.{rules}
use Rattle.command_line.proofs.heard.HeardSink.push.Goals as goal

pub returns-clause-bytes : goal.returns-clause-bytes
returns-clause-bytes g c = search rules
