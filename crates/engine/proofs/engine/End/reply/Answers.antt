-- By the rules that all proofs share.
use Rattle.std.proofs.Common.{rules}
use Rattle.engine.proofs.engine.End.reply.Goals as goal

pub returns-in-Read-Found : goal.returns-in-Read-Found
returns-in-Read-Found c = search rules
