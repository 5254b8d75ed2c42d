-- By the rules that all proofs share.
use Rattle.std.proofs.Common.{rules}
use Rattle.engine.proofs.engine.Engine.answer.Goals as goal

pub returns-in-Read-clause-machine : goal.returns-in-Read-clause-machine
returns-in-Read-clause-machine c = search rules
