-- By the rules that all proofs share.
use Rattle.std.proofs.Common.{rules}
use Rattle.engine.proofs.engine.Engine.end.Goals as goal

pub returns-in-Release : goal.returns-in-Release
returns-in-Release c = search rules
