-- By the rules that all proofs share.
use Rattle.std.proofs.Common.{rules}
use Rattle.engine.proofs.engine.Engine.next_of_any.Goals as goal

pub returns-in-Write : goal.returns-in-Write
returns-in-Write c = search rules
