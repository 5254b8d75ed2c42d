-- By the rules that all proofs share.
use Rattle.std.proofs.Common.{rules}
use Rattle.play.proofs.caller.Caller.begin_again.Goals as goal

pub returns : goal.returns
returns c = search rules
