-- By the rules that all proofs share.
use Rattle.std.proofs.Common.{rules}
use Rattle.play.proofs.caller.Caller.stop.Goals as goal

pub returns-in-Some : goal.returns-in-Some
returns-in-Some c = search rules
