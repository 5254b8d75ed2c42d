-- By the rules that all proofs share.
use Rattle.std.proofs.Common.{rules}
use Rattle.play.proofs.caller.Caller.entry.Goals as goal

pub returns-in-Done : goal.returns-in-Done
returns-in-Done c = search rules

pub returns-in_default : goal.returns-in_default
returns-in_default c = search rules
