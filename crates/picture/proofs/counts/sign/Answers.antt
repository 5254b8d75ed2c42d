-- By the rules that all proofs share.
use Rattle.std.proofs.Common.{rules}
use Rattle.picture.proofs.counts.sign.Goals as goal

pub returns-in_default : goal.returns-in_default
returns-in_default c = search rules
