-- By the rules that all proofs share.
use Rattle.std.proofs.Common.{rules}
use Rattle.keeping.proofs.tally.Steps.tick.Goals as goal

pub returns : goal.returns
returns g c = search rules
