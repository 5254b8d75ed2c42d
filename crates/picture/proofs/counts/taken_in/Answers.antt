-- The slots that are taken are those of the field that is counted.
use Rattle.std.proofs.Common.{ap, ◌∙◌, count_ones}
use Rattle.picture.proofs.counts.taken_in.Goals as goal

pub returns-clause-is : goal.returns-clause-is
returns-clause-is c = c.filled.ensures.count ∙ ap count_ones c.read.ensures.alloc
