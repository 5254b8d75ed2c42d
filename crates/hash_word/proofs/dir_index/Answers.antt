-- Depth 0 has one place, and the top bits are what a shift leaves.
use Rattle.std.proofs.Common.{rules}
use Rattle.hash_word.proofs.dir_index.Goals as goal

pub returns-then-g-eq0 : goal.returns-then-g-eq0
returns-then-g-eq0 c = search rules

pub returns-else-g-eq0 : goal.returns-else-g-eq0
returns-else-g-eq0 c = search rules
