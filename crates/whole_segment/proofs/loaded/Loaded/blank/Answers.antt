use Rattle.std.proofs.Common.{◌+◌, ◌*◌}
use Rattle.whole_segment.proofs.Zeros.{zeros}
use Rattle.whole_segment.proofs.loaded.Loaded.blank.Goals as goal

pub returns-clause-first : goal.returns-clause-first
returns-clause-first c = zeros 66

pub returns-clause-third : goal.returns-clause-third
returns-clause-third c = zeros 66

pub returns-clause-keys : goal.returns-clause-keys
returns-clause-keys c b r = zeros 924 (14 * b + r)
