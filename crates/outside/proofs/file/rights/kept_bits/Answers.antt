-- By the rules that all proofs share.
use Rattle.std.proofs.Common.{rules}
use Rattle.outside.proofs.file.rights.kept_bits.Goals as goal

pub returns-in_default-false-clause-others : goal.returns-in_default-false-clause-others
returns-in_default-false-clause-others c = search rules

pub returns-in-false-true-clause-owner : goal.returns-in-false-true-clause-owner
returns-in-false-true-clause-owner c = search rules
