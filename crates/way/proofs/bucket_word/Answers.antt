-- By the rules that all proofs share.
use Rattle.std.proofs.Common.{rules}
use Rattle.way.proofs.bucket_word.Goals as goal

pub returns-then-segment-segments-clause-is : goal.returns-then-segment-segments-clause-is
returns-then-segment-segments-clause-is c = search rules
