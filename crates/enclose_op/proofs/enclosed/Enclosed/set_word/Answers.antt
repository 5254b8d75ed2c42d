-- By the rules that all proofs share.
use Rattle.std.proofs.Common.{rules}
use Rattle.enclose_op.proofs.enclosed.Enclosed.set_word.Goals as goal

pub returns-then-from-lt-WORDS_OF_BUCKETS : goal.returns-then-from-lt-WORDS_OF_BUCKETS
returns-then-from-lt-WORDS_OF_BUCKETS c = search rules
