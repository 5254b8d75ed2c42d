-- The bits of the places are 0 exactly where each is.
use Rattle.std.proofs.Common.{arith}
use Rattle.std.proofs.lemmas.Bool.Decides.{nat_tests}
use Rattle.bucket_meta.proofs.fields.ZeroBits.{zero_gives, each_gives}
use Rattle.bucket_meta.proofs.words.has_no_note.Goals as goal

pub returns : goal.returns
returns c = (
  λ is i within. zero_gives 28 4 c.args.w1 i (grind (arith, nat_tests, is)) within,
  λ each. grind (arith, nat_tests, each_gives 28 4 c.args.w1 (omega arith) each),
)
