-- The bits of the slots are 0 exactly where each is.
use Rattle.std.proofs.Common.{arith, zero-add, ◌∙◌, sym, ap}
use Rattle.std.proofs.lemmas.Bool.Decides.{nat_tests}
use Rattle.word_bits.specs.Bits.{bit}
use Rattle.bucket_meta.proofs.fields.ZeroBits.{zero_gives, each_gives}
use Rattle.bucket_meta.proofs.words.is_empty.Goals as goal

pub returns : goal.returns
returns c = (
  λ is s within. ap (λ i. bit i c.args.w1) (sym (zero-add s)) ∙ zero_gives 0 14 c.args.w1 s (grind (arith, nat_tests, is)) within,
  λ each. grind (arith, nat_tests, each_gives 0 14 c.args.w1 (omega arith) (λ i within. ap (λ j. bit j c.args.w1) (zero-add i) ∙ each i within)),
)
