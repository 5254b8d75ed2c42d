-- The mask is the ones below 2 ^ count, so it leaves the remainder.
use Rattle.std.proofs.Common.{◌-◌, ◌/◌, ◌^◌, ◌∙◌, ap, bit_and}
use Rattle.std.proofs.lemmas.Nat.{one_shl, and_mask}
use Rattle.word_bits.proofs.bits_of.Goals as goal

pub returns-clause-value : goal.returns-clause-value
returns-clause-value c =
    ap (λ power. bit_and (c.args.word / 2 ^ c.args.low) (power - 1)) (one_shl c.args.count 64 c.requires.some)
    ∙ and_mask (c.args.word / 2 ^ c.args.low) c.args.count
