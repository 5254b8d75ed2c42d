-- The shifted value has no bit below 2 ^ low, so `|` adds it.
use Rattle.std.proofs.Common.{◌*◌, ◌^◌, ◌∙◌, ap, bit_or, arith}
use Rattle.std.proofs.lemmas.Nat.{or_comm, or_shifted}
use Rattle.std.proofs.Math.Nat.{mod-eq_of_lt}
use Rattle.word_bits.proofs.with_bits.Goals as goal

pub returns : goal.returns
returns c =
    ap (λ high. bit_or c.args.word high) (mod-eq_of_lt c.requires.fits)
    ∙ or_comm c.args.word (c.args.value * 2 ^ c.args.low)
    ∙ or_shifted c.args.value c.args.low c.args.word c.requires.free
    ∙ omega arith
