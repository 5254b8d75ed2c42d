-- Where a pattern has no room for so many zeros, it is not that one.
use Rattle.std.proofs.Common.{◌≡◌, ◌≤◌, ◌<◌, ◌*◌, ◌^◌, ℕ, sym, ◌∙◌, arith}
use Rattle.std.proofs.Math.Pow.{pow_mono}
use Rattle.std.proofs.lemmas.Bool.{le-ltb, ne_eqb}
use Rattle.segment_head.proofs.prefix.has_zeros.Goals as goal

-- a pattern of 32 bits does not end in so many zeros
no_zeros : (pattern before n : ℕ) → pattern < 2 ^ 32 → 1 ≤ before → 32 ≤ n → pattern ≡ before * 2 ^ n → ⊥
no_zeros pattern before n small some far same =
    let power : 2 ^ 32 ≤ 2 ^ n = pow_mono far in
    let below : before * 2 ^ n < 2 ^ 32 = omega (arith, small, same) in
    grind (arith, power, below, some)

pub returns-else-zeros-lt-PATTERN_BITS : goal.returns-else-zeros-lt-PATTERN_BITS
returns-else-zeros-lt-PATTERN_BITS c = le-ltb c.args.zeros 32 c.if-zeros-lt-PATTERN_BITS.false
    ∙ sym (ne_eqb c.args.pattern (c.args.before * 2 ^ c.args.zeros) (no_zeros _ _ _ c.ranges.pattern.fits c.requires.some c.if-zeros-lt-PATTERN_BITS.false))
