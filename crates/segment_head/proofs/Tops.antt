-- One more top bit of a hash is a 1 exactly where the top bits are twice those before, plus 1.
use Rattle.std.proofs.Common.{◌≡◌, ℕ, ◌+◌, ◌-◌, ◌*◌, ◌/◌, ◌^◌, ◌<◌, ap, ◌∙◌, ◌↔◌, arith}
use Rattle.std.proofs.lemmas.Nat.{shr-shr}
use Rattle.hash_word.specs.Hash.{top}
use Rattle.segment_head.specs.Sides.{next_bit}

-- the top d bits are the top d + 1 bits without the last of these
pub top_halved : (d h : ℕ) → d < 64 → top (d + 1) h / 2 ≡ top d h
top_halved d h within =
    let places : 64 - (d + 1) + 1 ≡ 64 - d = omega arith in
    shr-shr h (64 - (d + 1)) 1 ∙ ap (λ n. h / 2 ^ n) places

pub one_more_bit : (d p h : ℕ) → d < 64 → (top (d + 1) h ≡ 2 * p + 1) ↔ ((top d h ≡ p) × (next_bit d h ≡ 1))
one_more_bit d p h within =
    let half = top_halved d h within in
    (λ whole. (omega arith, omega arith), λ parts. omega arith)
