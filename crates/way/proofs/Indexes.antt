-- The place of a hash in a directory lies within it.
use Rattle.std.proofs.Common.{◌≡◌, ℕ, ◌+◌, ◌-◌, ◌*◌, ◌^◌, ◌<◌, ◌≤◌, ◌∙◌, ap, arith}
use Rattle.std.proofs.lemmas.Nat.{pow_pos, pow-add}
use Rattle.std.proofs.Math.Nat.{div-lt_iff_lt-mul}
use Rattle.hash_word.specs.Hash.{index_of}

pub index_below : (depth h : ℕ) → depth ≤ 64 → h < 2 ^ 64 → index_of depth h < 2 ^ depth
index_below depth h most fits =
    let parts : 64 ≡ depth + (64 - depth) = omega arith in
    let whole : 2 ^ 64 ≡ 2 ^ depth * 2 ^ (64 - depth) = ap (λ (n : ℕ). 2 ^ n) parts ∙ pow-add 2 depth (64 - depth) in
    let low : h < 2 ^ depth * 2 ^ (64 - depth) = omega (arith, whole, fits) in
    (div-lt_iff_lt-mul {k = 2 ^ (64 - depth)} {x = h} {y = 2 ^ depth} (pow_pos (64 - depth))).1 low
