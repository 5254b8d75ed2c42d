-- The shifted number of a place fits.
use Rattle.std.proofs.Common.{◌≡◌, ℕ, ◌+◌, ◌-◌, ◌*◌, ◌^◌, ◌<◌, ◌∙◌, ap, arith}
use Rattle.std.proofs.lemmas.Nat.{pow_pos, pow-add}
use Rattle.std.proofs.Math.Nat.{mul-lt-mul_of_pos_right}
use Rattle.hash_word.proofs.first_hash_of.Goals as goal

pub returns-else-g-eq0 : goal.returns-else-g-eq0
returns-else-g-eq0 c =
    let g = c.args.g in
    let more : c.args.i * 2 ^ (64 - g) < 2 ^ g * 2 ^ (64 - g) = mul-lt-mul_of_pos_right c.requires.place (pow_pos (64 - g)) in
    let parts : 64 ≡ g + (64 - g) = omega (arith, c.requires.depth) in
    let whole : 2 ^ 64 ≡ 2 ^ g * 2 ^ (64 - g) = ap (λ (n : ℕ). 2 ^ n) parts ∙ pow-add 2 g (64 - g) in
    let fits : c.args.i * 2 ^ (64 - g) < 2 ^ 64 = omega (arith, more, whole) in
    omega (arith, fits)
