-- A pattern has as many leaves before it as the patterns below it have.
use Rattle.std.proofs.Common.{◌≡◌, ◌≤◌, ℕ, ◌+◌, ◌-◌, ◌*◌, ◌^◌, ◌∙◌, ap, arith}
use Rattle.std.proofs.lemmas.Nat.{pow-add}
use Rattle.std.proofs.Math.Nat.{mul-le-mul_right}
use Rattle.image_rules.proofs.leaves.first_leaf.Goals as goal

pub returns-clause-most : goal.returns-clause-most
returns-clause-most c =
    let g = c.args.greatest in
    let d = c.args.depth in
    let parts : g ≡ d + (g - d) = omega arith in
    let whole : 2 ^ g ≡ 2 ^ d * 2 ^ (g - d) = ap (λ (n : ℕ). 2 ^ n) parts ∙ pow-add 2 d (g - d) in
    let more : c.args.pattern * 2 ^ (g - d) ≤ 2 ^ d * 2 ^ (g - d) = mul-le-mul_right (2 ^ (g - d)) c.requires.pattern in
    let here = ap (λ (n : ℕ). c.args.pattern * n) c.entries_of.ensures.is in
    omega (arith, more, whole, here)
