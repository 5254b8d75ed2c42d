-- The areas of the directory follow one another, and end before the first segment.
use Rattle.std.proofs.Common.{◌≡◌, ℕ, ◌+◌, ◌*◌, ◌^◌, ◌<◌, ◌≤◌, lit<, add-one, arith}
use Rattle.std.proofs.Math.Nat.{pow-le-pow_right, pow-suc}
use Rattle.image_layout.specs.Places.{Shape, entry_at, first_segment}

pub power_le : (d e : ℕ) → d ≤ e → 2 ^ d ≤ 2 ^ e
power_le d e at_most = pow-le-pow_right (lit< tt) at_most

pub power_double : (e : ℕ) → 2 ^ (e + 1) ≡ 2 * 2 ^ e
power_double e = rw add-one (omega (arith, pow-suc 2 e))

pub entry_before : (shape : Shape) (e i : ℕ) → e ≤ shape.depth → i < 2 ^ e → entry_at e i < first_segment shape
entry_before shape e i within below =
    let area = power_double e in
    let last = power_le (e + 1) (shape.depth + 1) (omega arith) in
    omega arith
