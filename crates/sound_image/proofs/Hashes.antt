-- The hash of a key of 64 bits has 64 bits.
use Rattle.std.proofs.Common.{ℕ, ◌*◌, ◌/◌, ◌%◌, ◌^◌, ◌<◌, arith, Bool, true, false}
use Rattle.std.specs.Prelude.{◌==◌, if◌then◌else◌}
use Rattle.std.proofs.lemmas.Nat.{xor_lt, shr_le}
use Rattle.hash_word.specs.Hash.{folded, mixed, home_of}
use Rattle.image_layout.specs.Places.{Shape}
use Rattle.sound_image.specs.Records.{key_hash}

folded-fits : (shift z : ℕ) → z < 2 ^ 64 → folded shift z < 2 ^ 64
folded-fits shift z fits =
    let part : z / 2 ^ shift < 2 ^ 64 = omega (arith, shr_le z shift) in
    xor_lt 64 z (z / 2 ^ shift) fits part

below : (n : ℕ) → n % 2 ^ 64 < 2 ^ 64
below n = omega arith

mixed-fits : (z : ℕ) → mixed z < 2 ^ 64
mixed-fits z = folded-fits 31 _ (below (folded 27 (folded 30 z * 0xBF58476D1CE4E5B9 % 2 ^ 64) * 0x94D049BB133111EB))

one_of : (b : Bool) (x y n : ℕ) → x < n → y < n → (if b then x else y) < n
one_of true x y n h k = h
one_of false x y n h k = k

pub key_hash-fits : (shape : Shape) (key : ℕ) → key < 2 ^ 64 → key_hash shape key < 2 ^ 64
key_hash-fits shape key fits = one_of (shape.kind == 0) key (mixed key) (2 ^ 64) fits (mixed-fits key)

pub home_of-below : (h : ℕ) → home_of h < 64
home_of-below h = omega arith
