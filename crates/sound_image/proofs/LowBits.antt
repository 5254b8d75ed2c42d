-- A part of a word that ends below a bit is the same in words that agree below that bit.
use Rattle.std.proofs.Common.{◌≡◌, ℕ, ◌+◌, ◌-◌, ◌*◌, ◌/◌, ◌%◌, ◌^◌, ◌<◌, ◌≤◌, ap, sym, subst, ◌∙◌, arith, inl, inr, true, false}
use Rattle.std.specs.Prelude.{nat_lt}
use Rattle.std.proofs.Math.Pow.{mod-mod-pow}
use Rattle.std.proofs.lemmas.Bool.{cases_lt, lt-ltb, le-ltb}
use Rattle.std.proofs.lemmas.Nat.{field_of}
use Rattle.image_layout.specs.Bucket.{allocated, member, finger, record_slots}
use Rattle.word_bits.specs.Bits.{bits}

-- bits of a word are those of its part below a higher bit
of_low : (low count rest w : ℕ) → bits low count w ≡ w % 2 ^ (rest + count + low) / 2 ^ low % 2 ^ count
of_low low count rest w =
    sym (ap (λ n. n % 2 ^ count) (field_of w (rest + count) low) ∙ mod-mod-pow (w / 2 ^ low) rest count)

same_split : (low count rest v w : ℕ) → v % 2 ^ (rest + count + low) ≡ w % 2 ^ (rest + count + low) → bits low count v ≡ bits low count w
same_split low count rest v w same =
    of_low low count rest v ∙ ap (λ n. n / 2 ^ low % 2 ^ count) same ∙ sym (of_low low count rest w)

pub same_bits : (m low count v w : ℕ) → low + count ≤ m → v % 2 ^ m ≡ w % 2 ^ m → bits low count v ≡ bits low count w
same_bits m low count v w within same =
    let split : m ≡ m - (low + count) + count + low = omega arith in
    same_split low count (m - (low + count)) v w (subst (λ n. v % 2 ^ n ≡ w % 2 ^ n) split same)

-- THE SLOTS of a bucket, by bits 0 to 27 of word 1, word 2, and bits 0 to 47 of word 3
pub same_allocated : (r v w : ℕ) → r < record_slots → v % 2 ^ 28 ≡ w % 2 ^ 28 → allocated r v ≡ allocated r w
same_allocated r v w within same = same_bits 28 r 1 v w (omega arith) same

pub same_member : (r v w : ℕ) → r < record_slots → v % 2 ^ 28 ≡ w % 2 ^ 28 → member r v ≡ member r w
same_member r v w within same = same_bits 28 (14 + r) 1 v w (omega arith) same

pub same_finger : (r v2 w2 v3 w3 : ℕ) → r < record_slots → v2 ≡ w2 → v3 % 2 ^ 48 ≡ w3 % 2 ^ 48 → finger r v2 v3 ≡ finger r w2 w3
same_finger r v2 w2 v3 w3 within same_low same_high = elim (cases_lt r 8) [
  | inl low ↦ first (lt-ltb r 8 low)
  | inr high ↦ second high (le-ltb r 8 high)
]
  where
    first : nat_lt r 8 ≡ true → finger r v2 v3 ≡ finger r w2 w3
    first e = rw e (ap (λ w. bits (8 * r) 8 w) same_low)

    second : 8 ≤ r → nat_lt r 8 ≡ false → finger r v2 v3 ≡ finger r w2 w3
    second above e = rw e (same_bits 48 (8 * (r - 8)) 8 v3 w3 (omega arith) same_high)
