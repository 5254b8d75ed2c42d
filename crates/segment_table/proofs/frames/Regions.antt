-- The hashes of a region: those with the same top bits.
use Rattle.std.proofs.Common.{◌≡◌, ℕ, zero, suc, ◌+◌, ◌-◌, ◌*◌, ◌/◌, ◌^◌, ◌<◌, ◌≤◌, inl, inr, refl, sym, ap, subst, ◌∙◌, arith}
use Rattle.std.proofs.lemmas.Bool.{cases_lt}
use Rattle.std.proofs.lemmas.Nat.{pow_pos, pow-add, shr-shr, shl-shr, le-div}
use Rattle.std.proofs.Math.Nat.{pow-suc, div-mul-le_self, mul-lt-mul_of_pos_right, mul-le-mul_right}
use Rattle.hash_word.specs.Hash.{top}
use Rattle.segment_head.proofs.Tops.{top_halved}

-- TOP BITS: fewer of them are a quotient of more
pub fewer : (d k h : ℕ) → d + k ≤ 64 → top d h ≡ top (d + k) h / 2 ^ k
fewer d k h most =
    let places : 64 - (d + k) + k ≡ 64 - d = omega arith in
    sym (shr-shr h (64 - (d + k)) k ∙ ap (λ n. h / 2 ^ n) places)

pub same_fewer : (d e h k : ℕ) → d ≤ e → e ≤ 64 → top e h ≡ top e k → top d h ≡ top d k
same_fewer d e h k less most same =
    let whole : d + (e - d) ≡ e = omega arith in
    let is : (l : ℕ) → top d l ≡ top e l / 2 ^ (e - d) = λ l. fewer d (e - d) l (omega arith) ∙ ap (λ n. top n l / 2 ^ (e - d)) whole in
    is h ∙ ap (λ n. n / 2 ^ (e - d)) same ∙ sym (is k)

pub one_fewer : (d h : ℕ) → d < 64 → top d h ≡ top (d + 1) h / 2
one_fewer d h less = sym (top_halved d h less)

-- as many as there are places for
pub top_below : (d h : ℕ) → d ≤ 64 → h < 2 ^ 64 → top d h < 2 ^ d
top_below d h most fits = elim (cases_lt (top d h) (2 ^ d)) [
  | inl below ↦ below
  | inr above ↦
      let parts : 64 ≡ d + (64 - d) = omega arith in
      let whole : 2 ^ 64 ≡ 2 ^ d * 2 ^ (64 - d) = ap (λ n. 2 ^ n) parts ∙ pow-add 2 d (64 - d) in
      let more : 2 ^ d * 2 ^ (64 - d) ≤ top d h * 2 ^ (64 - d) = mul-le-mul_right (2 ^ (64 - d)) above in
      absurd (omega (arith, whole, more, div-mul-le_self h (2 ^ (64 - d)), fits))
]

-- THE FIRST HASH of a region
abbrev pub first : ℕ → ℕ → ℕ
first d p = p * 2 ^ (64 - d)

pub top_of_first : (d p : ℕ) → top d (first d p) ≡ p
top_of_first d p = shl-shr p (64 - d)

pub first_fits : (d p : ℕ) → d ≤ 64 → p < 2 ^ d → first d p < 2 ^ 64
first_fits d p most fits =
    let parts : 64 ≡ d + (64 - d) = omega arith in
    let whole : 2 ^ 64 ≡ 2 ^ d * 2 ^ (64 - d) = ap (λ n. 2 ^ n) parts ∙ pow-add 2 d (64 - d) in
    subst (λ n. first d p < n) (sym whole) (mul-lt-mul_of_pos_right fits (pow_pos (64 - d)))

-- it is in the 0-side of the region
turned : (p q : ℕ) → p * (q * 2) ≡ (2 * p) * q
turned p q = grind arith

pub zero_side_begins : (d p : ℕ) → d < 64 → first (d + 1) (2 * p) ≡ first d p
zero_side_begins d p less =
    let places : 64 - d ≡ suc (64 - (d + 1)) = omega arith in
    sym (ap (λ n. p * 2 ^ n) places ∙ ap (λ n. p * n) (pow-suc 2 (64 - (d + 1))) ∙ turned p (2 ^ (64 - (d + 1))))

pub next_top_of_first : (d p : ℕ) → d < 64 → top (d + 1) (first d p) ≡ 2 * p
next_top_of_first d p less = ap (top (d + 1)) (sym (zero_side_begins d p less)) ∙ top_of_first (d + 1) (2 * p)

-- no hash of the region is below it
pub first_least : (d p h : ℕ) → top d h ≡ p → first d p ≤ h
first_least d p h is = subst (λ n. first d n ≤ h) is (div-mul-le_self h (2 ^ (64 - d)))

pub less_top : (d h k : ℕ) → top d h < top d k → h < k
less_top d h k less = elim (cases_lt h k) [
  | inl below ↦ below
  | inr above ↦
      let low = div-mul-le_self k (2 ^ (64 - d)) in
      absurd (omega (arith, less, le-div (top d k) h (2 ^ (64 - d)) (pow_pos (64 - d)) (omega (arith, low, above))))
]

-- ODD AND EVEN patterns: an odd number is no multiple of two
twice : (a b : ℕ) → a * (b * 2) ≡ 2 * (a * b)
twice a b = grind arith

pub times_power : (a k : ℕ) → a * 2 ^ suc k ≡ 2 * (a * 2 ^ k)
times_power a k = ap (λ n. a * n) (pow-suc 2 k) ∙ twice a (2 ^ k)

pub odd_power : (a p k : ℕ) → 2 * p + 1 ≡ a * 2 ^ k → k ≡ 0
odd_power a p zero e = refl
odd_power a p (suc k) e = absurd (odd_even p (a * 2 ^ k) (e ∙ times_power a k))
  where
    odd_even : (a b : ℕ) → 2 * a + 1 ≡ 2 * b → ⊥
    odd_even a b e = omega arith

pub doubled_fits : (d p : ℕ) → p < 2 ^ d → 2 * p + 1 < 2 ^ (d + 1)
doubled_fits d p fits = omega (arith, fits, ap (λ n. 2 ^ n) (one_more d) ∙ pow-suc 2 d)
  where
    one_more : (d : ℕ) → d + 1 ≡ suc d
    one_more d = omega arith
