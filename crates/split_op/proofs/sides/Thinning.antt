-- Fingerprints of slots that are not taken are taken away, one after another: what is then said of each slot, and in all buckets.
use Rattle.std.proofs.Common.{◌≡◌, ◌≢◌, ℕ, zero, suc, ◌+◌, ◌*◌, ◌/◌, ◌%◌, ◌^◌, ◌<◌, ◌≤◌, cond, Bool, List, length, inl, inr, refl, sym, ap, subst, ◌∙◌, arith, add-one}
use Rattle.std.specs.Prelude.{slice_set}
use Rattle.std.specs.Int.{w64, to_le_bytes, from_le_bytes}
use Rattle.std.proofs.lemmas.Bool.{cases_eq, eq-eqb, ne_eqb}
use Rattle.std.proofs.lemmas.List.{get_or-set_same, get_or-set_other, length-set}
use Rattle.bucket_meta.specs.Bucket.{allocated, finger, record_slots}
use Rattle.bucket_meta.specs.Marks.{with_finger}
use Rattle.bucket_meta.proofs.Fingers.{sets_low, sets_high, upper_kept}
use Rattle.image_layout.specs.Places.{buckets}
use Rattle.split_op.specs.Sides.{side_word, without_free, low_fingers, high_fingers, IsThinned}

-- ---- one slot more
pub with_taken : (mark word from n : ℕ) → allocated (from + n) mark ≡ 1 → without_free mark word from (n + 1) ≡ without_free mark word from n
unfolding without_free
with_taken mark word from n taken = ap (without_free mark word from) (add-one n)
    ∙ ap (λ t. cond t (without_free mark word from n) (with_finger (without_free mark word from n) (from + n) 0)) (eq-eqb (allocated (from + n) mark) 1 taken)

pub with_free : (mark word from n : ℕ) → allocated (from + n) mark ≢ 1 → without_free mark word from (n + 1) ≡ with_finger (without_free mark word from n) (from + n) 0
unfolding without_free
with_free mark word from n free = ap (without_free mark word from) (add-one n)
    ∙ ap (λ t. cond t (without_free mark word from n) (with_finger (without_free mark word from n) (from + n) 0)) (ne_eqb (allocated (from + n) mark) 1 free)

-- what holds at first, and stays with each slot, holds of all
by_slots : (P : ℕ → ℕ → Type 0) (mark word from most : ℕ) → P 0 word → ((n now : ℕ) → n < most → allocated (from + n) mark ≡ 1 → P n now → P (n + 1) now)
    → ((n now : ℕ) → n < most → allocated (from + n) mark ≢ 1 → P n now → P (n + 1) (with_finger now (from + n) 0)) → (n : ℕ) → n ≤ most → P n (without_free mark word from n)
unfolding without_free
by_slots P mark word from most first taken free zero within = first
by_slots P mark word from most first taken free (suc n) within =
    let before = by_slots P mark word from most first taken free n (omega (arith, within)) in
    let now : ℕ = without_free mark word from n in
    subst (λ (k : ℕ). P k (without_free mark word from (suc n))) (add-one n) (elim (cases_eq (allocated (from + n) mark) 1) [
      | inl t ↦ subst (P (n + 1)) (sym (ap (λ (b : Bool). cond b now (with_finger now (from + n) 0)) (eq-eqb (allocated (from + n) mark) 1 t))) (taken n now (omega (arith, within)) t before)
      | inr f ↦ subst (P (n + 1)) (sym (ap (λ (b : Bool). cond b now (with_finger now (from + n) 0)) (ne_eqb (allocated (from + n) mark) 1 f))) (free n now (omega (arith, within)) f before)
    ])

-- ---- it stays a word
byte_set_small : (w i : ℕ) → i < 8 → from_le_bytes w64 (slice_set (to_le_bytes w64 w) i 0) < 2 ^ 64
byte_set_small w zero low = omega arith
byte_set_small w (suc zero) low = omega arith
byte_set_small w (suc (suc zero)) low = omega arith
byte_set_small w (suc (suc (suc zero))) low = omega arith
byte_set_small w (suc (suc (suc (suc zero)))) low = omega arith
byte_set_small w (suc (suc (suc (suc (suc zero))))) low = omega arith
byte_set_small w (suc (suc (suc (suc (suc (suc zero)))))) low = omega arith
byte_set_small w (suc (suc (suc (suc (suc (suc (suc zero))))))) low = omega arith
byte_set_small w (suc (suc (suc (suc (suc (suc (suc (suc i)))))))) low = absurd (omega (arith, low))

pub without_free_small : (mark word from n : ℕ) → word < 2 ^ 64 → without_free mark word from n < 2 ^ 64
without_free_small mark word from n small = by_slots (λ k now. now < 2 ^ 64) mark word from n small (λ k now _ _ before. before)
    (λ k now _ _ _. byte_set_small now ((from + k) % 8) (omega arith)) n (omega arith)

-- ---- what is said of each slot
-- word 2 of a bucket with the fingerprints of its taken slots alone
pub record HasLowFingers (mark word thin : ℕ) : Type 0 where
  pub kept : (w3 r : ℕ) → r < 8 → allocated r mark ≡ 1 → finger r thin w3 ≡ finger r word w3
  pub none : (w3 r : ℕ) → r < 8 → allocated r mark ≢ 1 → finger r thin w3 ≡ 0

-- and word 3, with its notes as they are
pub record HasHighFingers (mark word thin : ℕ) : Type 0 where
  pub kept : (w2 r : ℕ) → 8 ≤ r → r < record_slots → allocated r mark ≡ 1 → finger r w2 thin ≡ finger r w2 word
  pub none : (w2 r : ℕ) → 8 ≤ r → r < record_slots → allocated r mark ≢ 1 → finger r w2 thin ≡ 0
  pub upper : thin / 2 ^ 48 % 2 ^ 16 ≡ word / 2 ^ 48 % 2 ^ 16

module _ (mark word : ℕ) where
  -- ---- of slots 0 to 7
  -- those before one are looked at
  record IsThinLow (k now : ℕ) : Type 0 where
    pub kept : (w3 r : ℕ) → r < 8 → allocated r mark ≡ 1 → finger r now w3 ≡ finger r word w3
    pub none : (w3 r : ℕ) → r < 8 → r < k → allocated r mark ≢ 1 → finger r now w3 ≡ 0

  low_begun : IsThinLow 0 word
  low_begun = record { kept = λ w3 r low t. refl; none = λ w3 r low before. absurd (omega (arith, before)) }

  low_taken : (k now : ℕ) → allocated k mark ≡ 1 → IsThinLow k now → IsThinLow (k + 1) now
  low_taken k now t is = record {
    kept = is.kept;
    none = λ w3 r low before free. elim (cases_eq r k) [
      | inl same ↦ absurd (free (ap (λ (z : ℕ). allocated z mark) same ∙ t))
      | inr apart ↦ is.none w3 r low (omega (arith, before, apart)) free
    ];
  }

  low_free : (k now : ℕ) → k < 8 → allocated k mark ≢ 1 → IsThinLow k now → IsThinLow (k + 1) (with_finger now k 0)
  low_free k now small free is = record {
    kept = λ w3 r low t. (let sets = sets_low now w3 k 0 small (omega arith) in
        sets.others r (omega (arith, low)) (λ same. free (ap (λ (z : ℕ). allocated z mark) (sym same) ∙ t)) ∙ is.kept w3 r low t);
    none = λ w3 r low before other. (let sets = sets_low now w3 k 0 small (omega arith) in elim (cases_eq r k) [
      | inl same ↦ ap (λ (z : ℕ). finger z (with_finger now k 0) w3) same ∙ sets.here
      | inr apart ↦ sets.others r (omega (arith, low)) apart ∙ is.none w3 r low (omega (arith, before, apart)) other
    ]);
  }

  first_of : (n : ℕ) → 0 + n ≡ n
  first_of n = omega arith

  pub low_is : HasLowFingers mark word (low_fingers mark word)
  low_is =
      let is = by_slots IsThinLow mark word 0 8 low_begun (λ n now small t before. low_taken n now (ap (λ (z : ℕ). allocated z mark) (sym (first_of n)) ∙ t) before)
      (λ n now small f before. subst (λ (z : ℕ). IsThinLow (n + 1) (with_finger now z 0)) (sym (first_of n))
      (low_free n now small (λ t. f (ap (λ (z : ℕ). allocated z mark) (first_of n) ∙ t)) before)) 8 (omega arith) in
      record { kept = is.kept; none = λ w3 r low free. is.none w3 r low low free }

  -- ---- of slots 8 to 13
  record IsThinHigh (k now : ℕ) : Type 0 where
    pub kept : (w2 r : ℕ) → 8 ≤ r → r < record_slots → allocated r mark ≡ 1 → finger r w2 now ≡ finger r w2 word
    pub none : (w2 r : ℕ) → 8 ≤ r → r < record_slots → r < k → allocated r mark ≢ 1 → finger r w2 now ≡ 0
    pub upper : now / 2 ^ 48 % 2 ^ 16 ≡ word / 2 ^ 48 % 2 ^ 16

  high_begun : IsThinHigh 8 word
  high_begun = record { kept = λ w2 r from low t. refl; none = λ w2 r from low before. absurd (omega (arith, before, from)); upper = refl }

  high_taken : (k now : ℕ) → allocated k mark ≡ 1 → IsThinHigh k now → IsThinHigh (k + 1) now
  high_taken k now t is = record {
    kept = is.kept;
    none = λ w2 r from low before free. elim (cases_eq r k) [
      | inl same ↦ absurd (free (ap (λ (z : ℕ). allocated z mark) same ∙ t))
      | inr apart ↦ is.none w2 r from low (omega (arith, before, apart)) free
    ];
    upper = is.upper;
  }

  high_free : (k now : ℕ) → 8 ≤ k → k < record_slots → allocated k mark ≢ 1 → IsThinHigh k now → IsThinHigh (k + 1) (with_finger now k 0)
  high_free k now high small free is = record {
    kept = λ w2 r from low t. (let sets = sets_high w2 now k 0 high small (omega arith) in
        sets.others r low (λ same. free (ap (λ (z : ℕ). allocated z mark) (sym same) ∙ t)) ∙ is.kept w2 r from low t);
    none = λ w2 r from low before other. (let sets = sets_high w2 now k 0 high small (omega arith) in elim (cases_eq r k) [
      | inl same ↦ ap (λ (z : ℕ). finger z w2 (with_finger now k 0)) same ∙ sets.here
      | inr apart ↦ sets.others r low apart ∙ is.none w2 r from low (omega (arith, before, apart)) other
    ]);
    upper = upper_kept now k 0 (omega arith) high small ∙ is.upper;
  }

  pub high_is : HasHighFingers mark word (high_fingers mark word)
  high_is =
      let P : ℕ → ℕ → Type 0 = λ n now. IsThinHigh (8 + n) now in
      let next : (n now : ℕ) → IsThinHigh (8 + n + 1) now → P (n + 1) now = λ n now is. subst (λ (k : ℕ). IsThinHigh k now) (omega arith) is in
      let is = by_slots P mark word 8 6 high_begun (λ n now small t before. next n now (high_taken (8 + n) now t before))
      (λ n now small f before. next n (with_finger now (8 + n) 0) (high_free (8 + n) now (omega arith) (omega (arith, small)) f before)) 6 (omega arith) in
      record { kept = is.kept; none = λ w2 r from low free. is.none w2 r from low low free; upper = is.upper }

-- ---- all buckets
module _ (words : List ℕ) where
  pub record IsThinning (k : ℕ) (thin : List ℕ) : Type 0 where
    pub each : length thin ≡ 2112
    pub low : (b : ℕ) → b < k → side_word thin b 2 ≡ low_fingers (side_word words b 1) (side_word words b 2)
    pub high : (b : ℕ) → b < k → side_word thin b 3 ≡ high_fingers (side_word words b 1) (side_word words b 3)
    pub others : (b m : ℕ) → b < buckets → m < 32 → m ≢ 2 → m ≢ 3 → side_word thin b m ≡ side_word words b m

  pub thin_begun : length words ≡ 2112 → IsThinning 0 words
  thin_begun each = record {
    each = each;
    low = λ b low. absurd (omega (arith, low));
    high = λ b low. absurd (omega (arith, low));
    others = λ b m _ _ _ _. refl;
  }

  module _ (k : ℕ) (thin : List ℕ) (x y : ℕ) (near : k < buckets) (is : IsThinning k thin) (lows : x ≡ low_fingers (side_word words k 1) (side_word words k 2)) (highs : y ≡ high_fingers (side_word words k 1) (side_word words k 3)) where
    abbrev one : List ℕ
    one = slice_set thin (32 * k + 2) x

    abbrev two : List ℕ
    two = slice_set one (32 * k + 3) y

    each_one : length one ≡ 2112
    each_one = length-set thin (32 * k + 2) x ∙ is.each

    other_word : (b m : ℕ) → (32 * b + m ≡ 32 * k + 2 → ⊥) → (32 * b + m ≡ 32 * k + 3 → ⊥) → side_word two b m ≡ side_word thin b m
    other_word b m p q = get_or-set_other one (32 * k + 3) (32 * b + m) y 0 q ∙ get_or-set_other thin (32 * k + 2) (32 * b + m) x 0 p

    second_here : side_word two k 2 ≡ x
    second_here = get_or-set_other one (32 * k + 3) (32 * k + 2) y 0 (λ s. omega (arith, s)) ∙ get_or-set_same thin (32 * k + 2) x 0 (let each = is.each in omega (arith, each, near))

    third_here : side_word two k 3 ≡ y
    third_here = get_or-set_same one (32 * k + 3) y 0 (let each = each_one in omega (arith, each, near))

    pub thin_more : IsThinning (k + 1) two
    thin_more = record {
      each = length-set one (32 * k + 3) y ∙ each_one;
      low = λ b low. elim (cases_eq b k) [
        | inl same ↦ subst (λ (z : ℕ). side_word two z 2 ≡ low_fingers (side_word words z 1) (side_word words z 2)) (sym same) (second_here ∙ lows)
        | inr apart ↦ other_word b 2 (λ s. apart (omega (arith, s))) (λ s. omega (arith, s)) ∙ is.low b (omega (arith, low, apart))
      ];
      high = λ b low. elim (cases_eq b k) [
        | inl same ↦ subst (λ (z : ℕ). side_word two z 3 ≡ high_fingers (side_word words z 1) (side_word words z 3)) (sym same) (third_here ∙ highs)
        | inr apart ↦ other_word b 3 (λ s. omega (arith, s)) (λ s. apart (omega (arith, s))) ∙ is.high b (omega (arith, low, apart))
      ];
      others = λ b m small low no_two no_three. other_word b m (λ s. no_two (omega (arith, s, low))) (λ s. no_three (omega (arith, s, low))) ∙ is.others b m small low no_two no_three;
    }

  pub thin_done : (k : ℕ) (thin : List ℕ) → 66 ≤ k → IsThinning k thin → IsThinned words thin
  thin_done k thin past is = record {
    each = is.each;
    low = λ b small. is.low b (omega (arith, small, past));
    high = λ b small. is.high b (omega (arith, small, past));
    others = is.others;
  }
