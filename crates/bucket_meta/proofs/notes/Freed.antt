-- An note slot is freed in the words of its bucket: its own bits alone change.
use Rattle.std.proofs.Common.{◌≡◌, ◌≢◌, ℕ, zero, suc, ◌+◌, ◌-◌, ◌*◌, ◌/◌, ◌%◌, ◌^◌, ◌<◌, refl, ap, ◌∙◌, lt_of_le_of_lt, arith, bit_and}
use Rattle.std.specs.Int.{bit_not, w64}
use Rattle.std.proofs.lemmas.Nat.{and_shr, and_mod, and_mask, and_le_l}
use Rattle.word_bits.specs.Bits.{bits, bit, mask}
use Rattle.word_bits.proofs.OneBit.{clear_same, clear_other}
use Rattle.bucket_meta.specs.Bucket.{note_used, note_member, note_index, note_finger, overflow_count}
use Rattle.bucket_meta.specs.NoteWords.{finger_bits, freed_mark, freed_fingers, FreesPlace}
use Rattle.bucket_meta.proofs.Fingers.{byte_there}

-- ---- the three bits of a place
module _ (w : ℕ) (fits : w < 2 ^ 64) where
  abbrev cleared : ℕ → ℕ
  cleared i = bit_and (bit_and (bit_and w (bit_not w64 (mask (28 + i)))) (bit_not w64 (mask (32 + i)))) (bit_not w64 (mask (36 + i)))

  cleared_fits : (i : ℕ) → cleared i < 2 ^ 64
  cleared_fits i =
      let a = and_le_l w (bit_not w64 (mask (28 + i))) in
      let b = and_le_l (bit_and w (bit_not w64 (mask (28 + i)))) (bit_not w64 (mask (32 + i))) in
      let c = and_le_l (bit_and (bit_and w (bit_not w64 (mask (28 + i)))) (bit_not w64 (mask (32 + i)))) (bit_not w64 (mask (36 + i))) in
      omega (arith, fits, a, b, c)

  other_bit : (i k : ℕ) → i < 4 → k < 64 → k ≢ 28 + i → k ≢ 32 + i → k ≢ 36 + i → bit k (cleared i) ≡ bit k w
  other_bit i k low near a b c =
      clear_other (bit_and (bit_and w (bit_not w64 (mask (28 + i)))) (bit_not w64 (mask (32 + i)))) (36 + i) k (omega (arith, low)) near c
      ∙ clear_other (bit_and w (bit_not w64 (mask (28 + i)))) (32 + i) k (omega (arith, low)) near b
      ∙ clear_other w (28 + i) k (omega (arith, low)) near a

  own_bit : (i : ℕ) → i < 4 → bit (28 + i) (cleared i) ≡ 0
  own_bit i low =
      clear_other (bit_and (bit_and w (bit_not w64 (mask (28 + i)))) (bit_not w64 (mask (32 + i)))) (36 + i) (28 + i) (omega (arith, low)) (omega (arith, low)) (λ e. omega (arith, e))
      ∙ clear_other (bit_and w (bit_not w64 (mask (28 + i)))) (32 + i) (28 + i) (omega (arith, low)) (omega (arith, low)) (λ e. omega (arith, e))
      ∙ clear_same w (28 + i) (omega (arith, low))

-- what is above bit 40, and what is below bit 28
pub above : (n m : ℕ) → n < 2 ^ 64 → (2 ^ 64 - 1 - m) / 2 ^ 40 ≡ 2 ^ 24 - 1 → bit_and n (2 ^ 64 - 1 - m) / 2 ^ 40 ≡ n / 2 ^ 40
above n m fits ones =
    let small : n / 2 ^ 40 % 2 ^ 24 ≡ n / 2 ^ 40 = omega (arith, fits) in
    and_shr n (2 ^ 64 - 1 - m) 40 ∙ ap (bit_and (n / 2 ^ 40)) ones ∙ and_mask (n / 2 ^ 40) 24 ∙ small

pub below : (n m : ℕ) → (2 ^ 64 - 1 - m) % 2 ^ 28 ≡ 2 ^ 28 - 1 → bit_and n (2 ^ 64 - 1 - m) % 2 ^ 28 ≡ n % 2 ^ 28
below n m ones =
    let small : n % 2 ^ 28 % 2 ^ 28 ≡ n % 2 ^ 28 = omega arith in
    and_mod n (2 ^ 64 - 1 - m) 28 ∙ ap (bit_and (n % 2 ^ 28)) ones ∙ and_mask (n % 2 ^ 28) 28 ∙ small

module _ (w : ℕ) (fits : w < 2 ^ 64) where
  above_by : (a b c : ℕ) → (2 ^ 64 - 1 - a) / 2 ^ 40 ≡ 2 ^ 24 - 1 → (2 ^ 64 - 1 - b) / 2 ^ 40 ≡ 2 ^ 24 - 1 → (2 ^ 64 - 1 - c) / 2 ^ 40 ≡ 2 ^ 24 - 1
      → bit_and (bit_and (bit_and w (2 ^ 64 - 1 - a)) (2 ^ 64 - 1 - b)) (2 ^ 64 - 1 - c) / 2 ^ 40 ≡ w / 2 ^ 40
  above_by a b c p q r =
      above (bit_and (bit_and w (2 ^ 64 - 1 - a)) (2 ^ 64 - 1 - b)) c (lt_of_le_of_lt (and_le_l (bit_and w (2 ^ 64 - 1 - a)) (2 ^ 64 - 1 - b)) (lt_of_le_of_lt (and_le_l w (2 ^ 64 - 1 - a)) fits)) r
      ∙ above (bit_and w (2 ^ 64 - 1 - a)) b (lt_of_le_of_lt (and_le_l w (2 ^ 64 - 1 - a)) fits) q ∙ above w a fits p

  below_by : (a b c : ℕ) → (2 ^ 64 - 1 - a) % 2 ^ 28 ≡ 2 ^ 28 - 1 → (2 ^ 64 - 1 - b) % 2 ^ 28 ≡ 2 ^ 28 - 1 → (2 ^ 64 - 1 - c) % 2 ^ 28 ≡ 2 ^ 28 - 1
      → bit_and (bit_and (bit_and w (2 ^ 64 - 1 - a)) (2 ^ 64 - 1 - b)) (2 ^ 64 - 1 - c) % 2 ^ 28 ≡ w % 2 ^ 28
  below_by a b c p q r = below (bit_and (bit_and w (2 ^ 64 - 1 - a)) (2 ^ 64 - 1 - b)) c r ∙ below (bit_and w (2 ^ 64 - 1 - a)) b q ∙ below w a p

  cleared_above : (i : ℕ) → i < 4 → cleared w fits i / 2 ^ 40 ≡ w / 2 ^ 40
  cleared_above zero l = above_by (2 ^ 28) (2 ^ 32) (2 ^ 36) refl refl refl
  cleared_above (suc zero) l = above_by (2 ^ 29) (2 ^ 33) (2 ^ 37) refl refl refl
  cleared_above (suc (suc zero)) l = above_by (2 ^ 30) (2 ^ 34) (2 ^ 38) refl refl refl
  cleared_above (suc (suc (suc zero))) l = above_by (2 ^ 31) (2 ^ 35) (2 ^ 39) refl refl refl
  cleared_above (suc (suc (suc (suc i)))) l = absurd (omega (arith, l))

  cleared_below : (i : ℕ) → i < 4 → cleared w fits i % 2 ^ 28 ≡ w % 2 ^ 28
  cleared_below zero l = below_by (2 ^ 28) (2 ^ 32) (2 ^ 36) refl refl refl
  cleared_below (suc zero) l = below_by (2 ^ 29) (2 ^ 33) (2 ^ 37) refl refl refl
  cleared_below (suc (suc zero)) l = below_by (2 ^ 30) (2 ^ 34) (2 ^ 38) refl refl refl
  cleared_below (suc (suc (suc zero))) l = below_by (2 ^ 31) (2 ^ 35) (2 ^ 39) refl refl refl
  cleared_below (suc (suc (suc (suc i)))) l = absurd (omega (arith, l))

-- ---- and its fingerprint
module _ (y : ℕ) (fits : y < 2 ^ 64) where
  abbrev unfingered : ℕ → ℕ
  unfingered i = bit_and y (bit_not w64 (finger_bits i))

  all_kept : bit_and y (2 ^ 64 - 1) ≡ y
  all_kept = let small : y % 2 ^ 64 ≡ y = omega (arith, fits) in and_mask y 64 ∙ small

  low_kept : (N k : ℕ) → N % 2 ^ k ≡ 2 ^ k - 1 → bit_and y N % 2 ^ k ≡ y % 2 ^ k % 2 ^ k
  low_kept N k ones = and_mod y N k ∙ ap (bit_and (y % 2 ^ k)) ones ∙ and_mask (y % 2 ^ k) k

  low_45 : (i : ℕ) → i < 4 → unfingered i % 2 ^ 45 ≡ y % 2 ^ 45
  low_45 zero l = ap (λ z. z % 2 ^ 45) all_kept
  low_45 (suc zero) l = ap (λ z. z % 2 ^ 45) all_kept
  low_45 (suc (suc zero)) l = let k = low_kept (2 ^ 64 - 1 - 255 * 2 ^ 45) 45 refl in let m : y % 2 ^ 45 % 2 ^ 45 ≡ y % 2 ^ 45 = omega arith in k ∙ m
  low_45 (suc (suc (suc zero))) l = let k = low_kept (2 ^ 64 - 1 - 255 * 2 ^ 53) 45 refl in let m : y % 2 ^ 45 % 2 ^ 45 ≡ y % 2 ^ 45 = omega arith in k ∙ m
  low_45 (suc (suc (suc (suc i)))) l = absurd (omega (arith, l))

  -- the other fingerprint there
  third : (i : ℕ) → i < 4 → 2 ≢ i → bits 45 8 (unfingered i) ≡ bits 45 8 y
  third zero l n = ap (bits 45 8) all_kept
  third (suc zero) l n = ap (bits 45 8) all_kept
  third (suc (suc zero)) l n = absurd (n refl)
  third (suc (suc (suc zero))) l n =
      let k = low_kept (2 ^ 64 - 1 - 255 * 2 ^ 53) 53 refl in omega (arith, k)
  third (suc (suc (suc (suc i)))) l n = absurd (omega (arith, l))

  fourth : (i : ℕ) → i < 4 → 3 ≢ i → bits 53 8 (unfingered i) ≡ bits 53 8 y
  fourth zero l n = ap (bits 53 8) all_kept
  fourth (suc zero) l n = ap (bits 53 8) all_kept
  fourth (suc (suc zero)) l n =
      let small : y / 2 ^ 53 % 2 ^ 11 ≡ y / 2 ^ 53 = omega (arith, fits) in
      let k : bit_and y (2 ^ 64 - 1 - 255 * 2 ^ 45) / 2 ^ 53 ≡ y / 2 ^ 53 = and_shr y (2 ^ 64 - 1 - 255 * 2 ^ 45) 53 ∙ and_mask (y / 2 ^ 53) 11 ∙ small in
      ap (λ z. z % 2 ^ 8) k
  fourth (suc (suc (suc zero))) l n = absurd (n refl)
  fourth (suc (suc (suc (suc i)))) l n = absurd (omega (arith, l))

-- ---- what is below bit 45
module _ (x y : ℕ) (same : x % 2 ^ 45 ≡ y % 2 ^ 45) where
  pub low_used : (j : ℕ) → j < 4 → note_used j x ≡ note_used j y
  low_used zero l = omega (arith, same)
  low_used (suc zero) l = omega (arith, same)
  low_used (suc (suc zero)) l = omega (arith, same)
  low_used (suc (suc (suc zero))) l = omega (arith, same)
  low_used (suc (suc (suc (suc i)))) l = absurd (omega (arith, l))

  pub low_member : (j : ℕ) → j < 4 → note_member j x ≡ note_member j y
  low_member zero l = omega (arith, same)
  low_member (suc zero) l = omega (arith, same)
  low_member (suc (suc zero)) l = omega (arith, same)
  low_member (suc (suc (suc zero))) l = omega (arith, same)
  low_member (suc (suc (suc (suc i)))) l = absurd (omega (arith, l))

  pub low_index : (j : ℕ) → j < 4 → note_index j x ≡ note_index j y
  low_index zero l = omega (arith, same)
  low_index (suc zero) l = omega (arith, same)
  low_index (suc (suc zero)) l = omega (arith, same)
  low_index (suc (suc (suc zero))) l = omega (arith, same)
  low_index (suc (suc (suc (suc i)))) l = absurd (omega (arith, l))

  pub low_count : overflow_count x ≡ overflow_count y
  low_count = omega (arith, same)

  pub low_slots : x % 2 ^ 28 ≡ y % 2 ^ 28
  low_slots = omega (arith, same)

pub high_count : (y w : ℕ) → y / 2 ^ 40 ≡ w / 2 ^ 40 → overflow_count y ≡ overflow_count w
high_count y w same = ap (λ z. z % 2 ^ 5) same

pub high_third : (y w : ℕ) → y / 2 ^ 40 ≡ w / 2 ^ 40 → bits 45 8 y ≡ bits 45 8 w
high_third y w same = omega (arith, same)

pub high_fourth : (y w : ℕ) → y / 2 ^ 40 ≡ w / 2 ^ 40 → bits 53 8 y ≡ bits 53 8 w
high_fourth y w same = omega (arith, same)

-- ---- together
module _ (w i : ℕ) (fits : w < 2 ^ 64) (low : i < 4) where
  abbrev y : ℕ
  y = cleared w fits i

  low_part : freed_mark w i % 2 ^ 45 ≡ y % 2 ^ 45
  low_part = low_45 y (cleared_fits w fits i) i low

  fingers_by : (j w3 : ℕ) → j < 4 → j ≢ i → note_finger j (freed_mark w i) w3 ≡ note_finger j w w3
  fingers_by zero w3 l n = refl
  fingers_by (suc zero) w3 l n = refl
  fingers_by (suc (suc zero)) w3 l n = third y (cleared_fits w fits i) i low n ∙ high_third y w (cleared_above w fits i low)
  fingers_by (suc (suc (suc zero))) w3 l n = fourth y (cleared_fits w fits i) i low n ∙ high_fourth y w (cleared_above w fits i low)
  fingers_by (suc (suc (suc (suc j)))) w3 l n = absurd (omega (arith, l))

  pub frees_mark : (w3 : ℕ) → FreesPlace w w3 (freed_mark w i) w3 i
  frees_mark w3 = record {
    free = low_used (freed_mark w i) y low_part i low ∙ own_bit w fits i low;
    others = record {
      used = λ j l n. low_used (freed_mark w i) y low_part j l ∙ other_bit w fits i (28 + j) low (omega (arith, l)) (λ e. n (omega (arith, e))) (λ e. omega (arith, e, l)) (λ e. omega (arith, e, l));
      members = λ j l n. low_member (freed_mark w i) y low_part j l ∙ other_bit w fits i (32 + j) low (omega (arith, l)) (λ e. omega (arith, e, low)) (λ e. n (omega (arith, e))) (λ e. omega (arith, e, l));
      indexes = λ j l n. low_index (freed_mark w i) y low_part j l ∙ other_bit w fits i (36 + j) low (omega (arith, l)) (λ e. omega (arith, e, low)) (λ e. omega (arith, e, low)) (λ e. n (omega (arith, e)));
      fingers = λ j l n. fingers_by j w3 l n;
      count = low_count (freed_mark w i) y low_part ∙ high_count y w (cleared_above w fits i low);
      kept = record { slots = low_slots (freed_mark w i) y low_part ∙ cleared_below w fits i low; fingers = refl };
    };
  }

-- ---- the fingerprint of places 0 and 1
pub six_bytes : (w x : ℕ) → ((t : ℕ) → t < 6 → bits (8 * t) 8 x ≡ bits (8 * t) 8 w) → x % 2 ^ 48 ≡ w % 2 ^ 48
six_bytes w x same =
    let b0 = same 0 (omega arith) in let b1 = same 1 (omega arith) in let b2 = same 2 (omega arith) in
    let b3 = same 3 (omega arith) in let b4 = same 4 (omega arith) in let b5 = same 5 (omega arith) in
    omega (arith, b0, b1, b2, b3, b4, b5)

pub freed_records : (w3 i : ℕ) → i < 4 → freed_fingers w3 i % 2 ^ 48 ≡ w3 % 2 ^ 48
freed_records w3 zero l = six_bytes w3 (freed_fingers w3 0) (λ t near. byte_there w3 6 0 (omega arith) t (omega (arith, near)) (λ e. omega (arith, e, near)))
freed_records w3 (suc zero) l = six_bytes w3 (freed_fingers w3 1) (λ t near. byte_there w3 7 0 (omega arith) t (omega (arith, near)) (λ e. omega (arith, e, near)))
freed_records w3 (suc (suc zero)) l = refl
freed_records w3 (suc (suc (suc zero))) l = refl
freed_records w3 (suc (suc (suc (suc i)))) l = absurd (omega (arith, l))

freed_finger : (w3 i j x : ℕ) → i < 4 → j < 4 → j ≢ i → note_finger j x (freed_fingers w3 i) ≡ note_finger j x w3
freed_finger w3 zero zero x l m n = absurd (n refl)
freed_finger w3 zero (suc zero) x l m n = byte_there w3 6 0 (omega arith) 7 (omega arith) (λ e. omega (arith, e))
freed_finger w3 (suc zero) zero x l m n = byte_there w3 7 0 (omega arith) 6 (omega arith) (λ e. omega (arith, e))
freed_finger w3 (suc zero) (suc zero) x l m n = absurd (n refl)
freed_finger w3 (suc (suc zero)) j x l m n = refl
freed_finger w3 (suc (suc (suc zero))) j x l m n = refl
freed_finger w3 i (suc (suc zero)) x l m n = refl
freed_finger w3 i (suc (suc (suc zero))) x l m n = refl
freed_finger w3 (suc (suc (suc (suc i)))) j x l m n = absurd (omega (arith, l))
freed_finger w3 i (suc (suc (suc (suc j)))) x l m n = absurd (omega (arith, m))

pub frees_place : (w1 w3 i : ℕ) → w1 < 2 ^ 64 → i < 4 → FreesPlace w1 w3 (freed_mark w1 i) (freed_fingers w3 i) i
frees_place w1 w3 i fits low =
    let m = frees_mark w1 i fits low w3 in
    record {
      free = m.free;
      others = record {
        used = m.others.used;
        members = m.others.members;
        indexes = m.others.indexes;
        fingers = λ j l n. freed_finger w3 i j (freed_mark w1 i) low l n ∙ m.others.fingers j l n;
        count = m.others.count;
        kept = record { slots = m.others.slots; fingers = freed_records w3 i low };
      };
    }
