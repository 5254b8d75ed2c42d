-- A note is put on a note slot in the words of its bucket: its own bits alone change.
use Rattle.std.proofs.Common.{◌≡◌, ◌≢◌, ℕ, zero, suc, ◌+◌, ◌-◌, ◌*◌, ◌/◌, ◌%◌, ◌^◌, ◌<◌, Bool, true, false, refl, ap, ◌∙◌, lt_of_le_of_lt, arith, bit_and, bit_or}
use Rattle.std.specs.Prelude.{◌==◌, if◌then◌else◌}
use Rattle.std.specs.Int.{bit_not, w64}
use Rattle.std.proofs.lemmas.Nat.{and_shr, and_mod, and_mask, and_le_l, and_le_r, or_shr, or_mod, or_lt, or_disjoint}
use Rattle.word_bits.specs.Bits.{bits, bit, mask}
use Rattle.word_bits.proofs.OneBit.{set_same, set_other, clear_same, clear_other}
use Rattle.bucket_meta.specs.Bucket.{note_finger}
use Rattle.bucket_meta.specs.NoteWords.{with_bit, with_note_finger, noted_mark, noted_fingers, KeepsOtherPlaces, FillsPlace}
use Rattle.bucket_meta.proofs.Fingers.{byte_there, sets_low}
use Rattle.bucket_meta.proofs.notes.Freed.{above, below, low_used, low_member, low_index, low_count, low_slots, high_count, high_third, high_fourth, six_bytes}
use Rattle.bucket_meta.proofs.fields.Uppers.{or_none}

-- ---- one bit
with_same : (w i on : ℕ) → i < 64 → on < 2 → bit i (with_bit w i on) ≡ on
with_same w i zero near low = clear_same w i near
with_same w i (suc zero) near low = set_same w i near
with_same w i (suc (suc on)) near low = absurd (omega (arith, low))

with_other : (w i on j : ℕ) → i < 64 → j < 64 → j ≢ i → bit j (with_bit w i on) ≡ bit j w
with_other w i on j near low apart = by (on == 1)
  where
    by : (b : Bool) → bit j (if b then bit_or w (mask i) else bit_and w (bit_not w64 (mask i))) ≡ bit j w
    by true = set_other w i j near apart
    by false = clear_other w i j near low apart

-- ---- bits between bit 28 and bit 40, which leave what is below and what is above
record IsMiddle (m : ℕ) : Type 0 where
  pub low : m % 2 ^ 28 ≡ 0
  pub low_ones : (2 ^ 64 - 1 - m) % 2 ^ 28 ≡ 2 ^ 28 - 1
  pub high : m / 2 ^ 40 ≡ 0
  pub high_ones : (2 ^ 64 - 1 - m) / 2 ^ 40 ≡ 2 ^ 24 - 1
  pub small : m < 2 ^ 64

abbrev put : Bool → ℕ → ℕ → ℕ
put b w m = if b then bit_or w m else bit_and w (2 ^ 64 - 1 - m)

none_or : (x : ℕ) → bit_or 0 x ≡ x
none_or x = let none = and_le_l 0 x in let e = or_disjoint 0 x (omega (arith, none)) in omega (arith, e)

module _ (m : ℕ) (is : IsMiddle m) where
  put_below : (b : Bool) (w : ℕ) → put b w m % 2 ^ 28 ≡ w % 2 ^ 28
  put_below true w = or_mod w m 28 ∙ ap (bit_or (w % 2 ^ 28)) is.low ∙ or_none (w % 2 ^ 28)
  put_below false w = below w m is.low_ones

  put_above : (b : Bool) (w : ℕ) → w < 2 ^ 64 → put b w m / 2 ^ 40 ≡ w / 2 ^ 40
  put_above true w fits = or_shr w m 40 ∙ ap (bit_or (w / 2 ^ 40)) is.high ∙ or_none (w / 2 ^ 40)
  put_above false w fits = above w m fits is.high_ones

  put_fits : (b : Bool) (w : ℕ) → w < 2 ^ 64 → put b w m < 2 ^ 64
  put_fits true w fits = or_lt 64 w m fits is.small
  put_fits false w fits = lt_of_le_of_lt (and_le_l w (2 ^ 64 - 1 - m)) fits

-- three of them
module _ (a b c : ℕ) (p : IsMiddle a) (q : IsMiddle b) (r : IsMiddle c) (x y z : Bool) (w : ℕ) (fits : w < 2 ^ 64) where
  three_below : put z (put y (put x w a) b) c % 2 ^ 28 ≡ w % 2 ^ 28
  three_below = put_below c r z (put y (put x w a) b) ∙ put_below b q y (put x w a) ∙ put_below a p x w

  three_above : put z (put y (put x w a) b) c / 2 ^ 40 ≡ w / 2 ^ 40
  three_above = put_above c r z (put y (put x w a) b) (put_fits b q y (put x w a) (put_fits a p x w fits)) ∙ put_above b q y (put x w a) (put_fits a p x w fits) ∙ put_above a p x w fits

  three_fits : put z (put y (put x w a) b) c < 2 ^ 64
  three_fits = put_fits c r z (put y (put x w a) b) (put_fits b q y (put x w a) (put_fits a p x w fits))

-- ---- the three bits of a place
abbrev flagged : ℕ → ℕ → ℕ → ℕ → ℕ
flagged w i side index = with_bit (with_bit (with_bit w (28 + i) 1) (32 + i) side) (36 + i) index

module _ (w side index : ℕ) (fits : w < 2 ^ 64) where
  record LeavesRest (z : ℕ) : Type 0 where
    pub lower : z % 2 ^ 28 ≡ w % 2 ^ 28
    pub upper : z / 2 ^ 40 ≡ w / 2 ^ 40
    pub small : z < 2 ^ 64

  three : (a b c : ℕ) → IsMiddle a → IsMiddle b → IsMiddle c → LeavesRest (put (index == 1) (put (side == 1) (put true w a) b) c)
  three a b c p q r = record {
    lower = three_below a b c p q r true (side == 1) (index == 1) w fits;
    upper = three_above a b c p q r true (side == 1) (index == 1) w fits;
    small = three_fits a b c p q r true (side == 1) (index == 1) w fits;
  }

  flagged_leaves : (i : ℕ) → i < 4 → LeavesRest (flagged w i side index)
  flagged_leaves zero l = three (2 ^ 28) (2 ^ 32) (2 ^ 36) (record { low = refl; low_ones = refl; high = refl; high_ones = refl; small = omega arith })
      (record { low = refl; low_ones = refl; high = refl; high_ones = refl; small = omega arith }) (record { low = refl; low_ones = refl; high = refl; high_ones = refl; small = omega arith })
  flagged_leaves (suc zero) l = three (2 ^ 29) (2 ^ 33) (2 ^ 37) (record { low = refl; low_ones = refl; high = refl; high_ones = refl; small = omega arith })
      (record { low = refl; low_ones = refl; high = refl; high_ones = refl; small = omega arith }) (record { low = refl; low_ones = refl; high = refl; high_ones = refl; small = omega arith })
  flagged_leaves (suc (suc zero)) l = three (2 ^ 30) (2 ^ 34) (2 ^ 38) (record { low = refl; low_ones = refl; high = refl; high_ones = refl; small = omega arith })
      (record { low = refl; low_ones = refl; high = refl; high_ones = refl; small = omega arith }) (record { low = refl; low_ones = refl; high = refl; high_ones = refl; small = omega arith })
  flagged_leaves (suc (suc (suc zero))) l = three (2 ^ 31) (2 ^ 35) (2 ^ 39) (record { low = refl; low_ones = refl; high = refl; high_ones = refl; small = omega arith })
      (record { low = refl; low_ones = refl; high = refl; high_ones = refl; small = omega arith }) (record { low = refl; low_ones = refl; high = refl; high_ones = refl; small = omega arith })
  flagged_leaves (suc (suc (suc (suc i)))) l = absurd (omega (arith, l))

module _ (w i side index : ℕ) (low : i < 4) (side_bit : side < 2) (index_bit : index < 2) where
  abbrev one : ℕ
  one = with_bit w (28 + i) 1

  abbrev two : ℕ
  two = with_bit one (32 + i) side

  flag_other : (k : ℕ) → k < 64 → k ≢ 28 + i → k ≢ 32 + i → k ≢ 36 + i → bit k (flagged w i side index) ≡ bit k w
  flag_other k near a b c = with_other two (36 + i) index k (omega (arith, low)) near c ∙ with_other one (32 + i) side k (omega (arith, low)) near b
      ∙ with_other w (28 + i) 1 k (omega (arith, low)) near a

  flag_used : bit (28 + i) (flagged w i side index) ≡ 1
  flag_used = with_other two (36 + i) index (28 + i) (omega (arith, low)) (omega (arith, low)) (λ e. omega (arith, e))
      ∙ with_other one (32 + i) side (28 + i) (omega (arith, low)) (omega (arith, low)) (λ e. omega (arith, e))
      ∙ with_same w (28 + i) 1 (omega (arith, low)) (omega arith)

  flag_side : bit (32 + i) (flagged w i side index) ≡ side
  flag_side = with_other two (36 + i) index (32 + i) (omega (arith, low)) (omega (arith, low)) (λ e. omega (arith, e)) ∙ with_same one (32 + i) side (omega (arith, low)) side_bit

  flag_index : bit (36 + i) (flagged w i side index) ≡ index
  flag_index = with_same two (36 + i) index (omega (arith, low)) index_bit

-- ---- and its fingerprint
module _ (z finger : ℕ) (fits : z < 2 ^ 64) (small : finger < 2 ^ 8) where
  abbrev third_out : ℕ
  third_out = 2 ^ 64 - 1 - 255 * 2 ^ 45

  abbrev fourth_out : ℕ
  fourth_out = 2 ^ 64 - 1 - 255 * 2 ^ 53

  -- what is below it
  lower_by : (N part k : ℕ) → N % 2 ^ k ≡ 2 ^ k - 1 → part % 2 ^ k ≡ 0 → bit_or (bit_and z N) part % 2 ^ k ≡ z % 2 ^ k % 2 ^ k
  lower_by N part k ones none =
      or_mod (bit_and z N) part k ∙ ap (bit_or (bit_and z N % 2 ^ k)) none ∙ or_none (bit_and z N % 2 ^ k)
      ∙ and_mod z N k ∙ ap (bit_and (z % 2 ^ k)) ones ∙ and_mask (z % 2 ^ k) k

  finger_low : (i : ℕ) → i < 4 → with_note_finger z i finger % 2 ^ 45 ≡ z % 2 ^ 45
  finger_low zero l = refl
  finger_low (suc zero) l = refl
  finger_low (suc (suc zero)) l = let k = lower_by third_out (finger * 2 ^ 45) 45 refl (omega arith) in let m : z % 2 ^ 45 % 2 ^ 45 ≡ z % 2 ^ 45 = omega arith in k ∙ m
  finger_low (suc (suc (suc zero))) l = let k = lower_by fourth_out (finger * 2 ^ 53) 45 refl (omega arith) in let m : z % 2 ^ 45 % 2 ^ 45 ≡ z % 2 ^ 45 = omega arith in k ∙ m
  finger_low (suc (suc (suc (suc i)))) l = absurd (omega (arith, l))

  -- the other fingerprint of the word
  finger_third : (i : ℕ) → i < 4 → 2 ≢ i → bits 45 8 (with_note_finger z i finger) ≡ bits 45 8 z
  finger_third zero l n = refl
  finger_third (suc zero) l n = refl
  finger_third (suc (suc zero)) l n = absurd (n refl)
  finger_third (suc (suc (suc zero))) l n = let k = lower_by fourth_out (finger * 2 ^ 53) 53 refl (omega arith) in omega (arith, k)
  finger_third (suc (suc (suc (suc i)))) l n = absurd (omega (arith, l))

  finger_fourth : (i : ℕ) → i < 4 → 3 ≢ i → bits 53 8 (with_note_finger z i finger) ≡ bits 53 8 z
  finger_fourth zero l n = refl
  finger_fourth (suc zero) l n = refl
  finger_fourth (suc (suc zero)) l n =
      let none : finger * 2 ^ 45 / 2 ^ 53 ≡ 0 = omega (arith, small) in
      let stays : z / 2 ^ 53 % 2 ^ 11 ≡ z / 2 ^ 53 = omega (arith, fits) in
      let k : bit_or (bit_and z third_out) (finger * 2 ^ 45) / 2 ^ 53 ≡ z / 2 ^ 53 =
      or_shr (bit_and z third_out) (finger * 2 ^ 45) 53 ∙ ap (bit_or (bit_and z third_out / 2 ^ 53)) none ∙ or_none (bit_and z third_out / 2 ^ 53)
      ∙ and_shr z third_out 53 ∙ and_mask (z / 2 ^ 53) 11 ∙ stays in
      ap (λ n. n % 2 ^ 8) k
  finger_fourth (suc (suc (suc zero))) l n = absurd (n refl)
  finger_fourth (suc (suc (suc (suc i)))) l n = absurd (omega (arith, l))

  -- and itself
  there_by : (N part k : ℕ) → N / 2 ^ k % 2 ^ 8 ≡ 0 → part / 2 ^ k % 2 ^ 8 ≡ finger → bits k 8 (bit_or (bit_and z N) part) ≡ finger
  there_by N part k none is =
      let le = and_le_r (z / 2 ^ k % 2 ^ 8) 0 in
      let out : bit_and z N / 2 ^ k % 2 ^ 8 ≡ 0 =
      ap (λ n. n % 2 ^ 8) (and_shr z N k) ∙ and_mod (z / 2 ^ k) (N / 2 ^ k) 8 ∙ ap (bit_and (z / 2 ^ k % 2 ^ 8)) none ∙ omega (arith, le) in
      ap (λ n. n % 2 ^ 8) (or_shr (bit_and z N) part k) ∙ or_mod (bit_and z N / 2 ^ k) (part / 2 ^ k) 8
      ∙ ap (λ n. bit_or n (part / 2 ^ k % 2 ^ 8)) out ∙ none_or (part / 2 ^ k % 2 ^ 8) ∙ is

  third_there : bits 45 8 (with_note_finger z 2 finger) ≡ finger
  third_there = there_by third_out (finger * 2 ^ 45) 45 refl (omega (arith, small))

  fourth_there : bits 53 8 (with_note_finger z 3 finger) ≡ finger
  fourth_there = there_by fourth_out (finger * 2 ^ 53) 53 refl (omega (arith, small))

-- ---- the fingerprint of places 0 and 1
noted_records : (w3 i finger : ℕ) → finger < 2 ^ 8 → i < 4 → noted_fingers w3 i finger % 2 ^ 48 ≡ w3 % 2 ^ 48
noted_records w3 zero finger small l = six_bytes w3 (noted_fingers w3 0 finger) (λ t near. byte_there w3 6 finger small t (omega (arith, near)) (λ e. omega (arith, e, near)))
noted_records w3 (suc zero) finger small l = six_bytes w3 (noted_fingers w3 1 finger) (λ t near. byte_there w3 7 finger small t (omega (arith, near)) (λ e. omega (arith, e, near)))
noted_records w3 (suc (suc zero)) finger small l = refl
noted_records w3 (suc (suc (suc zero))) finger small l = refl
noted_records w3 (suc (suc (suc (suc i)))) finger small l = absurd (omega (arith, l))

noted_beside : (w3 i j x finger : ℕ) → finger < 2 ^ 8 → i < 4 → j < 4 → j ≢ i → note_finger j x (noted_fingers w3 i finger) ≡ note_finger j x w3
noted_beside w3 zero zero x finger small l m n = absurd (n refl)
noted_beside w3 zero (suc zero) x finger small l m n = byte_there w3 6 finger small 7 (omega arith) (λ e. omega (arith, e))
noted_beside w3 (suc zero) zero x finger small l m n = byte_there w3 7 finger small 6 (omega arith) (λ e. omega (arith, e))
noted_beside w3 (suc zero) (suc zero) x finger small l m n = absurd (n refl)
noted_beside w3 (suc (suc zero)) j x finger small l m n = refl
noted_beside w3 (suc (suc (suc zero))) j x finger small l m n = refl
noted_beside w3 i (suc (suc zero)) x finger small l m n = refl
noted_beside w3 i (suc (suc (suc zero))) x finger small l m n = refl
noted_beside w3 (suc (suc (suc (suc i)))) j x finger small l m n = absurd (omega (arith, l))
noted_beside w3 i (suc (suc (suc (suc j)))) x finger small l m n = absurd (omega (arith, m))

-- ---- together
module _ (w i side finger index : ℕ) (fits : w < 2 ^ 64) (low : i < 4) (side_bit : side < 2) (index_bit : index < 2) (small : finger < 2 ^ 8) where
  abbrev z : ℕ
  z = flagged w i side index

  abbrev x : ℕ
  x = noted_mark w i side finger index

  leaves : LeavesRest w side index fits z
  leaves = flagged_leaves w side index fits i low

  low_part : x % 2 ^ 45 ≡ z % 2 ^ 45
  low_part = finger_low z finger leaves.small small i low

  fingers_by : (j w3 : ℕ) → j < 4 → j ≢ i → note_finger j x w3 ≡ note_finger j w w3
  fingers_by zero w3 l n = refl
  fingers_by (suc zero) w3 l n = refl
  fingers_by (suc (suc zero)) w3 l n = finger_third z finger leaves.small small i low n ∙ high_third z w leaves.upper
  fingers_by (suc (suc (suc zero))) w3 l n = finger_fourth z finger leaves.small small i low n ∙ high_fourth z w leaves.upper
  fingers_by (suc (suc (suc (suc j)))) w3 l n = absurd (omega (arith, l))

  keeps : (w3 x3 : ℕ) → ((j : ℕ) → j < 4 → j ≢ i → note_finger j x x3 ≡ note_finger j x w3) → x3 % 2 ^ 48 ≡ w3 % 2 ^ 48 → KeepsOtherPlaces w w3 x x3 i
  keeps w3 x3 beside records = record {
    used = λ j l n. low_used x z low_part j l
        ∙ flag_other w i side index low side_bit index_bit (28 + j) (omega (arith, l)) (λ e. n (omega (arith, e))) (λ e. omega (arith, e, l)) (λ e. omega (arith, e, l));
    members = λ j l n. low_member x z low_part j l
        ∙ flag_other w i side index low side_bit index_bit (32 + j) (omega (arith, l)) (λ e. omega (arith, e, low)) (λ e. n (omega (arith, e))) (λ e. omega (arith, e, l));
    indexes = λ j l n. low_index x z low_part j l
        ∙ flag_other w i side index low side_bit index_bit (36 + j) (omega (arith, l)) (λ e. omega (arith, e, low)) (λ e. omega (arith, e, low)) (λ e. n (omega (arith, e)));
    fingers = λ j l n. beside j l n ∙ fingers_by j w3 l n;
    count = low_count x z low_part ∙ high_count z w leaves.upper;
    kept = record { slots = low_slots x z low_part ∙ leaves.lower; fingers = records };
  }

  fills : (w3 x3 : ℕ) → KeepsOtherPlaces w w3 x x3 i → FillsPlace w w3 x x3 i side index
  fills w3 x3 others = record {
    is_used = low_used x z low_part i low ∙ flag_used w i side index low side_bit index_bit;
    on_side = low_member x z low_part i low ∙ flag_side w i side index low side_bit index_bit;
    of_index = low_index x z low_part i low ∙ flag_index w i side index low side_bit index_bit;
    others = others;
  }

  -- with the metadata word alone
  pub fills_mark : (w3 : ℕ) → FillsPlace w w3 x w3 i side index
  fills_mark w3 = fills w3 w3 (keeps w3 w3 (λ j l n. refl) refl)

  -- and with word 3 too
  pub fills_place : (w3 : ℕ) → FillsPlace w w3 x (noted_fingers w3 i finger) i side index
  fills_place w3 = fills w3 (noted_fingers w3 i finger) (keeps w3 (noted_fingers w3 i finger) (λ j l n. noted_beside w3 i j x finger small low l n) (noted_records w3 i finger small low))

-- then its fingerprint is there
finger_by : (w i side finger index w3 : ℕ) → w < 2 ^ 64 → i < 4 → finger < 2 ^ 8 → note_finger i (noted_mark w i side finger index) (noted_fingers w3 i finger) ≡ finger
finger_by w zero side finger index w3 fits l small = (sets_low w3 0 6 finger (omega arith) small).here
finger_by w (suc zero) side finger index w3 fits l small = (sets_low w3 0 7 finger (omega arith) small).here
finger_by w (suc (suc zero)) side finger index w3 fits l small = third_there (flagged w 2 side index) finger (flagged_leaves w side index fits 2 (omega arith)).small small
finger_by w (suc (suc (suc zero))) side finger index w3 fits l small = fourth_there (flagged w 3 side index) finger (flagged_leaves w side index fits 3 (omega arith)).small small
finger_by w (suc (suc (suc (suc i)))) side finger index w3 fits l small = absurd (omega (arith, l))

pub finger_there : (w i side finger index w3 : ℕ) → w < 2 ^ 64 → i < 4 → finger < 2 ^ 8 → note_finger i (noted_mark w i side finger index) (noted_fingers w3 i finger) ≡ finger
finger_there w i side finger index w3 fits low small = finger_by w i side finger index w3 fits low small

-- ---- the marks are words
pub noted_fits : (w i side finger index : ℕ) → w < 2 ^ 64 → i < 4 → finger < 2 ^ 8 → noted_mark w i side finger index < 2 ^ 64
noted_fits w zero side finger index fits l small = (flagged_leaves w side index fits 0 l).small
noted_fits w (suc zero) side finger index fits l small = (flagged_leaves w side index fits 1 l).small
noted_fits w (suc (suc zero)) side finger index fits l small =
    or_lt 64 (bit_and (flagged w 2 side index) (2 ^ 64 - 1 - 255 * 2 ^ 45)) (finger * 2 ^ 45) (lt_of_le_of_lt (and_le_l (flagged w 2 side index) (2 ^ 64 - 1 - 255 * 2 ^ 45)) (flagged_leaves w side index fits 2 l).small) (omega (arith, small))
noted_fits w (suc (suc (suc zero))) side finger index fits l small =
    or_lt 64 (bit_and (flagged w 3 side index) (2 ^ 64 - 1 - 255 * 2 ^ 53)) (finger * 2 ^ 53) (lt_of_le_of_lt (and_le_l (flagged w 3 side index) (2 ^ 64 - 1 - 255 * 2 ^ 53)) (flagged_leaves w side index fits 3 l).small) (omega (arith, small))
noted_fits w (suc (suc (suc (suc i)))) side finger index fits l small = absurd (omega (arith, l))
