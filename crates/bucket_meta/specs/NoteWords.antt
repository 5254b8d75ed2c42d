-- Overflow notes in the words of a bucket: where one stands or may be put, and the words with it and without it.
use Rattle.std.specs.Prelude.{◌≡◌, ◌≢◌, ℕ, zero, suc, ◌+◌, ◌-◌, ◌*◌, ◌%◌, ◌^◌, ◌<◌, ◌==◌, Bool, not, Option, bit_and, bit_or, if◌then◌else◌}
use Rattle.std.specs.Int.{bit_not, w64}
use Rattle.word_bits.specs.Bits.{mask}
use Rattle.hash_word.specs.Hash.{fingerprint_bits, finger_mask}
use Rattle.bucket_meta.specs.Bucket.{note_used, note_member, note_index, note_finger, overflow_count, note_slots, lower_notes, last_lower_note, last_note, rest_fingers, note_used_from, note_member_from, note_index_from, count_from, upper_fingers_from, last_finger_from, note_fingers_from, slots_part, slot_fingers_part, KeepsRecords}
use Rattle.bucket_meta.specs.Marks.{with_finger}
use Rattle.bucket_meta.specs.Visits.{is_note}
use Rattle.bucket_meta.specs.Search.{lowest_among}

-- the lowest note slot with a note of this side, fingerprint and stash bucket
abbrev pub note_place : ℕ → ℕ → ℕ → ℕ → ℕ → Option ℕ
note_place w1 w3 side finger index = lowest_among (is_note w1 w3 side finger index) 0 note_slots

-- the bits of the metadata word that have the fingerprint of note slot i: an upper one has its there
abbrev pub finger_bits : ℕ → ℕ
finger_bits i = if i == lower_notes then finger_mask * 2 ^ upper_fingers_from else if i == last_note then finger_mask * 2 ^ last_finger_from else 0

-- the metadata word where note slot i is free: each of its bits there is 0
abbrev pub freed_mark : ℕ → ℕ → ℕ
freed_mark w1 i =
    bit_and (bit_and (bit_and (bit_and w1 (bit_not w64 (mask (note_used_from + i)))) (bit_not w64 (mask (note_member_from + i))))
    (bit_not w64 (mask (note_index_from + i)))) (bit_not w64 (finger_bits i))

-- word 3 with the fingerprint of note slot i, where that stands there: a lower one has its behind those of record slots
abbrev pub noted_fingers : ℕ → ℕ → ℕ → ℕ
noted_fingers w3 i finger =
    if i == 0 then with_finger w3 rest_fingers finger
    else if i == last_lower_note then with_finger w3 (rest_fingers + last_lower_note) finger
    else w3

-- word 3 where note slot i is free: its fingerprint, where that stands there, is 0
abbrev pub freed_fingers : ℕ → ℕ → ℕ
freed_fingers w3 i = noted_fingers w3 i 0

-- the metadata word with one record less that stands in the stash without a note
abbrev pub lowered_count : ℕ → ℕ
lowered_count w1 = w1 - 2 ^ count_from

-- words x1 and x3 say of the places other than i, of the count and of the record slots what w1 and w3 say
pub record KeepsOtherPlaces (w1 w3 x1 x3 i : ℕ) : Type 0 where
  pub used : (j : ℕ) → j < note_slots → j ≢ i → note_used j x1 ≡ note_used j w1
  pub members : (j : ℕ) → j < note_slots → j ≢ i → note_member j x1 ≡ note_member j w1
  pub indexes : (j : ℕ) → j < note_slots → j ≢ i → note_index j x1 ≡ note_index j w1
  pub fingers : (j : ℕ) → j < note_slots → j ≢ i → note_finger j x1 x3 ≡ note_finger j w1 w3
  pub count : overflow_count x1 ≡ overflow_count w1
  pub kept : KeepsRecords w1 w3 x1 x3
  pub open kept use {slots, fingers as records}

-- they have note slot i free, and say of the others what w1 and w3 say
pub record FreesPlace (w1 w3 x1 x3 i : ℕ) : Type 0 where
  pub free : note_used i x1 ≡ 0
  pub others : KeepsOtherPlaces w1 w3 x1 x3 i

-- ---- a note that is put in
-- no note stands on note slot i
abbrev pub is_unused : ℕ → ℕ → Bool
is_unused w1 i = not (note_used i w1 == 1)

-- the lowest such note slot
abbrev pub unused_place : ℕ → Option ℕ
unused_place w1 = lowest_among (is_unused w1) 0 note_slots

-- a word with bit i set where `on` is 1, and else cleared
abbrev pub with_bit : ℕ → ℕ → ℕ → ℕ
with_bit w i on = if on == 1 then bit_or w (mask i) else bit_and w (bit_not w64 (mask i))

-- the metadata word with the fingerprint of note slot i, where that stands there
abbrev pub with_note_finger : ℕ → ℕ → ℕ → ℕ
with_note_finger w1 i finger =
    if i == lower_notes then bit_or (bit_and w1 (bit_not w64 (finger_bits lower_notes))) (finger * 2 ^ upper_fingers_from)
    else if i == last_note then bit_or (bit_and w1 (bit_not w64 (finger_bits last_note))) (finger * 2 ^ last_finger_from)
    else w1

-- the metadata word where note slot i has a note of this side, fingerprint and stash bucket, whatever it had
abbrev pub noted_mark : ℕ → ℕ → ℕ → ℕ → ℕ → ℕ
noted_mark w1 i side finger index =
    with_note_finger (with_bit (with_bit (with_bit w1 (note_used_from + i) 1) (note_member_from + i) side) (note_index_from + i) index) i finger

-- the metadata word with one record more that stands in the stash without a note
abbrev pub raised_count : ℕ → ℕ
raised_count w1 = (w1 + 2 ^ count_from) % 2 ^ 64

-- they have note slot i used for a note of this side and stash bucket, and say of the others what w1 and w3 say
pub record FillsPlace (w1 w3 x1 x3 i side index : ℕ) : Type 0 where
  pub is_used : note_used i x1 ≡ 1
  pub on_side : note_member i x1 ≡ side
  pub of_index : note_index i x1 ≡ index
  pub others : KeepsOtherPlaces w1 w3 x1 x3 i

-- ---- words 1 and 3 that are made anew
-- bit 0 and the n bits above it as a number
abbrev pub number_of_bits : (ℕ → ℕ) → ℕ → ℕ
number_of_bits bit_of zero = bit_of 0
number_of_bits bit_of (suc n) = number_of_bits bit_of n + 2 ^ (suc n) * bit_of (suc n)

-- a bit of each note slot as a number, that of the first lowest
abbrev pub four : (ℕ → ℕ) → ℕ
four bit_of = number_of_bits bit_of last_note

-- the metadata word that says of the record slots what w1 says, and has of each note slot whether it is used, for which side and for which stash
-- bucket, the count, and the fingerprints of the upper note slots
abbrev pub first_made : ℕ → (used side index : ℕ → ℕ) → (count third fourth : ℕ) → ℕ
first_made w1 used side index count third fourth =
    slots_part w1 + 2 ^ note_used_from * four used + 2 ^ note_member_from * four side + 2 ^ note_index_from * four index
    + 2 ^ count_from * count + 2 ^ upper_fingers_from * third + 2 ^ last_finger_from * fourth

-- word 3 that says of the record slots what w3 says, and has the fingerprints of the lower note slots
abbrev pub third_made : ℕ → (first second : ℕ) → ℕ
third_made w3 first second = slot_fingers_part w3 + 2 ^ note_fingers_from * first + 2 ^ (note_fingers_from + fingerprint_bits) * second
