-- The words say of each record slot and note slot what the bits of the fields say, before and after a change of one slot, and a bit of a field is set or cleared alone.
use Rattle.std.proofs.Common.{◌≡◌, ◌≢◌, ℕ, ◌-◌, ◌*◌, ◌%◌, ◌^◌, ◌<◌, List, ap, sym, ◌∙◌, inl, inr, zero-add, arith, length, length-set, bit_and, bit_or}
use Rattle.std.specs.Prelude.{slice_index, slice_set}
use Rattle.std.proofs.lemmas.List.{get_or-set_same, get_or-set_other}
use Rattle.std.proofs.lemmas.Bool.{cases_lt}
use Rattle.std.proofs.lemmas.Nat.{one_shl, or_lt, and_le_l, pow_below}
use Rattle.std.proofs.lemmas.Nat.Bits.{bit_at_set_same, bit_at_set_other, bit_at_clear_same, bit_at_clear_other, bit_at_above}
use Rattle.std.specs.Int.{w16}
use Rattle.bucket_meta.specs.declared.metadata.Meta.{Meta}
use Rattle.bucket_meta.specs.Bucket.{allocated, member, note_used, note_member, note_index, finger, note_finger, overflow_count}
use Rattle.word_bits.specs.Bits.{bit}
use Rattle.word_bits.proofs.OneBit.{bit_of_bits}
use Rattle.bucket_meta.specs.MetaWords.{IsMetaOf}
use Rattle.bucket_meta.specs.Slots.{SameElsewhere, SameOverflow}

pub allocated_is : (m : Meta) (w1 w2 w3 s : ℕ) → IsMetaOf m w1 w2 w3 → s < 14 → allocated s w1 ≡ bit s m.alloc
allocated_is m w1 w2 w3 s is within =
    sym (ap (λ n. bit s n) is.alloc ∙ bit_of_bits 0 14 s w1 within ∙ ap (λ i. bit i w1) (zero-add s))

pub member_is : (m : Meta) (w1 w2 w3 s : ℕ) → IsMetaOf m w1 w2 w3 → s < 14 → member s w1 ≡ bit s m.member
member_is m w1 w2 w3 s is within = sym (ap (λ n. bit s n) is.member ∙ bit_of_bits 14 14 s w1 within)

pub note_used_is : (m : Meta) (w1 w2 w3 i : ℕ) → IsMetaOf m w1 w2 w3 → i < 4 → note_used i w1 ≡ bit i m.used
note_used_is m w1 w2 w3 i is within = sym (ap (λ n. bit i n) is.used ∙ bit_of_bits 28 4 i w1 within)

pub note_member_is : (m : Meta) (w1 w2 w3 i : ℕ) → IsMetaOf m w1 w2 w3 → i < 4 → note_member i w1 ≡ bit i m.omember
note_member_is m w1 w2 w3 i is within = sym (ap (λ n. bit i n) is.omember ∙ bit_of_bits 32 4 i w1 within)

pub note_index_is : (m : Meta) (w1 w2 w3 i : ℕ) → IsMetaOf m w1 w2 w3 → i < 4 → note_index i w1 ≡ bit i m.oindex
note_index_is m w1 w2 w3 i is within = sym (ap (λ n. bit i n) is.oindex ∙ bit_of_bits 36 4 i w1 within)

-- ---- words before and after a change of one slot

-- a slot whose bit the change left is allocated as before
pub allocated_stays : (old new : Meta) (v1 v2 v3 w1 w2 w3 slot s : ℕ) → IsMetaOf old v1 v2 v3 → IsMetaOf new w1 w2 w3
    → SameElsewhere old.alloc new.alloc slot → s < 14 → s ≢ slot → allocated s w1 ≡ allocated s v1
allocated_stays old new v1 v2 v3 w1 w2 w3 slot s was is same within other =
    allocated_is new w1 w2 w3 s is within ∙ same s other ∙ sym (allocated_is old v1 v2 v3 s was within)

pub member_stays : (old new : Meta) (v1 v2 v3 w1 w2 w3 slot s : ℕ) → IsMetaOf old v1 v2 v3 → IsMetaOf new w1 w2 w3
    → SameElsewhere old.member new.member slot → s < 14 → s ≢ slot → member s w1 ≡ member s v1
member_stays old new v1 v2 v3 w1 w2 w3 slot s was is same within other =
    member_is new w1 w2 w3 s is within ∙ same s other ∙ sym (member_is old v1 v2 v3 s was within)

-- the fingerprint that was put at a slot, and those of the other slots
pub finger_placed : (fps : List ℕ) (new : Meta) (w1 w2 w3 slot number : ℕ) → length fps ≡ 14 → IsMetaOf new w1 w2 w3
    → new.fps ≡ slice_set fps slot number → slot < 14 → finger slot w2 w3 ≡ number
finger_placed fps new w1 w2 w3 slot number fourteen is put within =
    let inside : slot < length fps = omega arith in
    sym (is.fps slot within) ∙ ap (λ xs. slice_index xs slot) put ∙ get_or-set_same fps slot number 0 inside

pub finger_stays : (old new : Meta) (v1 v2 v3 w1 w2 w3 slot number s : ℕ) → IsMetaOf old v1 v2 v3 → IsMetaOf new w1 w2 w3
    → new.fps ≡ slice_set old.fps slot number → s < 14 → s ≢ slot → finger s w2 w3 ≡ finger s v2 v3
finger_stays old new v1 v2 v3 w1 w2 w3 slot number s was is put within other =
    sym (is.fps s within) ∙ ap (λ xs. slice_index xs s) put ∙ get_or-set_other old.fps slot s number 0 other ∙ was.fps s within

-- what the words say of the stash is as it was
pub note_used_stays : (old new : Meta) (v1 v2 v3 w1 w2 w3 i : ℕ) → IsMetaOf old v1 v2 v3 → IsMetaOf new w1 w2 w3
    → SameOverflow old new → i < 4 → note_used i w1 ≡ note_used i v1
note_used_stays old new v1 v2 v3 w1 w2 w3 i was is same within =
    note_used_is new w1 w2 w3 i is within ∙ ap (λ n. bit i n) same.used ∙ sym (note_used_is old v1 v2 v3 i was within)

pub note_member_stays : (old new : Meta) (v1 v2 v3 w1 w2 w3 i : ℕ) → IsMetaOf old v1 v2 v3 → IsMetaOf new w1 w2 w3
    → SameOverflow old new → i < 4 → note_member i w1 ≡ note_member i v1
note_member_stays old new v1 v2 v3 w1 w2 w3 i was is same within =
    note_member_is new w1 w2 w3 i is within ∙ ap (λ n. bit i n) same.omember ∙ sym (note_member_is old v1 v2 v3 i was within)

pub note_index_stays : (old new : Meta) (v1 v2 v3 w1 w2 w3 i : ℕ) → IsMetaOf old v1 v2 v3 → IsMetaOf new w1 w2 w3
    → SameOverflow old new → i < 4 → note_index i w1 ≡ note_index i v1
note_index_stays old new v1 v2 v3 w1 w2 w3 i was is same within =
    note_index_is new w1 w2 w3 i is within ∙ ap (λ n. bit i n) same.oindex ∙ sym (note_index_is old v1 v2 v3 i was within)

pub note_finger_stays : (old new : Meta) (v1 v2 v3 w1 w2 w3 i : ℕ) → IsMetaOf old v1 v2 v3 → IsMetaOf new w1 w2 w3
    → SameOverflow old new → i < 4 → note_finger i w1 w3 ≡ note_finger i v1 v3
note_finger_stays old new v1 v2 v3 w1 w2 w3 i was is same within =
    sym (is.ofps i within) ∙ ap (λ xs. slice_index xs i) same.ofps ∙ was.ofps i within

pub overflow_count_stays : (old new : Meta) (v1 v2 v3 w1 w2 w3 : ℕ) → IsMetaOf old v1 v2 v3 → IsMetaOf new w1 w2 w3
    → SameOverflow old new → overflow_count w1 ≡ overflow_count v1
overflow_count_stays old new v1 v2 v3 w1 w2 w3 was is same = sym is.ocount ∙ same.ocount ∙ was.ocount

-- ---- one bit of a field

-- `slots | 1 << k` at 16 bits has k, and is otherwise as it was
pub set_same : (slots k : ℕ) → k < 16 → bit k (bit_or slots (1 * 2 ^ k % 65536)) ≡ 1
set_same slots k within = bit_at_set_same w16 slots k within

pub set_other : (slots k s : ℕ) → k < 16 → s ≢ k → bit s (bit_or slots (1 * 2 ^ k % 65536)) ≡ bit s slots
set_other slots k s within other = bit_at_set_other w16 slots k within s other

pub set_below : (slots k : ℕ) → slots < 2 ^ 14 → k < 14 → bit_or slots (1 * 2 ^ k % 65536) < 2 ^ 14
set_below slots k whole within =
    let power : 1 * 2 ^ k % 65536 ≡ 2 ^ k = one_shl k 16 (omega arith) in
    or_lt 14 slots _ whole (rw power (pow_below k 14 within))

-- a fingerprint that is put at a slot leaves 14 of them
pub fourteen_stay : (fps : List ℕ) (slot number : ℕ) → length fps ≡ 14 → length (slice_set fps slot number) ≡ 14
fourteen_stay fps slot number fourteen = length-set fps slot number ∙ fourteen

-- `slots & !(1 << k)` at 16 bits has no k, and is otherwise as it was
pub clear_same : (slots k : ℕ) → k < 16 → bit k (bit_and slots (65535 - 1 * 2 ^ k % 65536)) ≡ 0
clear_same slots k within = bit_at_clear_same w16 slots k within

pub clear_other : (slots k s : ℕ) → slots < 2 ^ 16 → k < 16 → s ≢ k → bit s (bit_and slots (65535 - 1 * 2 ^ k % 65536)) ≡ bit s slots
clear_other slots k s whole within other =
    let rest = bit_and slots (65535 - 1 * 2 ^ k % 65536) in
    let less : rest < 2 ^ 16 = omega (arith, and_le_l slots (65535 - 1 * 2 ^ k % 65536)) in
    elim (cases_lt s 16) [
      | inl low ↦ bit_at_clear_other w16 slots k within s low other
      | inr high ↦ bit_at_above rest 16 s less high ∙ sym (bit_at_above slots 16 s whole high)
    ]

pub clear_below : (slots k : ℕ) → slots < 2 ^ 14 → bit_and slots (65535 - 1 * 2 ^ k % 65536) < 2 ^ 14
clear_below slots k whole = omega (arith, and_le_l slots (65535 - 1 * 2 ^ k % 65536))
