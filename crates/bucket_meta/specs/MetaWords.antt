-- What the fields of a `Meta` say of the words that it was read from or written to.
use Rattle.std.specs.Prelude.{◌≡◌, ℕ, ◌-◌, ◌<◌, ◌^◌, List, slice_index}
use Rattle.bucket_meta.specs.declared.metadata.Meta.{Meta}
use Rattle.bucket_meta.specs.Bucket.{mark_place, finger, note_finger, record_slots, note_slots, allocated_from, member_from, note_used_from, note_member_from, note_index_from, count_from, count_bits, spare_part}
use Rattle.word_bits.specs.Bits.{bits}

-- of a list of the words of metadata alone, the one that stands at this place of its bucket
abbrev pub meta_word : List ℕ → ℕ → ℕ
meta_word words place = slice_index words (place - mark_place)

-- the fields are those of words 1 to 3 of a bucket
pub record IsMetaOf (m : Meta) (w1 w2 w3 : ℕ) : Type 0 where
  pub alloc : m.alloc ≡ bits allocated_from record_slots w1
  pub member : m.member ≡ bits member_from record_slots w1
  pub used : m.used ≡ bits note_used_from note_slots w1
  pub omember : m.omember ≡ bits note_member_from note_slots w1
  pub oindex : m.oindex ≡ bits note_index_from note_slots w1
  pub ocount : m.ocount ≡ bits count_from count_bits w1
  pub fps : (s : ℕ) → s < record_slots → slice_index m.fps s ≡ finger s w2 w3
  pub ofps : (i : ℕ) → i < note_slots → slice_index m.ofps i ≡ note_finger i w1 w3

-- words of 64 bits, where bits 61 to 63 of the first are 0
pub record AreMetaWords (w1 w2 w3 : ℕ) : Type 0 where
  pub first : w1 < 2 ^ 64
  pub second : w2 < 2 ^ 64
  pub third : w3 < 2 ^ 64
  pub zero : spare_part w1 ≡ 0

-- fields that are those of the same words are the same fields
abbrev pub WordsGiveMeta : Type 0
WordsGiveMeta = (a b : Meta) (w1 w2 w3 : ℕ) → IsMetaOf a w1 w2 w3 → IsMetaOf b w1 w2 w3 → a ≡ b

-- words that have the same fields are the same words
abbrev pub MetaGivesWords : Type 0
MetaGivesWords = (m : Meta) (v1 v2 v3 w1 w2 w3 : ℕ) → AreMetaWords v1 v2 v3 → AreMetaWords w1 w2 w3
    → IsMetaOf m v1 v2 v3 → IsMetaOf m w1 w2 w3 → (v1 ≡ w1) × (v2 ≡ w2) × (v3 ≡ w3)
