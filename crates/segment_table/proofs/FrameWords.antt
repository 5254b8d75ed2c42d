-- Which words the frame is read from: none of a bucket, of an area that is not the root's, or behind the image.
use Rattle.std.proofs.Common.{◌≡◌, ◌≢◌, ℕ, ◌+◌, ◌^◌, ◌<◌, ◌≤◌, inl, inr, ap, arith}
use Rattle.std.proofs.lemmas.Nat.{pow_pos}
use Rattle.sound_image.specs.Places.{Shape, root_word, entry_at, bucket_at, words_of}
use Rattle.sound_image.specs.Parts.{Part, front, entry, head, meta, key, value}
use Rattle.sound_image.proofs.Areas.{entry_before}
use Rattle.sound_image.proofs.PartWords.{parts_apart}
use Rattle.sound_image.specs.Segments.{ImageWords}
use Rattle.segment_table.specs.Stores.{IsFrameWord}

-- the area of an entry
abbrev area_of : Part → ℕ
area_of (front w) = 0
area_of (entry e i) = e
area_of (head s w) = 0
area_of (meta s b w) = 0
area_of (key s b r) = 0
area_of (value s b r) = 0

module _ (shape : Shape) (word : ImageWords) (low : word root_word ≤ shape.depth) where
  pub other_areas_apart : (e i : ℕ) → e ≤ shape.depth → i < 2 ^ e → e ≢ word root_word → IsFrameWord shape word (entry_at e i) → ⊥
  other_areas_apart e i within below other (inl is) = omega (arith, is, pow_pos e)
  other_areas_apart e i within below other (inr (inl is)) = omega (arith, is, pow_pos e)
  other_areas_apart e i within below other (inr (inr (inl (s, slot, inl is)))) = omega (arith, is, entry_before shape e i within below)
  other_areas_apart e i within below other (inr (inr (inl (s, slot, inr is)))) = omega (arith, is, entry_before shape e i within below)
  other_areas_apart e i within below other (inr (inr (inr (j, inside, is)))) =
      other (same_area (parts_apart shape (entry e i) (entry (word root_word) j) (within, below) (low, inside) is))
    where
      same_area : entry e i ≡ entry (word root_word) j → e ≡ word root_word
      same_area same = ap area_of same

  pub buckets_apart : (s b n : ℕ) → b < 66 → n < 32 → IsFrameWord shape word (bucket_at shape s b + n) → ⊥
  buckets_apart s b n bucket inside (inl is) = omega arith
  buckets_apart s b n bucket inside (inr (inl is)) = omega arith
  buckets_apart s b n bucket inside (inr (inr (inl (t, slot, inl is)))) = omega arith
  buckets_apart s b n bucket inside (inr (inr (inl (t, slot, inr is)))) = omega arith
  buckets_apart s b n bucket inside (inr (inr (inr (j, below, is)))) = omega (arith, is, entry_before shape (word root_word) j low below)

  pub behind_apart : (i : ℕ) → words_of shape ≤ i → IsFrameWord shape word i → ⊥
  behind_apart i behind (inl is) = omega arith
  behind_apart i behind (inr (inl is)) = omega arith
  behind_apart i behind (inr (inr (inl (s, slot, inl is)))) = omega arith
  behind_apart i behind (inr (inr (inl (s, slot, inr is)))) = omega arith
  behind_apart i behind (inr (inr (inr (j, below, is)))) = omega (arith, is, behind, entry_before shape (word root_word) j low below)
