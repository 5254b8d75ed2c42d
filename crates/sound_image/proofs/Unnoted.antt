-- Where a home bucket has no record in the stash, its overflow notes are exact if there are none.
use Rattle.std.specs.Prelude.{◌≡◌, ℕ, ◌+◌, ◌<◌}
use Rattle.hash_word.specs.Hash.{home_of, probing_of}
use Rattle.image_layout.specs.Bucket.{allocated, note_used, note_member, overflow_count}
use Rattle.image_layout.specs.Places.{Shape}
use Rattle.sound_image.specs.Segments.{ImageWords}
use Rattle.sound_image.specs.Records.{word_in, slot_hash}

-- the first metadata word of a bucket has a note on this side: 0 for the bucket's own records, 1 for those of the
-- bucket before it
pub record HasNote (w1 side : ℕ) : Type 0 where
  pub note_slot : ℕ
  pub within : note_slot < 4
  pub used : note_used note_slot w1 ≡ 1
  pub on_side : note_member note_slot w1 ≡ side

module _ (shape : Shape) (word : ImageWords) where
  -- nothing is noted or counted of the records of home b
  pub record IsUnnoted (s b : ℕ) : Type 0 where
    pub no_count : overflow_count (word_in shape word s b 1) ≡ 0
    pub none_here : HasNote (word_in shape word s b 1) 0 → ⊥
    pub none_beside : HasNote (word_in shape word s (probing_of b) 1) 1 → ⊥

  -- no record of home b stands in the stash
  abbrev pub IsUnstashed : ℕ → ℕ → Type 0
  IsUnstashed s b =
      (k r : ℕ) → k < 2 → r < 14 → allocated r (word_in shape word s (64 + k) 1) ≡ 1 → home_of (slot_hash shape word s (64 + k) r) ≡ b → ⊥
