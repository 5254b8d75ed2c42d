-- What a clean image has at the words of a segment of its version, and what rules 4 to 7 say of one segment.
use Rattle.std.specs.Prelude.{◌≡◌, ℕ, ◌+◌, ◌<◌, ◌≤◌}
use Rattle.segment_head.specs.HeadWord.{normal}
use Rattle.image_layout.specs.Places.{Shape, head_at, header_word, buckets, segment_words}
use Rattle.sound_image.specs.Segments.{ImageWords, frame_of, state_at}
use Rattle.sound_image.specs.Directory.{VersionIsPast}
use Rattle.sound_image.specs.Rules.{IsCleanAndCurrent}
use Rattle.image_rules.specs.declared.records.RecordRule.TheVariants.{Stand, Value}
use Rattle.image_rules.specs.Slots.{BucketsFollow, IsRepairedAt}

module _ (shape : Shape) (word : ImageWords) where
  -- the segment is normal, and its buckets are repaired
  pub record IsRepairedSegmentAt (s w : ℕ) : Type 0 where
    pub head : w ≡ header_word shape s → state_at (frame_of shape word) s ≡ normal
    pub in_buckets : (b : ℕ) → b < buckets → IsRepairedAt shape word s b w

  -- a word of the segment is the least at which it is not so
  pub record IsBrokenSegment (s w : ℕ) : Type 0 where
    pub from : head_at shape s ≤ w
    pub within : w < head_at shape s + segment_words
    pub broken : IsRepairedSegmentAt s w → ⊥
    pub before : (v : ℕ) → v < w → IsRepairedSegmentAt s v

  -- those of the image's version in slots below a limit are repaired
  abbrev pub SegmentsRepaired : ℕ → Type 0
  SegmentsRepaired limit = (s : ℕ) → s < limit → IsCleanAndCurrent shape word s → (w : ℕ) → IsRepairedSegmentAt s w

  -- RULES 4 TO 7 of one segment
  -- a key that stands twice in it has one value, and in a clean image of its version it is repaired
  pub record HoldsItsPairs (s : ℕ) : Type 0 where
    pub values : BucketsFollow shape word Value s buckets
    pub repaired : IsCleanAndCurrent shape word s → (w : ℕ) → IsRepairedSegmentAt s w

  -- its own records stand right, its version is not above the image's, and it holds its pairs
  pub record IsSoundSegment (s : ℕ) : Type 0 where
    pub stand : BucketsFollow shape word Stand s buckets
    pub past : VersionIsPast (frame_of shape word) s
    pub pairs : HoldsItsPairs s

  -- those in slots below a limit are so
  abbrev pub AreSoundSegments : ℕ → Type 0
  AreSoundSegments limit = (s : ℕ) → s < limit → IsSoundSegment s
