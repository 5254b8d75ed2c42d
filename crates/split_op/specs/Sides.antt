-- THE WORDS OF A SIDE, by what is kept of its segment: all are as they are kept, but for the metadata, which is that of the records of the 1-side
-- alone.
use Rattle.std.specs.Prelude.{◌≡◌, ◌≢◌, ℕ, zero, suc, ◌+◌, ◌<◌, ◌≤◌, ◌==◌, nat_lt, length, slice_index, List, if◌then◌else◌}
use Rattle.bucket_meta.specs.Bucket.{mark_place, fingers_place, rest_place, fingers_of_word, rest_fingers, slot_fingers_part}
use Rattle.bucket_meta.specs.Search.{is_taken}
use Rattle.bucket_meta.specs.Marks.{copied_mark, with_finger}
use Rattle.image_layout.specs.Places.{homes, buckets, block, words_of_buckets, bucket_among, place_in_bucket}
use Rattle.sound_image.specs.Records.{key_hash}
use Rattle.whole_segment.specs.Words.{words_by, word_of_bucket}
use Rattle.whole_segment.specs.Records.{first_in}
use Rattle.whole_segment.specs.Rebuilding.{Overflow, first_with, third_with, rebuilt}
use Rattle.whole_segment.specs.declared.loaded.Loaded.{Loaded}
use Rattle.whole_segment.specs.declared.notes.Notes.{Notes}
use Rattle.enclose_op.specs.declared.enclosed.Enclosed.{Enclosed}
use Rattle.enclose_op.specs.Whole.{kept_word, kept_first, kept_third, kept_key, side_slots}

-- word m of bucket b of a side
abbrev pub side_word : List ℕ → ℕ → ℕ → ℕ
side_word words b m = word_of_bucket words b m

-- ---- fingerprints
-- a word of fingerprints in which so many slots, from one on, have none where they are not taken
unfoldable pub without_free : (mark word from : ℕ) → ℕ → ℕ
without_free mark word from zero = word
without_free mark word from (suc n) = if is_taken mark (from + n) then without_free mark word from n else with_finger (without_free mark word from n) (from + n) 0

-- word 2 with the fingerprints of its taken slots alone, and word 3, whose notes are as they are
abbrev pub low_fingers : (mark word : ℕ) → ℕ
low_fingers mark word = without_free mark word 0 fingers_of_word

abbrev pub high_fingers : (mark word : ℕ) → ℕ
high_fingers mark word = without_free mark word fingers_of_word rest_fingers

-- ---- a side
module _ (e : Enclosed) where
  -- word 1 of each bucket with the records of the 1-side alone, and without notes
  abbrev pub bare_mark : ℕ → ℕ
  bare_mark b = copied_mark (kept_first e b) (side_slots e b)

  -- the notes of each home, made anew of those records that stand in the stash
  abbrev pub side_notes : ℕ → Overflow
  side_notes = rebuilt bare_mark (kept_key e) (key_hash e.site.geometry)

  -- words 1 and 3 with these notes in homes, and without notes in stash buckets
  abbrev pub side_mark : ℕ → ℕ
  side_mark b = if nat_lt b homes then first_with (bare_mark b) (side_notes b) else bare_mark b

  abbrev pub side_third : ℕ → ℕ
  side_third b = if nat_lt b homes then third_with (kept_third e b) (side_notes b) else slot_fingers_part (kept_third e b)

  -- word m of bucket b of a side, with the fingerprints of all slots
  abbrev pub marked_word : ℕ → ℕ → ℕ
  marked_word b m = if m == mark_place then side_mark b else if m == rest_place then side_third b else kept_word e b m

-- of words of buckets, those that have the fingerprints of taken slots alone
abbrev pub thinned_word : (word : ℕ → ℕ → ℕ) → ℕ → ℕ → ℕ
thinned_word word b m = if m == fingers_place then low_fingers (word b mark_place) (word b fingers_place) else if m == rest_place then high_fingers (word b mark_place) (word b rest_place) else word b m

-- THE WORDS OF A SIDE, by their numbers among those of the buckets
abbrev pub side_words : Enclosed → List ℕ
side_words e = words_by words_of_buckets (λ i. thinned_word (marked_word e) (bucket_among i) (place_in_bucket i))

-- ---- how they are made
-- THE METADATA is that of the notes in homes, and of the half in stash buckets, whose word 3 has fingerprints of slots alone; all other words are
-- as they are kept
pub record HasMarks (kept : List ℕ) (half : Loaded) (notes : Notes) (words : List ℕ) : Type 0 where
  pub each : length words ≡ words_of_buckets
  pub first : (b : ℕ) → b < homes → side_word words b mark_place ≡ slice_index notes.first b
  pub third : (b : ℕ) → b < homes → side_word words b rest_place ≡ slice_index notes.third b
  pub stash : (b : ℕ) → homes ≤ b → b < buckets → side_word words b mark_place ≡ first_in half b
  pub stash_third : (b : ℕ) → homes ≤ b → b < buckets → side_word words b rest_place ≡ slot_fingers_part (side_word kept b rest_place)
  pub others : (b m : ℕ) → b < buckets → m < block → m ≢ mark_place → m ≢ rest_place → side_word words b m ≡ side_word kept b m

-- EACH BUCKET has the fingerprints of taken slots alone, and all other words are the same
pub record IsThinned (words thin : List ℕ) : Type 0 where
  pub each : length thin ≡ words_of_buckets
  pub low : (b : ℕ) → b < buckets → side_word thin b fingers_place ≡ low_fingers (side_word words b mark_place) (side_word words b fingers_place)
  pub high : (b : ℕ) → b < buckets → side_word thin b rest_place ≡ high_fingers (side_word words b mark_place) (side_word words b rest_place)
  pub others : (b m : ℕ) → b < buckets → m < block → m ≢ fingers_place → m ≢ rest_place → side_word thin b m ≡ side_word words b m
