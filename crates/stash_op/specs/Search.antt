-- What the loaded words say: where a stash bucket has a free slot, what is stored of the record, and what of its note.
use Rattle.std.specs.Prelude.{◌==◌, ℕ, Bool, true, false, Option, None, Some, List, slice_index, if◌then◌else◌}
use Rattle.hash_word.specs.Hash.{finger_of}
use Rattle.bucket_meta.specs.Bucket.{mark_place, rest_place, home_side, probing_side}
use Rattle.bucket_meta.specs.Search.{lowest_free}
use Rattle.bucket_meta.specs.Marks.{inserted_mark, finger_place, with_finger}
use Rattle.bucket_meta.specs.NoteWords.{unused_place, noted_mark, noted_fingers, raised_count}
use Rattle.phase.specs.declared.role.Role.{Role}
use Rattle.phase.specs.declared.role.Role.TheVariants as place
use Rattle.phase.specs.declared.kept.Buckets.{Buckets}
use Rattle.phase.specs.declared.kept.Kept.{Kept}
use Rattle.phase.specs.declared.make.Record.{Record}
use Rattle.phase.specs.Places.{stash_index}
use Rattle.phase.specs.Buckets.{words_in}
use Rattle.phase.specs.Makes.{brought}
use Rattle.stash_op.specs.declared.step.StashBucket.{StashBucket}
use Rattle.stash_op.specs.declared.step.StashBucket.TheVariants.{First, Second}
use Rattle.stash_op.specs.declared.step.NoteBucket.{NoteBucket}
use Rattle.stash_op.specs.declared.step.NoteBucket.TheVariants.{Home, Probing}
use Rattle.stash_op.specs.declared.step.NoteWords.{NoteWords}
use Rattle.stash_op.specs.declared.step.Seen.{Seen}

-- ---- buckets
-- a stash bucket among the buckets of a key
abbrev pub place_of : StashBucket → Role
place_of First = place.First
place_of Second = place.Second

-- and its number among the stash buckets
abbrev pub index_of : StashBucket → ℕ
index_of bucket = stash_index (place_of bucket)

-- the bucket of a note among the buckets of a key
abbrev pub note_place : NoteBucket → Role
note_place Home = place.Home
note_place Probing = place.Probing

-- and the side of the notes that it keeps of this home
abbrev pub side_of : NoteBucket → ℕ
side_of Home = home_side
side_of Probing = probing_side

-- ---- the record
-- the lowest free slot of a stash bucket
abbrev pub free_slot : Buckets → StashBucket → Option ℕ
free_slot buckets bucket = lowest_free (slice_index (words_in buckets (place_of bucket)) mark_place)

-- what is stored of it in a slot of a bucket with these words; in the stash it has no membership bit
abbrev pub record_by : Kept → List ℕ → ℕ → Record
record_by kept words slot = record {
  slot = slot;
  key = kept.change.key;
  value = brought kept.change.effect;
  fingers = with_finger (slice_index words (finger_place slot)) slot (finger_of kept.hash);
  published = mark_place;
  mark = inserted_mark (slice_index words mark_place) slot;
}

abbrev pub record_in : Kept → Buckets → StashBucket → ℕ → Record
record_in kept buckets bucket slot = record_by kept (words_in buckets (place_of bucket)) slot

-- ---- its note
-- words 1 and 3 of a bucket with the note on a note slot, or else what is made instead
abbrev pub noted_or : NoteBucket → List ℕ → ℕ → ℕ → Option ℕ → NoteWords → NoteWords
noted_or bucket words finger index (Some i) rest = record {
  bucket = bucket;
  mark = noted_mark (slice_index words mark_place) i (side_of bucket) finger index;
  fingers = noted_fingers (slice_index words rest_place) i finger;
}
noted_or bucket words finger index None rest = rest

-- the lowest unused note slot of the home bucket takes it, else that of the probing bucket, and else it is counted in the home bucket
abbrev pub noted_by : List ℕ → List ℕ → ℕ → ℕ → NoteWords
noted_by home probing finger index =
    noted_or Home home finger index (unused_place (slice_index home mark_place))
    (noted_or Probing probing finger index (unused_place (slice_index probing mark_place))
    (record { bucket = Home; mark = raised_count (slice_index home mark_place); fingers = slice_index home rest_place }))

abbrev pub noted : ℕ → Seen → NoteWords
noted hash seen = noted_by seen.buckets.home seen.buckets.probing (finger_of hash) (index_of seen.bucket)

-- whether its fingerprint word changes too
abbrev pub has_finger : Seen → NoteWords → Bool
has_finger seen note = if slice_index (words_in seen.buckets (note_place note.bucket)) rest_place == note.fingers then false else true
