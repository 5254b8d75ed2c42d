-- What the loaded words say: where the key stands, which stash buckets are to be visited, where a slot is free, what is
-- stored of a record, and how the note of one is taken away that leaves the stash.
use Rattle.std.specs.Prelude.{◌==◌, ℕ, Bool, true, false, Option, None, Some, List, slice_index, if◌then◌else◌}
use Rattle.hash_word.specs.Hash.{finger_of}
use Rattle.bucket_meta.specs.Bucket.{mark_place, rest_place, value_place, home_side, probing_side}
use Rattle.bucket_meta.specs.Search.{lowest_with, lowest_free}
use Rattle.bucket_meta.specs.Marks.{inserted_mark, member_mark, removed_mark, finger_place, with_finger}
use Rattle.bucket_meta.specs.NoteWords.{note_place, freed_mark, freed_fingers, lowered_count}
use Rattle.bucket_meta.specs.Visits.{must_visit}
use Rattle.balance.specs.declared.choice.Choice.{Choice}
use Rattle.balance.specs.declared.choice.Choice.TheVariants as choice
use Rattle.balance.specs.Choices.{choice_of}
use Rattle.map_model.specs.declared.change.Effect.{Effect}
use Rattle.map_model.specs.declared.change.Effect.TheVariants.{Insert, Update, Remove}
use Rattle.phase.specs.declared.role.Role.{Role}
use Rattle.phase.specs.declared.role.Role.TheVariants.{Home, Probing, First, Second}
use Rattle.phase.specs.declared.kept.Buckets.{Buckets}
use Rattle.phase.specs.declared.make.Record.{Record}
use Rattle.phase.specs.Places.{stash_index}
use Rattle.phase.specs.Buckets.{words_in}
use Rattle.phase.specs.Makes.{brought}
use Rattle.write_op.specs.declared.step.Task.{Task}
use Rattle.write_op.specs.declared.step.Spot.{Spot}
use Rattle.write_op.specs.declared.step.Seen.{Seen}
use Rattle.write_op.specs.declared.search.NoteWords.{NoteWords}

-- ---- where the key stands, and where a slot is free
-- this slot of a bucket, or else what is found behind it
abbrev pub spot_or : Role → Option ℕ → Option Spot → Option Spot
spot_or place (Some slot) rest = Some (record { place = place; slot = slot })
spot_or place None rest = rest

-- the slot of a key, in a bucket that is visited
abbrev pub slot_in : Bool → List ℕ → ℕ → Option ℕ
slot_in true words key = lowest_with words key
slot_in false words key = None

-- the first slot with the key: in the home bucket, the probing bucket, and the stash buckets that are visited
abbrev pub found : Seen → ℕ → Option Spot
found seen key =
    spot_or Home (slot_in true seen.buckets.home key)
    (spot_or Probing (slot_in true seen.buckets.probing key)
    (spot_or First (slot_in seen.first seen.buckets.first key)
    (spot_or Second (slot_in seen.second seen.buckets.second key) None)))

-- the lowest free slot of the bucket that is chosen
abbrev pub room_by : Choice → Buckets → Option Spot
room_by choice.Home buckets = spot_or Home (lowest_free (slice_index buckets.home mark_place)) None
room_by choice.Probe buckets = spot_or Probing (lowest_free (slice_index buckets.probing mark_place)) None
room_by choice.Neither buckets = None

-- the slot that a new record takes: in the less full of home and probing bucket, in home where both are as full, and none where both
-- are full
abbrev pub room_in : Buckets → Option Spot
room_in buckets = room_by (choice_of (slice_index buckets.home mark_place) (slice_index buckets.probing mark_place)) buckets

-- whether a stash bucket is to be visited, by the words of home and probing bucket
abbrev pub visits : ℕ → Buckets → ℕ → Bool
visits hash buckets index =
    must_visit (slice_index buckets.home mark_place) (slice_index buckets.home rest_place) (slice_index buckets.probing mark_place) (slice_index buckets.probing rest_place) (finger_of hash) index

-- ---- what is stored of a record
-- a record that stands in its probing bucket has the membership bit too
abbrev pub taken_mark : Role → ℕ → ℕ → ℕ
taken_mark Probing w1 slot = member_mark w1 slot
taken_mark place w1 slot = inserted_mark w1 slot

-- the word whose store makes the change, by its number in the bucket
abbrev pub published_word : Effect → ℕ → ℕ
published_word (Insert value) slot = mark_place
published_word (Update value) slot = value_place slot
published_word Remove slot = mark_place

-- what is stored there
abbrev pub published_mark : Effect → Role → ℕ → ℕ → ℕ
published_mark (Insert value) place w1 slot = taken_mark place w1 slot
published_mark (Update value) place w1 slot = value
published_mark Remove place w1 slot = removed_mark w1 slot

-- what is stored of the record of a change, in a slot of a bucket with these words
abbrev pub record_in : Task → Role → List ℕ → ℕ → Record
record_in task place words slot = record {
  slot = slot;
  key = task.change.key;
  value = brought task.change.effect;
  fingers = with_finger (slice_index words (finger_place slot)) slot (finger_of task.hash);
  published = published_word task.change.effect slot;
  mark = published_mark task.change.effect place (slice_index words mark_place) slot;
}

abbrev pub record_at : Task → Buckets → Spot → Record
record_at task buckets spot = record_in task spot.place (words_in buckets spot.place) spot.slot

-- ---- the note of a record that leaves the stash
-- a remove from there leaves a note that is to be taken away
abbrev pub leaves_note : Effect → Role → Bool
leaves_note Remove First = true
leaves_note Remove Second = true
leaves_note effect place = false

-- words 1 and 3 of a bucket without the note on a place, or else what is made instead
abbrev pub freed_or : Role → List ℕ → Option ℕ → NoteWords → NoteWords
freed_or place words (Some i) rest = record { place = place; mark = freed_mark (slice_index words mark_place) i; fingers = freed_fingers (slice_index words rest_place) i }
freed_or place words None rest = rest

-- the lowest note of it in the home bucket goes, else that in the probing bucket, and else one of those that are counted
abbrev pub unnoted_by : List ℕ → List ℕ → ℕ → ℕ → NoteWords
unnoted_by home probing finger index =
    freed_or Home home (note_place (slice_index home mark_place) (slice_index home rest_place) home_side finger index)
    (freed_or Probing probing (note_place (slice_index probing mark_place) (slice_index probing rest_place) probing_side finger index)
    (record { place = Home; mark = lowered_count (slice_index home mark_place); fingers = slice_index home rest_place }))

abbrev pub unnoted : ℕ → Seen → NoteWords
unnoted hash seen = unnoted_by seen.buckets.home seen.buckets.probing (finger_of hash) (stash_index seen.place)

-- whether its fingerprint word changes too
abbrev pub has_finger : Seen → NoteWords → Bool
has_finger seen note = if slice_index (words_in seen.buckets note.place) rest_place == note.fingers then false else true
