-- What rebuilt overflow notes are, as a value: records of the stash are noted one after the other, each in the lowest unused note slot of
-- its home, else of its probing bucket, else in the count of its home; and words 1 and 3 of a bucket are made of that.
use Rattle.std.specs.Prelude.{ℕ, ◌+◌, ◌==◌, Option, None, Some, List, [], ◌∷◌, if◌then◌else◌}
use Rattle.hash_word.specs.Hash.{probing_of}
use Rattle.bucket_meta.specs.Bucket.{note_slots, lower_notes, last_lower_note, last_note, home_side, probing_side}
use Rattle.bucket_meta.specs.Search.{lowest_among}
use Rattle.bucket_meta.specs.NoteWords.{first_made, third_made}
use Rattle.stash.specs.NoteSlots.{NoteSlot, filled_note_slot, freed_note_slot}
use Rattle.stash.specs.Segment.{Stashed}
use Rattle.whole_segment.specs.Notes.{stash_entries}

-- what a bucket says of the stash: its note slots, and its count
pub record Overflow : Type 0 where
  pub slots : ℕ → NoteSlot
  pub count : ℕ

-- nothing
abbrev pub no_overflow : Overflow
no_overflow = record { slots = λ i. freed_note_slot; count = 0 }

-- the lowest note slot without a note
abbrev pub unused_in : Overflow → Option ℕ
unused_in o = lowest_among (λ i. (o.slots i).used == 0) 0 note_slots

-- with one note slot filled, and with one record more that has no note
abbrev pub with_note : Overflow → ℕ → NoteSlot → Overflow
with_note o k note = record { slots = λ i. if i == k then note else o.slots i; count = o.count }

abbrev pub with_count : Overflow → Overflow
with_count o = record { slots = o.slots; count = o.count + 1 }

-- what all buckets say, with one of them changed
abbrev pub changed : (ℕ → Overflow) → ℕ → Overflow → ℕ → Overflow
changed all b o c = if c == b then o else all c

-- ONE RECORD IS NOTED, by the note slots that are unused in its home and in its probing bucket
abbrev pub noted_by : Option ℕ → Option ℕ → (ℕ → Overflow) → Stashed → ℕ → Overflow
noted_by (Some k) other all entry = changed all entry.0 (with_note (all entry.0) k (filled_note_slot home_side (entry.1, entry.2)))
noted_by None (Some k) all entry = changed all (probing_of entry.0) (with_note (all (probing_of entry.0)) k (filled_note_slot probing_side (entry.1, entry.2)))
noted_by None None all entry = changed all entry.0 (with_count (all entry.0))

abbrev pub noted : (ℕ → Overflow) → Stashed → ℕ → Overflow
noted all entry = noted_by (unused_in (all entry.0)) (unused_in (all (probing_of entry.0))) all entry

-- all records are, in their order
unfoldable pub all_noted : List Stashed → (ℕ → Overflow) → ℕ → Overflow
all_noted [] all = all
all_noted (entry ∷ entries) all = all_noted entries (noted all entry)

-- ---- words 1 and 3 of a bucket that say so, and of the record slots what others say
abbrev pub first_with : ℕ → Overflow → ℕ
first_with w1 o =
    first_made w1 (λ i. (o.slots i).used) (λ i. (o.slots i).side) (λ i. (o.slots i).index) o.count (o.slots lower_notes).finger (o.slots last_note).finger

abbrev pub third_with : ℕ → Overflow → ℕ
third_with w3 o = third_made w3 (o.slots 0).finger (o.slots last_lower_note).finger

-- THE REBUILT NOTES of a segment
abbrev pub rebuilt : (first : ℕ → ℕ) (key : ℕ → ℕ → ℕ) (hash : ℕ → ℕ) → ℕ → Overflow
rebuilt first key hash = all_noted (stash_entries first key hash) (λ b. no_overflow)
