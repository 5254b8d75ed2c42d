-- Records that are noted one after the other, each in the two buckets of its home.
use Rattle.std.specs.Prelude.{◌≡◌, ◌≢◌, ℕ, ◌+◌, ◌<◌, List, [], ◌∷◌}
use Rattle.bucket_meta.specs.declared.metadata.Meta.{Meta}
use Rattle.bucket_meta.specs.Bucket.{home_side, probing_side}
use Rattle.bucket_meta.specs.Notes.{OverflowNote}
use Rattle.stash.specs.NoteSlots.{IsUnused, IsLowest, HoldsNowhere, NoteSlotBecomes, CountBecomes, filled_note_slot, IsBare}
use Rattle.stash.specs.Segment.{Stashed, bucket, SameSlotsInAll}
use Rattle.hash_word.specs.Hash.{probing_of}
use Rattle.image_layout.specs.Places.{homes}

-- a home bucket and its probing bucket before and after a record is noted: the note takes the lowest unused note slot of
-- the home bucket, else that of the probing bucket, else the home's count is one more
pub record IsNotedIn (home probe home_after probe_after : Meta) (note : OverflowNote) : Type 0 where
  pub in_home : (note_slot : ℕ) → IsLowest (IsUnused home) note_slot → NoteSlotBecomes home home_after note_slot (filled_note_slot home_side note) × (probe_after ≡ probe)
  pub in_probe : HoldsNowhere (IsUnused home) → (note_slot : ℕ) → IsLowest (IsUnused probe) note_slot → NoteSlotBecomes probe probe_after note_slot (filled_note_slot probing_side note) × (home_after ≡ home)
  pub counted : HoldsNowhere (IsUnused home) → HoldsNowhere (IsUnused probe) → CountBecomes home home_after (home.ocount + 1) × (probe_after ≡ probe)

-- the 64 buckets before and after a record is noted in the two buckets of its home
pub record IsNotedInSegment (old new : List Meta) (entry : Stashed) : Type 0 where
  pub in_two : (d : Meta)
      → IsNotedIn (bucket old entry.0 d) (bucket old (probing_of entry.0) d) (bucket new entry.0 d) (bucket new (probing_of entry.0) d) (entry.1, entry.2)
  pub others : (b : ℕ) (d : Meta) → b < homes → b ≢ entry.0 → b ≢ probing_of entry.0 → bucket new b d ≡ bucket old b d

-- the 64 buckets before and after each of the records is noted, in the order of the list
abbrev pub AreNotedInOrder : List Stashed → (old new : List Meta) → Type 0
AreNotedInOrder [] old new = new ≡ old
AreNotedInOrder (entry ∷ records) old new = (between : List Meta) × IsNotedInSegment old between entry × AreNotedInOrder records between new

-- all that the 64 buckets say of the stash was made 0
pub record IsCleared (old new : List Meta) : Type 0 where
  pub bare : (b : ℕ) (d : Meta) → b < homes → IsBare (bucket new b d)
  pub slots : SameSlotsInAll old new

-- all that the 64 buckets say of the stash was made 0, and then each of the records was noted in turn
abbrev pub IsRebuilt : (old new : List Meta) → List Stashed → Type 0
IsRebuilt old new records = (cleared : List Meta) × IsCleared old cleared × AreNotedInOrder records cleared new
