-- What a caller holds beside the locks of buckets: guards, and slots that nobody else touches. No area depends on the words: what
-- the words are for a view to have it, `Fits` says.
use Rattle.std.specs.Prelude.{◌≡◌, ◌==◌, not, ℕ, ◌⊎◌, Bool, true, false, List, filter}
use Rattle.image_layout.specs.Places.{Shape}
pub use Rattle.image_layout.specs.Places.{header_word, link_word}
pub use Rattle.image_layout.specs.Ranges.{IsDirectoryWord}
use Rattle.frame_facts.specs.DeadSlots.{IsInSlot}

pub data Area : Type 0 where
  -- the guard of the segment in a slot: its header word and its link
  Segment : (slot : ℕ) → Area
  -- and the segment has not the image's version: all words of the slot
  Stale : (slot : ℕ) → Area
  -- a slot that gets the 1-side of a guarded segment, and whose header may not be settled as a live one yet: all its words
  Side : (slot : ℕ) → Area
  -- a slot that was found free under the guard of free slots: all its words
  Free : (slot : ℕ) → Area
  -- a segment with its guard and all its locks, so that nobody else rests on what its buckets have together; it has no word of its own
  Whole : (slot : ℕ) → Area
  -- the guard of free slots; it has no word of its own
  Allocation : Area
  -- the guard of the directory: the root and all entries
  Directory : Area

-- THE WORDS OF AN AREA, which nobody else may store to
abbrev pub InArea : Shape → Area → ℕ → Type 0
InArea shape (Segment s) i = (i ≡ header_word shape s) ⊎ (i ≡ link_word shape s)
InArea shape (Stale s) i = IsInSlot shape s i
InArea shape (Side n) i = IsInSlot shape n i
InArea shape (Free n) i = IsInSlot shape n i
InArea shape (Whole s) i = ⊥
InArea shape Allocation i = ⊥
InArea shape Directory i = IsDirectoryWord shape i

-- ---- sorts of areas, and a list without one of them
-- a slot in which no segment lives for all callers yet
abbrev pub is_side_at : ℕ → Area → Bool
is_side_at n (Segment s) = false
is_side_at n (Stale s) = false
is_side_at n (Side m) = m == n
is_side_at n (Free m) = m == n
is_side_at n (Whole s) = false
is_side_at n Allocation = false
is_side_at n Directory = false

-- a segment that has not the image's version
abbrev pub is_stale_at : ℕ → Area → Bool
is_stale_at n (Segment s) = false
is_stale_at n (Stale s) = s == n
is_stale_at n (Side m) = false
is_stale_at n (Free m) = false
is_stale_at n (Whole s) = false
is_stale_at n Allocation = false
is_stale_at n Directory = false

-- a segment that its view has whole
abbrev pub is_whole_at : ℕ → Area → Bool
is_whole_at n (Segment s) = false
is_whole_at n (Stale s) = false
is_whole_at n (Side m) = false
is_whole_at n (Free m) = false
is_whole_at n (Whole s) = s == n
is_whole_at n Allocation = false
is_whole_at n Directory = false

-- the guard of a segment, and what hangs on it
abbrev pub is_of_segment : ℕ → Area → Bool
is_of_segment n (Segment s) = s == n
is_of_segment n (Stale s) = s == n
is_of_segment n (Side m) = false
is_of_segment n (Free m) = false
is_of_segment n (Whole s) = s == n
is_of_segment n Allocation = false
is_of_segment n Directory = false

-- the guard of free slots, and what hangs on it
abbrev pub is_of_allocation : Area → Bool
is_of_allocation (Segment s) = false
is_of_allocation (Stale s) = false
is_of_allocation (Side m) = false
is_of_allocation (Free m) = true
is_of_allocation (Whole s) = false
is_of_allocation Allocation = true
is_of_allocation Directory = false

abbrev pub is_of_directory : Area → Bool
is_of_directory (Segment s) = false
is_of_directory (Stale s) = false
is_of_directory (Side m) = false
is_of_directory (Free m) = false
is_of_directory (Whole s) = false
is_of_directory Allocation = false
is_of_directory Directory = true

abbrev pub all_but : (Area → Bool) → List Area → List Area
all_but test areas = filter (λ a. not (test a)) areas
