-- What a caller knows of the memory, holds in it and owes to it, as plain data.
use Rattle.std.specs.Prelude.{◌≡◌, ℕ, Bool, Option, List, ◌⊎◌}
use mathlib.Core.Option.{some}
use lib.ListN.{get_elem?}
use Rattle.map_model.specs.declared.call.Call.{Call}
use Rattle.map_model.specs.declared.entry.Entry.{Entry}
use Rattle.frame_facts.specs.Facts.{Fact}
use Rattle.world.specs.areas.Areas.{Area}
use Rattle.world.specs.Ground.{IsUnder}
pub use Rattle.trace.specs.Listed.{Has}

-- what a reader noted of a bucket whose lock it found free, or of the header that led it there
pub record Glance : Type 0 where
  -- the lock word, or the header word
  pub word : ℕ
  -- the value that it had, of a lock word a free one
  pub value : ℕ
  -- the words of the bucket loaded since
  pub words : List (ℕ × ℕ)
  -- whether the word was found the same after the answer's place was loaded
  pub again : Bool

-- what a reader will answer if all its notes prove good: what a key had after so many changes
pub record Answer : Type 0 where
  pub key : ℕ
  pub value : Option ℕ
  pub place : ℕ

-- a copy of a record that stands, and whose source is not cleared yet
pub record Move : Type 0 where
  pub segment : ℕ
  pub key : ℕ
  pub from_bucket : ℕ
  pub from_slot : ℕ
  pub to_bucket : ℕ
  pub to_slot : ℕ

-- a note that is still to be stored, or to be taken away, since a record came to the stash or left it; with the notes of its
-- home and the count as they were then
pub record Owed : Type 0 where
  pub segment : ℕ
  pub home : ℕ
  pub added : Bool
  pub note : ℕ × ℕ
  pub notes : List (ℕ × ℕ)
  pub count : ℕ

pub record View : Type 0 where
  -- the locks that it holds: the lock word, and its value, which is odd
  pub held : List (ℕ × ℕ)
  -- words that it loaded or stored under its locks, with their values
  pub known : List (ℕ × ℕ)
  -- words whose core it changed, with the value before, until their line is flushed
  pub dirty : List (ℕ × ℕ)
  -- and from then on until the fence
  pub flushed : List (ℕ × ℕ)
  -- the changes that it stored and has not drawn a place for
  pub planned : List Call
  -- the records that it copied and has not cleared at their sources
  pub moving : List Move
  -- the notes that it owes
  pub owed : List Owed
  pub notes : List Glance
  pub answer : Option Answer
  -- its replies, in their order
  pub own : List Entry
  -- how many changes it has seen
  pub seen : ℕ
  -- for how many callers it stands
  pub callers : ℕ
  -- how many places it may still draw before it looks at the commit counter again
  pub room : ℕ
  -- the lock words that it found free with the last version
  pub spent_locks : List ℕ
  -- whether it stored the power word: no machine does, but a caller that turns the power off
  pub stored_power : Bool
  -- what it relies on of the structure
  pub facts : List Fact
  -- the segments whose headers its locks keep as they are, with the header
  pub pinned : List (ℕ × ℕ)
  -- what it holds beside its locks
  pub areas : List Area

-- the view of seat j
abbrev pub At : List View → ℕ → View → Type 0
At views j v = get_elem? views j ≡ some v

-- a lock is among those held
abbrev pub HasLock : List (ℕ × ℕ) → ℕ → Type 0
HasLock held lock = (value : ℕ) × Has (lock, value) held

-- word i lies under one of the locks held
abbrev pub IsGuarded : List (ℕ × ℕ) → ℕ → Type 0
IsGuarded held i = (lock : ℕ) × HasLock held lock × IsUnder lock i

-- a word may not be settled, and had this value before
abbrev pub IsLoose : View → ℕ × ℕ → Type 0
IsLoose v p = Has p v.dirty ⊎ Has p v.flushed

-- no word under the lock is loose
abbrev pub IsFirm : View → ℕ → Type 0
IsFirm v lock = (p : ℕ × ℕ) → IsLoose v p → IsUnder lock p.0 → ⊥
