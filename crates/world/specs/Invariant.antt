-- What holds between any two events, whoever takes the next one. Headers, links, the root and entries are stored to by who holds them; and
-- what is said of records, notes of homes and the stash is said of segments that are watched.
use Rattle.std.specs.Prelude.{◌≡◌, ◌≢◌, ◌==◌, ℕ, ◌+◌, ◌*◌, ◌<◌, ◌≤◌, Some, List, ◌⊎◌, if◌then◌else◌}
use Rattle.trace.specs.Events.{Words}
use Rattle.segment_head.specs.HeadWord.{version_in, state_in, depth_in, free, normal}
use Rattle.image_layout.specs.Places.{bucket_at, homes, stash_bucket, stash_buckets}
use Rattle.image_layout.specs.Volatile.{free_guard}
use Rattle.sound_image.specs.Records.{key_hash, HasExactNotes}
use Rattle.frame_facts.specs.Standing.{IsTable}
use Rattle.frame_facts.specs.Hits.{Hit, find}
use Rattle.frame_facts.specs.Owners.{owner_of}
use Rattle.frame_facts.specs.Facts.{Fact, IsLiveSlot, IsUsedSlot, HoldsFact}
use Rattle.sound_image.specs.Segments.{frame_of}
use Rattle.world.specs.Ground.{Ground, IsGround, version_of, IsStructured, IsUnder, IsCurrentIn}
use Rattle.world.specs.Conditions.{IsOwed, HoldsMove}
use Rattle.world.specs.Views.{Glance, Answer, Move, Owed, View, Has, At, HasLock, IsLoose}
use Rattle.world.specs.History.{Log}
use Rattle.world.specs.Media.{IsPossible, Stands}
use Rattle.world.specs.Parts.{Locks, Plans, History, Room, Spending, Powered, IsRemoving, IsMoving, NobodyOwes, IsPinned, IsPastLock, IsUnmoved, IsAnswer}
use Rattle.world.specs.areas.Areas.{Whole, header_word}
use Rattle.world.specs.areas.Fitting.{HoldsWord, Fits}
use Rattle.world.specs.areas.Lasting.{Owners, Lasting, SettledSlots}
use Rattle.world.specs.areas.Kinds.{Guard, guard_word, HasGuard, area_of}
use Rattle.world.specs.areas.Asking.{MaySay}

-- USED SLOTS: one that was free at the start and is not free now is used: its segment is live, or is the new side of a splitting segment of the
-- image's version
abbrev pub UsedSlots : Ground → Words → Type 0
UsedSlots site words = (s : ℕ) → s < site.shape.segments → state_in (site.front (header_word site.shape s)) ≡ free → state_in (words (header_word site.shape s)) ≢ free
    → IsUsedSlot (frame_of site.shape words) (version_of site) s

module _ (site : Ground) (words : Words) (views : List View) where
  -- a segment is watched: it is current, and no view has it whole
  abbrev pub IsWatched : ℕ → Type 0
  IsWatched s = IsCurrentIn site words s × ((j : ℕ) (v : View) → At views j v → Has (Whole s) v.areas → ⊥)

  -- STRUCTURE: it is sound in whatever a cut may leave; locks and areas fit it; a guard that a view has is not free by its word, and a guard
  -- that is not free is had by some view; facts hold beside whatever a cut may leave; and pinned headers are as they were
  pub record Structure : Type 0 where
    pub sound : (medium : Words) → IsPossible site words views medium → IsStructured site medium
    pub fits : Fits site words views
    pub guards : (j : ℕ) (v : View) (guard : Guard) → At views j v → Has (area_of guard) v.areas → words (guard_word site.shape guard) ≢ free_guard
    pub held_guards : (guard : Guard) → HasGuard site.shape guard → words (guard_word site.shape guard) ≢ free_guard → (j : ℕ) × (v : View) × At views j v × Has (area_of guard) v.areas
    pub says : (j : ℕ) (v : View) (fact : Fact) (medium : Words) → At views j v → Has fact v.facts → IsPossible site words views medium
        → HoldsFact site.shape (version_of site) words fact medium
    pub may_say : (j : ℕ) (v : View) (fact : Fact) → At views j v → Has fact v.facts → MaySay v.areas fact
    pub pinned : (j : ℕ) (v : View) (s x : ℕ) → At views j v → Has (s, x) v.pinned → IsPinned site words v s x
    -- owners, live segments and taken slots in whatever a cut may leave
    pub owners : Owners site words views
    pub lasting : Lasting site words views
    pub settled_slots : SettledSlots site words views
    -- and slots that were free at the start
    pub used_slots : UsedSlots site words

  -- WORDS: a known word is the newest, and known words and loose ones are held by their view
  pub record KnownWords : Type 0 where
    pub knows : (j : ℕ) (v : View) (i x : ℕ) → At views j v → Has (i, x) v.known → (words i ≡ x) × HoldsWord site.shape v i
    pub loose : (j : ℕ) (v : View) (i x : ℕ) → At views j v → IsLoose v (i, x) → HoldsWord site.shape v i

  -- RECORDS of a watched segment: it owns each, and a key stands once in it, or one view that holds the lock of its home has it under way
  pub record Records : Type 0 where
    pub own : (s b r k : ℕ) → IsWatched s → Hit site.shape words s b r k → owner_of site.shape words (key_hash site.shape k) ≡ Some s
    pub once : (s b r c t k : ℕ) → IsWatched s → Hit site.shape words s b r k → Hit site.shape words s c t k → ((b ≡ c) × (r ≡ t)) ⊎ IsMoving views s k b r c t
    pub held : (j : ℕ) (v : View) (m : Move) → At views j v → Has m v.moving → HoldsMove site.shape v.held m

  -- OVERFLOW DATA of a watched segment
  pub record Overflow : Type 0 where
    pub exact : (s b : ℕ) → IsWatched s → b < homes → NobodyOwes views s b → HasExactNotes site.shape words s b
    pub owes : (j : ℕ) (v : View) (o : Owed) → At views j v → Has o v.owed → IsOwed site.shape words o
    pub held : (j : ℕ) (v : View) (o : Owed) → At views j v → Has o v.owed → HasLock v.held (bucket_at site.shape o.segment o.home)
    pub fits : (j : ℕ) (v : View) (o : Owed) → At views j v → Has o v.owed → (o.segment < site.shape.segments) × (o.home < homes)

  -- MEDIA: whatever a cut may leave is a table, with what the history or one planned change gives each key
  pub record Media (log : Log) : Type 0 where
    pub table : (medium : Words) → IsPossible site words views medium → IsTable site.shape medium
    pub stashed : (medium : Words) → IsPossible site words views medium → (s c t k : ℕ) → IsWatched s → c < stash_buckets → owner_of site.shape medium (key_hash site.shape k) ≡ Some s
        → Hit site.shape medium s (stash_bucket c) t k → Hit site.shape words s (stash_bucket c) t k ⊎ IsRemoving views k (bucket_at site.shape s (stash_bucket c))
    pub stands : (medium : Words) → IsPossible site words views medium → (k : ℕ) → Stands site views log k (find site.shape medium k)

-- how far the header of a live segment has come: first it gets rid of what a cut left of a split, then the image's version, and then it gets
-- deeper. Each store to it raises this
abbrev pub rank : ℕ → ℕ → ℕ
rank version head = if version_in head == version then 1 + (2 * depth_in head + state_in head) else if state_in head == normal then 1 else 0

-- a noted header is that of a live segment, and has not fallen behind
pub record IsPastHeader (site : Ground) (words : Words) (note : Glance) : Type 0 where
  pub slot : ℕ
  pub head : note.word ≡ header_word site.shape slot
  pub lives : IsLiveSlot (frame_of site.shape words) slot
  pub past : rank (version_of site) note.value ≤ rank (version_of site) (words note.word)
  pub again : rank (version_of site) note.value ≡ rank (version_of site) (words note.word) → words note.word ≡ note.value
  pub alone : (i x : ℕ) → Has (i, x) note.words → ⊥

-- NOTES of readers
pub record Notes (site : Ground) (words : Words) (views : List View) (log : Log) : Type 0 where
  pub past : (j : ℕ) (v : View) (note : Glance) → At views j v → Has note v.notes → IsPastLock site words note ⊎ IsPastHeader site words note
  pub inside : (j : ℕ) (v : View) (note : Glance) (i x : ℕ) → At views j v → Has note v.notes → Has (i, x) note.words → IsUnder note.word i
  pub same : (j : ℕ) (v : View) (note : Glance) (i x : ℕ) → At views j v → Has note v.notes → words note.word ≡ note.value → Has (i, x) note.words → words i ≡ x
  pub answered : (j : ℕ) (v : View) (a : Answer) → At views j v → v.answer ≡ Some a → ((note : Glance) → Has note v.notes → IsUnmoved words note) → IsAnswer site log v.seen a

-- THE INVARIANT
pub record Holds (site : Ground) (words : Words) (views : List View) : Type 0 where
  pub site_is : IsGround site
  pub log : Log
  pub structure : Structure site words views
  pub locks : Locks site words views
  pub known : KnownWords site words views
  pub plans : Plans site words views log
  pub history : History site words views log
  pub records : Records site words views
  pub notes_of_homes : Overflow site words views
  pub media : Media site words views log
  pub notes : Notes site words views log
  pub room : Room site views log
  pub spending : Spending site words views log
  pub powered : Powered site words views
