-- What each kind of step at the structure asks of the stepping view alone.
use Rattle.std.specs.Prelude.{◌≡◌, ◌≢◌, ℕ, suc, ◌<◌, ◌⊎◌, ⊤, Some, []}
use Rattle.trace.specs.Events.{Words, with_word}
use Rattle.hash_word.specs.Hash.{home_of}
use Rattle.bucket_meta.specs.Bucket.{lock_bit}
use Rattle.segment_head.specs.HeadWord.{state_in, depth_in, pattern_in, normal, splitting, HasLiveState, link_to}
use Rattle.image_layout.specs.Places.{Shape, root_word, state_word, entries_of, bucket_at, homes, buckets}
use Rattle.image_layout.specs.Volatile.{free_guard}
use Rattle.sound_image.specs.Segments.{frame_of}
use Rattle.sound_image.specs.Records.{key_hash, HasExactNotes}
use Rattle.frame_facts.specs.Core.{core_of, core}
use Rattle.frame_facts.specs.Standing.{KeysStandOnce, NotesAreExact, IsTable}
use Rattle.frame_facts.specs.Hits.{Hit}
use Rattle.frame_facts.specs.Owners.{owner_of}
use Rattle.frame_facts.specs.TableChanges.{KeepsTable}
use Rattle.frame_facts.specs.Facts.{Fact, Lives, Taken, HoldsFact}
use Rattle.frame_facts.specs.Keeping.{KeepsFact, ClaimsNoneOfSide}
use Rattle.frame_facts.specs.DeadSlots.{IsInSlot}
use Rattle.world.specs.Ground.{Ground, version_of, IsStructured, IsLockWord, IsSpentLock, IsUnder, spent_lock}
use Rattle.world.specs.Views.{Move, Owed, View, Has, HasLock, IsLoose}
use Rattle.world.specs.Conditions.{IsOwed, IsMoveOf, OwesNone, Agrees}
use Rattle.world.specs.Holders.{KnowsWord}
use Rattle.world.specs.areas.Areas.{Segment, Stale, Side, Free, Whole, Allocation, Directory, header_word, link_word, IsDirectoryWord}
use Rattle.world.specs.areas.Fitting.{HoldsWord, HoldsAll}
pub use Rattle.world.specs.areas.Saying.{MaySay}
use Rattle.world.specs.areas.Rows.{Row, goes_live, frees, renews, HasNoSides, IsRow, HasForRow}
use Rattle.world.specs.areas.Kinds.{Guard, of_segment, of_free_slots, of_directory, area_of, StructureKind, takes, takes_for_side, gives, finds_stale, closes, finds_free, finds_link, finds_side, finds_entry, finds_begin, reads, sets, moves, settles, settles_side, opens}

-- a view has not the segment whole
abbrev pub IsNotWhole : View → ℕ → Type 0
IsNotWhole v s = Has (Whole s) v.areas → ⊥

-- nothing is loose of the words that P names
abbrev pub IsFirmIn : View → (ℕ → Type 0) → Type 0
IsFirmIn v P = (p : ℕ × ℕ) → IsLoose v p → P p.0 → ⊥

-- the words that a guard's holder has to settle before it gives it back: those of the slot, of the slots that it found free, of the directory
abbrev pub IsOf : Shape → View → Guard → ℕ → Type 0
IsOf shape v (of_segment s) i = IsInSlot shape s i
IsOf shape v of_free_slots i = (n : ℕ) × Has (Free n) v.areas × IsInSlot shape n i
IsOf shape v of_directory i = IsDirectoryWord shape i

-- sides are given up, and whole segments opened, before their guards; and the header of a side that was taken is settled before that of free slots
abbrev pub HasOpened : Shape → View → Guard → Type 0
HasOpened shape v (of_segment s) = HasNoSides v.areas × IsNotWhole v s
HasOpened shape v of_free_slots = (n : ℕ) → Has (Side n) v.areas → IsFirmIn v (λ i. i ≡ header_word shape n)
HasOpened shape v of_directory = ⊤

-- the view once all that it flushed is settled
abbrev pub once_fenced : View → View
once_fenced v = record v { flushed = [] }

module _ (site : Ground) where
  -- WORDS MAY BE THE NEWEST, as far as a view with areas can know: as `IsNewest` has it, of segments that it has not whole
  pub record MayBeNewest (v : View) (words : Words) : Type 0 where
    pub structure : IsStructured site words
    pub says : (fact : Fact) → Has fact v.facts → HoldsFact site.shape (version_of site) words fact words
    pub pinned : (s x : ℕ) → Has (s, x) v.pinned → words (header_word site.shape s) ≡ x
    pub table : IsTable site.shape words
    pub knows : (i x : ℕ) → Has (i, x) v.known → words i ≡ x
    pub own : (s b r k : ℕ) → IsNotWhole v s → HasLock v.held (bucket_at site.shape s b) → Hit site.shape words s b r k → owner_of site.shape words (key_hash site.shape k) ≡ Some s
    pub once : (s b r c t k : ℕ) → IsNotWhole v s → HasLock v.held (bucket_at site.shape s (home_of (key_hash site.shape k))) → Hit site.shape words s b r k → Hit site.shape words s c t k
        → ((b ≡ c) × (r ≡ t)) ⊎ ((m : Move) × Has m v.moving × IsMoveOf m s k b r c t)
    pub exact : (s b : ℕ) → IsNotWhole v s → s < site.shape.segments → b < homes → HasLock v.held (bucket_at site.shape s b) → OwesNone site v s b → HasExactNotes site.shape words s b
    pub owes : (o : Owed) → Has o v.owed → IsOwed site.shape words o

  -- A MEDIUM MAY BE LEFT BESIDE THEM, as far as a view with areas can know
  pub record MayStandBeside (v : View) (words medium : Words) : Type 0 where
    pub structure : IsStructured site medium
    pub says : (fact : Fact) → Has fact v.facts → HoldsFact site.shape (version_of site) words fact medium
    pub table : IsTable site.shape medium
    pub agrees : Agrees site v medium
    -- at a held word it has the core of the newest one, or of a value that the view has loose there
    pub leaves : (i : ℕ) → HoldsWord site.shape v i → (core site.shape medium i ≡ core site.shape words i)
        ⊎ ((x : ℕ) × IsLoose v (i, x) × (core site.shape medium i ≡ core_of site.shape i x))
    pub owner : (s b h : ℕ) → b < buckets → HasLock v.held (bucket_at site.shape s b) → owner_of site.shape words h ≡ Some s → owner_of site.shape medium h ≡ Some s

  -- A STORE IS HARMLESS, beside a medium: it leaves a sound structure and a table with the same pairs, and each fact but those that it ends
  pub record KeepsAll (ends : Fact → Type 0) (words medium : Words) (i x : ℕ) : Type 0 where
    pub structure : IsStructured site (with_word medium i x)
    pub table : KeepsTable site.shape medium (with_word medium i x)
    pub facts : (fact : Fact) → (ends fact → ⊥) → KeepsFact site.shape (version_of site) words medium i x fact

  abbrev pub IsHarmlessStore : View → (Words → Fact → Type 0) → ℕ → ℕ → Type 0
  IsHarmlessStore v ends i x = (words medium : Words) → MayBeNewest v words → MayStandBeside v words medium → KeepsAll (ends medium) words medium i x

  abbrev pub EndsNothing : Words → Fact → Type 0
  EndsNothing medium fact = ⊥

  -- the store that makes a side of p live ends what p claims of its 1-side
  abbrev pub EndsClaims : ℕ → Words → Fact → Type 0
  EndsClaims p medium fact = ClaimsNoneOfSide (frame_of site.shape medium) p fact → ⊥

  -- the one that frees a slot ends that it is taken
  abbrev pub ends_by : Row → ℕ → Words → Fact → Type 0
  ends_by (goes_live p) s medium fact = EndsClaims p medium fact
  ends_by (frees p) s medium fact = fact ≡ Taken s
  ends_by row s medium fact = ⊥

  -- A SEGMENT IS IN ORDER: it owns each record in it, a key stands once, and notes are exact
  pub record IsInOrder (words : Words) (s : ℕ) : Type 0 where
    pub own : (b r k : ℕ) → Hit site.shape words s b r k → owner_of site.shape words (key_hash site.shape k) ≡ Some s
    pub once : KeysStandOnce site.shape words s
    pub exact : NotesAreExact site.shape words s

  -- it is so whatever the newest words are, after a store
  abbrev pub BringsInOrder : View → ℕ → ℕ → ℕ → Type 0
  BringsInOrder v s i x = (words : Words) → MayBeNewest v words → IsInOrder (with_word words i x) s

  -- the lock words of a slot are known, and free
  abbrev pub KnowsFree : View → ℕ → Type 0
  KnowsFree v s = (b : ℕ) → b < buckets → (x : ℕ) × Has (bucket_at site.shape s b, x) v.known × (lock_bit x ≡ 0)

  -- a word under a lock that is held lies in a segment that the view has whole
  abbrev pub IsUnderWhole : View → ℕ → Type 0
  IsUnderWhole v i = (lock : ℕ) → HasLock v.held lock → IsUnder lock i → (s : ℕ) × (b : ℕ) × (b < buckets) × (lock ≡ bucket_at site.shape s b) × Has (Whole s) v.areas

  -- the view knows that no segment lives in a slot
  abbrev pub KnowsDead : View → ℕ → Type 0
  KnowsDead v n = (head : ℕ) × Has (header_word site.shape n, head) v.known × (HasLiveState head → ⊥)

  -- a word lies in the slot of a side only where no segment lives there
  abbrev pub IsUnderDead : View → ℕ → Type 0
  IsUnderDead v i = (n : ℕ) → Has (Side n) v.areas → IsInSlot site.shape n i → KnowsDead v n

  -- a store to a held word that is no header, by a view that plans and owes nothing: of buckets, to those of whole segments and of slots
  -- that nobody else touches; a lock word gets a free value, and stays if it is free with the last version in a live segment
  pub record MaySet (v : View) (i x : ℕ) : Type 0 where
    pub holds : HoldsWord site.shape v i
    pub no_header : (s : ℕ) → s < site.shape.segments → i ≢ header_word site.shape s
    pub no_state : i ≢ state_word
    pub under_whole : IsUnderWhole v i
    pub under_dead : IsUnderDead v i
    pub planned : v.planned ≡ []
    pub owed : v.owed ≡ []
    pub even : IsLockWord site.shape i → lock_bit x ≡ 0
    pub spent : (words : Words) → MayBeNewest v words → IsSpentLock site.shape words i → x ≡ spent_lock
    pub harmless : IsHarmlessStore v EndsNothing i x

  -- what a row asks beside: a segment that others may lock from then on is in order, and its locks are free
  abbrev pub AsksForRow : Row → ℕ → ℕ → View → Type 0
  AsksForRow (goes_live p) s x v = KnowsFree v s × BringsInOrder v s (header_word site.shape s) x × IsFirmIn v (IsInSlot site.shape s)
  AsksForRow renews s x v = IsFirmIn v (IsInSlot site.shape s) × KnowsFree v s × BringsInOrder v s (header_word site.shape s) x
  AsksForRow row s x v = ⊤

  -- a segment is stale and, by its known header, splitting, with this depth and pattern
  pub record IsStaleSplit (v : View) (p depth pattern : ℕ) : Type 0 where
    pub stale : Has (Stale p) v.areas
    pub head : ℕ
    pub knows : KnowsWord v (header_word site.shape p) head
    pub splits : state_in head ≡ splitting
    pub depth_is : depth_in head ≡ depth
    pub pattern_is : pattern_in head ≡ pattern

  -- WHAT A KIND ASKS of the stepping view
  abbrev pub MayAt : StructureKind → View → Type 0
  MayAt (takes (of_segment s) caller) v = (free_guard < caller) × Has (Lives s) v.facts
  MayAt (takes guard caller) v = free_guard < caller
  MayAt (takes_for_side n caller) v = (free_guard < caller) × IsFirmIn v (IsInSlot site.shape n) × KnowsDead v n
  MayAt (gives guard) v = Has (area_of guard) v.areas × IsFirmIn v (IsOf site.shape v guard) × HasOpened site.shape v guard
  MayAt (finds_stale s version) v = Has (Segment s) v.areas × (version ≡ version_of site)
  MayAt (closes s i) v = Has (Segment s) v.areas × HoldsAll site.shape v s × HoldsWord site.shape v i
  MayAt (finds_free n) v = Has Allocation v.areas × (n < site.shape.segments) × IsFirmIn v (IsInSlot site.shape n)
  MayAt (finds_link p depth pattern) v = IsStaleSplit v p depth pattern × ((y : ℕ) → IsLoose v (link_word site.shape p, y) → ⊥)
  MayAt (finds_side p n depth pattern) v = IsStaleSplit v p depth pattern × KnowsWord v (link_word site.shape p) (link_to n) × (n < site.shape.segments) × HasNoSides v.areas
  MayAt (finds_entry e i) v = Has Directory v.areas × Has (root_word, e) v.known × (i < entries_of e)
  MayAt (finds_begin s) v = Has (Lives s) v.facts
  MayAt (reads i) v = HoldsWord site.shape v i
  MayAt (sets i x) v = MaySet v i x
  MayAt (moves row s x) v = ((words : Words) → MayBeNewest v words → IsRow site words row s x × HasForRow site words row s v.areas)
      × (v.planned ≡ []) × IsHarmlessStore v (ends_by row s) (header_word site.shape s) x × AsksForRow row s x v
      × ((words medium : Words) → MayBeNewest v words → MayStandBeside v words medium → IsRow site medium row s x)
  MayAt (settles facts) v = ((n : ℕ) → Has (Side n) v.areas → KnowsDead v n)
      × ((fact : Fact) → Has fact facts → MaySay v.areas fact
      × ((words medium : Words) → MayBeNewest (once_fenced v) words → MayStandBeside (once_fenced v) words medium → HoldsFact site.shape (version_of site) words fact medium))
  MayAt (settles_side n depth pattern) v = Has (Side n) v.areas × Has Directory v.areas × ((p : ℕ × ℕ) → Has p v.dirty → IsInSlot site.shape n p.0 → ⊥)
      × ((head : ℕ) × Has (header_word site.shape n, head) v.known × (state_in head ≡ normal) × (depth_in head ≡ depth) × (pattern_in head ≡ pattern))
      × ((m : ℕ) → Has (Side m) v.areas → m ≢ n → KnowsDead v m)
  MayAt (opens s lock next) v = Has (Whole s) v.areas × ((b : ℕ) × (b < buckets) × (lock ≡ bucket_at site.shape s b)) × ((x : ℕ) × Has (lock, x) v.held × (next ≡ suc x))
      × IsFirmIn v (IsInSlot site.shape s) × (v.planned ≡ []) × (v.moving ≡ []) × (v.owed ≡ []) × ((words : Words) → MayBeNewest v words → IsInOrder words s)
      × ((words : Words) → MayBeNewest v words → state_in (words (header_word site.shape s)) ≢ splitting)
