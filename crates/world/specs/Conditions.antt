-- What each kind of step asks of the stepping view alone.
use Rattle.std.specs.Prelude.{◌≡◌, ◌≢◌, ℕ, ◌<◌, ◌≤◌, Bool, true, false, ⊤, Option, Some, List, [], ◌∷◌, ◌⊎◌}
use Rattle.trace.specs.Events.{Words, with_word}
use Rattle.image_layout.specs.Places.{Shape, entries_of, header_word, bucket_at, homes, stash_bucket, stash_buckets, buckets}
use Rattle.map_model.specs.declared.call.Call.{Call}
use Rattle.map_model.specs.declared.call.Call.TheVariants.{Remove}
use Rattle.map_model.specs.declared.entry.Reply.{Reply}
use Rattle.map_model.specs.declared.entry.Reply.TheVariants.{Done, Full, Spent}
use Rattle.map_model.specs.Map.{key_of, is_done}
use Rattle.map_model.specs.Legal.{IsChange}
use Rattle.bucket_meta.specs.Bucket.{lock_bit, unlocked}
use Rattle.bucket_meta.specs.Notes.{AreExact}
use Rattle.hash_word.specs.Hash.{home_of, probing_of}
use Rattle.sound_image.specs.Records.{key_hash, stashed_of, HasExactNotes}
use Rattle.frame_facts.specs.Standing.{IsTable}
use Rattle.frame_facts.specs.Hits.{Hit, HasOnly, find}
use Rattle.frame_facts.specs.Buckets.{value_in}
use Rattle.frame_facts.specs.Owners.{owner_of, home_at}
use Rattle.frame_facts.specs.HomeNotes.{SameHomeNotes}
use Rattle.frame_facts.specs.TableChanges.{KeepsTable, ChangesKey}
use Rattle.frame_facts.specs.Facts.{Fact, Lives, Current, Rooted, Taken, HoldsFact}
use Rattle.world.specs.Ground.{Ground, IsLockWord, IsUnder, version_of, IsStructured, spent_lock}
use Rattle.world.specs.Views.{Glance, Move, Owed, View, Has, HasLock, IsGuarded, IsLoose, IsFirm}
use Rattle.world.specs.History.{result_of, reply_by, MayReply, HasRoomCause}
use Rattle.world.specs.Kinds.{Kind, peeks, asks_power, meets_root, meets_entry, meets_head, pins, finds_room, refuses, places, looks, glances_word, validates, learns, meets_lock, tries, stores, copies, clears, repays, publishes, stashes, flushes, fences, draws_place, unlocks, cuts_power}

-- ---- what is said of tables
-- what is owed: with the notes as they were, the one that was owed makes them exact for the records as they are now
abbrev pub IsOwedOf : Bool → ℕ × ℕ → List (ℕ × ℕ) → ℕ → List (ℕ × ℕ) → Type 0
IsOwedOf true note notes count stashed = AreExact (note ∷ notes) count stashed
IsOwedOf false note notes count stashed = AreExact notes count (note ∷ stashed)

-- by the records of its home in the stash
abbrev pub IsOwed : Shape → Words → Owed → Type 0
IsOwed shape words o = IsOwedOf o.added o.note o.notes o.count (stashed_of shape words o.segment o.home)

-- the locks of the key's home and of both places of a move are held
abbrev pub HoldsMove : Shape → List (ℕ × ℕ) → Move → Type 0
HoldsMove shape held m = HasLock held (bucket_at shape m.segment (home_of (key_hash shape m.key))) × HasLock held (bucket_at shape m.segment m.from_bucket)
    × HasLock held (bucket_at shape m.segment m.to_bucket)

-- two places are those of a move
abbrev pub IsMoveOf : Move → ℕ → ℕ → ℕ → ℕ → ℕ → ℕ → Type 0
IsMoveOf m s k b r c t = (s ≡ m.segment) × (k ≡ m.key)
    × (((b ≡ m.from_bucket) × (r ≡ m.from_slot) × (c ≡ m.to_bucket) × (t ≡ m.to_slot)) ⊎ ((b ≡ m.to_bucket) × (r ≡ m.to_slot) × (c ≡ m.from_bucket) × (t ≡ m.from_slot)))

-- no note is owed of a record that came to the stash: it was stored
abbrev pub HasNoted : View → Type 0
HasNoted v = (o : Owed) → Has o v.owed → o.added ≡ false

-- a lock word was found free with the last version
abbrev pub FoundSpent : View → Type 0
FoundSpent v = (lock : ℕ) × Has lock v.spent_locks

-- ---- what a view knows
module _ (site : Ground) where
  -- a medium has the words that a view knows and has not loose. What a cut leaves has their cores alone; since those
  -- decide, it is enough to speak of media that have them whole
  abbrev pub Agrees : View → Words → Type 0
  Agrees v medium = (i x : ℕ) → Has (i, x) v.known → ((y : ℕ) → IsLoose v (i, y) → ⊥) → medium i ≡ x

  -- words are those that were noted
  abbrev pub AgreesWithNotes : List Glance → Words → Type 0
  AgreesWithNotes notes words = (note : Glance) (i x : ℕ) → Has note notes → Has (i, x) note.words → words i ≡ x

  -- no change of this key is planned
  abbrev pub IsUnplanned : View → ℕ → Type 0
  IsUnplanned v k = (call : Call) → Has call v.planned → key_of call ≡ k → ⊥

  -- the view owes no note of home b of a segment
  abbrev pub OwesNone : View → ℕ → ℕ → Type 0
  OwesNone v s b = (o : Owed) → Has o v.owed → o.segment ≡ s → o.home ≡ b → ⊥

  -- words may be the newest, as far as a view can know: a table with the words that it knows, of whose structure its facts hold and
  -- which has the headers that its locks keep; under the locks that it holds records stand in the segment that owns them, a
  -- key stands once but for its own moves, and notes are exact but for those that it owes
  pub record IsNewest (v : View) (words : Words) : Type 0 where
    pub structure : IsStructured site words
    pub says : (f : Fact) → Has f v.facts → HoldsFact site.shape (version_of site) words f words
    pub pinned : (s x : ℕ) → Has (s, x) v.pinned → words (header_word site.shape s) ≡ x
    pub table : IsTable site.shape words
    pub knows : (i x : ℕ) → Has (i, x) v.known → words i ≡ x
    pub own : (s b r k : ℕ) → HasLock v.held (bucket_at site.shape s b) → Hit site.shape words s b r k → owner_of site.shape words (key_hash site.shape k) ≡ Some s
    pub once : (s b r c t k : ℕ) → HasLock v.held (bucket_at site.shape s (home_of (key_hash site.shape k))) → Hit site.shape words s b r k → Hit site.shape words s c t k
        → ((b ≡ c) × (r ≡ t)) ⊎ ((m : Move) × Has m v.moving × IsMoveOf m s k b r c t)
    pub exact : (s b : ℕ) → s < site.shape.segments → b < homes → HasLock v.held (bucket_at site.shape s b) → OwesNone v s b → HasExactNotes site.shape words s b
    pub owes : (o : Owed) → Has o v.owed → IsOwed site.shape words o

  -- a medium may be left beside them, as far as a view can know
  pub record StandsBeside (v : View) (words medium : Words) : Type 0 where
    pub structure : IsStructured site medium
    pub says : (f : Fact) → Has f v.facts → HoldsFact site.shape (version_of site) words f medium
    pub table : IsTable site.shape medium
    pub agrees : Agrees v medium
    pub owner : (s k : ℕ) → HasLock v.held (bucket_at site.shape s (home_of (key_hash site.shape k))) → owner_of site.shape words (key_hash site.shape k) ≡ Some s
        → owner_of site.shape medium (key_hash site.shape k) ≡ Some s
    -- under the lock of a key's home, a record of it in the stash stands there in the newest words too
    pub stashed : (s c t k : ℕ) → c < stash_buckets → HasLock v.held (bucket_at site.shape s (home_of (key_hash site.shape k))) → IsUnplanned v k
        → owner_of site.shape medium (key_hash site.shape k) ≡ Some s → Hit site.shape medium s (stash_bucket c) t k → Hit site.shape words s (stash_bucket c) t k

  -- whatever the newest words are
  abbrev pub Always : View → (Words → Type 0) → Type 0
  Always v P = (words : Words) → IsNewest v words → P words

  -- and whatever medium stands beside them
  abbrev pub AlwaysBeside : View → (Words → Words → Type 0) → Type 0
  AlwaysBeside v P = (words medium : Words) → IsNewest v words → StandsBeside v words medium → P words medium

  -- the segment owns the key
  abbrev pub IsLed : View → ℕ → ℕ → Type 0
  IsLed v s k = Always v (λ words. owner_of site.shape words (key_hash site.shape k) ≡ Some s)

  -- and the view holds the lock of its home there
  abbrev pub HoldsHome : View → ℕ → ℕ → Type 0
  HoldsHome v s k = IsLed v s k × HasLock v.held (bucket_at site.shape s (home_of (key_hash site.shape k)))

  -- ---- the parts of a store's condition
  -- a table stays one with the same pairs
  abbrev pub IsHarmless : View → ℕ → ℕ → Type 0
  IsHarmless v i x = AlwaysBeside v (λ words medium. KeepsTable site.shape medium (with_word medium i x))

  -- the call is to be answered as done, and the store makes its change alone
  abbrev pub IsPublishing : View → Call → ℕ → ℕ → Type 0
  IsPublishing v call i x = AlwaysBeside v (λ words medium.
      (Done ≡ reply_by (find site.shape medium (key_of call)) call) × ChangesKey site.shape medium (with_word medium i x) (key_of call) (result_of call))

  -- no key stands twice that did not, but at two places that are named
  abbrev pub AddsNoTwin : View → ℕ → ℕ → (ℕ → ℕ → ℕ → ℕ → ℕ → ℕ → Type 0) → Type 0
  AddsNoTwin v i x but = Always v (λ words. (s b r c t k : ℕ) → Hit site.shape (with_word words i x) s b r k → Hit site.shape (with_word words i x) s c t k
      → ((b ≡ c) × (r ≡ t)) ⊎ (Hit site.shape words s b r k × Hit site.shape words s c t k) ⊎ but s k b r c t)

  -- a view owes a note of home b
  abbrev pub IsOwing : View → ℕ → ℕ → Type 0
  IsOwing v s b = (o : Owed) × Has o v.owed × (o.segment ≡ s) × (o.home ≡ b)

  -- notes and stash records of all homes but one are as they were; of a home that is owed one, the records at least
  abbrev pub KeepsNotes : View → ℕ → ℕ → (ℕ → ℕ → Type 0) → Type 0
  KeepsNotes v i x but = Always v (λ words. (s b : ℕ) → s < site.shape.segments → b < homes
      → SameHomeNotes site.shape words (with_word words i x) s b ⊎ ((stashed_of site.shape (with_word words i x) s b ≡ stashed_of site.shape words s b) × IsOwing v s b) ⊎ but s b)

  -- a record leaves the stash only where it is named
  abbrev pub KeepsStash : View → ℕ → ℕ → (ℕ → ℕ → Type 0) → Type 0
  KeepsStash v i x but = Always v (λ words. (s c t k : ℕ) → c < stash_buckets → Hit site.shape words s (stash_bucket c) t k → Hit site.shape (with_word words i x) s (stash_bucket c) t k ⊎ but k (bucket_at site.shape s (stash_bucket c)))

  -- a record comes to the stash of a medium only where it comes to that of the newest words
  abbrev pub AddsAlike : View → ℕ → ℕ → Type 0
  AddsAlike v i x = AlwaysBeside v (λ words medium. (s c t k : ℕ) → c < stash_buckets → Hit site.shape (with_word medium i x) s (stash_bucket c) t k
      → Hit site.shape (with_word words i x) s (stash_bucket c) t k ⊎ Hit site.shape medium s (stash_bucket c) t k)

  -- a record of a key comes only to the segment that owns it, under the locks of its bucket and of the key's home
  abbrev pub AddsHeld : View → ℕ → ℕ → Type 0
  AddsHeld v i x = Always v (λ words. (s b r k : ℕ) → Hit site.shape (with_word words i x) s b r k
      → Hit site.shape words s b r k ⊎ (HasLock v.held (bucket_at site.shape s (home_of (key_hash site.shape k))) × HasLock v.held (bucket_at site.shape s b)
      × (owner_of site.shape words (key_hash site.shape k) ≡ Some s)))

  -- the locks of the buckets are held in which a key stands
  abbrev pub HoldsPlaces : View → ℕ → Type 0
  HoldsPlaces v k = Always v (λ words. (s b r : ℕ) → owner_of site.shape words (key_hash site.shape k) ≡ Some s → Hit site.shape words s b r k → HasLock v.held (bucket_at site.shape s b))

  -- nothing is named
  abbrev pub NoTwin : ℕ → ℕ → ℕ → ℕ → ℕ → ℕ → Type 0
  NoTwin s k b r c t = ⊥

  abbrev pub Nowhere : ℕ → ℕ → Type 0
  Nowhere s b = ⊥

  -- home b is the one of an owed note
  abbrev pub IsHomeOf : Owed → ℕ → ℕ → Type 0
  IsHomeOf o s b = (o.segment ≡ s) × (o.home ≡ b)

  -- a remove takes a record from a stash bucket whose lock is held
  abbrev pub TakesFromStash : View → Call → ℕ → ℕ → Type 0
  TakesFromStash v call k lock = (call ≡ Remove k) × HasLock v.held lock

  -- what all stores ask
  pub record IsTidy (v : View) (i x : ℕ) (twin : ℕ → ℕ → ℕ → ℕ → ℕ → ℕ → Type 0) (home : ℕ → ℕ → Type 0) (taken : ℕ → ℕ → Type 0) : Type 0 where
    pub guarded : IsGuarded v.held i
    pub twins : AddsNoTwin v i x twin
    pub notes : KeepsNotes v i x home
    pub stash : KeepsStash v i x taken
    pub alike : AddsAlike v i x
    pub adds : AddsHeld v i x

  -- a lock is held and nothing under it is loose
  abbrev pub IsKept : View → ℕ → Type 0
  IsKept v lock = HasLock v.held lock × IsFirm v lock

  -- the lock of a stash bucket is not held, and the notes say that the key does not stand there
  abbrev pub IsUnvisited : View → ℕ → ℕ → ℕ → Type 0
  IsUnvisited v s k c = (HasLock v.held (bucket_at site.shape s (stash_bucket c)) → ⊥) × Always v (λ words. (t : ℕ) → Hit site.shape words s (stash_bucket c) t k → ⊥)

  -- a reply that may stand whatever the key has, or that is right by what the holder of the key's lock knows
  abbrev pub IsKnownReply : View → Call → Reply → Type 0
  IsKnownReply v call reply = ((a : Option ℕ) → MayReply a call reply)
      ⊎ ((s : ℕ) × HoldsHome v s (key_of call) × IsUnplanned v (key_of call) × Always v (λ words. MayReply (find site.shape words (key_of call)) call reply))

  -- words may be the newest while all noted locks are free, and the noted header is as it was, as far as a reader can know
  pub record IsNow (notes : List Glance) (words : Words) : Type 0 where
    pub structure : IsStructured site words
    pub table : IsTable site.shape words
    pub agrees : AgreesWithNotes notes words
    pub heads : (s : ℕ) (note : Glance) → s < site.shape.segments → Has note notes → note.word ≡ header_word site.shape s → words (header_word site.shape s) ≡ note.value
    pub exact : (s b : ℕ) (note : Glance) → s < site.shape.segments → b < homes → Has note notes → note.word ≡ bucket_at site.shape s b → HasExactNotes site.shape words s b

  -- a map may be what all keys have, as far as a view can know: it has what the newest words have for the keys of whose homes
  -- the view holds the locks, and the records in the buckets that it holds, which are of different keys
  pub record IsMapNow (v : View) (words : Words) (m : ℕ → Option ℕ) : Type 0 where
    pub known : (k : ℕ) → HasLock v.held (home_at site.shape words k) → IsUnplanned v k → m k ≡ find site.shape words k
    pub records : (s b r k : ℕ) → HasLock v.held (bucket_at site.shape s b) → IsUnplanned v k → owner_of site.shape words (key_hash site.shape k) ≡ Some s
        → Hit site.shape words s b r k → m k ≡ Some (value_in words (bucket_at site.shape s b) r)
    pub differ : (s b r c t k : ℕ) → HasLock v.held (bucket_at site.shape s b) → v.moving ≡ [] → Hit site.shape words s b r k → Hit site.shape words s c t k
        → (b ≡ c) × (r ≡ t)

  -- a reply for want of room has its cause in whatever map that may be
  abbrev pub IsKnownCause : View → Call → Reply → Type 0
  IsKnownCause v call reply = (m : ℕ → Option ℕ) → Always v (λ words. IsMapNow v words m → HasRoomCause site.shape m call reply)

  -- a reply that a number is spent comes from who found a lock word of the last version
  abbrev pub IsKnownSpent : View → Reply → Type 0
  IsKnownSpent v reply = reply ≡ Spent → FoundSpent v

  -- and one that no slot is free from who knows each to be taken
  abbrev pub IsKnownFull : View → Reply → Type 0
  IsKnownFull v reply = reply ≡ Full → (n : ℕ) → n < site.shape.segments → Has (Taken n) v.facts

  -- the lock word of a bucket of a segment that the view knows to be live and current
  abbrev pub IsKnownLock : View → ℕ → Type 0
  IsKnownLock v lock = (s : ℕ) × (b : ℕ) × (s < site.shape.segments) × (b < buckets) × (lock ≡ bucket_at site.shape s b) × Has (Lives s) v.facts × Has (Current s) v.facts

  -- WHAT A KIND OF STEP ASKS of the stepping view
  abbrev pub May : Kind → View → Type 0
  May (peeks i) v = ⊤
  May asks_power v = ⊤
  May meets_root v = ⊤
  May (meets_entry e i) v = Has (Rooted e) v.facts × (e ≤ site.shape.depth) × (i < entries_of e)
  May (meets_head s version) v = Has (Lives s) v.facts × (version ≡ version_of site)
  May (pins s b) v = (b < buckets) × HasLock v.held (bucket_at site.shape s b)
  May (finds_room call) v = IsChange call × (0 < v.callers)
  May (refuses call reply) v = (is_done reply ≡ false) × IsKnownReply v call reply × IsKnownCause v call reply × IsKnownSpent v reply × IsKnownFull v reply
  May (places k a) v = (s : ℕ) × ((note : Glance) × Has note v.notes × (note.word ≡ bucket_at site.shape s (home_of (key_hash site.shape k))))
      × ((words : Words) → IsNow v.notes words → (owner_of site.shape words (key_hash site.shape k) ≡ Some s) × (find site.shape words k ≡ a))
  May (looks lock) v = IsKnownLock v lock
  May (glances_word lock i) v = IsLockWord site.shape lock × IsUnder lock i
  May (validates lock) v = ⊤
  May (learns i) v = IsGuarded v.held i
  May (meets_lock lock) v = IsKnownLock v lock
  May (tries lock free) v = IsKnownLock v lock × (lock_bit free ≡ 0) × (free ≢ spent_lock)
  May (stores i x) v = IsTidy v i x NoTwin Nowhere Nowhere × IsHarmless v i x
  May (copies i x m) v = IsTidy v i x (IsMoveOf m) Nowhere Nowhere × IsHarmless v i x
      × HoldsMove site.shape v.held m
  May (clears i x m) v = IsTidy v i x NoTwin Nowhere Nowhere × IsHarmless v i x
      × Always v (λ words. HasOnly site.shape (with_word words i x) m.segment m.to_bucket m.to_slot m.key)
  May (repays i x o) v = IsTidy v i x NoTwin (IsHomeOf o) Nowhere × IsHarmless v i x
      × Always v (λ words. HasExactNotes site.shape (with_word words i x) o.segment o.home)
      × Has o v.owed
  May (publishes i x call) v = IsTidy v i x NoTwin Nowhere (TakesFromStash v call) × ((s : ℕ) × HoldsHome v s (key_of call)) × IsUnplanned v (key_of call) × IsPublishing v call i x × HoldsPlaces v (key_of call)
  May (stashes i x call o) v = IsTidy v i x NoTwin (IsHomeOf o) (TakesFromStash v call) × ((s : ℕ) × HoldsHome v s (key_of call)) × IsUnplanned v (key_of call) × IsPublishing v call i x
      × (o.segment < site.shape.segments) × (o.home < homes) × HasLock v.held (bucket_at site.shape o.segment o.home) × OwesNone v o.segment o.home
      × Always v (λ words. IsOwed site.shape (with_word words i x) o) × HoldsPlaces v (key_of call)
  May (flushes l) v = ⊤
  May fences v = ⊤
  May (draws_place call) v = Has call v.planned × (0 < v.room) × ((s : ℕ) × HoldsHome v s (key_of call)
      × IsFirm v (bucket_at site.shape s (home_of (key_hash site.shape (key_of call))))
      × IsKept v (bucket_at site.shape s (probing_of (home_of (key_hash site.shape (key_of call)))))
      × ((c : ℕ) → c < stash_buckets → IsKept v (bucket_at site.shape s (stash_bucket c)) ⊎ IsUnvisited v s (key_of call) c)) × HasNoted v
  May (unlocks lock next) v = (x : ℕ) × Has (lock, x) v.held × IsFirm v lock × (v.planned ≡ []) × (v.moving ≡ []) × (v.owed ≡ []) × (next ≡ unlocked x)
  May cuts_power v = ⊤
