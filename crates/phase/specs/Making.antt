-- How the stores of one record fit the world: the kind of each event, which words are known and which may be loose at each of
-- them, and what the words are then.
use Rattle.std.specs.Prelude.{◌≡◌, ◌≢◌, ℕ, ◌+◌, ◌^◌, ◌<◌, ◌≤◌, ⊤, List, ◌⊎◌}
use Rattle.op_core.specs.declared.want.Want.TheVariants.{Store}
use Rattle.bucket_meta.specs.Bucket.{mark_place, allocated, record_slots}
use Rattle.bucket_meta.specs.Marks.{with_finger}
use Rattle.hash_word.specs.Hash.{fingerprint_bits, finger_of}
use Rattle.trace.specs.Events.{Words, with_word, line_of}
use Rattle.image_layout.specs.Places.{Shape, bucket_at, homes, buckets, block}
use Rattle.sound_image.specs.Records.{key_hash}
use Rattle.map_model.specs.declared.call.Call.{Call}
use Rattle.bucket_words.specs.Buckets.{value_in}
use Rattle.bucket_words.specs.Hits.{Hit}
use Rattle.bucket_words.specs.HomeNotes.{IsUnnoted}
use Rattle.bucket_words.specs.TableChanges.{IsReadyAt}
use Rattle.world.specs.declared.site.Site.{Site}
use Rattle.world.specs.Ground.{Ground, IsLockWord, IsUnder}
use Rattle.world.specs.Views.{Move, Owed, View, Has, HasLock}
use Rattle.world.specs.Kinds.{Kind, stores, flushes, fences, with_store, wanted, view_after}
use Rattle.world.specs.Conditions.{May}
use Rattle.phase.specs.declared.role.Role.{Role}
use Rattle.phase.specs.declared.held.Held.{Held}
use Rattle.phase.specs.declared.make.Record.{Record}
use Rattle.phase.specs.declared.make.Make.{Make}
use Rattle.phase.specs.declared.make.Make.TheVariants.{Key, Value, Fingers, FlushFingers, FlushRecord, FenceRecord, Publish, FlushPublished, FencePublished}
use Rattle.phase.specs.declared.make.Made.{Made}
use Rattle.phase.specs.declared.make.Made.TheVariants.{On, Settled}
use Rattle.phase.specs.Places.{lock_word}
use Rattle.phase.specs.Giving.{IsHeld, HoldsLocks}
use Rattle.phase.specs.Makes.{key_at, value_at, fingers_at, published_at, make_wanted, make_taken}
use Rattle.phase.specs.Knows.{Knows, HasNoneLoose}

-- the kind of the one store that makes the change is a parameter, since it is another for each machine: it is that of a store,
-- whatever it plans, moves or owes
pub record IsStoring (publish : ℕ → ℕ → Kind) : Type 0 where
  pub wants : (shape : Shape) (i x : ℕ) → wanted shape (publish i x) ≡ Store i x
  pub leaves : (shape : Shape) (i x n : ℕ) (v : View) → (calls : List Call) × (moves : List Move) × (owed : List Owed) × (view_after shape (publish i x) n v ≡ with_store shape i n x calls moves owed v)

module _ (publish : ℕ → ℕ → Kind) (lock : ℕ) (written : Record) where
  abbrev pub make_kind : Make → Kind
  make_kind Key = stores (key_at lock written) written.key
  make_kind Value = stores (value_at lock written) written.value
  make_kind Fingers = stores (fingers_at lock written) written.fingers
  make_kind FlushFingers = flushes (line_of (fingers_at lock written))
  make_kind FlushRecord = flushes (line_of (key_at lock written))
  make_kind FenceRecord = fences
  make_kind Publish = publish (published_at lock written) written.mark
  make_kind FlushPublished = flushes (line_of (published_at lock written))
  make_kind FencePublished = fences

-- ---- the words at each event
-- a new record is stored before it is published; an update, a remove and a clearing begin there
abbrev pub IsNew : Make → Type 0
IsNew Publish = ⊥
IsNew FlushPublished = ⊥
IsNew FencePublished = ⊥
IsNew make = ⊤

module _ (lock : ℕ) (written : Record) where
  -- with its key, its value and its fingerprint
  abbrev pub with_key : Words → Words
  with_key word = with_word word (key_at lock written) written.key

  abbrev pub with_value : Words → Words
  with_value word = with_word (with_key word) (value_at lock written) written.value

  abbrev pub with_record : Words → Words
  with_record word = with_word (with_value word) (fingers_at lock written) written.fingers

  -- with the store that makes the change
  abbrev pub with_mark : Words → Words
  with_mark word = with_word word (published_at lock written) written.mark

  module _ (word before : Words) where
    -- THE WORDS AT EACH EVENT, by those at the first and those before the one store that makes the change
    abbrev pub words_at : Make → Words
    words_at Key = word
    words_at Value = with_key word
    words_at Fingers = with_value word
    words_at FlushFingers = with_record word
    words_at FlushRecord = with_record word
    words_at FenceRecord = with_record word
    words_at Publish = before
    words_at FlushPublished = with_mark before
    words_at FencePublished = with_mark before

  -- ---- what is loose
  -- word i is one of the record
  abbrev pub IsOfRecord : ℕ → Type 0
  IsOfRecord i = (i ≡ key_at lock written) ⊎ (i ≡ value_at lock written)

  -- word i may be stored and not flushed
  abbrev pub MayBeDirty : Make → ℕ → Type 0
  MayBeDirty Value i = IsOfRecord i
  MayBeDirty Fingers i = IsOfRecord i
  MayBeDirty FlushFingers i = IsOfRecord i ⊎ (i ≡ fingers_at lock written)
  MayBeDirty FlushRecord i = IsOfRecord i
  MayBeDirty FlushPublished i = i ≡ published_at lock written
  MayBeDirty make i = ⊥

  -- words may be flushed and not fenced
  abbrev pub MayBeFlushed : Make → Type 0
  MayBeFlushed FlushRecord = ⊤
  MayBeFlushed FenceRecord = ⊤
  MayBeFlushed FencePublished = ⊤
  MayBeFlushed make = ⊥

  -- THE VIEW at each event: it knows the words of a set, whichever it is, and nothing else is loose than was stored and not settled
  pub record IsMaking (S : ℕ → Type 0) (word before : Words) (make : Make) (v : View) : Type 0 where
    pub new : IsNew make → before ≡ with_record word
    pub knows : Knows S (words_at word before make) v
    pub dirty : (p : ℕ × ℕ) → Has p v.dirty → MayBeDirty make p.0
    pub flushed : (p : ℕ × ℕ) → Has p v.flushed → MayBeFlushed make

  -- and when all is settled, nothing is loose
  abbrev pub HasMade : (ℕ → Type 0) → Words → Words → Made → View → Type 0
  HasMade S word before (On make) v = IsMaking S word before make v
  HasMade S word before Settled v = Knows S (with_mark before) v × HasNoneLoose v

-- ---- the slot
-- the record fits slot `slot` of bucket b of segment s, which is free: the word of fingerprints is the one there, with a fingerprint put in
pub record FitsSlot (shape : Shape) (word : Words) (s b lock : ℕ) (written : Record) (finger : ℕ) : Type 0 where
  pub segment : s < shape.segments
  pub bucket : b < buckets
  pub at : lock ≡ bucket_at shape s b
  pub slot : written.slot < record_slots
  pub is_free : allocated written.slot (word (lock + mark_place)) ≡ 0
  pub small : finger < 2 ^ fingerprint_bits
  pub fingers : written.fingers ≡ with_finger (word (fingers_at lock written)) written.slot finger

-- all but what a view knows and has not settled, plans, moves and owes is as it was
abbrev pub IsButStored : View → View → Type 0
IsButStored v u = u ≡ record v { known = u.known; dirty = u.dirty; flushed = u.flushed; planned = u.planned; moving = u.moving; owed = u.owed }

-- it plans, moves and owes what it did
pub record KeepsPlans (v u : View) : Type 0 where
  pub planned : u.planned ≡ v.planned
  pub moving : u.moving ≡ v.moving
  pub owed : u.owed ≡ v.owed

-- ---- at most so many events are left
abbrev pub make_left : Make → ℕ
make_left Key = 9
make_left Value = 8
make_left Fingers = 7
make_left FlushFingers = 6
make_left FlushRecord = 5
make_left FenceRecord = 4
make_left Publish = 3
make_left FlushPublished = 2
make_left FencePublished = 1

abbrev pub made_left : Made → ℕ
made_left (On make) = make_left make
made_left Settled = 0

-- ---- lines that are flushed and not fenced
abbrev pub waiting_of : Make → ℕ
waiting_of FlushRecord = 1
waiting_of FenceRecord = 2
waiting_of FencePublished = 1
waiting_of make = 0

-- at most so many of them
abbrev pub most_waiting : ℕ
most_waiting = 2

-- ---- the one store that makes the record count was done
abbrev pub IsPublished : Make → Type 0
IsPublished FlushPublished = ⊤
IsPublished FencePublished = ⊤
IsPublished make = ⊥

-- ---- the laws
-- each event is of its kind. The view is but for the words as it was, and changes its plans in the one store alone that makes the
-- change
pub record MakeFits : Type 0 where
  pub wants : (shape : Shape) (publish : ℕ → ℕ → Kind) → IsStoring publish → (lock : ℕ) (written : Record) (make : Make)
      → make_wanted lock written make ≡ wanted shape (make_kind publish lock written make)
  pub others : (shape : Shape) (publish : ℕ → ℕ → Kind) → IsStoring publish → (lock : ℕ) (written : Record) (make : Make) (n : ℕ) (v : View)
      → IsButStored v (view_after shape (make_kind publish lock written make) n v)
  pub plans : (shape : Shape) (publish : ℕ → ℕ → Kind) (lock : ℕ) (written : Record) (make : Make) (n : ℕ) (v : View) → make ≢ Publish
      → KeepsPlans v (view_after shape (make_kind publish lock written make) n v)

-- WHAT IS KNOWN of the stores, for any set of words
pub record MakeKnows (S : ℕ → Type 0) : Type 0 where
  -- they begin with nothing loose: those of a new record at its key, and those of an update, a remove or a clearing at the one that
  -- makes the change
  pub new : (lock : ℕ) (written : Record) (word : Words) (v : View) → Knows S word v → HasNoneLoose v → IsMaking lock written S word (with_record lock written word) Key v
  pub change : (lock : ℕ) (written : Record) (word before : Words) (v : View) → Knows S before v → HasNoneLoose v → IsMaking lock written S word before Publish v
  -- each event keeps it
  pub stands : (shape : Shape) (publish : ℕ → ℕ → Kind) → IsStoring publish → (lock : ℕ) (written : Record) → IsLockWord shape lock
      → (word before : Words) (make : Make) (v : View) (n : ℕ) → IsMaking lock written S word before make v
      → HasMade lock written S word before (make_taken written.slot make) (view_after shape (make_kind publish lock written make) n v)
  -- who holds the lock may take each, but for the one store that makes the change
  pub may : (site : Ground) (publish : ℕ → ℕ → Kind) (s b lock finger : ℕ) (written : Record) (word before : Words) (make : Make) (v : View)
      → (IsNew make → FitsSlot site.shape word s b lock written finger) → HasLock v.held lock → ((i : ℕ) → IsUnder lock i → S i)
      → IsMaking lock written S word before make v → make ≢ Publish → May site (make_kind publish lock written make) v
  -- at that one nothing is loose, and the machine shows that it may
  pub settled : (lock : ℕ) (written : Record) (word before : Words) (v : View) → IsMaking lock written S word before Publish v → HasNoneLoose v

-- the stores to the bucket of a place that is held keep what is held
abbrev pub MakeHolds : Type 0
MakeHolds = (shape : Shape) (publish : ℕ → ℕ → Kind) → IsStoring publish → (here : Site) (hash segment : ℕ) (held : Held) (place : Role) (written : Record) (make : Make) (n : ℕ) (v : View)
    → IsHeld held place → written.slot < record_slots → mark_place ≤ written.published → written.published < block → HoldsLocks here hash segment held v
    → HoldsLocks here hash segment held (view_after shape (make_kind publish (lock_word here hash segment place) written make) n v)

abbrev pub MakeFalls : Type 0
MakeFalls = (slot : ℕ) (make : Make) → made_left (make_taken slot make) < make_left make

-- A RECORD THAT WAS PREPARED: it stands ready in its slot, no key stands where it did not, and what is noted of the stash is as it was
pub record PreparesRecord : Type 0 where
  pub meta : (shape : Shape) (word : Words) (s b lock finger : ℕ) (written : Record) → FitsSlot shape word s b lock written finger
      → with_record lock written word (lock + mark_place) ≡ word (lock + mark_place)
  pub ready : (shape : Shape) (word : Words) (s b lock finger : ℕ) (written : Record) → FitsSlot shape word s b lock written finger → finger ≡ finger_of (key_hash shape written.key)
      → IsReadyAt shape (with_record lock written word) s b written.slot written.key
  pub value : (shape : Shape) (word : Words) (s b lock finger : ℕ) (written : Record) → FitsSlot shape word s b lock written finger
      → value_in (with_record lock written word) lock written.slot ≡ written.value
  pub hits : (shape : Shape) (word : Words) (s b lock finger : ℕ) (written : Record) → FitsSlot shape word s b lock written finger
      → (q c t k : ℕ) → Hit shape (with_record lock written word) q c t k → Hit shape word q c t k
  pub unnoted : (shape : Shape) (word : Words) (s b lock finger : ℕ) (written : Record) → FitsSlot shape word s b lock written finger
      → (q d f c : ℕ) → d < homes → IsUnnoted shape word q d f c → IsUnnoted shape (with_record lock written word) q d f c
