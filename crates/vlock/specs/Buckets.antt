-- What reading, locking and unlocking a bucket ask and tell.
use Rattle.std.specs.Prelude.{◌≡◌, ◌≢◌, ◌⊎◌, true, ℕ, zero, suc, ◌+◌, ◌^◌, ◌<◌, ◌≤◌, List, [], ◌∷◌, slice_index, length}
use Rattle.op_core.specs.declared.want.Want.{Want}
use Rattle.op_core.specs.declared.want.Want.TheVariants.{Load, Store, Exchange}
use Rattle.bucket_meta.specs.Bucket.{lock_place, mark_place, lock_bit, free_lock, locked, unlocked, given_back}
use Rattle.image_layout.specs.Places.{block}
use Rattle.world.specs.Ground.{Ground, spent_lock}
use Rattle.world.specs.Views.{Glance, View, Has, IsFirm}
use Rattle.world.specs.Kinds.{unlocks}
use Rattle.world.specs.StepKinds.{StepKind, of_call, view_by}
use Rattle.world.specs.areas.Bridging.{HasNoWhole}
use Rattle.vlock.specs.declared.knows.Watch.{Watch}
use Rattle.vlock.specs.declared.bucket.ReadReply.{ReadReply}
use Rattle.vlock.specs.declared.bucket.ReadReply.TheVariants.{Clean, Moved, Held}
use Rattle.vlock.specs.declared.bucket.LockReply.{LockReply}
use Rattle.vlock.specs.declared.bucket.LockReply.TheVariants as locking
use Rattle.vlock.specs.Plays.{Moment, Tells}

-- the view stands for a caller, and has no segment whole
abbrev pub MayCall : View → Type 0
MayCall v = (0 < v.callers) × HasNoWhole v

-- a load tells this
abbrev pub Loads : Ground → ℕ → (ℕ → StepKind) → Watch → ℕ → Watch → Type 0
Loads site at kind p found q = Tells site (Load at) kind p found q

-- a view is as another was but for what it noted
abbrev pub IsBesideNotes : View → View → Type 0
IsBesideNotes v w = w ≡ record v { notes = w.notes }

-- at a moment that met the invariant, with this view there but for what it noted, the word was this
abbrev pub WasFound : Ground → View → ℕ → ℕ → Type 0
WasFound site v at x = (w : View) × IsBesideNotes v w × ((m : Moment site w) × (m.words at ≡ x))

-- ONE MOMENT that met the invariant, with this view there but for what it noted, at which the lock was free with this version, and the 32 words of
-- its bucket were these
pub record WasBucket (site : Ground) (v : View) (lock version : ℕ) (bits : List ℕ) : Type 0 where
  pub then : View
  pub same_view : IsBesideNotes v then
  pub moment : Moment site then
  pub free : moment.words lock ≡ free_lock version
  pub same : (j : ℕ) → j < block → moment.words (lock + j) ≡ slice_index bits j

-- the events that were taken, with loads of the first words of a bucket behind them, the newest first: what each found is in these bits
abbrev pub with_loads : ℕ → List ℕ → ℕ → List (Want × ℕ) → List (Want × ℕ)
with_loads lock bits zero took = took
with_loads lock bits (suc n) took = (Load (lock + n), slice_index bits n) ∷ with_loads lock bits n took

-- one event more was taken, a look at the lock word, and it found this
abbrev pub LookedOnce : ℕ → ℕ → List (Want × ℕ) → List (Want × ℕ) → Type 0
LookedOnce lock x took later = later ≡ (Load lock, x) ∷ took

-- the 32 words of the bucket were loaded, of which the lock word was the first and found to be `before`, and then the lock word once more, and found to
-- be `after`
abbrev pub ReadToItsEnd : ℕ → ℕ → ℕ → List (Want × ℕ) → List (Want × ℕ) → Type 0
ReadToItsEnd lock before after took later = (bits : List ℕ) × (slice_index bits lock_place ≡ before) × (later ≡ (Load lock, after) ∷ with_loads lock bits block took)

-- the view notes that the bucket was read, with its words, and that its lock word was the same behind them
abbrev pub NotesBucket : ℕ → ℕ → List ℕ → View → Type 0
NotesBucket lock version bits v =
    (note : Glance) × Has note v.notes × (note.word ≡ lock) × (note.value ≡ free_lock version) × (note.again ≡ true)
    × ((j : ℕ) → mark_place ≤ j → j < block → Has (lock + j, slice_index bits j) note.words)

-- WHAT READING A BUCKET TELLS, of what the seat knew before and knows after: where the bucket is clean, its 32 words were loaded, and then the
-- lock word once more
abbrev pub ReadSays : Ground → ℕ → Watch → ReadReply → Watch → Type 0
ReadSays site lock p (Clean version bits) q =
    WasBucket site p.view lock version bits × (q.took ≡ (Load lock, free_lock version) ∷ with_loads lock bits block p.took) × NotesBucket lock version bits q.view
ReadSays site lock p (Moved before after) q =
    (before ≢ after) × (lock_bit before ≡ 0) × (lock_bit after ≡ 0) × WasFound site p.view lock before × WasFound site p.view lock after
    × ReadToItsEnd lock before after p.took q.took
ReadSays site lock p (Held seen) q =
    (lock_bit seen ≡ 1) × WasFound site p.view lock seen
    × (LookedOnce lock seen p.took q.took ⊎ ((before : ℕ) × (lock_bit before ≡ 0) × ReadToItsEnd lock before seen p.took q.took))

-- at a moment that met the invariant, with this view there, the word was this
abbrev pub WasAt : Ground → View → ℕ → ℕ → Type 0
WasAt site v at x = (m : Moment site v) × (m.words at ≡ x)

-- in the midst of reading: the words that were loaded are noted, and nothing else of the view has changed
pub record IsReading (site : Ground) (v : View) (lock before : ℕ) (bits : List ℕ) (next : ℕ) (w : View) : Type 0 where
  pub note : Glance
  pub rest : List Glance
  pub notes : w.notes ≡ note ∷ rest
  pub lock_is : note.word ≡ lock
  pub value : note.value ≡ before
  pub even : lock_bit before ≡ 0
  pub has : (j : ℕ) → mark_place ≤ j → j < next → Has (lock + j, slice_index bits j) note.words
  pub whole : length bits ≡ block
  pub first : slice_index bits lock_place ≡ before
  pub same_view : IsBesideNotes v w
  pub found : WasFound site v lock before

-- what is said of a lock that was tried: the lock is held now, or the view is as it was, and when it was looked at the word was this; or it is
-- remembered that its numbers are spent
abbrev pub LockSays : Ground → ℕ → View → LockReply → View → Type 0
LockSays site lock v (locking.Locked version) w = (w ≡ record v { held = (lock, locked (free_lock version)) ∷ v.held }) × (given_back (free_lock version) < 2 ^ 64) × WasAt site v lock (free_lock version)
LockSays site lock v (locking.Held seen) w = (w ≡ v) × (lock_bit seen ≡ 1) × WasAt site v lock seen
LockSays site lock v (locking.Moved before after) w =
    (w ≡ v) × (before ≢ after) × (lock_bit before ≡ 0) × (lock_bit after ≡ 0) × WasAt site v lock before × WasAt site v lock after
LockSays site lock v locking.Spent w = (w ≡ record v { spent_locks = lock ∷ v.spent_locks }) × WasAt site v lock spent_lock

-- WHICH EVENTS A TRY TAKES: a look at the lock word, and where that is free and not of the last version one exchange. It gives up a lock as held
-- where the last of them found an odd value
abbrev pub LockTook : ℕ → List (Want × ℕ) → LockReply → List (Want × ℕ) → Type 0
LockTook lock took (locking.Locked version) later = later ≡ (Exchange lock (free_lock version) (locked (free_lock version)), free_lock version) ∷ (Load lock, free_lock version) ∷ took
LockTook lock took (locking.Held seen) later =
    (lock_bit seen ≡ 1)
    × ((later ≡ (Load lock, seen) ∷ took) ⊎ ((free : ℕ) × (lock_bit free ≡ 0) × (free ≢ spent_lock) × (later ≡ (Exchange lock free (locked free), seen) ∷ (Load lock, free) ∷ took)))
LockTook lock took (locking.Moved before after) later = later ≡ (Exchange lock before (locked before), after) ∷ (Load lock, before) ∷ took
LockTook lock took locking.Spent later = later ≡ (Load lock, spent_lock) ∷ took

-- the same of the exchange alone, of a word that was found to be `free`
abbrev pub TakeTook : ℕ → ℕ → List (Want × ℕ) → LockReply → List (Want × ℕ) → Type 0
TakeTook lock free took (locking.Locked version) later = (free ≡ free_lock version) × (later ≡ (Exchange lock free (locked free), free) ∷ took)
TakeTook lock free took (locking.Held seen) later = (lock_bit seen ≡ 1) × (later ≡ (Exchange lock free (locked free), seen) ∷ took)
TakeTook lock free took (locking.Moved before after) later = (before ≡ free) × (later ≡ (Exchange lock free (locked free), after) ∷ took)
TakeTook lock free took locking.Spent later = ⊥

-- WHAT UNLOCKING ASKS: the view holds the lock, no word under it is unsettled, and nothing is planned, under way or owed
pub record MayUnlock (v : View) (lock : ℕ) : Type 0 where
  pub value : ℕ
  pub held : Has (lock, value) v.held
  pub fits : unlocked value < 2 ^ 64
  pub firm : IsFirm v lock
  pub planned : v.planned ≡ []
  pub moving : v.moving ≡ []
  pub owed : v.owed ≡ []

-- and what it tells: with the number that the view held the lock with, an odd one, it looked at the lock and then stored the next one, with which the lock is held no more
abbrev pub Unlocks : Ground → ℕ → ℕ → Watch → Watch → Type 0
Unlocks site lock x p q =
    (lock_bit x ≡ 1) × (q.view ≡ view_by site.shape (of_call (unlocks lock (unlocked x))) x p.view) × (q.past ≡ p.past) × (q.took ≡ (Store lock (unlocked x), x) ∷ (Load lock, x) ∷ p.took)
