-- What holds of the newest words and of all views between any two events, from the end of a restart to the close. It is
-- said object by object: structure, locks, words, planned changes, history, owned records, copies, overflow data, media, notes, room, spent numbers, power.
use Rattle.std.specs.Prelude.{◌≡◌, ◌≢◌, ℕ, ◌+◌, ◌<◌, ◌≤◌, true, Some, List, [], ◌∷◌, ◌⊎◌, length, filter}
use Rattle.bucket_meta.specs.Bucket.{lock_bit}
use Rattle.trace.specs.Events.{Words}
use Rattle.image_layout.specs.Volatile.{counter_word, power_word, power_on}
use Rattle.map_model.specs.declared.call.Call.{Call}
use Rattle.map_model.specs.declared.entry.Reply.TheVariants.{Done, Spent}
use Rattle.map_model.specs.declared.entry.Entry.{Entry}
use Rattle.map_model.specs.Map.{key_of}
use Rattle.map_model.specs.Weave.{draws, spent_count, drew_at}
use Rattle.map_model.specs.Legal.{InOrder, seen_of}
use Rattle.image_layout.specs.Places.{header_word, bucket_at, buckets}
use Rattle.sound_image.specs.Records.{key_hash}
use Rattle.map_model.specs.declared.call.Call.TheVariants.{Remove}
use Rattle.frame_facts.specs.Hits.{Hit, find}
use Rattle.frame_facts.specs.Owners.{owner_of, home_at}
use Rattle.world.specs.Conditions.{IsMoveOf}
use Rattle.world.specs.Ground.{Ground, IsLockWord, IsSpentLock, HasSpentLock, IsCurrentLock}
use Rattle.world.specs.Views.{Glance, Answer, Move, Owed, View, Has, At, HasLock}
use Rattle.world.specs.History.{Log, map_now, map_when, result_of, reply_by, IsRight}

-- the sum of a number over all views
abbrev pub total : (View → ℕ) → List View → ℕ
total f [] = 0
total f (v ∷ views) = f v + total f views

-- a view has the header of a segment pinned as it is: it holds the lock of one of its buckets
abbrev pub IsPinned : Ground → Words → View → ℕ → ℕ → Type 0
IsPinned site words v s x = (b : ℕ) × (b < buckets) × HasLock v.held (bucket_at site.shape s b) × (words (header_word site.shape s) ≡ x)

-- LOCKS: one view holds a lock, whose word is the odd value that the view has; and a lock word of a current segment that is odd has
-- a holder
pub record Locks (site : Ground) (words : Words) (views : List View) : Type 0 where
  pub alone : (i j : ℕ) (u v : View) (lock x y : ℕ) → At views i u → At views j v → Has (lock, x) u.held → Has (lock, y) v.held → i ≡ j
  pub locked : (j : ℕ) (v : View) (lock x : ℕ) → At views j v → Has (lock, x) v.held → IsLockWord site.shape lock × (words lock ≡ x) × (lock_bit x ≡ 1)
  pub odd : (lock : ℕ) → IsCurrentLock site words lock → lock_bit (words lock) ≡ 1 → (j : ℕ) × (v : View) × At views j v × HasLock v.held lock

-- PLANNED CHANGES: its view holds the lock of the key's home, the newest words have what the change leaves, and over the
-- history it is still to be answered as done
pub record Plans (site : Ground) (words : Words) (views : List View) (log : Log) : Type 0 where
  pub held : (j : ℕ) (v : View) (call : Call) → At views j v → Has call v.planned → HasLock v.held (home_at site.shape words (key_of call))
  -- and the locks of the buckets in which the key stands
  pub places : (j : ℕ) (v : View) (call : Call) → At views j v → Has call v.planned → (s b r : ℕ) → owner_of site.shape words (key_hash site.shape (key_of call)) ≡ Some s
      → Hit site.shape words s b r (key_of call) → HasLock v.held (bucket_at site.shape s b)
  pub stored : (j : ℕ) (v : View) (call : Call) → At views j v → Has call v.planned → find site.shape words (key_of call) ≡ result_of call
  pub fits : (j : ℕ) (v : View) (call : Call) → At views j v → Has call v.planned → Done ≡ reply_by (map_now site.start log (key_of call)) call

-- HISTORY: the commit counter counts the drawn changes, each by one entry; each view's entries are right, numbered on by
-- one, none at a place below what its caller had seen; and nobody has seen more changes than there are
pub record History (site : Ground) (words : Words) (views : List View) (log : Log) : Type 0 where
  pub counter : words (counter_word site.shape) ≡ length log
  pub right : (j : ℕ) (v : View) (e : Entry) → At views j v → Has e v.own → IsRight site.shape site.start log e
  pub in_order : (j : ℕ) (v : View) → At views j v → InOrder 1 0 v.own
  pub after_own : (j : ℕ) (v : View) → At views j v → seen_of 0 v.own ≤ v.seen
  pub within : (j : ℕ) (v : View) → At views j v → v.seen ≤ length log
  pub drawn : total (λ v. draws v.own) views ≡ length log
  pub each_once : (n : ℕ) → n < length log → total (λ v. length (filter (drew_at n) v.own)) views ≡ 1

-- a view that holds a lock has a remove of the key stored and not drawn
abbrev pub IsRemoving : List View → ℕ → ℕ → Type 0
IsRemoving views k lock = (j : ℕ) × (u : View) × At views j u × Has (Remove k) u.planned × HasLock u.held lock

-- a view has a record under way from one of two places to the other
abbrev pub IsMoving : List View → ℕ → ℕ → ℕ → ℕ → ℕ → ℕ → Type 0
IsMoving views s k b r c t = (j : ℕ) × (u : View) × (m : Move) × At views j u × Has m u.moving × IsMoveOf m s k b r c t

-- nobody owes a note of home b
abbrev pub NobodyOwes : List View → ℕ → ℕ → Type 0
NobodyOwes views s b = (j : ℕ) (v : View) (o : Owed) → At views j v → Has o v.owed → o.segment ≡ s → o.home ≡ b → ⊥

-- a noted lock word of a current segment has not fallen below the free value that it had
pub record IsPastLock (site : Ground) (words : Words) (note : Glance) : Type 0 where
  pub lock : IsCurrentLock site words note.word
  pub free : lock_bit note.value ≡ 0
  pub past : note.value ≤ words note.word

-- a noted word was found the same after the answer's place was loaded, or is the same now
abbrev pub IsUnmoved : Words → Glance → Type 0
IsUnmoved words note = (note.again ≡ true) ⊎ (words note.word ≡ note.value)

-- an answer is what its key had at its place, which its caller has not passed
pub record IsAnswer (site : Ground) (log : Log) (seen : ℕ) (a : Answer) : Type 0 where
  pub within : a.place ≤ length log
  pub had : map_when site.start log a.place a.key ≡ a.value
  pub after_seen : seen ≤ a.place

-- ROOM: the commit counter never wraps, since whoever draws has found it below 2 ^ 63 since it last drew
pub record Room (site : Ground) (views : List View) (log : Log) : Type 0 where
  pub callers : total (λ v. v.callers) views ≡ site.callers
  pub each : (j : ℕ) (v : View) → At views j v → v.room ≤ v.callers
  pub few : length log + total (λ v. v.room) views ≤ spent_count + site.callers

-- SPENT NUMBERS: a lock word of a live segment that a view found free with the last version is so still; and where a reply says that a
-- number is spent, 2 ^ 63 changes are drawn, or some lock word of a live segment is free with the last version
pub record Spending (site : Ground) (words : Words) (views : List View) (log : Log) : Type 0 where
  pub met : (j : ℕ) (v : View) (lock : ℕ) → At views j v → Has lock v.spent_locks → IsSpentLock site.shape words lock
  pub told : (j : ℕ) (v : View) (e : Entry) → At views j v → Has e v.own → e.reply ≡ Spent → (spent_count ≤ length log) ⊎ HasSpentLock site.shape words

-- POWER: it is off only where some view stored the power word
abbrev pub Powered : Ground → Words → List View → Type 0
Powered site words views = words (power_word site.shape) ≢ power_on → (j : ℕ) × (v : View) × At views j v × (v.stored_power ≡ true)
