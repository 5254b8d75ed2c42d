-- How a get fits the world: the kind of each of its events, the view that its caller has in each step, and what each
-- event does to that view.
use Rattle.std.specs.Prelude.{◌≡◌, ◌≢◌, ◌⊎◌, ℕ, suc, ◌+◌, ◌^◌, ◌<◌, nat_lt, ⊤, Bool, true, false, Option, None, Some, List, [], if◌then◌else◌}
use Rattle.op_core.specs.declared.want.Want.TheVariants.{Done}
use Rattle.op_core.specs.declared.want.Ans.TheVariants.{Value}
use Rattle.hash_word.specs.Hash.{home_of, finger_of}
use Rattle.trace.specs.Events.{Words}
use Rattle.bucket_meta.specs.Bucket.{record_slots, mark_place, rest_place}
use Rattle.image_layout.specs.Volatile.{counter_word}
use Rattle.map_model.specs.declared.call.Call.TheVariants.{Get}
use Rattle.map_model.specs.declared.entry.Reply.TheVariants as reply
use Rattle.sound_image.specs.Records.{key_hash}
use Rattle.way.specs.Ways.{head_word, is_leading}
use Rattle.bucket_words.specs.Buckets.{find_below}
use Rattle.bucket_words.specs.HomeNotes.{IsUnnoted}
use Rattle.world.specs.declared.site.Site.{Site}
use Rattle.world.specs.Ground.{Ground, IsGround, version_of}
use Rattle.world.specs.Views.{Glance, View, Has, At}
use Rattle.world.specs.Kinds.{Kind, peeks, looks, glances_word, places, validates, wanted as wanted_by, view_after}
use Rattle.world.specs.Conditions.{IsNow, May}
use Rattle.world.specs.Invariant.{Holds}
use Rattle.world.specs.Laws.{found_by}
use Rattle.world.specs.Attempts.{HasNoMore, HasOneMore}
use Rattle.part.specs.Part.{IsKnownLive}
use Rattle.phase.specs.declared.load.Load.{Load}
use Rattle.phase.specs.Stands.{walk_kind, back_kind, IsThere, IsWalking, HasBegun, IsLoading}
use Rattle.phase.specs.declared.role.Role.{Role}
use Rattle.phase.specs.declared.role.Role.TheVariants.{Home, Probing, First, Second, Next, Previous}
use Rattle.phase.specs.Places.{stash_index, lock_word}
use Rattle.phase.specs.Asked.{index, asked_by, IsAskedBefore, looked_by, loaded_by}
use Rattle.read_op.specs.declared.role.Free.{Free}
use Rattle.read_op.specs.declared.step.Seen.{Seen}
use Rattle.read_op.specs.declared.step.ReadEnd.TheVariants as ends
use Rattle.read_op.specs.declared.step.ReadStep.{ReadStep}
use Rattle.read_op.specs.declared.step.ReadStep.TheVariants.{Way, Look, Fill, Count, Check, Relook, Ended}
use Rattle.read_op.specs.declared.step.Task.{Task}
use Rattle.read_op.specs.declared.op.ReadOp.{ReadOp}
use Rattle.read_op.specs.Places.{free_at}
use Rattle.read_op.specs.Steps.{begun, wanted, taken, lock_of}
use Rattle.image_layout.specs.Places.{place_in_bucket, buckets_of_key}

-- ---- sets of buckets
-- those that are looked at in all
abbrev pub is_asked : Seen → Role → Bool
is_asked s q = asked_by s.first s.second q

-- those of them before the k-th
abbrev pub Upto : Seen → ℕ → Role → Type 0
Upto s k q = IsAskedBefore s.first s.second k q

-- ---- the words that are noted and looked at again
-- the header's, or the lock word of a bucket
pub data Watched : Type 0 where
  at_head : Watched
  at_bucket : (place : Role) → Watched

abbrev pub word_at : Site → (hash segment : ℕ) → Watched → ℕ
word_at here hash segment at_head = head_word here.geometry segment
word_at here hash segment (at_bucket q) = lock_word here hash segment q

abbrev pub value_at : (head : ℕ) → Free → Watched → ℕ
value_at head free at_head = head
value_at head free (at_bucket q) = free_at free q

abbrev pub watched_word : Task → Seen → Watched → ℕ
watched_word task s w = word_at task.site task.hash s.path.segment w

-- the value that it had
abbrev pub watched_value : Seen → Watched → ℕ
watched_value s w = value_at s.path.head s.free w

-- the header is watched, and each bucket that is asked for
abbrev pub is_watched : Seen → Watched → Bool
is_watched s at_head = true
is_watched s (at_bucket q) = is_asked s q

-- and those before the k-th bucket
abbrev pub IsNoted : Seen → ℕ → Watched → Type 0
IsNoted s k at_head = ⊤
IsNoted s k (at_bucket q) = Upto s k q

-- their order in the second looks
abbrev pub rank : Watched → ℕ
rank at_head = 0
rank (at_bucket q) = suc (index q)

-- the header that led there leads to the hash
abbrev pub leads : Task → Seen → Bool
leads task s = is_leading s.path.head task.hash

-- ---- kinds
module _ (task : Task) where
  -- THE KIND of the next event; where none is wanted it is a look at the counter. An answer is placed where the header leads to the hash
  abbrev pub kind_in : ReadStep → Kind
  kind_in (Way walk) = walk_kind task.site task.hash walk
  kind_in (Look s p) = looks (lock_of task s p)
  kind_in (Fill s p load) = glances_word (lock_of task s p) (lock_of task s p + place_in_bucket load.next)
  kind_in (Count s) = if leads task s then places task.key s.value else peeks (counter_word task.site.geometry)
  kind_in (Check s placed back) = back_kind task.site task.hash s.path (validates (head_word task.site.geometry s.path.segment)) back
  kind_in (Relook s placed p) = validates (lock_of task s p)
  kind_in (Ended end) = peeks (counter_word task.site.geometry)

-- THE KIND of the event that a get wants next
abbrev pub kind_of : ReadOp → Kind
kind_of op = kind_in op.task op.step

-- ---- what notes say. It is said of all words that may be the newest while the noted words are as they were, so it stays when more is
-- noted
module _ (site : Ground) (notes : List Glance) where
  -- the bucket of this lock word has this at the key
  abbrev pub Tells : ℕ → ℕ → Option ℕ → Type 0
  Tells key lock a = (m : Words) → IsNow site notes m → find_below m lock key record_slots ≡ a

  -- the notes are that of the header and those of the buckets before the k-th
  pub record NotedAt (task : Task) (s : Seen) (k : ℕ) : Type 0 where
    pub from : (n : Glance) → Has n notes → (w : Watched) × IsNoted s k w × (n.word ≡ watched_word task s w) × (n.value ≡ watched_value s w)
    pub to : (w : Watched) → IsNoted s k w → (n : Glance) × Has n notes × (n.word ≡ watched_word task s w) × (n.value ≡ watched_value s w)

  -- the value is what the buckets before the k-th have
  pub record Knows (task : Task) (s : Seen) (k : ℕ) : Type 0 where
    pub none : s.value ≡ None → (q : Role) → Upto s k q → Tells task.key (lock_of task s q) None
    pub some : (x : ℕ) → s.value ≡ Some x → (q : Role) × Tells task.key (lock_of task s q) (Some x)

  -- a stash bucket that is not visited has no note
  abbrev pub IsSkipped : Task → Seen → Bool → ℕ → Type 0
  IsSkipped task s visited c = visited ≡ false → (m : Words) → IsNow site notes m → IsUnnoted site.shape m s.path.segment (home_of task.hash) (finger_of task.hash) c

  abbrev pub Skips : Task → Seen → Type 0
  Skips task s = IsSkipped task s s.first (stash_index First) × IsSkipped task s s.second (stash_index Second)

  -- words 1 and 3 of the home bucket are kept
  abbrev pub KeepsMeta : Task → Seen → Type 0
  KeepsMeta task s = (m : Words) → IsNow site notes m → (m (lock_of task s Home + mark_place) ≡ s.meta) × (m (lock_of task s Home + rest_place) ≡ s.fingers)

  -- a bucket's words are loaded and noted
  pub record IsFilling (task : Task) (s : Seen) (p : Role) (load : Load) : Type 0 where
    pub note : Glance
    pub has : Has note notes
    pub lock : note.word ≡ lock_of task s p
    pub loads : IsLoading (lock_of task s p) note.words load

  -- what holds beside, of each bucket, when its lock word is looked at: a third one never is
  abbrev pub LooksAt : Task → Seen → Role → Type 0
  LooksAt task s Home = ⊤
  LooksAt task s Probing = ⊤
  LooksAt task s First = Skips task s × (s.first ≡ true)
  LooksAt task s Second = Skips task s × (s.second ≡ true)
  LooksAt task s Next = ⊥
  LooksAt task s Previous = ⊥

  -- and while it is loaded
  abbrev pub FillsAt : Task → Seen → Role → Type 0
  FillsAt task s Home = ⊤
  FillsAt task s Probing = KeepsMeta task s
  FillsAt task s First = Skips task s × (s.first ≡ true)
  FillsAt task s Second = Skips task s × (s.second ≡ true)
  FillsAt task s Next = ⊥
  FillsAt task s Previous = ⊥

  -- all is noted, and of the words before the k-th it is noted that they were the same again
  pub record IsChecked (task : Task) (s : Seen) (k : ℕ) : Type 0 where
    pub from : (n : Glance) → Has n notes → (w : Watched) × (is_watched s w ≡ true) × (n.word ≡ watched_word task s w) × (n.value ≡ watched_value s w) × (n.again ≡ nat_lt (rank w) k)
    pub to : (w : Watched) → is_watched s w ≡ true → (n : Glance) × Has n notes × (n.word ≡ watched_word task s w) × (n.value ≡ watched_value s w)

-- the segment that was found is live and current, the lock words of so many buckets are noted, and all words of so many
pub record IsReading (site : Ground) (task : Task) (s : Seen) (noted read : ℕ) (v : View) : Type 0 where
  pub there : IsThere site s.path.segment v.facts
  pub no_answer : v.answer ≡ None
  pub noted_at : NotedAt site v.notes task s noted
  pub knows : Knows site v.notes task s read

-- what is to be answered is noted, and all that is to be the same again
pub record IsAnswering (site : Ground) (task : Task) (s : Seen) (placed k : ℕ) (v : View) : Type 0 where
  pub there : IsThere site s.path.segment v.facts
  pub leads : leads task s ≡ true
  pub checked : IsChecked site v.notes task s k
  pub answer : v.answer ≡ Some (record { key = task.key; value = s.value; place = placed })

-- the header does not lead to the hash, and nothing is to be answered
pub record IsAstray (task : Task) (s : Seen) (v : View) : Type 0 where
  pub away : leads task s ≡ false
  pub no_answer : v.answer ≡ None

-- THE VIEW of each step
abbrev pub suits_in : Ground → Task → ReadStep → View → Type 0
suits_in site task (Way walk) v = IsWalking site walk v.facts × HasBegun walk v
suits_in site task (Look s p) v = IsReading site task s (index p) (loaded_by p) v × LooksAt site v.notes task s p
suits_in site task (Fill s p load) v = IsReading site task s (looked_by p) (index p) v × FillsAt site v.notes task s p × IsFilling site v.notes task s p load
suits_in site task (Count s) v = IsReading site task s buckets_of_key buckets_of_key v × Skips site v.notes task s
suits_in site task (Check s placed back) v = IsAnswering site task s placed 0 v ⊎ IsAstray task s v
suits_in site task (Relook s placed p) v = IsAnswering site task s placed (suc (index p)) v × (is_asked s p ≡ true)
suits_in site task (Ended (ends.Stale segment version)) v = IsKnownLive site segment v.facts
suits_in site task (Ended end) v = ⊤

-- the view suits the get
abbrev pub Suits : Ground → ReadOp → View → Type 0
Suits site op v = suits_in site op.task op.step v

-- the get runs in this image, with its version, and its hash is its key's
pub record IsIn (site : Ground) (task : Task) : Type 0 where
  pub shape : task.site.geometry ≡ site.shape
  pub version : task.site.version ≡ version_of site
  pub hash : task.hash ≡ key_hash site.shape task.key
  pub fits : task.hash < 2 ^ 64

-- ---- the laws
-- a get that has done nothing yet, of a key whose hash has 64 bits, is in the image where it runs, and suits any view
abbrev pub BeginsSuited : Type 0
BeginsSuited = (site : Ground) (here : Site) (key : ℕ) → here.geometry ≡ site.shape → here.version ≡ version_of site → (begun key here).task.hash < 2 ^ 64
    → IsIn site (begun key here).task × ((v : View) → Suits site (begun key here) v)

module _ (site : Ground) (op : ReadOp) where
  -- what a get wants is what its kind wants
  abbrev pub WantsByKind : Type 0
  WantsByKind = IsIn site op.task → wanted op ≢ Done → wanted op ≡ wanted_by site.shape (kind_of op)

  -- a view that suits may take the step
  abbrev pub MayStep : View → Type 0
  MayStep v = IsGround site → IsIn site op.task → Suits site op v → May site (kind_of op) v

-- the view has its locks, its known and unsettled words, its planned changes, its records under way and the notes that it owes, as
-- before
pub record OwesTheSame (v after : View) : Type 0 where
  pub held : after.held ≡ v.held
  pub known : after.known ≡ v.known
  pub dirty : after.dirty ≡ v.dirty
  pub flushed : after.flushed ≡ v.flushed
  pub planned : after.planned ≡ v.planned
  pub moving : after.moving ≡ v.moving
  pub owed : after.owed ≡ v.owed

-- WHAT IS ANSWERED is entered by the last event, and by that alone
abbrev pub EntersAnswer : ℕ → ReadStep → View → View → Type 0
EntersAnswer key (Ended (ends.Found x place)) v after = HasOneMore (Get key) (reply.Found x) place v after
EntersAnswer key (Ended (ends.Absent place)) v after = HasOneMore (Get key) reply.Absent place v after
EntersAnswer key s v after = HasNoMore v after

module _ (site : Ground) (op : ReadOp) (words : Words) where
  -- the value that the next event finds, the get after it, and the view
  abbrev pub finds : ℕ
  finds = found_by site (kind_of op) words

  abbrev pub next_op : ReadOp
  next_op = taken op (Value finds)

  abbrev pub next_view : View → View
  next_view v = view_after site.shape (kind_of op) finds v

  -- A STEP of a get that wants something keeps the view suited, adds an entry if and only if it answers, and leaves locks
  -- and words alone
  pub record StepsWell (v : View) : Type 0 where
    pub is_in : IsIn site next_op.task
    pub suits : Suits site next_op (next_view v)
    pub owes : OwesTheSame v (next_view v)
    pub answers : EntersAnswer op.task.key next_op.step v (next_view v)

-- so beside any other callers, for a caller that has no areas
abbrev pub KeepsSuits : Type 0
KeepsSuits = (site : Ground) (op : ReadOp) (words : Words) (views : List View) (j : ℕ) (v : View) → Holds site words views → At views j v
    → v.areas ≡ [] → IsIn site op.task → Suits site op v → wanted op ≢ Done → StepsWell site op words v
