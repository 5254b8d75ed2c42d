-- How a change fits the world: the kind of each of its events, and the view that its caller has in each step.
use Rattle.std.specs.Prelude.{◌≡◌, ℕ, ◌+◌, ◌^◌, ◌<◌, nat_le, ⊤, Bool, true, false, Option, None, Some, List, [], ◌∷◌, if◌then◌else◌}
use Rattle.bucket_meta.specs.Bucket.{overflow_count, mark_place, rest_place}
use Rattle.hash_word.specs.Hash.{home_of, finger_of}
use Rattle.trace.specs.Events.{Words, with_word}
use Rattle.image_layout.specs.Places.{root_word, place_in_bucket, buckets_of_key}
use Rattle.sound_image.specs.Records.{key_hash, notes_of, word_in}
use Rattle.map_model.specs.declared.call.Call.{Call}
use Rattle.map_model.specs.declared.change.Effect.{Effect}
use Rattle.map_model.specs.declared.change.Effect.TheVariants.{Insert, Update, Remove}
use Rattle.map_model.specs.declared.entry.Reply.TheVariants as reply
use Rattle.map_model.specs.Changes.{call_of}
use Rattle.map_model.specs.Weave.{spent_count}
use Rattle.world.specs.declared.site.Site.{Site}
use Rattle.world.specs.Ground.{Ground, version_of}
use Rattle.world.specs.Views.{Owed, View}
use Rattle.world.specs.Kinds.{Kind, peeks, pins, finds_room, refuses, learns, stores, repays, publishes, stashes, draws_place}
use Rattle.world.specs.Conditions.{FoundSpent}
use Rattle.world.specs.Attempts.{HoldsOnly}
use Rattle.phase.specs.declared.role.Role.{Role}
use Rattle.phase.specs.declared.role.Role.TheVariants.{Home, Probing, First, Second}
use Rattle.phase.specs.declared.walk.Path.{Path}
use Rattle.phase.specs.declared.make.Make.{Make}
use Rattle.phase.specs.declared.make.Make.TheVariants.{FlushPublished, FencePublished}
use Rattle.phase.specs.declared.held.Held.{Held}
use Rattle.phase.specs.Places.{stash_index}
use Rattle.phase.specs.Asked.{index, asked_by, IsAskedBefore, looked_by, loaded_by}
use Rattle.phase.specs.AreWords.{AreWords}
use Rattle.phase.specs.Keeps.{KeepsAll, HasNoThird}
use Rattle.phase.specs.Helds.{none_held, free_of}
use Rattle.phase.specs.Buckets.{words_in}
use Rattle.phase.specs.Stands.{walk_kind, back_kind, IsThere, Leads, IsWalking, IsLoading}
use Rattle.phase.specs.Taking.{take_kind, IsTaking}
use Rattle.phase.specs.Giving.{IsHeld, IsQuiet, IsOfHeld, HoldsLocks, GivesBack, give_kind}
use Rattle.phase.specs.Knows.{Knows, HasNoneLoose, IsWhole}
use Rattle.phase.specs.Making.{make_kind, with_record, with_mark, IsNew, IsMaking}
use Rattle.phase.specs.Finding.{words_of}
use Rattle.phase.specs.Makes.{brought}
use Rattle.write_op.specs.declared.search.NoteWords.{NoteWords}
use Rattle.write_op.specs.declared.step.Task.{Task}
use Rattle.write_op.specs.declared.step.Spot.{Spot}
use Rattle.write_op.specs.declared.step.Seen.{Seen}
use Rattle.phase.specs.declared.note.NoteWord.{NoteWord}
use Rattle.phase.specs.declared.note.NoteWord.TheVariants.{Mark, Fingers}
use Rattle.phase.specs.Endings.{outcome_then}
use Rattle.write_op.specs.declared.step.WriteEnd.{WriteEnd}
use Rattle.write_op.specs.declared.step.WriteEnd.TheVariants as ends
use Rattle.write_op.specs.declared.step.WriteStep.{WriteStep}
use Rattle.write_op.specs.declared.step.WriteStep.TheVariants.{Way, Lock, Check, Fill, Count, Draw, Unnote, CountSpent, Give, Ended}
use Rattle.write_op.specs.declared.step.WriteStep.TheVariants as step
use Rattle.write_op.specs.declared.step.Stage.{Stage}
use Rattle.write_op.specs.declared.op.WriteOp.{WriteOp}
use Rattle.part.specs.Outcomes.{Outcome, replied, again, stale, off}
use Rattle.part.specs.Part.{IsKnownLive}
use Rattle.write_op.specs.Search.{found, room_in, visits, record_at, leaves_note, unnoted, has_finger}
use Rattle.write_op.specs.Steps.{lock_of, kept_in}

-- ---- the words of the buckets that are locked
module _ (task : Task) (seen : Seen) where
  -- as they were loaded, among any others
  abbrev pub loaded : Words
  loaded = words_of task.site task.hash seen.path.segment seen.buckets

  -- with the record that an insert prepares: just before the one store that makes the change
  abbrev pub prepared_by : Effect → Words
  prepared_by (Insert value) = with_record (lock_of task seen seen.place) seen.written loaded
  prepared_by (Update value) = loaded
  prepared_by Remove = loaded

  abbrev pub prepared : Words
  prepared = prepared_by task.change.effect

  -- and with that store
  abbrev pub changed : Words
  changed = with_mark (lock_of task seen seen.place) seen.written prepared

  -- the note that is owed since the record left the stash
  abbrev pub owed : Owed
  owed = record {
    segment = seen.path.segment;
    home = home_of task.hash;
    added = false;
    note = (finger_of task.hash, stash_index seen.place);
    notes = notes_of task.site.geometry loaded seen.path.segment (home_of task.hash);
    count = overflow_count (word_in task.site.geometry loaded seen.path.segment (home_of task.hash) mark_place);
  }

  -- ---- THE KIND of each event
  abbrev pub publish_by : Bool → ℕ → ℕ → Kind
  publish_by true i x = stashes i x (call_of task.change) owed
  publish_by false i x = publishes i x (call_of task.change)

  -- a remove of a record in the stash owes its note
  abbrev pub publish_kind : ℕ → ℕ → Kind
  publish_kind = publish_by (leaves_note task.change.effect seen.place)

  -- the load of the commit counter under all locks, by where the key stands: it answers a refusal, or finds room
  abbrev pub inserting_kind : Option Spot → Kind
  inserting_kind (Some there) = refuses (call_of task.change) reply.Exists
  inserting_kind None = finds_room (call_of task.change)

  abbrev pub changing_kind : Option Spot → Kind
  changing_kind (Some there) = finds_room (call_of task.change)
  changing_kind None = refuses (call_of task.change) reply.Absent

  abbrev pub deciding_kind : Effect → Kind
  deciding_kind (Insert value) = inserting_kind (found seen task.change.key)
  deciding_kind (Update value) = changing_kind (found seen task.change.key)
  deciding_kind Remove = changing_kind (found seen task.change.key)

  -- a counter of 2^63 or more is answered as spent, whatever the key has
  abbrev pub count_kind : ℕ → Kind
  count_kind n = if nat_le spent_count n then finds_room (call_of task.change) else deciding_kind task.change.effect

  -- the last store of a note repays what is owed
  abbrev pub mark_kind : Bool → ℕ → ℕ → Kind
  mark_kind true i x = stores i x
  mark_kind false i x = repays i x owed

  abbrev pub note_kind : NoteWord → NoteWords → Kind
  note_kind Mark note = mark_kind (has_finger seen note) (lock_of task seen note.place + mark_place) note.mark
  note_kind Fingers note = repays (lock_of task seen note.place + rest_place) note.fingers owed

  -- the second look at the header pins it under the lock of the home bucket
  abbrev pub kind_at : WriteStep → ℕ → Kind
  kind_at (Way walk) n = walk_kind task.site task.hash walk
  kind_at (Lock place take) n = take_kind (lock_of task seen place) take
  kind_at (Check back) n = back_kind task.site task.hash seen.path (pins seen.path.segment (home_of task.hash)) back
  kind_at (Fill place load) n = learns (lock_of task seen place + place_in_bucket load.next)
  kind_at Count n = count_kind n
  kind_at (step.Make make) n = make_kind publish_kind (lock_of task seen seen.place) seen.written make
  kind_at Draw n = draws_place (call_of task.change)
  kind_at (Unnote part place) n = note_kind part (unnoted task.hash seen)
  kind_at CountSpent n = refuses (call_of task.change) reply.Spent
  kind_at (Give held end) n = give_kind task.site task.hash seen.path.segment held
  kind_at (Ended end) n = peeks root_word

abbrev pub kind_of : WriteOp → ℕ → Kind
kind_of op n = kind_at op.task op.stage.seen op.stage.step n

-- ---- sets of buckets
abbrev pub is_asked : Seen → Role → Bool
is_asked seen place = asked_by seen.first seen.second place

-- those that are asked for before the n-th
abbrev pub Upto : Seen → ℕ → Role → Type 0
Upto seen n place = IsAskedBefore seen.first seen.second n place

-- the locks that are held are those before the n-th, and no others
pub record HoldsUpto (seen : Seen) (n : ℕ) : Type 0 where
  pub these : (place : Role) → Upto seen n place → IsHeld seen.held place
  pub others : (place : Role) → (Upto seen n place → ⊥) → free_of seen.held place ≡ None

-- the stash buckets are visited that the words of home and probing bucket name
pub record IsVisiting (task : Task) (seen : Seen) : Type 0 where
  pub first : seen.first ≡ visits task.hash seen.buckets (stash_index First)
  pub second : seen.second ≡ visits task.hash seen.buckets (stash_index Second)

abbrev pub IsInserting : Effect → Type 0
IsInserting (Insert value) = ⊤
IsInserting (Update value) = ⊥
IsInserting Remove = ⊥

-- THE HEADER that was found on the way is pinned, and leads to the hash; so, by a law of `phase`, the segment owns the key
pub record IsPinned (site : Ground) (hash : ℕ) (path : Path) (pinned : List (ℕ × ℕ)) : Type 0 where
  pub leads : Leads site hash path.segment pinned
  pub same : leads.head ≡ path.head

-- ---- what is held, known and owed
module _ (site : Ground) (task : Task) (seen : Seen) where
  -- THE LOCKS before the n-th are held in a segment that is live and current, and the words of the buckets before the m-th are known
  pub record HasLoaded (n m : ℕ) (v : View) : Type 0 where
    pub there : IsThere site seen.path.segment v.facts
    pub locks : HoldsLocks task.site task.hash seen.path.segment seen.held v
    pub upto : HoldsUpto seen n
    pub whole : (place : Role) → Upto seen m place → IsWhole (lock_of task seen place) (words_in seen.buckets place) v

  -- it is so where the lock of a stash bucket is taken, which comes behind the second look
  abbrev pub PinnedAt : Role → View → Type 0
  PinnedAt First v = IsPinned site task.hash seen.path v.pinned
  PinnedAt Second v = IsPinned site task.hash seen.path v.pinned
  PinnedAt near v = ⊤

  -- what holds beside, of each bucket
  abbrev pub VisitsAt : Role → Type 0
  VisitsAt Home = ⊤
  VisitsAt Probing = ⊤
  VisitsAt First = IsVisiting task seen × (seen.first ≡ true)
  VisitsAt Second = IsVisiting task seen × (seen.second ≡ true)
  VisitsAt third = ⊥

  -- all locks are held, in a segment whose header is pinned; the stash buckets are visited that are to be; and no record is under way
  pub record HasAll (v : View) : Type 0 where
    pub there : IsThere site seen.path.segment v.facts
    pub pinned : IsPinned site task.hash seen.path v.pinned
    pub locks : HoldsLocks task.site task.hash seen.path.segment seen.held v
    pub upto : HoldsUpto seen buckets_of_key
    pub visits : IsVisiting task seen
    pub still : v.moving ≡ []

  -- THE SPOT IS RIGHT: an insert whose key was found nowhere takes the free slot that is chosen, and the others change the slot with the key
  abbrev pub IsSpot : Effect → Option Spot → Type 0
  IsSpot (Insert value) there = (there ≡ None) × (room_in seen.buckets ≡ Some (record { place = seen.place; slot = seen.written.slot }))
  IsSpot (Update value) there = there ≡ Some (record { place = seen.place; slot = seen.written.slot })
  IsSpot Remove there = there ≡ Some (record { place = seen.place; slot = seen.written.slot })

  pub record IsChosen : Type 0 where
    pub spot : IsSpot task.change.effect (found seen task.change.key)
    pub written : seen.written ≡ record_at task seen.buckets (record { place = seen.place; slot = seen.written.slot })

  -- ---- what is planned and owed
  -- the change is planned from the one store that makes it to its draw
  abbrev pub planned_at : Make → List Call
  planned_at FlushPublished = call_of task.change ∷ []
  planned_at FencePublished = call_of task.change ∷ []
  planned_at make = []

  -- and a note that is owed is so until it is taken away
  abbrev pub owed_by : Bool → List Owed
  owed_by true = owed task seen ∷ []
  owed_by false = []

  abbrev pub owed_then : List Owed
  owed_then = owed_by (leaves_note task.change.effect seen.place)

  abbrev pub owed_at : Make → List Owed
  owed_at FlushPublished = owed_then
  owed_at FencePublished = owed_then
  owed_at make = []

  pub record IsChanging (make : Make) (v : View) : Type 0 where
    pub all : HasAll v
    pub chosen : IsChosen
    -- an insert alone prepares a record
    pub inserts : IsNew make → IsInserting task.change.effect
    pub making : IsMaking (lock_of task seen seen.place) seen.written (IsOfHeld task.site task.hash seen.path.segment seen.held) (loaded task seen) (prepared task seen) make v
    pub room : 0 < v.room
    pub planned : v.planned ≡ planned_at make
    pub owes : v.owed ≡ owed_at make

  pub record IsDrawing (v : View) : Type 0 where
    pub all : HasAll v
    pub chosen : IsChosen
    pub knows : Knows (IsOfHeld task.site task.hash seen.path.segment seen.held) (changed task seen) v
    pub settled : HasNoneLoose v
    pub room : 0 < v.room
    pub planned : v.planned ≡ call_of task.change ∷ []
    pub owes : v.owed ≡ owed_then

  -- the words at each store of a note
  abbrev pub words_of_note : NoteWord → Words
  words_of_note Mark = changed task seen
  words_of_note Fingers = with_word (changed task seen) (lock_of task seen (unnoted task.hash seen).place + mark_place) (unnoted task.hash seen).mark

  pub record IsUnnoting (part : NoteWord) (v : View) : Type 0 where
    pub all : HasAll v
    pub chosen : IsChosen
    pub leaves : leaves_note task.change.effect seen.place ≡ true
    pub knows : Knows (IsOfHeld task.site task.hash seen.path.segment seen.held) (words_of_note part) v
    pub settled : HasNoneLoose v
    pub planned : v.planned ≡ []
    pub owes : v.owed ≡ owed task seen ∷ []

  -- ---- while locks are given back
  abbrev pub IsGiving : Held → View → Type 0
  IsGiving held v = GivesBack site task.site task.hash seen.path.segment held v

  -- at the ends: all locks are kept where no slot is free, and else all is as at the beginning; a segment that is stale is relied on as live
  abbrev pub SuitsEnd : WriteEnd → View → Type 0
  SuitsEnd ends.NoSlot v = KeepsAll site (kept_in task seen) v × HasNoThird seen.held
  SuitsEnd (ends.Stale segment version) v = HoldsOnly [] v × IsKnownLive site segment v.facts
  SuitsEnd end v = HoldsOnly [] v

  -- THE VIEW in each step
  abbrev pub SuitsStep : WriteStep → View → Type 0
  SuitsStep (Way walk) v = HoldsOnly [] v × IsWalking site walk v.facts × (seen.held ≡ none_held)
  SuitsStep (Lock place take) v = HasLoaded (index place) (loaded_by place) v × IsQuiet v × VisitsAt place × IsTaking take × PinnedAt place v
  SuitsStep (Check back) v = HasLoaded (looked_by Home) (index Home) v × IsQuiet v
  SuitsStep (Fill place load) v = HasLoaded (looked_by place) (index place) v × IsQuiet v × VisitsAt place × IsLoading (lock_of task seen place) v.known load × IsPinned site task.hash seen.path v.pinned
  SuitsStep Count v = HasLoaded buckets_of_key buckets_of_key v × IsQuiet v × IsVisiting task seen × IsPinned site task.hash seen.path v.pinned
  SuitsStep (step.Make make) v = IsChanging make v
  SuitsStep Draw v = IsDrawing v
  SuitsStep (Unnote part place) v = IsUnnoting part v
  SuitsStep CountSpent v = IsGiving seen.held v × FoundSpent v
  SuitsStep (Give held end) v = IsGiving held v
  SuitsStep (Ended end) v = SuitsEnd end v

-- THE VIEW of a stage
abbrev pub SuitsStage : Ground → Task → Stage → View → Type 0
SuitsStage site task stage v = SuitsStep site task stage.seen stage.step v

-- the change runs in this image, with its version, and its hash is its key's
pub record IsIn (site : Ground) (task : Task) : Type 0 where
  pub shape : task.site.geometry ≡ site.shape
  pub version : task.site.version ≡ version_of site
  pub hash : task.hash ≡ key_hash site.shape task.change.key
  pub fits : task.hash < 2 ^ 64

-- what it keeps are words
abbrev pub HasWordsAt : WriteStep → Type 0
HasWordsAt (Fill place load) = AreWords load.words
HasWordsAt more = ⊤

pub record HasWords (task : Task) (seen : Seen) (at : WriteStep) : Type 0 where
  pub key : task.change.key < 2 ^ 64
  pub value : brought task.change.effect < 2 ^ 64
  pub buckets : (place : Role) → AreWords (words_in seen.buckets place)
  pub load : HasWordsAt at

-- it makes the call's change
pub record ChangeStands (site : Ground) (here : Site) (call : Call) (op : WriteOp) (v : View) : Type 0 where
  pub same : call_of op.task.change ≡ call
  pub at : op.task.site ≡ here
  pub is_in : IsIn site op.task
  pub has : HasWords op.task op.stage.seen op.stage.step
  pub view : SuitsStep site op.task op.stage.seen op.stage.step v

-- ---- as a part of a call
-- where no slot was found nothing is decided
abbrev pub outcome_of : WriteEnd → Option Outcome
outcome_of (ends.Replied answer place) = Some (replied answer place)
outcome_of ends.NoSlot = None
outcome_of (ends.Again why) = Some (again why)
outcome_of (ends.Stale segment version) = Some (stale segment version)
outcome_of ends.Off = Some off

-- the locks may still be given back, and a note be taken away
abbrev pub outcome_at : WriteStep → Option Outcome
outcome_at (Unnote part place) = Some (replied reply.Done place)
outcome_at (Give held end) = Some (outcome_then end)
outcome_at (Ended end) = outcome_of end
outcome_at more = None
