-- How a displacement fits the world: the kind of each of its events, and the view that its caller has in each step.
use Rattle.std.specs.Prelude.{◌≡◌, ◌≢◌, ℕ, ◌+◌, ◌<◌, ⊤, true, Option, None, Some, List, [], ◌∷◌, slice_index}
use Rattle.bucket_meta.specs.Bucket.{allocated, finger, record_slots, mark_place, fingers_place, rest_place, key_place}
use Rattle.hash_word.specs.Hash.{home_of, finger_of}
use Rattle.trace.specs.Events.{Words}
use Rattle.image_layout.specs.Places.{root_word, place_in_bucket}
use Rattle.sound_image.specs.Records.{key_hash}
use Rattle.way.specs.Ways.{is_leading}
use Rattle.map_model.specs.declared.call.Call.{Call}
use Rattle.map_model.specs.declared.entry.Reply.TheVariants as reply
use Rattle.map_model.specs.Changes.{call_of}
use Rattle.map_model.specs.Legal.{IsInsert}
use Rattle.world.specs.declared.site.Site.{Site}
use Rattle.world.specs.Ground.{Ground}
use Rattle.world.specs.Views.{Move, View, Has}
use Rattle.world.specs.Kinds.{Kind, peeks, refuses, learns, copies, clears, publishes, draws_place}
use Rattle.world.specs.Conditions.{FoundSpent}
use Rattle.world.specs.Attempts.{HoldsOnly}
use Rattle.part.specs.Outcomes.{Outcome, replied, again, off}
use Rattle.phase.specs.declared.role.Role.{Role}
use Rattle.phase.specs.declared.role.Role.TheVariants.{Home, Probing, Next}
use Rattle.phase.specs.declared.make.Make.{Make}
use Rattle.phase.specs.declared.make.Make.TheVariants.{FlushPublished, FencePublished}
use Rattle.phase.specs.declared.held.Held.{Held}
use Rattle.phase.specs.declared.kept.Kept.{Kept}
use Rattle.phase.specs.Places.{bucket_of_role}
use Rattle.phase.specs.Buckets.{words_in}
use Rattle.phase.specs.Stands.{IsThere, Leads, IsLoading}
use Rattle.phase.specs.Taking.{take_kind, IsTaking}
use Rattle.phase.specs.Giving.{IsLocated, IsHeld, IsQuiet, IsOfHeld, HoldsLocks, GivesBack, give_kind}
use Rattle.phase.specs.Knows.{Knows, HasNoneLoose, IsWhole}
use Rattle.phase.specs.Making.{make_kind, with_record, with_mark, IsNew, IsMaking}
use Rattle.phase.specs.Finding.{StandsNowhere}
use Rattle.phase.specs.Keeps.{IsOfCall, kept_words, IsFull, KeepsAll, HoldsThirds, HasNoThird}
use Rattle.phase.specs.AreWords.{AreWords}
use Rattle.phase.specs.Endings.{outcome_then}
use Rattle.move_op.specs.declared.step.MoveEnd.{MoveEnd}
use Rattle.move_op.specs.declared.step.MoveEnd.TheVariants as ends
use Rattle.move_op.specs.declared.step.Direction.{Direction}
use Rattle.move_op.specs.declared.step.Direction.TheVariants.{Forward, Backward}
use Rattle.move_op.specs.declared.step.Shift.{Shift}
use Rattle.move_op.specs.declared.step.Leg.{Leg}
use Rattle.move_op.specs.declared.step.Leg.TheVariants.{Copy, Clear, Insert}
use Rattle.move_op.specs.declared.step.MoveStep.{MoveStep}
use Rattle.move_op.specs.declared.step.MoveStep.TheVariants.{Lock, Fill, CountSpent, Draw, Give, Ended}
use Rattle.move_op.specs.declared.step.MoveStep.TheVariants as step
use Rattle.move_op.specs.declared.op.MoveOp.{MoveOp}
use Rattle.move_op.specs.Shifts.{source_of, target_of, home_place, shift_at, record_of}
use Rattle.move_op.specs.Order.{StaysForward, IsInOrder}
use Rattle.move_op.specs.Steps.{lock_of, lock_at}

module _ (kept : Kept) (shift : Shift) where
  -- ---- THE WORDS, one store after another
  -- with the copy ready in its free slot, and then standing there
  abbrev pub with_copy_ready : Words
  with_copy_ready = with_record (lock_at kept shift Copy) shift.copy (kept_words kept)

  abbrev pub with_copy : Words
  with_copy = with_mark (lock_at kept shift Copy) shift.copy with_copy_ready

  -- with its source cleared
  abbrev pub with_clearing : Words
  with_clearing = with_mark (lock_at kept shift Clear) shift.clearing with_copy

  -- with the new record ready in the slot that was cleared, and then standing there
  abbrev pub with_insert_ready : Words
  with_insert_ready = with_record (lock_at kept shift Insert) shift.insert with_clearing

  abbrev pub with_insert : Words
  with_insert = with_mark (lock_at kept shift Insert) shift.insert with_insert_ready

  -- before the stores of each, and before the one by which it counts
  abbrev pub words_first : Leg → Words
  words_first Copy = kept_words kept
  words_first Clear = with_copy
  words_first Insert = with_clearing

  abbrev pub words_ready : Leg → Words
  words_ready Copy = with_copy_ready
  words_ready Clear = with_copy
  words_ready Insert = with_insert_ready

  -- ---- THE KIND of each event
  abbrev pub moved : Move
  moved = record {
    segment = kept.segment;
    key = shift.copy.key;
    from_bucket = bucket_of_role kept.hash (source_of shift.direction);
    from_slot = shift.clearing.slot;
    to_bucket = bucket_of_role kept.hash (target_of shift.direction);
    to_slot = shift.copy.slot;
  }

  abbrev pub leg_kind : Leg → ℕ → ℕ → Kind
  leg_kind Copy i x = copies i x moved
  leg_kind Clear i x = clears i x moved
  leg_kind Insert i x = publishes i x (call_of kept.change)

module _ (kept : Kept) where
  abbrev pub kind_at : MoveStep → Kind
  kind_at (Lock direction take) = take_kind (lock_of kept (target_of direction)) take
  kind_at (Fill direction load) = learns (lock_of kept (target_of direction) + place_in_bucket load.next)
  kind_at CountSpent = refuses (call_of kept.change) reply.Spent
  kind_at (step.Make shift leg make) = make_kind (leg_kind kept shift leg) (lock_at kept shift leg) (record_of shift leg) make
  kind_at (Draw shift) = draws_place (call_of kept.change)
  kind_at (Give held end) = give_kind kept.site kept.hash kept.segment held
  kind_at (Ended end) = peeks root_word

-- ---- what is held and known
-- the first direction was tried: the next bucket is held, and by the words that are kept no record can move on
pub record HasTriedNext (kept : Kept) : Type 0 where
  pub held : IsHeld kept.held Next
  pub stays : StaysForward kept

-- before the lock of the third bucket in this direction is taken, and behind it: no lock is held that is taken later, and the first
-- direction was tried before the second
abbrev pub BeforeThird : Direction → Kept → Type 0
BeforeThird Forward kept = HasNoThird kept.held
BeforeThird Backward kept = (kept.held.previous ≡ None) × HasTriedNext kept

abbrev pub BehindThird : Direction → Kept → Type 0
BehindThird Forward kept = kept.held.previous ≡ None
BehindThird Backward kept = HasTriedNext kept

-- while the words of a third bucket are loaded: all is kept, but that those words are not known yet
pub record KeepsBut (direction : Direction) (site : Ground) (kept : Kept) (v : View) : Type 0 where
  pub insert : IsInsert (call_of kept.change)
  pub located : IsLocated site kept.site kept.segment
  pub hashed : kept.hash ≡ key_hash site.shape kept.change.key
  pub pinned : Has (kept.segment, kept.head) v.pinned
  pub leading : is_leading kept.head kept.hash ≡ true
  pub there : IsThere site kept.segment v.facts
  pub leads : Leads site kept.hash kept.segment v.pinned
  pub locks : HoldsLocks kept.site kept.hash kept.segment kept.held v
  pub near : IsHeld kept.held Home × IsHeld kept.held Probing
  pub third : IsHeld kept.held (target_of direction)
  pub whole : (place : Role) → IsHeld kept.held place → place ≢ target_of direction → IsWhole (lock_of kept place) (words_in kept.buckets place) v
  pub quiet : IsQuiet v
  pub nowhere : StandsNowhere site.shape kept.hash kept.segment kept.held (kept_words kept) kept.change.key
  pub home : IsFull kept.buckets.home
  pub probing : IsFull kept.buckets.probing
  pub room : 0 < v.room

-- ---- the shift
-- THE RECORD CAN MOVE, by the words that are kept: it stands in its slot, which is one of the bucket that it leaves; the slot to
-- which it comes is free; and it has the home and the fingerprint that its key gives it
pub record CanMove (site : Ground) (kept : Kept) (direction : Direction) (from to : ℕ) : Type 0 where
  pub from_low : from < record_slots
  pub to_low : to < record_slots
  pub taken : allocated from (slice_index (words_in kept.buckets (source_of direction)) mark_place) ≡ 1
  pub is_free : allocated to (slice_index (words_in kept.buckets (target_of direction)) mark_place) ≡ 0
  pub home : bucket_of_role kept.hash (home_place direction) ≡ home_of (key_hash site.shape (slice_index (words_in kept.buckets (source_of direction)) (key_place from)))
  pub fingerprint : finger from (slice_index (words_in kept.buckets (source_of direction)) fingers_place) (slice_index (words_in kept.buckets (source_of direction)) rest_place)
      ≡ finger_of (key_hash site.shape (slice_index (words_in kept.buckets (source_of direction)) (key_place from)))

-- a shift is that of a record that can move, the lowest one
pub record IsShift (site : Ground) (kept : Kept) (shift : Shift) : Type 0 where
  pub from : ℕ
  pub to : ℕ
  pub same : shift ≡ shift_at kept shift.direction from to
  pub can : CanMove site kept shift.direction from to
  pub order : IsInOrder kept shift

-- all locks are held, the key of the insert stands nowhere, and nothing is owed
pub record HoldsAll (site : Ground) (kept : Kept) (shift : Shift) (v : View) : Type 0 where
  pub insert : IsInsert (call_of kept.change)
  pub located : IsLocated site kept.site kept.segment
  pub hashed : kept.hash ≡ key_hash site.shape kept.change.key
  pub there : IsThere site kept.segment v.facts
  pub leads : Leads site kept.hash kept.segment v.pinned
  pub locks : HoldsLocks kept.site kept.hash kept.segment kept.held v
  pub near : IsHeld kept.held Home × IsHeld kept.held Probing
  pub third : IsHeld kept.held (target_of shift.direction)
  pub nowhere : StandsNowhere site.shape kept.hash kept.segment kept.held (kept_words kept) kept.change.key
  pub shifts : IsShift site kept shift
  pub room : 0 < v.room
  pub owes : v.owed ≡ []

-- a record is under way from the store of its copy to that of the clearing
module _ (kept : Kept) (shift : Shift) where
  abbrev pub moving_at : Leg → Make → List Move
  moving_at Copy FlushPublished = moved kept shift ∷ []
  moving_at Copy FencePublished = moved kept shift ∷ []
  moving_at Copy make = []
  moving_at Clear FlushPublished = []
  moving_at Clear FencePublished = []
  moving_at Clear make = moved kept shift ∷ []
  moving_at Insert make = []

  -- the insert is planned from the one store that makes it to its draw
  abbrev pub planned_at : Leg → Make → List Call
  planned_at Insert FlushPublished = call_of kept.change ∷ []
  planned_at Insert FencePublished = call_of kept.change ∷ []
  planned_at leg make = []

-- the copy and the new record are prepared; of the source the metadata word alone is stored
abbrev pub IsPrepared : Leg → Type 0
IsPrepared Copy = ⊤
IsPrepared Clear = ⊥
IsPrepared Insert = ⊤

module _ (site : Ground) (kept : Kept) where
  pub record IsShifting (shift : Shift) (leg : Leg) (make : Make) (v : View) : Type 0 where
    pub all : HoldsAll site kept shift v
    pub prepares : IsNew make → IsPrepared leg
    pub making : IsMaking (lock_at kept shift leg) (record_of shift leg) (IsOfHeld kept.site kept.hash kept.segment kept.held) (words_first kept shift leg) (words_ready kept shift leg) make v
    pub moving : v.moving ≡ moving_at kept shift leg make
    pub planned : v.planned ≡ planned_at kept shift leg make

  pub record IsDrawing (shift : Shift) (v : View) : Type 0 where
    pub all : HoldsAll site kept shift v
    pub knows : Knows (IsOfHeld kept.site kept.hash kept.segment kept.held) (with_insert kept shift) v
    pub settled : HasNoneLoose v
    pub moving : v.moving ≡ []
    pub planned : v.planned ≡ call_of kept.change ∷ []

  -- ---- while locks are given back
  abbrev pub IsGiving : Held → View → Type 0
  IsGiving held v = GivesBack site kept.site kept.hash kept.segment held v

  -- at the ends: all locks are kept where no record can move, those of both third buckets among them, and else nothing is
  abbrev pub SuitsEnd : MoveEnd → View → Type 0
  SuitsEnd ends.NoMove v = KeepsAll site kept v × HoldsThirds kept.held
  SuitsEnd end v = HoldsOnly [] v

  -- THE VIEW in each step
  abbrev pub SuitsStep : MoveStep → View → Type 0
  SuitsStep (Lock direction take) v = KeepsAll site kept v × BeforeThird direction kept × IsTaking take
  SuitsStep (Fill direction load) v = KeepsBut direction site kept v × BehindThird direction kept × IsLoading (lock_of kept (target_of direction)) v.known load
  SuitsStep CountSpent v = KeepsAll site kept v × FoundSpent v
  SuitsStep (step.Make shift leg make) v = IsShifting shift leg make v
  SuitsStep (Draw shift) v = IsDrawing shift v
  SuitsStep (Give held end) v = IsGiving held v
  SuitsStep (Ended end) v = SuitsEnd end v

-- ---- how it stands
-- what is loaded are words
abbrev pub HasWordsAt : MoveStep → Type 0
HasWordsAt (Fill direction load) = AreWords load.words
HasWordsAt more = ⊤

-- what it keeps is the call's
pub record MoveStands (site : Ground) (here : Site) (call : Call) (op : MoveOp) (v : View) : Type 0 where
  pub whose : IsOfCall here call op.kept
  pub load : HasWordsAt op.step
  pub view : SuitsStep site op.kept op.step v

-- ---- as a part of a call
-- where no record can move nothing is decided
abbrev pub outcome_of : MoveEnd → Option Outcome
outcome_of (ends.Replied answer place) = Some (replied answer place)
outcome_of ends.NoMove = None
outcome_of (ends.Again why) = Some (again why)
outcome_of ends.Off = Some off

-- the locks may still be given back
abbrev pub outcome_at : MoveStep → Option Outcome
outcome_at (Give held end) = Some (outcome_then end)
outcome_at (Ended end) = outcome_of end
outcome_at more = None
