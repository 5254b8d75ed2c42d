-- A change as a part of a call: where an insert finds no slot it keeps its locks, and another part goes on.
use Rattle.std.specs.Prelude.{◌≡◌, ℕ, ◌^◌, ◌<◌, ⊤, true, false, [], None}
use Rattle.image_layout.specs.Places.{buckets_of_key}
use Rattle.map_model.specs.declared.call.Call.{Call}
use Rattle.map_model.specs.declared.change.Change.{Change}
use Rattle.map_model.specs.Changes.{call_of}
use Rattle.world.specs.declared.site.Site.{Site}
use Rattle.world.specs.Ground.{Ground, IsGround, version_of, spent_lock}
use Rattle.world.specs.Views.{View, Has}
use Rattle.world.specs.Attempts.{HoldsOnly}
use Rattle.world.specs.StepKinds.{of_call}
use Rattle.part.specs.Doings.{Doings, nothing_done}
use Rattle.part.specs.Part.{Part}
use Rattle.phase.specs.declared.role.Role.{Role}
use Rattle.phase.specs.declared.role.Role.TheVariants.{Home, Probing, First, Second, Next, Previous}
use Rattle.phase.specs.declared.kept.Kept.{Kept}
use Rattle.phase.specs.Places.{stash_index}
use Rattle.phase.specs.Asked.{index, loaded_by}
use Rattle.phase.specs.Keeps.{IsOfCall, WasLoaded, ChangedLocks, LoadedFull, KeepsAll, RemembersRoom, HasNoThird}
use Rattle.phase.specs.Giving.{IsHeld}
use Rattle.phase.specs.Stands.{IsLoading}
use Rattle.phase.specs.Causes.{WasFound, RemembersWalk}
use Rattle.phase.specs.Taking.{RemembersTake}
use Rattle.phase.specs.Makes.{brought}
use Rattle.phase.specs.Making.{most_waiting}
use Rattle.write_op.specs.declared.step.Task.{Task}
use Rattle.write_op.specs.declared.step.Seen.{Seen}
use Rattle.write_op.specs.declared.step.WriteEnd.TheVariants.{NoSlot}
use Rattle.write_op.specs.declared.step.WriteStep.{WriteStep}
use Rattle.write_op.specs.declared.step.WriteStep.TheVariants.{Way, Lock, Check, Fill, Count, CountSpent, Ended}
use Rattle.write_op.specs.declared.op.WriteOp.{WriteOp}
use Rattle.write_op.specs.Search.{visits}
use Rattle.write_op.specs.Steps.{begun, wanted, taken, lock_of, is_without_slot, kept_in, kept_of}
use Rattle.write_op.specs.Left.{most_events, left_at, waiting_at, HasMadeAt}
use Rattle.write_op.specs.Fits.{Upto, kind_of, ChangeStands, outcome_at}

-- ---- which buckets are asked for
module _ (task : Task) (seen : Seen) where
  -- a stash bucket is to be visited, by the words of home and probing bucket
  abbrev pub IsNoted : ℕ → Type 0
  IsNoted index = visits task.hash seen.buckets index ≡ true

  -- THE REASON to ask for a bucket: home and probing bucket need none; a stash bucket is to be visited, and whether the second one is, is
  -- known where the first is asked for; for a third one there is none
  abbrev pub HasReason : Role → Type 0
  HasReason First = IsNoted (stash_index First) × (seen.second ≡ visits task.hash seen.buckets (stash_index Second))
  HasReason Second = IsNoted (stash_index Second)
  HasReason Next = ⊥
  HasReason Previous = ⊥
  HasReason near = ⊤

-- ---- what it remembers of what its attempt did
module _ (task : Task) (seen : Seen) (did : Doings) where
  -- the way to the segment was loaded, with its header
  abbrev pub WasThere : Type 0
  WasThere = WasFound task.site task.hash did.loads seen.path

  -- it changed no words but those of locks that it holds
  abbrev pub ChangedOwn : Type 0
  ChangedOwn = ChangedLocks (kept_in task seen) did.changed

  -- the words of each bucket that is asked for before the n-th were loaded
  abbrev pub LoadedUpto : ℕ → Type 0
  LoadedUpto n = (place : Role) → Upto seen n place → WasLoaded (kept_in task seen) did.loads place

  -- those of each bucket that is held were
  abbrev pub LoadedHeld : Type 0
  LoadedHeld = (place : Role) → IsHeld seen.held place → WasLoaded (kept_in task seen) did.loads place

  -- there is a reason to ask for a bucket, by words that were loaded before it
  pub record AsksFor (place : Role) : Type 0 where
    pub reason : HasReason task seen place
    pub before : LoadedUpto (loaded_by place)

  -- the lock word of such a bucket was loaded as free with the last version
  abbrev pub LoadedSpent : Type 0
  LoadedSpent = (place : Role) × AsksFor place × Has (lock_of task seen place, spent_lock) did.loads

  abbrev pub RemembersIn : WriteStep → Type 0
  RemembersIn (Way walk) = RemembersWalk task.site task.hash did.loads walk × (did.changed ≡ [])
  RemembersIn (Lock place take) = WasThere × ChangedOwn × RemembersTake (lock_of task seen place) did.loads take × AsksFor place
  RemembersIn (Check back) = WasThere × ChangedOwn
  RemembersIn (Fill place load) = WasThere × ChangedOwn × LoadedUpto (index place) × IsLoading (lock_of task seen place) did.loads load × HasReason task seen place
  RemembersIn Count = WasThere × ChangedOwn × LoadedUpto buckets_of_key
  RemembersIn CountSpent = WasThere × LoadedSpent
  RemembersIn (Ended NoSlot) = WasThere × ChangedOwn × LoadedHeld × LoadedFull (kept_in task seen) did.loads Home × LoadedFull (kept_in task seen) did.loads Probing
  RemembersIn more = ⊤

-- and so in the step where it stands, in any image
abbrev pub Remembers : Ground → WriteOp → Doings → Type 0
Remembers site op did = RemembersIn op.task op.stage.seen did op.stage.step

-- A CHANGE AS A PART
abbrev pub change_part : Part WriteOp
change_part = record {
  wanted = wanted;
  taken = taken;
  kind = λ op n. of_call (kind_of op n);
  Stands = ChangeStands;
  outcome = λ op. outcome_at op.stage.step;
  Remembers = Remembers;
  HasWorked = λ site op did. ⊥;
  HasMade = λ op. HasMadeAt op.stage.step;
  left = λ op. left_at op.stage.step;
  most_events = most_events;
  is_waiting = λ op. false;
  waiting = λ op. waiting_at op.stage.step;
  most_waiting = most_waiting;
  hands_on = λ op. is_without_slot op.stage.step;
}

-- ---- where it begins
-- a change of a key and to a value that are words, in an image of this version, by a caller that holds, knows and owes nothing
abbrev pub BeginsAsPart : Type 0
BeginsAsPart = (site : Ground) (here : Site) (change : Change) (v : View) → IsGround site → here.geometry ≡ site.shape → here.version ≡ version_of site → change.key < 2 ^ 64 → brought change.effect < 2 ^ 64
    → HoldsOnly [] v → ChangeStands site here (call_of change) (begun change here) v

-- what it remembers then: nothing yet
abbrev pub BeginsRemembering : Type 0
BeginsRemembering = (site : Ground) (here : Site) (change : Change) → Remembers site (begun change here) nothing_done

-- it holds nothing where it has done nothing
abbrev pub BeginsBare : Type 0
BeginsBare = (site : Ground) (here : Site) (call : Call) (change : Change) (v : View) → ChangeStands site here call (begun change here) v → v.held ≡ []

-- and nothing is decided
abbrev pub BeginsUndecided : Type 0
BeginsUndecided = (here : Site) (change : Change) → outcome_at (begun change here).stage.step ≡ None

-- WHERE IT HANDS ON, what it keeps is the call's insert, of a key and a value that are words, as is what was loaded; its locks are held,
-- and no third one; its header is pinned; the words of their buckets are known, its key stands nowhere, and home and probing bucket are full
pub record HandsOn (site : Ground) (here : Site) (call : Call) (kept : Kept) (v : View) : Type 0 where
  pub whose : IsOfCall here call kept
  pub keeps : KeepsAll site kept v
  pub thirds : HasNoThird kept.held

abbrev pub HandsOnAll : Type 0
HandsOnAll = (site : Ground) (here : Site) (call : Call) (op : WriteOp) (v : View) → ChangeStands site here call op v → is_without_slot op.stage.step ≡ true
    → HandsOn site here call (kept_of op) v

-- its attempt loaded the way and the words of the buckets that it holds, and changed no words but those of its locks
abbrev pub HandsOnRemembering : Type 0
HandsOnRemembering = (site : Ground) (op : WriteOp) (did : Doings) → Remembers site op did → is_without_slot op.stage.step ≡ true
    → RemembersRoom site (kept_of op) did.loads × ChangedLocks (kept_of op) did.changed
