-- A displacement as a part of a call: where no record can move it keeps its locks, and another part goes on.
use Rattle.std.specs.Prelude.{◌≡◌, ⊤, true, false, None, slice_index}
use Rattle.bucket_meta.specs.Bucket.{mark_place}
use Rattle.map_model.specs.declared.call.Call.{Call}
use Rattle.world.specs.declared.site.Site.{Site}
use Rattle.world.specs.Ground.{Ground, spent_lock}
use Rattle.world.specs.Views.{View, Has}
use Rattle.world.specs.StepKinds.{of_call}
use Rattle.part.specs.Doings.{Doings}
use Rattle.part.specs.Part.{Part}
use Rattle.part.specs.Room.{NothingMovesOn}
use Rattle.phase.specs.declared.role.Role.TheVariants.{Next}
use Rattle.phase.specs.declared.kept.Kept.{Kept}
use Rattle.phase.specs.Stands.{IsLoading}
use Rattle.phase.specs.Taking.{RemembersTake}
use Rattle.phase.specs.Keeps.{IsOfCall, KeepsAll, HoldsThirds, HasNoThird, WasLoaded, ChangedLocks, RemembersRoom}
use Rattle.phase.specs.Third.{NothingToMove}
use Rattle.phase.specs.Making.{most_waiting}
use Rattle.move_op.specs.declared.step.MoveEnd.TheVariants.{NoMove}
use Rattle.phase.specs.declared.make.Make.{Make as MakeStep}
use Rattle.move_op.specs.declared.step.Shift.{Shift}
use Rattle.move_op.specs.declared.step.Leg.{Leg}
use Rattle.move_op.specs.declared.step.Direction.{Direction}
use Rattle.move_op.specs.declared.step.Direction.TheVariants.{Forward, Backward}
use Rattle.move_op.specs.declared.step.MoveStep.{MoveStep}
use Rattle.move_op.specs.declared.step.MoveStep.TheVariants.{Lock, Fill, CountSpent, Make, Ended}
use Rattle.move_op.specs.declared.op.MoveOp.{MoveOp}
use Rattle.move_op.specs.Shifts.{target_of}
use Rattle.move_op.specs.Order.{IsInOrder}
use Rattle.move_op.specs.Steps.{begun, wanted, taken, lock_of, is_without_move}
use Rattle.move_op.specs.Left.{most_events, left_at, waiting_at, HasMadeAt}
use Rattle.move_op.specs.Fits.{kind_at, MoveStands, outcome_at}

-- ---- what it remembers of what its attempt did
module _ (site : Ground) (kept : Kept) (did : Doings) where
  -- before the second direction is tried, the words of the next bucket were loaded, and by them no record can move on
  abbrev pub HasTried : Direction → Type 0
  HasTried Forward = ⊤
  HasTried Backward = WasLoaded kept did.loads Next × NothingMovesOn (slice_index kept.buckets.probing mark_place) (slice_index kept.buckets.next mark_place)

  -- the lock word of a third bucket that had its turn was loaded as free with the last version
  abbrev pub LoadedSpent : Type 0
  LoadedSpent = (direction : Direction) × HasTried direction × Has (lock_of kept (target_of direction), spent_lock) did.loads

  abbrev pub RemembersAt : MoveStep → Type 0
  RemembersAt (Lock direction take) = RemembersRoom site kept did.loads × ChangedLocks kept did.changed × RemembersTake (lock_of kept (target_of direction)) did.loads take × HasTried direction
  RemembersAt (Fill direction load) = RemembersRoom site kept did.loads × ChangedLocks kept did.changed × IsLoading (lock_of kept (target_of direction)) did.loads load × HasTried direction
  RemembersAt CountSpent = RemembersRoom site kept did.loads × LoadedSpent
  RemembersAt (Ended NoMove) = RemembersRoom site kept did.loads × ChangedLocks kept did.changed × NothingToMove kept did.loads
  RemembersAt more = ⊤

abbrev pub Remembers : Ground → MoveOp → Doings → Type 0
Remembers site op did = RemembersAt site op.kept did op.step

-- A DISPLACEMENT AS A PART
abbrev pub move_part : Part MoveOp
move_part = record {
  wanted = wanted;
  taken = taken;
  kind = λ op n. of_call (kind_at op.kept op.step);
  Stands = MoveStands;
  outcome = λ op. outcome_at op.step;
  Remembers = Remembers;
  HasWorked = λ site op did. ⊥;
  HasMade = λ op. HasMadeAt op.step;
  left = λ op. left_at op.step;
  most_events = most_events;
  is_waiting = λ op. false;
  waiting = λ op. waiting_at op.step;
  most_waiting = most_waiting;
  hands_on = λ op. is_without_move op.step;
}

-- ---- where it begins
-- with what an insert kept that found no slot: its locks are held, but for those of the third buckets, and what they say is known
abbrev pub MoveBeginsAsPart : Type 0
MoveBeginsAsPart = (site : Ground) (here : Site) (call : Call) (kept : Kept) (v : View) → IsOfCall here call kept → KeepsAll site kept v → HasNoThird kept.held
    → MoveStands site here call (begun kept) v

-- with what such an attempt remembers
abbrev pub MoveBeginsRemembering : Type 0
MoveBeginsRemembering = (site : Ground) (kept : Kept) (did : Doings) → RemembersRoom site kept did.loads → ChangedLocks kept did.changed → Remembers site (begun kept) did

-- and nothing is decided
abbrev pub MoveBeginsUndecided : Type 0
MoveBeginsUndecided = (kept : Kept) → outcome_at (begun kept).step ≡ None

-- WHERE IT HANDS ON, all locks are held, those of both third buckets among them, the words of their buckets known, and what was so at the beginning is so still; and its
-- attempt loaded the words of both third buckets, by which no record can move
pub record MoveHandsOnAll : Type 0 where
  pub keeps : (site : Ground) (here : Site) (call : Call) (op : MoveOp) (v : View) → MoveStands site here call op v → is_without_move op.step ≡ true
      → IsOfCall here call op.kept × KeepsAll site op.kept v × HoldsThirds op.kept.held
  pub remembers : (site : Ground) (op : MoveOp) (did : Doings) → Remembers site op did → is_without_move op.step ≡ true
      → RemembersRoom site op.kept did.loads × ChangedLocks op.kept did.changed × NothingToMove op.kept did.loads

-- WHAT IS STORED is the shift of the lowest record that may move
abbrev pub MovesInOrder : Type 0
MovesInOrder = (site : Ground) (here : Site) (call : Call) (op : MoveOp) (v : View) → MoveStands site here call op v → (shift : Shift) (leg : Leg) (make : MakeStep) → op.step ≡ Make shift leg make
    → IsInOrder op.kept shift
