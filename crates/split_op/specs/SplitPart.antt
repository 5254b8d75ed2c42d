-- The split as a part of a call: how many events are left, where it begins, and what it hands on.
use Rattle.std.specs.Prelude.{◌≡◌, ◌≢◌, ℕ, ◌+◌, ◌-◌, ◌<◌, ◌≤◌, Bool, true, false, None, Some, List, [], ◌∷◌}
use Rattle.op_core.specs.declared.want.Want.TheVariants.{Done}
use Rattle.whole_segment.specs.Rounds.{most_lines}
use Rattle.image_layout.specs.Places.{Shape, segment_words, last_bucket}
use Rattle.op_core.specs.declared.want.Ans.{Ans}
use Rattle.trace.specs.Events.{Words}
use Rattle.map_model.specs.declared.call.Call.{Call}
use Rattle.map_model.specs.declared.entry.Reply.TheVariants.{Full}
use Rattle.world.specs.declared.site.Site.{Site}
use Rattle.world.specs.Ground.{Ground, IsGround}
use Rattle.world.specs.Views.{View, At}
use Rattle.world.specs.Invariant.{Holds}
use Rattle.world.specs.areas.Areas.{Segment, Allocation}
use Rattle.world.specs.areas.Kinds.{moves}
use Rattle.world.specs.areas.Rows.{news}
use Rattle.world.specs.StepKinds.{of_structure}
use Rattle.part.specs.Doings.{Doings}
use Rattle.part.specs.Outcomes.{replied}
use Rattle.part.specs.Part.{Part, Suits, finds, next}
use Rattle.rounds.specs.declared.rounds.Rounds.{Rounds}
use Rattle.rounds.specs.Left.{rounds_left, few_left}
use Rattle.rounds.specs.Waiting.{rounds_waiting}
use Rattle.enclose_op.specs.declared.enclosed.Enclosed.{Enclosed}
use Rattle.enclose_op.specs.Whole.{IsOf, IsWhole, HoldsLocks, KeepsWhole, RemembersWhole}
use Rattle.enclose_op.specs.Fits.{give_left}
use Rattle.split_op.specs.declared.batch.Batch.{Batch}
use Rattle.split_op.specs.declared.batch.Batch.TheVariants.{Empty, Link, Mark, New, Copy}
use Rattle.split_op.specs.declared.step.SplitStep.{SplitStep}
use Rattle.split_op.specs.declared.step.SplitStep.TheVariants.{Take, Search, Count, Return, Look, Put, Release, Back, Ended}
use Rattle.split_op.specs.declared.op.SplitOp.{SplitOp}
use Rattle.split_op.specs.Copied.{KeepsCopied}
use Rattle.split_op.specs.Sides.{side_words}
use Rattle.split_op.specs.Steps.{last_slot, begun, wanted, taken}
use Rattle.split_op.specs.Fits.{kind_at, outcome_at, is_copied_end, hands_on_at, CopiesFrom, SuitsStep}
use Rattle.split_op.specs.Remembers.{RemembersAt}

-- ---- at most so many events are left
-- so many stores of a batch are to come
abbrev pub stores_left : Batch → ℕ
stores_left (Empty number) = segment_words - number
stores_left (Link false) = 1
stores_left (Link true) = 0
stores_left (Mark false) = 1
stores_left (Mark true) = 0
stores_left (New false) = 1
stores_left (New true) = 0
stores_left (Copy number) = segment_words - number

-- and so many events behind it
abbrev pub left_behind : Batch → ℕ
left_behind (Empty number) = 6442
left_behind (Link stored) = 6439
left_behind (Mark stored) = 6436
left_behind (New stored) = 6433
left_behind (Copy number) = 0

-- of a round with more lines than there are, none is wanted
abbrev pub put_left : Batch → Rounds → ℕ
put_left batch rounds = few_left rounds (rounds_left rounds (stores_left batch) + left_behind batch)

-- IN AN IMAGE OF THIS SHAPE it makes at most so many: the header of each slot may be loaded
abbrev pub events_in : Shape → ℕ
events_in shape = 12936 + last_slot shape

abbrev pub left_at : Shape → SplitStep → ℕ
left_at shape Take = events_in shape
left_at shape (Search slot) = 12935 + (last_slot shape - slot)
left_at shape Count = 69
left_at shape (Return count) = 68
left_at shape (Look b) = 12869 + (last_bucket - b)
left_at shape (Put batch rounds) = put_left batch rounds
left_at shape Release = 6433
left_at shape (Back give end) = give_left give
left_at shape (Ended end) = 0

abbrev pub left_of : SplitOp → ℕ
left_of op = left_at op.copied.whole.site.geometry op.step

-- and in any image so many
abbrev pub most_events : ℕ
most_events = 29319

-- THE IMAGE BOUNDS them: no state of the machine has more left than the shape of its image allows
abbrev pub IsWithinImage : Type 0
IsWithinImage = (op : SplitOp) → left_of op ≤ events_in op.copied.whole.site.geometry

-- ---- lines that are flushed and not fenced
abbrev pub waiting_at : SplitStep → ℕ
waiting_at (Put batch rounds) = rounds_waiting rounds
waiting_at step = 0

-- ---- THE SPLIT AS A PART
pub record SplitStands (site : Ground) (here : Site) (call : Call) (op : SplitOp) (v : View) : Type 0 where
  pub is : IsOf site here call op.copied.whole
  pub view : SuitsStep site here call op.copied op.locks op.step v

abbrev pub split_part : Part SplitOp
split_part = record {
  wanted = wanted;
  taken = taken;
  kind = λ op n. kind_at op op.step;
  Stands = SplitStands;
  outcome = λ op. outcome_at op.step;
  Remembers = λ site op did. RemembersAt site op.copied did op.step;
  HasWorked = λ site op did. ⊥;
  HasMade = λ op. ⊥;
  left = left_of;
  most_events = most_events;
  is_waiting = λ op. false;
  waiting = λ op. waiting_at op.step;
  most_waiting = most_lines;
  hands_on = λ op. hands_on_at op.step;
}

-- the segment that it splits
abbrev pub segment_of : SplitOp → ℕ
segment_of op = op.copied.whole.segment

-- ---- where it begins
-- with an enclosed segment that is kept whole, and the words of its side
abbrev pub BeginsAsPart : Type 0
BeginsAsPart = (site : Ground) (here : Site) (call : Call) (e : Enclosed) (words : List ℕ) (v : View) → KeepsWhole site here call e v → CopiesFrom site e words → SplitStands site here call (begun e words) v

-- THE WORDS OF A SIDE are what is to be copied, of each whole segment
abbrev pub CopiesSide : Type 0
CopiesSide = (site : Ground) (here : Site) (call : Call) (e : Enclosed) → IsGround site → IsOf site here call e → IsWhole site e → CopiesFrom site e (side_words e)

-- and nothing is decided
abbrev pub BeginsUndecided : Type 0
BeginsUndecided = (e : Enclosed) (words : List ℕ) → split_part.outcome (begun e words) ≡ None

-- in an attempt that enclosed it, and changed no other word
abbrev pub BeginsRemembering : Type 0
BeginsRemembering = (site : Ground) (e : Enclosed) (words : List ℕ) (did : Doings) → RemembersWhole site e did → split_part.Remembers site (begun e words) did

-- WHERE IT HANDS ON the side has the copies
abbrev pub HandsOnCopied : Type 0
HandsOnCopied = (site : Ground) (here : Site) (call : Call) (op : SplitOp) (v : View) → SplitStands site here call op v → hands_on_at op.step ≡ true → KeepsCopied site here call op.copied v

-- WHERE IT IS DECIDED THAT NO SLOT IS FREE the guard of free slots, that of the segment and all its locks are held
abbrev pub SaysFullOfHeld : Type 0
SaysFullOfHeld = (site : Ground) (here : Site) (call : Call) (words : Words) (op : SplitOp) (before v : View) → Suits split_part site here call op before v
    → outcome_at op.step ≡ None → (place : ℕ) → outcome_at (next split_part site words op).step ≡ Some (replied Full place)
    → (v.areas ≡ Allocation ∷ Segment (segment_of op) ∷ []) × HoldsLocks site op.copied.whole v

-- ---- the slot that becomes a side
-- its header as a new one is stored
abbrev pub is_new_batch : Batch → Bool
is_new_batch (New stored) = stored
is_new_batch (Copy number) = true
is_new_batch batch = false

abbrev pub is_new_at : SplitStep → Bool
is_new_at (Put batch rounds) = is_new_batch batch
is_new_at Release = true
is_new_at (Ended end) = is_copied_end end
is_new_at step = false

abbrev pub is_new_slot : SplitOp → Bool
is_new_slot op = is_new_at op.step

-- THE SLOT WAS FREE: beside any other callers, the event with which it becomes new is the store of its header, by the row that asks for a free
-- slot
abbrev pub TakesFreeSlot : Type 0
TakesFreeSlot = (site : Ground) (here : Site) (call : Call) (words : Words) (views : List View) (j : ℕ) (op : SplitOp) (before v : View) → Holds site words views → At views j v
    → Suits split_part site here call op before v → wanted op ≢ Done → is_new_slot op ≡ false → is_new_slot (next split_part site words op) ≡ true
    → (slot : ℕ) × (slot < site.shape.segments) × (head : ℕ) × (split_part.kind op (finds split_part site words op) ≡ of_structure (moves (news (segment_of op)) slot head))

-- it is not new at first, stays so whatever is answered, and is new where the split hands on
pub record NewSlotStays : Type 0 where
  pub begins : (e : Enclosed) (words : List ℕ) → is_new_slot (begun e words) ≡ false
  pub stays : (op : SplitOp) (a : Ans) → is_new_slot op ≡ true → is_new_slot (taken op a) ≡ true
  pub hands : (op : SplitOp) → hands_on_at op.step ≡ true → is_new_slot op ≡ true
