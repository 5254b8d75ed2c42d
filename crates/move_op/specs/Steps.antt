-- What a displacement wants in each step, and what an answer makes of it.
use Rattle.std.specs.Prelude.{ℕ, ◌+◌, ⊤, Bool, true, false, Option, None, Some, is_none, List}
use Rattle.image_layout.specs.Volatile.{counter_word}
use Rattle.op_core.specs.declared.want.Want.{Want}
use Rattle.op_core.specs.declared.want.Want.TheVariants as want
use Rattle.op_core.specs.declared.want.Ans.{Ans}
use Rattle.op_core.specs.declared.want.Ans.TheVariants.{Value, Passed, Drawn}
use Rattle.op_core.specs.declared.why.Why.TheVariants.{Busy, Moved}
use Rattle.map_model.specs.declared.entry.Reply.TheVariants as reply
use Rattle.phase.specs.declared.role.Role.{Role}
use Rattle.phase.specs.declared.take.Take.TheVariants.{Look}
use Rattle.phase.specs.declared.take.Taken.{Taken}
use Rattle.phase.specs.declared.take.Taken.TheVariants as taking
use Rattle.phase.specs.declared.load.Loaded.{Loaded}
use Rattle.phase.specs.declared.load.Loaded.TheVariants as loaded
use Rattle.phase.specs.declared.make.Make.TheVariants.{Key, Publish}
use Rattle.phase.specs.declared.make.Made.{Made}
use Rattle.phase.specs.declared.make.Made.TheVariants as made
use Rattle.phase.specs.declared.held.Held.{Held}
use Rattle.phase.specs.declared.kept.Kept.{Kept}
use Rattle.phase.specs.Places.{lock_word}
use Rattle.phase.specs.Takes.{take_wanted, take_taken}
use Rattle.phase.specs.Loads.{load_begun, load_taken}
use Rattle.phase.specs.Makes.{make_wanted, make_taken}
use Rattle.phase.specs.Helds.{with_held, give_next, give_wanted, given, give_step}
use Rattle.phase.specs.Buckets.{with_words}
use Rattle.move_op.specs.declared.step.MoveEnd.{MoveEnd}
use Rattle.move_op.specs.declared.step.MoveEnd.TheVariants as ends
use Rattle.phase.specs.declared.ending.Ending.{Ending}
use Rattle.phase.specs.declared.ending.Ending.TheVariants as ending
use Rattle.move_op.specs.declared.step.Direction.{Direction}
use Rattle.move_op.specs.declared.step.Direction.TheVariants.{Forward, Backward}
use Rattle.move_op.specs.declared.step.Shift.{Shift}
use Rattle.move_op.specs.declared.step.Leg.{Leg}
use Rattle.move_op.specs.declared.step.Leg.TheVariants.{Copy, Clear, Insert}
use Rattle.move_op.specs.declared.step.MoveStep.{MoveStep}
use Rattle.move_op.specs.declared.step.MoveStep.TheVariants.{Lock, Fill, CountSpent, Draw, Give, Ended}
use Rattle.move_op.specs.declared.step.MoveStep.TheVariants as step
use Rattle.move_op.specs.declared.op.MoveOp.{MoveOp}
use Rattle.move_op.specs.Shifts.{target_of, shift_in, place_of, record_of}
use Rattle.image_layout.specs.Places.{place_in_bucket}

-- ---- ends
-- what is kept, and the next step
abbrev pub go : Kept → MoveStep → MoveOp
go kept next = record { kept = kept; step = next }

abbrev pub end_of : Ending → MoveEnd
end_of (ending.Replied answer place) = ends.Replied answer place
end_of (ending.Again why) = ends.Again why

-- the locks that are held are given back, one after another, and then it ends so
abbrev pub giving : Held → Ending → MoveStep
giving held end = give_step held (Give held end) (Ended (end_of end))

abbrev pub give : Kept → Ending → MoveOp
give kept end = go kept (giving kept.held end)

-- ---- a lock
abbrev pub locked_to : Kept → Direction → ℕ → Taken → MoveOp
locked_to kept direction lock (taking.On take) = go kept (Lock direction take)
locked_to kept direction lock (taking.Held free) = go (record kept { held = with_held (target_of direction) free kept.held }) (Fill direction load_begun)
locked_to kept direction lock (taking.Busy value) = give kept (ending.Again (Busy lock value))
locked_to kept direction lock (taking.Moved before after) = give kept (ending.Again (Moved lock before after))
locked_to kept direction lock taking.Spent = go kept CountSpent

-- ---- a bucket
-- where no record moves in this direction, the other one is tried, and then no more
abbrev pub without : Direction → MoveStep
without Forward = Lock Backward Look
without Backward = Ended ends.NoMove

abbrev pub chosen : Direction → Option Shift → MoveStep
chosen direction (Some shift) = step.Make shift Copy Key
chosen direction None = without direction

-- behind the last word of a third bucket, whose words were put in
abbrev pub filled : Kept → Direction → MoveOp
filled kept direction = go kept (chosen direction (shift_in kept direction))

abbrev pub filled_with : Kept → Direction → List ℕ → MoveOp
filled_with kept direction words = filled (record kept { buckets = with_words (target_of direction) words kept.buckets }) direction

abbrev pub filled_to : Kept → Direction → Loaded → MoveOp
filled_to kept direction (loaded.On load) = go kept (Fill direction load)
filled_to kept direction (loaded.All words) = filled_with kept direction words

-- ---- stores
-- behind what is stored: the copy, the clearing of its source, the new record, and then the draw
abbrev pub settled : Shift → Leg → MoveStep
settled shift Copy = step.Make shift Clear Publish
settled shift Clear = step.Make shift Insert Key
settled shift Insert = Draw shift

abbrev pub made_to : Shift → Leg → Made → MoveStep
made_to shift leg (made.On make) = step.Make shift leg make
made_to shift leg made.Settled = settled shift leg

-- ---- the machine
module _ (kept : Kept) where
  abbrev pub lock_of : Role → ℕ
  lock_of place = lock_word kept.site kept.hash kept.segment place

  -- the lock of the bucket in which this is stored
  abbrev pub lock_at : Shift → Leg → ℕ
  lock_at shift leg = lock_of (place_of shift.direction leg)

  -- THE EVENT that it wants
  abbrev pub wanted_in : MoveStep → Want
  wanted_in (Lock direction take) = take_wanted (lock_of (target_of direction)) take
  wanted_in (Fill direction load) = want.Load (lock_of (target_of direction) + place_in_bucket load.next)
  wanted_in CountSpent = want.Load (counter_word kept.site.geometry)
  wanted_in (step.Make shift leg make) = make_wanted (lock_at shift leg) (record_of shift leg) make
  wanted_in (Draw shift) = want.Draw
  wanted_in (Give held end) = give_wanted kept.site kept.hash kept.segment held
  wanted_in (Ended end) = want.Done

  -- WHAT AN ANSWER makes of it; one of another kind than was asked for leaves it as it is
  abbrev pub next_in : MoveStep → Ans → MoveOp
  next_in (Lock direction take) ans = locked_to kept direction (lock_of (target_of direction)) (take_taken take ans)
  next_in (Fill direction load) (Value n) = filled_to kept direction (load_taken load n)
  next_in CountSpent (Value n) = give kept (ending.Replied reply.Spent n)
  next_in (step.Make shift leg make) Passed = go kept (made_to shift leg (make_taken (record_of shift leg).slot make))
  next_in (Draw shift) (Drawn n) = give kept (ending.Replied reply.Done n)
  next_in (Give held end) Passed = go kept (giving (given held) end)
  next_in same ans = go kept same

-- any step but the load of a bucket's words
abbrev pub IsElsewhere : MoveStep → Type 0
IsElsewhere (Fill direction load) = ⊥
IsElsewhere more = ⊤

-- one that goes on from what an insert kept, and has done nothing yet
abbrev pub begun : Kept → MoveOp
begun kept = go kept (Lock Forward Look)

abbrev pub wanted : MoveOp → Want
wanted op = wanted_in op.kept op.step

abbrev pub taken : MoveOp → Ans → MoveOp
taken op ans = next_in op.kept op.step ans

-- how it ended, or will once its locks are given back; before that it counts as one with the power off
abbrev pub end_at : MoveStep → MoveEnd
end_at (Ended end) = end
end_at (Give held end) = end_of end
end_at more = ends.Off

-- nothing more is to be done
abbrev pub is_over : MoveStep → Bool
is_over (Ended end) = true
is_over (Give held end) = is_none (give_next held)
is_over more = false

abbrev pub is_without_move : MoveStep → Bool
is_without_move (Ended ends.NoMove) = true
is_without_move more = false
