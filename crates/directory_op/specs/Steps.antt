-- What the machine wants, and what an answer makes of it: the doubling of the directory, the store that makes the side live, and the entries
-- that name it.
use Rattle.std.specs.Prelude.{ℕ, ◌+◌, ◌-◌, ◌==◌, nat_le, nat_lt, Bool, true, false, Option, None, Some, if◌then◌else◌}
use Rattle.segment_head.specs.HeadWord.{depth_in}
use Rattle.image_layout.specs.Places.{Shape, root_word, depth_below, depth_above, entry_above, half_of_entry}
use Rattle.image_layout.specs.Volatile.{power_on, directory_guard, free_guard}
use Rattle.op_core.specs.declared.want.Want.{Want}
use Rattle.op_core.specs.declared.want.Want.TheVariants as want
use Rattle.op_core.specs.declared.want.Ans.{Ans}
use Rattle.op_core.specs.declared.want.Ans.TheVariants.{Value, Won, Lost, Passed}
use Rattle.way.specs.Ways.{head_word}
use Rattle.rounds.specs.Steps.{begun, rounds_stores, rounds_wanted, event_wanted, rounds_taken}
use Rattle.split_op.specs.declared.copied.Copied.{Copied}
use Rattle.directory_op.specs.declared.op.DirectoryEnd.{DirectoryEnd}
use Rattle.directory_op.specs.declared.op.DirectoryEnd.TheVariants.{Published, Off}
use Rattle.directory_op.specs.declared.op.Stage.{Stage}
use Rattle.directory_op.specs.declared.op.Stage.TheVariants.{Fill, Filled, Deepen, Deepened, GoLive, Live, Enter, Entered}
use Rattle.directory_op.specs.declared.op.DirectoryStep.{DirectoryStep}
use Rattle.directory_op.specs.declared.op.DirectoryStep.TheVariants.{LoadHead, LoadSideHead, TakeGuard, AskPower, LoadRoot, LoadEntry, Store, GiveGuard, Ended}
use Rattle.directory_op.specs.declared.op.DirectoryOp.{DirectoryOp}
use Rattle.directory_op.specs.Places.{entries_there, entry_word_at, side_first, side_last, live_head}

-- it has done nothing yet
abbrev pub directed : Copied → DirectoryOp
directed copied = record { copied = copied; head = 0; side_head = 0; root = 0; rounds = begun; step = LoadHead }

-- how the image is laid out
abbrev pub shape_of : DirectoryOp → Shape
shape_of op = op.copied.whole.site.geometry

-- ---- the stores
-- THE STORE that comes next in a stage: its word and its value. In the area that is one deeper each entry of the root's area stands twice
abbrev pub next_store : DirectoryOp → Stage → Option (ℕ × ℕ)
next_store op (Fill place value) = Some (entry_word_at (shape_of op) op.root place, value)
next_store op Filled = None
next_store op Deepen = Some (root_word, op.root)
next_store op Deepened = None
next_store op GoLive = Some (head_word (shape_of op) op.copied.side, live_head op.side_head)
next_store op Live = None
next_store op (Enter index) = Some (entry_word_at (shape_of op) op.root index, op.copied.side)
next_store op Entered = None

-- behind an entry that is not the last one: the next one gets the same value, or one that is loaded first
abbrev pub fill_on : Bool → ℕ → ℕ → DirectoryStep
fill_on true place value = Store (Fill (place + 1) value)
fill_on false place value = LoadEntry (place + 1)

-- THE STEP behind the store of a stage
abbrev pub stage_after : DirectoryOp → Stage → DirectoryStep
stage_after op (Fill place value) = if nat_lt place (entries_there op.root - 1) then fill_on (half_of_entry place == 0) place value else Store Filled
stage_after op Deepen = Store Deepened
stage_after op GoLive = Store Live
stage_after op (Enter index) = if nat_lt index (side_last op.root op.side_head) then Store (Enter (index + 1)) else Store Entered
stage_after op same = Store same

-- and once all that a stage stored is settled
abbrev pub settled_to : DirectoryOp → Stage → DirectoryStep
settled_to op Filled = Store Deepen
settled_to op Deepened = Store GoLive
settled_to op Live = Store (Enter (side_first op.root op.side_head))
settled_to op Entered = GiveGuard
settled_to op same = Store same

-- ---- what is wanted
abbrev pub wanted_in : DirectoryOp → DirectoryStep → Want
wanted_in op LoadHead = want.Load (head_word (shape_of op) op.copied.whole.segment)
wanted_in op LoadSideHead = want.Load (head_word (shape_of op) op.copied.side)
wanted_in op TakeGuard = want.Exchange (directory_guard (shape_of op)) free_guard op.copied.whole.site.caller
wanted_in op AskPower = want.Power
wanted_in op LoadRoot = want.Load root_word
wanted_in op (LoadEntry place) = want.Load (entry_word_at (shape_of op) (depth_above op.root) (entry_above place))
wanted_in op (Store stage) = event_wanted op.rounds (next_store op stage)
wanted_in op GiveGuard = want.Store (directory_guard (shape_of op)) free_guard
wanted_in op (Ended end) = want.Done

-- THE EVENT that it wants
abbrev pub wanted : DirectoryOp → Want
wanted op = wanted_in op op.step

-- ---- what comes after
-- it waits on while the power is on
abbrev pub power_step : ℕ → DirectoryStep
power_step value = if value == power_on then TakeGuard else Ended Off

-- the root was found: the directory is doubled where the segment is as deep
abbrev pub rooted : Bool → DirectoryOp → ℕ → DirectoryOp
rooted true op root = record op { root = depth_below root; rounds = begun; step = LoadEntry 0 }
rooted false op root = record op { root = root; rounds = begun; step = Store GoLive }

-- the image has no area of that depth, or, where the directory is to be doubled, none that is one deeper
abbrev pub is_over : Shape → Bool → ℕ → Bool
is_over shape true root = nat_le shape.depth root
is_over shape false root = nat_lt shape.depth root

abbrev pub with_root : DirectoryOp → ℕ → DirectoryOp
with_root op root = if is_over (shape_of op) (root == depth_in op.head) root then record op { step = Ended Off } else rooted (root == depth_in op.head) op root

-- an event of a stage was done: its store, or a flush or a fence, behind which it may be settled
abbrev pub settled_by : DirectoryOp → Stage → Option Want → DirectoryStep
settled_by op stage (Some more) = Store stage
settled_by op stage None = settled_to op stage

abbrev pub passed_to : DirectoryOp → Stage → Bool → DirectoryStep
passed_to op stage true = stage_after op stage
passed_to op stage false = settled_by op stage (rounds_wanted (rounds_taken op.rounds (next_store op stage)) (next_store op stage))

abbrev pub passed : DirectoryOp → Stage → DirectoryOp
passed op stage = record op { rounds = rounds_taken op.rounds (next_store op stage); step = passed_to op stage (rounds_stores op.rounds (next_store op stage)) }

abbrev pub taken_in : DirectoryOp → DirectoryStep → Ans → DirectoryOp
taken_in op LoadHead (Value head) = record op { head = head; step = LoadSideHead }
taken_in op LoadSideHead (Value head) = record op { side_head = head; step = TakeGuard }
taken_in op TakeGuard Won = record op { step = LoadRoot }
taken_in op TakeGuard (Lost seen) = record op { step = AskPower }
taken_in op AskPower (Value value) = record op { step = power_step value }
taken_in op LoadRoot (Value root) = with_root op root
taken_in op (LoadEntry place) (Value value) = record op { step = Store (Fill place value) }
taken_in op (Store stage) Passed = passed op stage
taken_in op GiveGuard Passed = record op { step = Ended Published }
taken_in op same ans = op

-- WHAT AN ANSWER makes of it; one of another kind than was asked for leaves it as it is
abbrev pub taken : DirectoryOp → Ans → DirectoryOp
taken op ans = taken_in op op.step ans

-- HOW IT ENDS; one that is not at its end counts as one that found the power off
abbrev pub end_at : DirectoryStep → DirectoryEnd
end_at (Ended end) = end
end_at more = Off

abbrev pub end_of : DirectoryOp → DirectoryEnd
end_of op = end_at op.step
