-- How many events are left at most, and how many lines wait for a fence.
use Rattle.std.specs.Prelude.{ℕ, suc, ◌+◌, ◌-◌, ◌*◌, min, Bool, true, false}
use Rattle.image_layout.specs.Places.{Shape, entries_of, most_depth}
use Rattle.whole_segment.specs.Rounds.{most_lines}
use Rattle.rounds.specs.Left.{rounds_left, few_left}
use Rattle.rounds.specs.Waiting.{rounds_waiting}
use Rattle.directory_op.specs.declared.op.Stage.{Stage}
use Rattle.directory_op.specs.declared.op.Stage.TheVariants.{Fill, Filled, Deepen, Deepened, GoLive, Live, Enter, Entered}
use Rattle.directory_op.specs.declared.op.DirectoryStep.{DirectoryStep}
use Rattle.directory_op.specs.declared.op.DirectoryStep.TheVariants.{LoadHead, LoadSideHead, TakeGuard, AskPower, LoadRoot, LoadEntry, Store, GiveGuard, Ended}
use Rattle.directory_op.specs.declared.op.DirectoryOp.{DirectoryOp}
use Rattle.directory_op.specs.Places.{entries_there}
use Rattle.directory_op.specs.Steps.{shape_of}

-- ---- events
-- an area has no more entries
abbrev pub most_entries : ℕ
most_entries = entries_of most_depth

-- how many the deepest area of an image of this shape has
abbrev pub deepest_entries : Shape → ℕ
deepest_entries shape = entries_of (min shape.depth most_depth)

-- once the side is settled: its entries, each of which may be stored, flushed and fenced, and the guard
abbrev pub after_live : DirectoryOp → ℕ
after_live op = 3 * suc (entries_there op.root) + 1

-- once the deeper area is: the root and the header too
abbrev pub after_filled : DirectoryOp → ℕ
after_filled op = 6 + after_live op

-- from an entry of the deeper area on: before each of them one of the other area may be loaded
abbrev pub fill_left : DirectoryOp → ℕ → ℕ
fill_left op place = rounds_left op.rounds (suc (entries_there op.root - place)) + (entries_there op.root - place) + after_filled op

abbrev pub stage_left : DirectoryOp → Stage → ℕ
stage_left op (Fill place value) = fill_left op place
stage_left op Filled = rounds_left op.rounds 0 + after_filled op
stage_left op Deepen = rounds_left op.rounds 1 + 3 + after_live op
stage_left op Deepened = rounds_left op.rounds 0 + 3 + after_live op
stage_left op GoLive = rounds_left op.rounds 1 + after_live op
stage_left op Live = rounds_left op.rounds 0 + after_live op
stage_left op (Enter index) = rounds_left op.rounds (suc (entries_there op.root - index)) + 1
stage_left op Entered = rounds_left op.rounds 0 + 1

-- once the guard is held: the root, at most so many entries that are loaded, stored and entered, each of which may be flushed and fenced when
-- it is filled and when it is entered, the root and the header, and the guard
abbrev pub guarded_with : ℕ → ℕ
guarded_with entries = 2 + 3 * suc entries + entries + 6 + 3 * suc entries + 1

abbrev pub guarded_left : DirectoryOp → ℕ
guarded_left op = guarded_with (deepest_entries (shape_of op))

abbrev pub step_left : DirectoryOp → DirectoryStep → ℕ
step_left op LoadHead = 3 + guarded_left op
step_left op LoadSideHead = 2 + guarded_left op
step_left op TakeGuard = 1 + guarded_left op
step_left op AskPower = 1 + guarded_left op
step_left op LoadRoot = guarded_left op
step_left op (LoadEntry place) = 1 + few_left op.rounds (fill_left op place)
step_left op (Store stage) = few_left op.rounds (stage_left op stage)
step_left op GiveGuard = 1
step_left op (Ended end) = 0

abbrev pub left_of : DirectoryOp → ℕ
left_of op = step_left op op.step

-- IN AN IMAGE OF THIS SHAPE it makes at most so many from its beginning on, but while it waits for the guard
abbrev pub events_in : Shape → ℕ
events_in shape = 3 + guarded_with (deepest_entries shape)

-- and in any image, from any state on, so many
abbrev pub most_events : ℕ
most_events = 3 + guarded_with most_entries + most_lines

-- while nobody else has the guard: who has asked for the power tries it next, and wins
abbrev pub alone_in : DirectoryOp → DirectoryStep → ℕ
alone_in op AskPower = 2 + guarded_left op
alone_in op step = step_left op step

abbrev pub left_alone : DirectoryOp → ℕ
left_alone op = alone_in op op.step

-- it waits for the guard
abbrev pub is_trying : DirectoryStep → Bool
is_trying TakeGuard = true
is_trying AskPower = true
is_trying step = false

-- ---- lines that are flushed and not fenced
abbrev pub step_waiting : DirectoryOp → DirectoryStep → ℕ
step_waiting op (LoadEntry place) = rounds_waiting op.rounds
step_waiting op (Store stage) = rounds_waiting op.rounds
step_waiting op step = 0

abbrev pub waiting_of : DirectoryOp → ℕ
waiting_of op = step_waiting op op.step
