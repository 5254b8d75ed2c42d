-- What a close wants in each step, and what an answer makes of it.
use Rattle.std.specs.Prelude.{ℕ, ◌+◌, ◌-◌, nat_lt, if◌then◌else◌}
use Rattle.op_core.specs.declared.want.Want.{Want}
use Rattle.op_core.specs.declared.want.Want.TheVariants as want
use Rattle.op_core.specs.declared.want.Ans.{Ans}
use Rattle.op_core.specs.declared.want.Ans.TheVariants.{Value, Won, Lost, Drawn, Passed}
use Rattle.trace.specs.Events.{line_of, most_unfenced}
use Rattle.image_layout.specs.Places.{Shape, state_word, words_of}
use Rattle.image_layout.specs.StateWord.{with_marker}
use Rattle.restart_op.specs.declared.close.CloseStep.{CloseStep}
use Rattle.restart_op.specs.declared.close.CloseStep.TheVariants.{Flush, Fence, Load, Store, FlushState, FenceState, Ended}
use Rattle.restart_op.specs.declared.close.CloseOp.{CloseOp}

-- how many lines an image has
abbrev pub lines_of : Shape → ℕ
lines_of shape = line_of (words_of shape)

-- the line of the state word
abbrev pub state_line : ℕ
state_line = line_of state_word

-- a close that has done nothing yet
abbrev pub begun : Shape → CloseOp
begun shape = record { geometry = shape; step = Flush 0 0 }

-- a line was flushed: eight of them, and the last ones, are fenced
abbrev pub flushed : Shape → ℕ → ℕ → CloseStep
flushed shape line waiting =
    if nat_lt line (lines_of shape - 1) then (if nat_lt waiting (most_unfenced - 1) then Flush (line + 1) (waiting + 1) else Fence (line + 1))
    else Fence (lines_of shape)

-- the lines before this one are fenced
abbrev pub fenced : Shape → ℕ → CloseStep
fenced shape line = if nat_lt line (lines_of shape) then Flush line 0 else Load

abbrev pub wanted_in : CloseStep → Want
wanted_in (Flush line waiting) = want.Flush line
wanted_in (Fence line) = want.Fence
wanted_in Load = want.Load state_word
wanted_in (Store state) = want.Store state_word state
wanted_in FlushState = want.Flush state_line
wanted_in FenceState = want.Fence
wanted_in Ended = want.Done

-- an event passed
abbrev pub passed_in : Shape → CloseStep → CloseStep
passed_in shape (Flush line waiting) = flushed shape line waiting
passed_in shape (Fence line) = fenced shape line
passed_in shape Load = Load
passed_in shape (Store state) = FlushState
passed_in shape FlushState = FenceState
passed_in shape FenceState = Ended
passed_in shape Ended = Ended

-- a value was loaded
abbrev pub loaded_in : CloseStep → ℕ → CloseStep
loaded_in (Flush line waiting) seen = Flush line waiting
loaded_in (Fence line) seen = Fence line
loaded_in Load seen = Store (with_marker seen)
loaded_in (Store state) seen = Store state
loaded_in FlushState seen = FlushState
loaded_in FenceState seen = FenceState
loaded_in Ended seen = Ended

abbrev pub next_of : CloseOp → CloseStep
next_of op = passed_in op.geometry op.step

-- the event that a close wants
abbrev pub wanted : CloseOp → Want
wanted op = wanted_in op.step

-- the close that an answer leaves: an answer of another kind than it waits for leaves it as it is
abbrev pub taken : CloseOp → Ans → CloseOp
taken op (Value seen) = record op { step = loaded_in op.step seen }
taken op Won = op
taken op (Lost seen) = op
taken op (Drawn place) = op
taken op Passed = record op { step = passed_in op.geometry op.step }
