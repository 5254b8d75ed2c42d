-- What a restart wants in each step, and what an answer makes of it.
use Rattle.std.specs.Prelude.{ℕ, ◌+◌, ◌-◌, ◌==◌, nat_lt, true, false, if◌then◌else◌}
use Rattle.trace.specs.Events.{line_of, most_unfenced}
use Rattle.segment_head.specs.Versions.{unversioned}
use Rattle.image_layout.specs.Places.{Shape, state_word}
use Rattle.image_layout.specs.StateWord.{version_in, marker_in, last_image_version, first_version}
use Rattle.op_core.specs.declared.want.Want.{Want}
use Rattle.op_core.specs.declared.want.Want.TheVariants as want
use Rattle.op_core.specs.declared.want.Ans.{Ans}
use Rattle.op_core.specs.declared.want.Ans.TheVariants.{Value, Passed}
use Rattle.world.specs.areas.Areas.{header_word}
use Rattle.restart_op.specs.declared.restart.Started.{Started}
use Rattle.restart_op.specs.declared.restart.RestartStep.{RestartStep}
use Rattle.restart_op.specs.declared.restart.RestartStep.TheVariants.{Load, LoadHead, StoreHead, FlushHead, FenceHeads, Store, Flush, Fence, Ended}
use Rattle.restart_op.specs.declared.restart.RestartOp.{RestartOp}

-- ---- what it leaves
-- this version, without a sweep; or version 1 behind one
abbrev pub started_with : ℕ → Started
started_with version = record { version = version; swept = false }

abbrev pub swept_through : Started
swept_through = record { version = first_version; swept = true }

-- BY THE STATE WORD that it finds: of a clean image the version stays, and any other gets the next one; above the last one there is none
abbrev pub started_for : ℕ → Started
started_for state =
    if marker_in state == 1 then started_with (version_in state)
    else (if version_in state == last_image_version then swept_through else started_with (version_in state + 1))

-- ---- the steps
-- a restart that has done nothing yet
abbrev pub begun : Shape → RestartOp
begun shape = record { geometry = shape; step = Load }

-- the header of a slot; a slot that the image has not gives the state word
abbrev pub head_or_state : Shape → ℕ → ℕ
head_or_state shape slot = if nat_lt slot shape.segments then header_word shape slot else state_word

-- the event of a step
abbrev pub wanted_in : Shape → RestartStep → Want
wanted_in shape Load = want.Load state_word
wanted_in shape (LoadHead first slot) = want.Load (head_or_state shape slot)
wanted_in shape (StoreHead first slot head) = want.Store (head_or_state shape slot) head
wanted_in shape (FlushHead slot end) = want.Flush (line_of (head_or_state shape slot))
wanted_in shape (FenceHeads end) = want.Fence
wanted_in shape (Store started) = want.Store state_word started.version
wanted_in shape (Flush started) = want.Flush (line_of state_word)
wanted_in shape (Fence started) = want.Fence
wanted_in shape (Ended started) = want.Done

-- the state word was loaded: a sweep begins, or the version is stored
abbrev pub state_seen : ℕ → RestartStep
state_seen state = if (started_for state).swept then LoadHead 0 0 else Store (started_for state)

-- a header was stored: a round has eight of them at most
abbrev pub head_stored : Shape → ℕ → ℕ → RestartStep
head_stored shape first slot =
    if nat_lt slot (shape.segments - 1) then (if nat_lt (slot - first) (most_unfenced - 1) then LoadHead first (slot + 1) else FlushHead first (slot + 1))
    else FlushHead first shape.segments

-- the line of one was flushed
abbrev pub head_flushed : ℕ → ℕ → RestartStep
head_flushed slot end = if nat_lt slot (end - 1) then FlushHead (slot + 1) end else FenceHeads end

-- those before this slot are settled
abbrev pub heads_fenced : Shape → ℕ → RestartStep
heads_fenced shape end = if nat_lt end shape.segments then LoadHead end end else Store swept_through

-- the step after an answer; one of another kind than was asked leaves the step as it is
abbrev pub next_in : Shape → RestartStep → Ans → RestartStep
next_in shape Load (Value state) = state_seen state
next_in shape (LoadHead first slot) (Value head) = StoreHead first slot (unversioned head)
next_in shape (StoreHead first slot head) Passed = head_stored shape first slot
next_in shape (FlushHead slot end) Passed = head_flushed slot end
next_in shape (FenceHeads end) Passed = heads_fenced shape end
next_in shape (Store started) Passed = Flush started
next_in shape (Flush started) Passed = Fence started
next_in shape (Fence started) Passed = Ended started
next_in shape step ans = step

abbrev pub next_of : RestartOp → Ans → RestartStep
next_of op ans = next_in op.geometry op.step ans

-- the event that a restart wants
abbrev pub wanted : RestartOp → Want
wanted op = wanted_in op.geometry op.step

-- the restart that an answer leaves
abbrev pub taken : RestartOp → Ans → RestartOp
taken op ans = record op { step = next_of op ans }
