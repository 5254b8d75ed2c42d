-- How many events a restart takes, and which words they are on.
use Rattle.std.specs.Prelude.{◌≡◌, ◌≢◌, ℕ, suc, ◌+◌, ◌-◌, ◌*◌, ◌<◌, ◌⊎◌, ⊤, if◌then◌else◌}
use Rattle.trace.specs.Events.{Words, line_of}
use Rattle.image_layout.specs.Places.{Shape, IsShape, state_word}
use Rattle.op_core.specs.declared.want.Want.{Want}
use Rattle.op_core.specs.declared.want.Want.TheVariants as want
use Rattle.op_core.specs.declared.want.Ans.{Ans}
use Rattle.op_core.specs.Answers.{IsAnswer}
use Rattle.world.specs.areas.Areas.{header_word}
use Rattle.restart_op.specs.declared.restart.RestartStep.{RestartStep}
use Rattle.restart_op.specs.declared.restart.RestartStep.TheVariants.{Load, LoadHead, StoreHead, FlushHead, FenceHeads, Store, Flush, Fence, Ended}
use Rattle.restart_op.specs.declared.restart.RestartOp.{RestartOp}
use Rattle.restart_op.specs.Course.{fences_of}
use Rattle.restart_op.specs.Restart.{started_for, begun, wanted, taken}

-- HOW MANY EVENTS a restart takes: four for the state word; and in a sweep a load, a store and a flush of each header, and a fence for each eight
-- of them
abbrev pub events_of_sweep : Shape → ℕ
events_of_sweep shape = 3 * shape.segments + fences_of shape.segments + 4

abbrev pub events_of_restart : Shape → Words → ℕ
events_of_restart shape words = if (started_for (words state_word)).swept then events_of_sweep shape else 4

-- ---- what is left
-- as many as these, and at least one
abbrev pub from_to : ℕ → ℕ → ℕ
from_to from to = suc (to - from - 1)

-- in a round, from a header on: those of the loads and stores to come, of the flushes from the first of the round on, of the fences, and three
abbrev pub left_in_round : ℕ → ℕ → ℕ → ℕ
left_in_round slots first slot = 2 * from_to slot slots + from_to first slots + fences_of (from_to first slots) + 3

-- at most so many events are left
abbrev pub left_in : Shape → RestartStep → ℕ
left_in shape Load = suc (left_in_round shape.segments 0 0)
left_in shape (LoadHead first slot) = left_in_round shape.segments first slot
left_in shape (StoreHead first slot head) = left_in_round shape.segments first slot - 1
left_in shape (FlushHead slot end) = from_to slot end + (1 + 3 * (shape.segments - end) + fences_of (shape.segments - end) + 3)
left_in shape (FenceHeads end) = 1 + 3 * (shape.segments - end) + fences_of (shape.segments - end) + 3
left_in shape (Store started) = 3
left_in shape (Flush started) = 2
left_in shape (Fence started) = 1
left_in shape (Ended started) = 0

abbrev pub left : RestartOp → ℕ
left op = left_in op.geometry op.step

-- at first as many as with a sweep
abbrev pub BeginsWithASweep : Type 0
BeginsWithASweep = (shape : Shape) → IsShape shape → left (begun shape) ≡ events_of_sweep shape

-- each answer of the kind that was asked for leaves fewer, whatever it is
abbrev pub Falls : Type 0
Falls = (op : RestartOp) (a : Ans) → IsAnswer (wanted op) a → left (taken op a) < left op

-- and nothing more is wanted where none is left, and there alone
abbrev pub EndsAtNone : Type 0
EndsAtNone = (op : RestartOp) → (left op ≡ 0 → wanted op ≡ want.Done) × (left op ≢ 0 → wanted op ≢ want.Done)

-- ---- which words
-- the state word, or a header
abbrev pub IsStateOrHead : Shape → ℕ → Type 0
IsStateOrHead shape i = (i ≡ state_word) ⊎ ((s : ℕ) × (s < shape.segments) × (i ≡ header_word shape s))

-- an event on such a word or its line alone, or a fence, or nothing more
abbrev pub IsOnStateOrHead : Shape → Want → Type 0
IsOnStateOrHead shape (want.Load i) = IsStateOrHead shape i
IsOnStateOrHead shape (want.Store i x) = IsStateOrHead shape i
IsOnStateOrHead shape (want.Flush l) = (i : ℕ) × IsStateOrHead shape i × (l ≡ line_of i)
IsOnStateOrHead shape want.Fence = ⊤
IsOnStateOrHead shape want.Done = ⊤
IsOnStateOrHead shape w = ⊥
