-- How many events a displacement still makes at most, how many lines wait for its fence, and from when on its insert is made.
use Rattle.std.specs.Prelude.{ℕ, ◌+◌, ⊤}
use Rattle.phase.specs.declared.make.Make.{Make}
use Rattle.phase.specs.declared.make.Make.TheVariants.{FlushPublished, FencePublished}
use Rattle.phase.specs.Stands.{load_left}
use Rattle.phase.specs.Taking.{take_left}
use Rattle.part.specs.Outcomes.{IsDone}
use Rattle.phase.specs.Making.{make_left, waiting_of}
use Rattle.phase.specs.Giving.{give_left}
use Rattle.move_op.specs.declared.step.MoveEnd.TheVariants as ends
use Rattle.phase.specs.Endings.{HasMadeThen}
use Rattle.move_op.specs.declared.step.Direction.{Direction}
use Rattle.move_op.specs.declared.step.Direction.TheVariants.{Forward, Backward}
use Rattle.move_op.specs.declared.step.Leg.{Leg}
use Rattle.move_op.specs.declared.step.Leg.TheVariants.{Copy, Clear, Insert}
use Rattle.move_op.specs.declared.step.MoveStep.{MoveStep}
use Rattle.move_op.specs.declared.step.MoveStep.TheVariants.{Lock, Fill, CountSpent, Draw, Give, Ended}
use Rattle.move_op.specs.declared.step.MoveStep.TheVariants as step

-- ---- events
-- at most so many: 2 for each of two locks, 31 for each of two buckets, 9 for the copy, 3 for the clearing of its source, 9 for the new
-- record, the draw, and six locks back
abbrev pub most_events : ℕ
most_events = 94

-- behind the lock of a third bucket, and behind its words
abbrev pub left_behind_lock : Direction → ℕ
left_behind_lock Forward = 92
left_behind_lock Backward = 59

abbrev pub left_behind : Direction → ℕ
left_behind Forward = 61
left_behind Backward = 28

-- behind what is stored
abbrev pub left_behind_leg : Leg → ℕ
left_behind_leg Copy = 19
left_behind_leg Clear = 16
left_behind_leg Insert = 7

abbrev pub left_at : MoveStep → ℕ
left_at (Lock direction take) = left_behind_lock direction + take_left take
left_at (Fill direction load) = left_behind direction + load_left load
left_at CountSpent = 7
left_at (step.Make shift leg make) = left_behind_leg leg + make_left make
left_at (Draw shift) = 7
left_at (Give held end) = give_left held
left_at (Ended end) = 0

-- ---- lines that are flushed and not fenced
abbrev pub waiting_at : MoveStep → ℕ
waiting_at (step.Make shift leg make) = waiting_of make
waiting_at more = 0

-- ---- the one store that makes the insert was done
abbrev pub IsPublished : Leg → Make → Type 0
IsPublished Insert FlushPublished = ⊤
IsPublished Insert FencePublished = ⊤
IsPublished leg make = ⊥

abbrev pub HasMadeAt : MoveStep → Type 0
HasMadeAt (step.Make shift leg make) = IsPublished leg make
HasMadeAt (Draw shift) = ⊤
HasMadeAt (Give held end) = HasMadeThen end
HasMadeAt (Ended (ends.Replied answer place)) = IsDone answer
HasMadeAt more = ⊥
