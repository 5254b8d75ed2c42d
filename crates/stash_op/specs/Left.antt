-- How many events are left at most, how many lines wait for a fence, and from when on the insert is made.
use Rattle.std.specs.Prelude.{ℕ, ◌+◌, ⊤}
use Rattle.phase.specs.Stands.{load_left}
use Rattle.phase.specs.Taking.{take_left}
use Rattle.part.specs.Outcomes.{IsDone}
use Rattle.phase.specs.Making.{make_left, waiting_of, IsPublished}
use Rattle.phase.specs.Giving.{give_left}
use Rattle.stash_op.specs.declared.step.StashBucket.{StashBucket}
use Rattle.stash_op.specs.declared.step.StashBucket.TheVariants.{First, Second}
use Rattle.stash_op.specs.declared.step.StashEnd.TheVariants as ends
use Rattle.phase.specs.declared.note.NoteWord.{NoteWord}
use Rattle.phase.specs.declared.note.NoteWord.TheVariants.{Mark, Fingers}
use Rattle.phase.specs.Endings.{HasMadeThen}
use Rattle.stash_op.specs.declared.step.StashStep.{StashStep}
use Rattle.stash_op.specs.declared.step.StashStep.TheVariants.{Lock, Fill, Note, Draw, CountSpent, Give, Ended}
use Rattle.stash_op.specs.declared.step.StashStep.TheVariants as step

-- ---- events
-- at most so many: 2 for each of two locks, 31 for each of two buckets, 9 stores, flushes and fences, 2 stores of a note, the draw, and
-- six locks back
abbrev pub most_events : ℕ
most_events = 84

-- behind the lock of a stash bucket, and behind its words
abbrev pub left_behind_lock : StashBucket → ℕ
left_behind_lock First = 82
left_behind_lock Second = 49

abbrev pub left_behind : StashBucket → ℕ
left_behind First = 51
left_behind Second = 18

abbrev pub left_of_note : NoteWord → ℕ
left_of_note Mark = 9
left_of_note Fingers = 8

abbrev pub left_at : StashStep → ℕ
left_at (Lock bucket take) = left_behind_lock bucket + take_left take
left_at (Fill bucket load) = left_behind bucket + load_left load
left_at (step.Make make) = 9 + make_left make
left_at (Note part) = left_of_note part
left_at Draw = 7
left_at CountSpent = 7
left_at (Give held end) = give_left held
left_at (Ended end) = 0

-- ---- lines that are flushed and not fenced
abbrev pub waiting_at : StashStep → ℕ
waiting_at (step.Make make) = waiting_of make
waiting_at more = 0

-- ---- the one store that makes the insert was done
abbrev pub HasMadeAt : StashStep → Type 0
HasMadeAt (step.Make make) = IsPublished make
HasMadeAt (Note part) = ⊤
HasMadeAt Draw = ⊤
HasMadeAt (Give held end) = HasMadeThen end
HasMadeAt (Ended (ends.Replied answer place)) = IsDone answer
HasMadeAt more = ⊥
