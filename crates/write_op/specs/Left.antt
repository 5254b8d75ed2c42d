-- How many events a change still makes at most, how many lines wait for its fence, and from when on its change is made.
use Rattle.std.specs.Prelude.{ℕ, ◌+◌, ⊤}
use Rattle.phase.specs.declared.role.Role.{Role}
use Rattle.phase.specs.declared.role.Role.TheVariants.{Home, Probing, First}
use Rattle.phase.specs.Stands.{walk_left, back_left, load_left}
use Rattle.phase.specs.Taking.{take_left}
use Rattle.part.specs.Outcomes.{IsDone}
use Rattle.phase.specs.Making.{make_left, waiting_of, IsPublished}
use Rattle.phase.specs.Giving.{give_left}
use Rattle.write_op.specs.declared.step.WriteEnd.TheVariants as ends
use Rattle.phase.specs.declared.note.NoteWord.{NoteWord}
use Rattle.phase.specs.declared.note.NoteWord.TheVariants.{Mark, Fingers}
use Rattle.phase.specs.Endings.{HasMadeThen}
use Rattle.write_op.specs.declared.step.WriteStep.{WriteStep}
use Rattle.write_op.specs.declared.step.WriteStep.TheVariants.{Way, Lock, Check, Fill, Count, Draw, Unnote, CountSpent, Give, Ended}
use Rattle.write_op.specs.declared.step.WriteStep.TheVariants as step

-- ---- events
-- an attempt makes at most so many: 4 on the way, 2 for each of four locks, 3 on the way again, 31 for each of four buckets, the
-- counter, 9 stores, flushes and fences, the draw, 2 stores of a note, and six locks back, of which it takes four
abbrev pub most_events : ℕ
most_events = 158

-- behind the lock of a bucket, and behind its words
abbrev pub left_behind_lock : Role → ℕ
left_behind_lock Home = 152
left_behind_lock Probing = 150
left_behind_lock First = 83
left_behind_lock place = 50

abbrev pub left_behind : Role → ℕ
left_behind Home = 116
left_behind Probing = 85
left_behind First = 52
left_behind place = 19

abbrev pub left_of_note : NoteWord → ℕ
left_of_note Mark = 8
left_of_note Fingers = 7

abbrev pub left_at : WriteStep → ℕ
left_at (Way walk) = 154 + walk_left walk
left_at (Lock place take) = left_behind_lock place + take_left take
left_at (Check back) = 147 + back_left back
left_at (Fill place load) = left_behind place + load_left load
left_at Count = 19
left_at (step.Make make) = 9 + make_left make
left_at Draw = 9
left_at (Unnote part place) = left_of_note part
left_at CountSpent = 7
left_at (Give held end) = give_left held
left_at (Ended end) = 0

-- ---- lines that are flushed and not fenced
abbrev pub waiting_at : WriteStep → ℕ
waiting_at (step.Make make) = waiting_of make
waiting_at more = 0

-- ---- the one store that makes the change was done
abbrev pub HasMadeAt : WriteStep → Type 0
HasMadeAt (step.Make make) = IsPublished make
HasMadeAt Draw = ⊤
HasMadeAt (Unnote part place) = ⊤
HasMadeAt (Give held end) = HasMadeThen end
HasMadeAt (Ended (ends.Replied answer place)) = IsDone answer
HasMadeAt more = ⊥
