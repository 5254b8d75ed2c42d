-- What a change keeps and stores are words, and the words that it asks for lie in the image or right behind it.
use Rattle.std.proofs.Common.{ℕ, ◌+◌, ◌^◌, Bool, true, false, Option, Some, None, List, slice_set}
use Rattle.std.specs.Prelude.{nat_lt, nat_le, if◌then◌else◌}
use Rattle.op_core.specs.declared.want.Ans.{Ans}
use Rattle.op_core.specs.declared.want.Ans.TheVariants.{Value, Passed, Drawn}
use Rattle.op_core.specs.Answers.{IsWord}
use Rattle.map_model.specs.declared.change.Effect.{Effect}
use Rattle.map_model.specs.declared.change.Effect.TheVariants.{Insert, Update, Remove}
use Rattle.map_model.specs.declared.entry.Reply.TheVariants as reply
use Rattle.phase.specs.declared.role.Role.{Role}
use Rattle.phase.specs.declared.role.Role.TheVariants.{Home, Probing, First, Second, Next, Previous}
use Rattle.phase.specs.declared.walk.Walked.{Walked}
use Rattle.phase.specs.declared.walk.Walked.TheVariants as walked
use Rattle.phase.specs.declared.take.Take.TheVariants.{Look}
use Rattle.phase.specs.declared.take.Taken.{Taken}
use Rattle.phase.specs.declared.take.Taken.TheVariants as taking
use Rattle.phase.specs.declared.back.Backed.{Backed}
use Rattle.phase.specs.declared.back.Backed.TheVariants as backed
use Rattle.phase.specs.declared.load.Load.{Load}
use Rattle.phase.specs.declared.load.Loaded.TheVariants as loaded
use Rattle.phase.specs.declared.make.Made.{Made}
use Rattle.phase.specs.declared.make.Made.TheVariants as made
use Rattle.phase.specs.declared.held.Held.{Held}
use Rattle.phase.specs.Helds.{given}
use Rattle.phase.specs.Walks.{walk_taken}
use Rattle.phase.specs.Takes.{take_taken}
use Rattle.phase.specs.Backs.{back_taken}
use Rattle.phase.specs.Makes.{make_taken}
use Rattle.phase.specs.Buckets.{with_words, words_in}
use Rattle.write_op.specs.declared.step.Task.{Task}
use Rattle.write_op.specs.declared.step.Spot.{Spot}
use Rattle.write_op.specs.declared.step.Seen.{Seen}
use Rattle.phase.specs.declared.ending.Ending.{Ending}
use Rattle.phase.specs.declared.note.NoteWord.{NoteWord}
use Rattle.phase.specs.declared.note.NoteWord.TheVariants.{Mark, Fingers}
use Rattle.write_op.specs.declared.step.WriteStep.{WriteStep}
use Rattle.write_op.specs.declared.step.WriteStep.TheVariants.{Way, Lock, Check, Fill, Count, Draw, Unnote, CountSpent, Give, Ended}
use Rattle.write_op.specs.declared.step.WriteStep.TheVariants as step
use Rattle.write_op.specs.declared.step.Stage.{Stage}
use Rattle.write_op.specs.Search.{found, room_in, leaves_note, unnoted, has_finger}
use Rattle.write_op.specs.Steps.{go, end_of, giving, give, answered, walked_to, locked, locked_to, lock_of, backed_to, visit_second, visit_first, with_visits, filled_with, filled_to, inserting, changing, decided, made_to, unnoted_to, next_in}
use Rattle.phase.specs.AreWords.{AreWords}
use Rattle.write_op.specs.Fits.{HasWordsAt}
use Rattle.phase.proofs.Wording.{none_words, set_words, put_words}
use Rattle.phase.proofs.locks.Choosing.{by_both, by_step}

-- ---- what is kept
abbrev Words : Stage → Type 0
Words st = ((p : Role) → AreWords (words_in st.seen.buckets p)) × HasWordsAt st.step

giving_words : (held : Held) (end : Ending) → HasWordsAt (giving held end)
giving_words held end = by_step HasWordsAt held (Give held end) (Ended (end_of end)) tt tt

module _ (task : Task) (seen : Seen) (all : (p : Role) → AreWords (words_in seen.buckets p)) where
  give_words : (end : Ending) → Words (give seen end)
  give_words end = (all, giving_words seen.held end)

  walked_words : (x : Walked) → Words (walked_to seen x)
  walked_words (walked.On w) = (all, tt)
  walked_words (walked.There path) = (all, tt)
  walked_words walked.Off = (all, tt)
  walked_words (walked.Amiss word value) = (all, tt)
  walked_words (walked.Stale segment version) = (all, tt)

  locked_words : (place : Role) → HasWordsAt (locked place)
  locked_words Home = tt
  locked_words Probing = tt
  locked_words place = none_words

  taken_words : (place : Role) (lock : ℕ) (x : Taken) → Words (locked_to seen place lock x)
  taken_words place lock (taking.On take) = (all, tt)
  taken_words place lock (taking.Held free) = (all, locked_words place)
  taken_words place lock (taking.Busy value) = give_words _
  taken_words place lock (taking.Moved before after) = give_words _
  taken_words place lock taking.Spent = (all, tt)

  backed_words : (x : Backed) → Words (backed_to seen x)
  backed_words (backed.On back) = (all, tt)
  backed_words backed.Same = (all, none_words)
  backed_words (backed.Moved word before after) = give_words _

  second_words : (s : Seen) → HasWordsAt (visit_second s)
  second_words s = by_both HasWordsAt s.second (Lock Second Look) Count tt tt

  first_words : (s : Seen) → HasWordsAt (visit_first s)
  first_words s = by_both HasWordsAt s.first (Lock First Look) (visit_second s) tt (second_words s)

  filled_words : (place : Role) (words : List ℕ) → AreWords words → Words (filled_with task.hash seen place words)
  filled_words Home words a = (put_words seen.buckets Home words a all, none_words)
  filled_words Probing words a = (put_words seen.buckets Probing words a all, first_words (with_visits task.hash (record seen { buckets = with_words Probing words seen.buckets })))
  filled_words First words a = (put_words seen.buckets First words a all, second_words (record seen { buckets = with_words First words seen.buckets }))
  filled_words Second words a = (put_words seen.buckets Second words a all, tt)
  filled_words Next words a = (put_words seen.buckets Next words a all, tt)
  filled_words Previous words a = (put_words seen.buckets Previous words a all, tt)

  load_by : (place : Role) (load : Load) (n : ℕ) → AreWords (slice_set load.words load.next n) → (b : Bool)
      → Words (filled_to task.hash seen place (if b then loaded.On (record { words = slice_set load.words load.next n; next = load.next + 1 }) else loaded.All (slice_set load.words load.next n)))
  load_by place load n a true = (all, a)
  load_by place load n a false = filled_words place (slice_set load.words load.next n) a

  inserting_words : (count : ℕ) (there room : Option Spot) → Words (inserting task seen count there room)
  inserting_words count (Some there) room = give_words _
  inserting_words count None (Some spot) = (all, tt)
  inserting_words count None None = (all, tt)

  changing_words : (count : ℕ) (there : Option Spot) → Words (changing task seen count there)
  changing_words count (Some there) = (all, tt)
  changing_words count None = give_words _

  decided_words : (count : ℕ) (d : Effect) → Words (decided task seen count d)
  decided_words count (Insert value) = inserting_words count (found seen task.change.key) (room_in seen.buckets)
  decided_words count (Update value) = changing_words count (found seen task.change.key)
  decided_words count Remove = changing_words count (found seen task.change.key)

  made_words : (x : Made) → Words (made_to seen x)
  made_words (made.On m) = (all, tt)
  made_words made.Settled = (all, tt)

  unnoted_words : (part : NoteWord) (place : ℕ) → Words (unnoted_to task seen part place)
  unnoted_words Mark place = by_both Words (has_finger seen (unnoted task.hash seen)) (go seen (Unnote Fingers place)) (answered seen place reply.Done) (all, tt) (give_words _)
  unnoted_words Fingers place = give_words _

  -- an answer that is a word leaves words
  pub words_after : (s : WriteStep) (a : Ans) → IsWord a → HasWordsAt s → Words (next_in task seen s a)
  words_after (Way w) (Value n) small has = walked_words (walk_taken task.site task.hash w n)
  words_after (Lock place take) a small has = taken_words place (lock_of task seen place) (take_taken take a)
  words_after (Check back) (Value n) small has = backed_words (back_taken task.site task.hash seen.path back n)
  words_after (Fill place load) (Value n) small has = load_by place load n (set_words load.words load.next n small has) (nat_lt load.next 31)
  words_after Count (Value n) small has = by_both Words (nat_le (2 ^ 63) n) (answered seen n reply.Spent) (decided task seen n task.change.effect) (give_words _) (decided_words n task.change.effect)
  words_after (step.Make m) Passed small has = made_words (make_taken seen.written.slot m)
  words_after Draw (Drawn n) small has = by_both Words (leaves_note task.change.effect seen.place) (go seen (Unnote Mark n)) (answered seen n reply.Done) (all, tt) (give_words _)
  words_after (Unnote part place) Passed small has = unnoted_words part place
  words_after CountSpent (Value n) small has = give_words _
  words_after (Give held end) Passed small has = (all, giving_words (given held) end)
  words_after s a small has = (all, has)
