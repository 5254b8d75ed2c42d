-- Each answer of the kind that was asked for leaves a change fewer events.
use Rattle.std.proofs.Common.{◌≡◌, ℕ, ◌+◌, ◌%◌, ◌^◌, ◌<◌, ◌≤◌, Option, Some, None, refl, sym, subst, arith}
use Rattle.std.specs.Prelude.{nat_le}
use Rattle.op_core.specs.declared.want.Ans.{Ans}
use Rattle.op_core.specs.declared.want.Ans.TheVariants.{Value, Drawn, Passed}
use Rattle.op_core.specs.Answers.{IsAnswer}
use Rattle.op_core.specs.declared.why.Why.TheVariants.{Busy, Moved}
use Rattle.way.specs.Ways.{entry_word, head_word}
use Rattle.map_model.specs.declared.change.Effect.{Effect}
use Rattle.map_model.specs.declared.change.Effect.TheVariants.{Insert, Update, Remove}
use Rattle.map_model.specs.declared.entry.Reply.{Reply}
use Rattle.map_model.specs.declared.entry.Reply.TheVariants as reply
use Rattle.phase.specs.declared.role.Role.{Role}
use Rattle.phase.specs.declared.role.Role.TheVariants.{Home, Probing, First, Second, Next, Previous}
use Rattle.phase.specs.declared.walk.Walk.{Walk}
use Rattle.phase.specs.declared.walk.Walk.TheVariants as walk
use Rattle.phase.specs.declared.walk.Walked.{Walked}
use Rattle.phase.specs.declared.walk.Walked.TheVariants as walked
use Rattle.phase.specs.declared.take.Take.{Take}
use Rattle.phase.specs.declared.take.Take.TheVariants.{Look, Try}
use Rattle.phase.specs.declared.take.Taken.{Taken}
use Rattle.phase.specs.declared.take.Taken.TheVariants as taking
use Rattle.phase.specs.declared.back.Backed.{Backed}
use Rattle.phase.specs.declared.back.Backed.TheVariants as backed
use Rattle.phase.specs.declared.load.Load.{Load}
use Rattle.phase.specs.declared.load.Loaded.{Loaded}
use Rattle.phase.specs.declared.load.Loaded.TheVariants as loaded
use Rattle.phase.specs.declared.make.Made.{Made}
use Rattle.phase.specs.declared.make.Made.TheVariants as made
use Rattle.phase.specs.declared.held.Held.{Held}
use Rattle.phase.specs.Helds.{give_next, given}
use Rattle.phase.specs.Walks.{walk_wanted, walk_taken}
use Rattle.phase.specs.Takes.{take_taken}
use Rattle.phase.specs.Backs.{back_word, back_taken}
use Rattle.phase.specs.Loads.{load_taken}
use Rattle.phase.specs.Makes.{make_taken}
use Rattle.phase.specs.Stands.{walked_left, backed_left, load_left, loaded_left}
use Rattle.phase.specs.Taking.{take_left, taken_left}
use Rattle.phase.specs.Making.{made_left}
use Rattle.phase.specs.Giving.{give_left}
use Rattle.phase.proofs.Walking.{walk_few, walk_falls}
use Rattle.phase.proofs.Backing.{back_few, back_falls}
use Rattle.phase.proofs.Loading.{load_falls}
use Rattle.phase.proofs.Handing.{give_few}
use Rattle.phase.proofs.Wanting.{load_answered, store_answered, make_answered, give_answered, make_bound}
use Rattle.phase.proofs.locks.Taking.{take_falls}
use Rattle.phase.proofs.locks.Making.{make_falls}
use Rattle.phase.proofs.locks.Giving.{give_falls}
use Rattle.world.specs.declared.site.Site.{Site}
use Rattle.image_layout.specs.Places.{root_word}
use Rattle.image_layout.specs.Volatile.{counter_word}
use Rattle.write_op.specs.declared.step.Task.{Task}
use Rattle.write_op.specs.declared.step.Spot.{Spot}
use Rattle.write_op.specs.declared.step.Seen.{Seen}
use Rattle.phase.specs.declared.ending.Ending.{Ending}
use Rattle.phase.specs.declared.ending.Ending.TheVariants as ending
use Rattle.write_op.specs.declared.search.NoteWords.{NoteWords}
use Rattle.phase.specs.declared.note.NoteWord.{NoteWord}
use Rattle.phase.specs.declared.note.NoteWord.TheVariants.{Mark, Fingers}
use Rattle.phase.proofs.locks.Choosing.{by_both, by_step}
use Rattle.write_op.specs.declared.step.WriteStep.{WriteStep}
use Rattle.write_op.specs.declared.step.WriteStep.TheVariants.{Way, Lock, Check, Fill, Count, Draw, Unnote, CountSpent, Give, Ended}
use Rattle.write_op.specs.declared.step.WriteStep.TheVariants as step
use Rattle.write_op.specs.declared.step.Stage.{Stage}
use Rattle.write_op.specs.declared.op.WriteOp.{WriteOp}
use Rattle.write_op.specs.Search.{found, room_in, leaves_note, unnoted, has_finger}
use Rattle.write_op.specs.Steps.{go, end_of, giving, give, answered, walked_to, locked, locked_to, lock_of, backed_to, visit_second, visit_first, with_visits, filled, filled_with, filled_to, inserting, changing, decided, counted, made_to, drawn_to, unnoted_to, note_wanted, wanted_in, next_in, wanted, taken}
use Rattle.write_op.specs.Left.{left_at, left_behind, left_behind_lock, left_of_note, most_events}

abbrev left_of : Stage → ℕ
left_of s = left_at s.step

-- ---- locks back
giving_most : (held : Held) (end : Ending) → left_at (giving held end) ≤ give_left held
giving_most held end = by_step (λ (s : WriteStep). left_at s ≤ give_left held) held (Give held end) (Ended (end_of end)) (omega arith) (omega arith)

give_most : (seen : Seen) (end : Ending) → left_of (give seen end) ≤ 6
give_most seen end = let most = giving_most seen.held end in let few = give_few seen.held in omega (arith, most, few)

answered_most : (seen : Seen) (place : ℕ) (answer : Reply) → left_of (answered seen place answer) ≤ 6
answered_most seen place answer = give_most seen (ending.Replied answer place)

-- ---- the way
walked_most : (seen : Seen) (x : Walked) → left_of (walked_to seen x) ≤ 154 + walked_left x
walked_most seen (walked.On w) = omega arith
walked_most seen (walked.There path) = omega arith
walked_most seen walked.Off = omega arith
walked_most seen (walked.Amiss word value) = omega arith
walked_most seen (walked.Stale segment version) = omega arith

-- ---- locks
locked_most : (place : Role) → left_at (locked place) ≤ left_behind_lock place
locked_most Home = omega arith
locked_most Probing = omega arith
locked_most First = omega arith
locked_most Second = omega arith
locked_most Next = omega arith
locked_most Previous = omega arith

some_left : (place : Role) → 7 ≤ left_behind_lock place
some_left Home = omega arith
some_left Probing = omega arith
some_left First = omega arith
some_left Second = omega arith
some_left Next = omega arith
some_left Previous = omega arith

taken_most : (seen : Seen) (place : Role) (lock : ℕ) (x : Taken) → left_of (locked_to seen place lock x) ≤ left_behind_lock place + taken_left x
taken_most seen place lock (taking.On take) = omega arith
taken_most seen place lock (taking.Held free) = let most = locked_most place in omega (arith, most)
taken_most seen place lock (taking.Busy value) = let few = give_most seen (ending.Again (Busy lock value)) in let some = some_left place in omega (arith, few, some)
taken_most seen place lock (taking.Moved before after) = let few = give_most seen (ending.Again (Moved lock before after)) in let some = some_left place in omega (arith, few, some)
taken_most seen place lock taking.Spent = let some = some_left place in omega (arith, some)

-- ---- the way again
backed_most : (seen : Seen) (x : Backed) → left_of (backed_to seen x) ≤ 147 + backed_left x
backed_most seen (backed.On back) = omega arith
backed_most seen backed.Same = omega arith
backed_most seen (backed.Moved word before after) = let few = give_most seen (ending.Again (Moved word before after)) in omega (arith, few)

-- ---- buckets
second_most : (seen : Seen) → left_at (visit_second seen) ≤ 52
second_most seen = by_both (λ (s : WriteStep). left_at s ≤ 52) seen.second (Lock Second Look) Count (omega arith) (omega arith)

first_most : (seen : Seen) → left_at (visit_first seen) ≤ 85
first_most seen = let rest = second_most seen in by_both (λ (s : WriteStep). left_at s ≤ 85) seen.first (Lock First Look) (visit_second seen) (omega arith) (omega (arith, rest))

filled_most : (hash : ℕ) (seen : Seen) (place : Role) → left_of (filled hash seen place) ≤ left_behind place
filled_most hash seen Home = omega arith
filled_most hash seen Probing = first_most (with_visits hash seen)
filled_most hash seen First = second_most seen
filled_most hash seen Second = omega arith
filled_most hash seen Next = omega arith
filled_most hash seen Previous = omega arith

loaded_most : (hash : ℕ) (seen : Seen) (place : Role) (x : Loaded) → left_of (filled_to hash seen place x) ≤ left_behind place + loaded_left x
loaded_most hash seen place (loaded.On load) = omega arith
loaded_most hash seen place (loaded.All words) = let most : left_of (filled_with hash seen place words) ≤ left_behind place = filled_most hash _ place in omega (arith, most)

-- ---- what is done
inserting_most : (task : Task) (seen : Seen) (count : ℕ) (there room : Option Spot) → left_of (inserting task seen count there room) ≤ 18
inserting_most task seen count (Some there) room = let few = answered_most seen count reply.Exists in omega (arith, few)
inserting_most task seen count None (Some spot) = omega arith
inserting_most task seen count None None = omega arith

changing_most : (task : Task) (seen : Seen) (count : ℕ) (there : Option Spot) → left_of (changing task seen count there) ≤ 18
changing_most task seen count (Some there) = omega arith
changing_most task seen count None = let few = answered_most seen count reply.Absent in omega (arith, few)

decided_most : (task : Task) (seen : Seen) (count : ℕ) (effect : Effect) → left_of (decided task seen count effect) ≤ 18
decided_most task seen count (Insert value) = inserting_most task seen count (found seen task.change.key) (room_in seen.buckets)
decided_most task seen count (Update value) = changing_most task seen count (found seen task.change.key)
decided_most task seen count Remove = changing_most task seen count (found seen task.change.key)

counted_most : (task : Task) (seen : Seen) (count : ℕ) → left_of (counted task seen count) ≤ 18
counted_most task seen count = by_both (λ (s : Stage). left_of s ≤ 18) (nat_le (2 ^ 63) count) (answered seen count reply.Spent) (decided task seen count task.change.effect)
    (let few = answered_most seen count reply.Spent in omega (arith, few)) (decided_most task seen count task.change.effect)

-- ---- stores, the draw, and the note
made_most : (seen : Seen) (x : Made) → left_of (made_to seen x) ≤ 9 + made_left x
made_most seen (made.On make) = omega arith
made_most seen made.Settled = omega arith

drawn_most : (task : Task) (seen : Seen) (place : ℕ) → left_of (drawn_to task seen place) ≤ 8
drawn_most task seen place = by_both (λ (s : Stage). left_of s ≤ 8) (leaves_note task.change.effect seen.place) (go seen (Unnote Mark place)) (answered seen place reply.Done)
    (omega arith) (let few = answered_most seen place reply.Done in omega (arith, few))

unnoted_most : (task : Task) (seen : Seen) (place : ℕ) → left_of (unnoted_to task seen Mark place) ≤ 7
unnoted_most task seen place = by_both (λ (s : Stage). left_of s ≤ 7) (has_finger seen (unnoted task.hash seen)) (go seen (Unnote Fingers place)) (answered seen place reply.Done)
    (omega arith) (let few = answered_most seen place reply.Done in omega (arith, few))

-- ---- each event
-- a load is answered a value
walk_answer : (here : Site) (hash : ℕ) (w : Walk) (a : Ans) → IsAnswer (walk_wanted here hash w) a → (n : ℕ) × (a ≡ Value n)
walk_answer here hash walk.Power (Value n) is = (n, refl)
walk_answer here hash walk.Power a is = absurd is
walk_answer here hash walk.Root a is = load_answered root_word a is
walk_answer here hash (walk.Entry root) a is = load_answered (entry_word here.geometry hash root) a is
walk_answer here hash (walk.Head root segment) a is = load_answered (head_word here.geometry segment) a is

note_answer : (task : Task) (seen : Seen) (part : NoteWord) (note : NoteWords) (a : Ans) → IsAnswer (note_wanted task seen part note) a → a ≡ Passed
note_answer task seen Mark note a is = store_answered (lock_of task seen note.place + 1) note.mark a is
note_answer task seen Fingers note a is = store_answered (lock_of task seen note.place + 3) note.fingers a is

module _ (task : Task) (seen : Seen) where
  -- for an answer that is known
  for_value : (s : WriteStep) → ((n : ℕ) → left_of (next_in task seen s (Value n)) < left_at s) → (a : Ans) → (n : ℕ) × (a ≡ Value n) → left_of (next_in task seen s a) < left_at s
  for_value s f a is = subst (λ b. left_of (next_in task seen s b) < left_at s) (sym is.1) (f is.0)

  for_passed : (s : WriteStep) → left_of (next_in task seen s Passed) < left_at s → (a : Ans) → a ≡ Passed → left_of (next_in task seen s a) < left_at s
  for_passed s f a is = subst (λ b. left_of (next_in task seen s b) < left_at s) (sym is) f

  note_falls : (part : NoteWord) (place : ℕ) → left_of (next_in task seen (Unnote part place) Passed) < left_at (Unnote part place)
  note_falls Mark place = let most = unnoted_most task seen place in omega (arith, most)
  note_falls Fingers place = let few = answered_most seen place reply.Done in omega (arith, few)

  falls_in : (s : WriteStep) (a : Ans) → IsAnswer (wanted_in task seen s) a → left_of (next_in task seen s a) < left_at s
  falls_in (Way w) a is = for_value (Way w)
      (λ n. let most = walked_most seen (walk_taken task.site task.hash w n) in let low = walk_falls task.site task.hash w n in omega (arith, most, low))
      a (walk_answer task.site task.hash w a is)
  falls_in (Lock place take) a is =
      let most = taken_most seen place (lock_of task seen place) (take_taken take a) in let low = take_falls (lock_of task seen place) take a is in omega (arith, most, low)
  falls_in (Check back) a is = for_value (Check back)
      (λ n. let most = backed_most seen (back_taken task.site task.hash seen.path back n) in let low = back_falls task.site task.hash seen.path back n in omega (arith, most, low))
      a (load_answered (back_word task.site task.hash seen.path back) a is)
  falls_in (Fill place load) a is = for_value (Fill place load)
      (λ n. let most = loaded_most task.hash seen place (load_taken load n) in let low = load_falls load n in omega (arith, most, low))
      a (load_answered (lock_of task seen place + load.next % 32) a is)
  falls_in Count a is = for_value Count (λ n. let most = counted_most task seen n in omega (arith, most)) a (load_answered (counter_word task.site.geometry) a is)
  falls_in (step.Make m) a is = for_passed (step.Make m)
      (let most = made_most seen (make_taken seen.written.slot m) in let low = make_falls seen.written.slot m in omega (arith, most, low))
      a (make_answered (lock_of task seen seen.place) seen.written m a is)
  falls_in Draw (Drawn n) is = let most = drawn_most task seen n in omega (arith, most)
  falls_in Draw a is = absurd is
  falls_in (Unnote part place) a is = for_passed (Unnote part place) (note_falls part place) a (note_answer task seen part (unnoted task.hash seen) a is)
  falls_in CountSpent a is = for_value CountSpent (λ n. let few = answered_most seen n reply.Spent in omega (arith, few)) a (load_answered (counter_word task.site.geometry) a is)
  falls_in (Give held end) a is = for_passed (Give held end)
      (let most = giving_most (given held) end in
      let low = give_falls task.site task.hash seen.path.segment held (λ e. absurd (subst (λ w. IsAnswer w a) e is)) in omega (arith, most, low))
      a (give_answered task.site task.hash seen.path.segment (give_next held) a is)
  falls_in (Ended end) a is = absurd is

pub change_falls : (op : WriteOp) (a : Ans) → IsAnswer (wanted op) a → left_at (taken op a).stage.step < left_at op.stage.step
change_falls op a is = falls_in op.task op.stage.seen op.stage.step a is

-- ---- and never more than so many are left
take_bound : (place : Role) (t : Take) → left_behind_lock place + take_left t ≤ 154
take_bound Home Look = omega arith
take_bound Home (Try free) = omega arith
take_bound Probing Look = omega arith
take_bound Probing (Try free) = omega arith
take_bound First Look = omega arith
take_bound First (Try free) = omega arith
take_bound Second Look = omega arith
take_bound Second (Try free) = omega arith
take_bound Next Look = omega arith
take_bound Next (Try free) = omega arith
take_bound Previous Look = omega arith
take_bound Previous (Try free) = omega arith

fill_bound : (place : Role) (load : Load) → left_behind place + load_left load ≤ 148
fill_bound Home load = omega arith
fill_bound Probing load = omega arith
fill_bound First load = omega arith
fill_bound Second load = omega arith
fill_bound Next load = omega arith
fill_bound Previous load = omega arith

note_bound : (part : NoteWord) → left_of_note part ≤ 8
note_bound Mark = omega arith
note_bound Fingers = omega arith

pub most_at : (s : WriteStep) → left_at s ≤ most_events
most_at (Way w) = let b = walk_few w in omega (arith, b)
most_at (Lock place t) = let b = take_bound place t in omega (arith, b)
most_at (Check b) = let c = back_few b in omega (arith, c)
most_at (Fill place load) = let b = fill_bound place load in omega (arith, b)
most_at Count = omega arith
most_at (step.Make m) = let b = make_bound m in omega (arith, b)
most_at Draw = omega arith
most_at (Unnote part place) = let b = note_bound part in omega (arith, b)
most_at CountSpent = omega arith
most_at (Give held end) = let few = give_few held in omega (arith, few)
most_at (Ended end) = omega arith
