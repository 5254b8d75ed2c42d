-- What a change wants in each step, and what an answer makes of it.
use Rattle.std.specs.Prelude.{ℕ, ◌+◌, nat_le, ⊤, Bool, true, false, Option, None, Some, is_none, List, if◌then◌else◌}
use Rattle.bucket_meta.specs.Bucket.{mark_place, rest_place}
use Rattle.image_layout.specs.Volatile.{counter_word}
use Rattle.sound_image.specs.Records.{key_hash}
use Rattle.op_core.specs.declared.want.Want.{Want}
use Rattle.op_core.specs.declared.want.Want.TheVariants as want
use Rattle.op_core.specs.declared.want.Ans.{Ans}
use Rattle.op_core.specs.declared.want.Ans.TheVariants.{Value, Passed, Drawn}
use Rattle.op_core.specs.declared.why.Why.TheVariants.{Busy, Moved}
use Rattle.map_model.specs.declared.change.Effect.{Effect}
use Rattle.map_model.specs.declared.change.Effect.TheVariants.{Insert, Update, Remove}
use Rattle.map_model.specs.declared.change.Change.{Change}
use Rattle.map_model.specs.declared.entry.Reply.{Reply}
use Rattle.map_model.specs.declared.entry.Reply.TheVariants as reply
use Rattle.map_model.specs.Weave.{spent_count}
use Rattle.world.specs.declared.site.Site.{Site}
use Rattle.phase.specs.declared.role.Role.{Role}
use Rattle.phase.specs.declared.role.Role.TheVariants.{Home, Probing, First, Second}
use Rattle.phase.specs.declared.walk.Path.{Path}
use Rattle.phase.specs.declared.walk.Walk.TheVariants.{Power}
use Rattle.phase.specs.declared.walk.Walked.{Walked}
use Rattle.phase.specs.declared.walk.Walked.TheVariants as walked
use Rattle.phase.specs.declared.take.Take.TheVariants.{Look}
use Rattle.phase.specs.declared.take.Taken.{Taken}
use Rattle.phase.specs.declared.take.Taken.TheVariants as taking
use Rattle.phase.specs.declared.back.Back.TheVariants.{Root}
use Rattle.phase.specs.declared.back.Backed.{Backed}
use Rattle.phase.specs.declared.back.Backed.TheVariants as backed
use Rattle.phase.specs.declared.load.Loaded.{Loaded}
use Rattle.phase.specs.declared.load.Loaded.TheVariants as loaded
use Rattle.phase.specs.declared.make.Make.{Make}
use Rattle.phase.specs.declared.make.Make.TheVariants.{Key, Publish}
use Rattle.phase.specs.declared.make.Made.{Made}
use Rattle.phase.specs.declared.make.Made.TheVariants as made
use Rattle.phase.specs.declared.held.Held.{Held}
use Rattle.phase.specs.declared.kept.Kept.{Kept}
use Rattle.phase.specs.Places.{stash_index, lock_word}
use Rattle.phase.specs.Walks.{walk_wanted, walk_taken}
use Rattle.phase.specs.Takes.{take_wanted, take_taken}
use Rattle.phase.specs.Backs.{back_word, back_taken}
use Rattle.phase.specs.Loads.{load_begun, load_taken}
use Rattle.phase.specs.Makes.{make_wanted, make_taken}
use Rattle.phase.specs.Helds.{none_held, with_held, give_next, give_wanted, given, give_step}
use Rattle.phase.specs.Buckets.{no_words, with_words}
use Rattle.write_op.specs.declared.search.NoteWords.{NoteWords}
use Rattle.write_op.specs.declared.step.Task.{Task}
use Rattle.write_op.specs.declared.step.WriteEnd.{WriteEnd}
use Rattle.write_op.specs.declared.step.WriteEnd.TheVariants as ends
use Rattle.phase.specs.declared.ending.Ending.{Ending}
use Rattle.phase.specs.declared.ending.Ending.TheVariants as ending
use Rattle.write_op.specs.declared.step.Spot.{Spot}
use Rattle.write_op.specs.declared.step.Seen.{Seen}
use Rattle.phase.specs.declared.note.NoteWord.{NoteWord}
use Rattle.phase.specs.declared.note.NoteWord.TheVariants.{Mark, Fingers}
use Rattle.write_op.specs.declared.step.WriteStep.{WriteStep}
use Rattle.write_op.specs.declared.step.WriteStep.TheVariants.{Way, Lock, Check, Fill, Count, Draw, Unnote, CountSpent, Give, Ended}
use Rattle.write_op.specs.declared.step.WriteStep.TheVariants as step
use Rattle.write_op.specs.declared.step.Stage.{Stage}
use Rattle.write_op.specs.declared.op.WriteOp.{WriteOp}
use Rattle.write_op.specs.Search.{found, room_in, visits, record_at, leaves_note, unnoted, has_finger}
use Rattle.image_layout.specs.Places.{place_in_bucket}

-- ---- ends
-- what was seen, and the next step
abbrev pub go : Seen → WriteStep → Stage
go seen next = record { seen = seen; step = next }

abbrev pub end_of : Ending → WriteEnd
end_of (ending.Replied answer place) = ends.Replied answer place
end_of (ending.Again why) = ends.Again why

-- the locks that are held are given back, one after another, and then it ends so
abbrev pub giving : Held → Ending → WriteStep
giving held end = give_step held (Give held end) (Ended (end_of end))

abbrev pub give : Seen → Ending → Stage
give seen end = go seen (giving seen.held end)

abbrev pub answered : Seen → ℕ → Reply → Stage
answered seen place answer = give seen (ending.Replied answer place)

-- ---- the way
-- a value of which nothing can be made stands for both looks at its word
abbrev pub amiss : ℕ → ℕ → WriteStep
amiss word value = Ended (ends.Again (Moved word value value))

-- a segment is locked whether or not its header leads to the hash, which is asked under the locks
abbrev pub arrived : Seen → Path → Stage
arrived seen path = go (record seen { path = path }) (Lock Home Look)

abbrev pub walked_to : Seen → Walked → Stage
walked_to seen (walked.On walk) = go seen (Way walk)
walked_to seen (walked.There path) = arrived seen path
walked_to seen walked.Off = go seen (Ended ends.Off)
walked_to seen (walked.Amiss word value) = go seen (amiss word value)
walked_to seen (walked.Stale segment version) = go seen (Ended (ends.Stale segment version))

-- ---- locks
abbrev pub locked : Role → WriteStep
locked Home = Lock Probing Look
locked Probing = Check Root
locked place = Fill place load_begun

abbrev pub locked_to : Seen → Role → ℕ → Taken → Stage
locked_to seen place lock (taking.On take) = go seen (Lock place take)
locked_to seen place lock (taking.Held free) = go (record seen { held = with_held place free seen.held }) (locked place)
locked_to seen place lock (taking.Busy value) = give seen (ending.Again (Busy lock value))
locked_to seen place lock (taking.Moved before after) = give seen (ending.Again (Moved lock before after))
locked_to seen place lock taking.Spent = go seen CountSpent

-- ---- the way again
abbrev pub backed_to : Seen → Backed → Stage
backed_to seen (backed.On back) = go seen (Check back)
backed_to seen backed.Same = go seen (Fill Home load_begun)
backed_to seen (backed.Moved word before after) = give seen (ending.Again (Moved word before after))

-- ---- buckets
abbrev pub visit_second : Seen → WriteStep
visit_second seen = if seen.second then Lock Second Look else Count

abbrev pub visit_first : Seen → WriteStep
visit_first seen = if seen.first then Lock First Look else visit_second seen

abbrev pub with_visits : ℕ → Seen → Seen
with_visits hash seen = record seen { first = visits hash seen.buckets (stash_index First); second = visits hash seen.buckets (stash_index Second) }

-- behind the last word of a bucket, whose words were put in
abbrev pub filled : ℕ → Seen → Role → Stage
filled hash seen Home = go seen (Fill Probing load_begun)
filled hash seen Probing = go (with_visits hash seen) (visit_first (with_visits hash seen))
filled hash seen First = go seen (visit_second seen)
filled hash seen place = go seen Count

abbrev pub filled_with : ℕ → Seen → Role → List ℕ → Stage
filled_with hash seen place words = filled hash (record seen { buckets = with_words place words seen.buckets }) place

abbrev pub filled_to : ℕ → Seen → Role → Loaded → Stage
filled_to hash seen place (loaded.On load) = go seen (Fill place load)
filled_to hash seen place (loaded.All words) = filled_with hash seen place words

-- ---- what is done, by where the key stands and where a slot is free, after so many changes
-- the record in this spot is stored, from this point on
abbrev pub making : Task → Seen → Spot → Make → Stage
making task seen spot make = go (record seen { place = spot.place; written = record_at task seen.buckets spot }) (step.Make make)

abbrev pub inserting : Task → Seen → ℕ → Option Spot → Option Spot → Stage
inserting task seen count (Some there) room = answered seen count reply.Exists
inserting task seen count None (Some spot) = making task seen spot Key
inserting task seen count None None = go seen (Ended ends.NoSlot)

abbrev pub changing : Task → Seen → ℕ → Option Spot → Stage
changing task seen count (Some there) = making task seen there Publish
changing task seen count None = answered seen count reply.Absent

abbrev pub decided : Task → Seen → ℕ → Effect → Stage
decided task seen count (Insert value) = inserting task seen count (found seen task.change.key) (room_in seen.buckets)
decided task seen count (Update value) = changing task seen count (found seen task.change.key)
decided task seen count Remove = changing task seen count (found seen task.change.key)

-- who finds the commit counter at 2^63 or above is answered as spent, and draws nothing
abbrev pub counted : Task → Seen → ℕ → Stage
counted task seen count = if nat_le spent_count count then answered seen count reply.Spent else decided task seen count task.change.effect

-- ---- stores, the draw, and the note
abbrev pub made_to : Seen → Made → Stage
made_to seen (made.On make) = go seen (step.Make make)
made_to seen made.Settled = go seen Draw

abbrev pub drawn_to : Task → Seen → ℕ → Stage
drawn_to task seen place = if leaves_note task.change.effect seen.place then go seen (Unnote Mark place) else answered seen place reply.Done

abbrev pub unnoted_to : Task → Seen → NoteWord → ℕ → Stage
unnoted_to task seen Mark place = if has_finger seen (unnoted task.hash seen) then go seen (Unnote Fingers place) else answered seen place reply.Done
unnoted_to task seen Fingers place = answered seen place reply.Done

-- ---- the machine
module _ (task : Task) (seen : Seen) where
  abbrev pub lock_of : Role → ℕ
  lock_of place = lock_word task.site task.hash seen.path.segment place

  abbrev pub note_wanted : NoteWord → NoteWords → Want
  note_wanted Mark note = want.Store (lock_of note.place + mark_place) note.mark
  note_wanted Fingers note = want.Store (lock_of note.place + rest_place) note.fingers

  -- THE EVENT that it wants
  abbrev pub wanted_in : WriteStep → Want
  wanted_in (Way walk) = walk_wanted task.site task.hash walk
  wanted_in (Lock place take) = take_wanted (lock_of place) take
  wanted_in (Check back) = want.Load (back_word task.site task.hash seen.path back)
  wanted_in (Fill place load) = want.Load (lock_of place + place_in_bucket load.next)
  wanted_in Count = want.Load (counter_word task.site.geometry)
  wanted_in (step.Make make) = make_wanted (lock_of seen.place) seen.written make
  wanted_in Draw = want.Draw
  wanted_in (Unnote part place) = note_wanted part (unnoted task.hash seen)
  wanted_in CountSpent = want.Load (counter_word task.site.geometry)
  wanted_in (Give held end) = give_wanted task.site task.hash seen.path.segment held
  wanted_in (Ended end) = want.Done

  -- WHAT AN ANSWER makes of it; one of another kind than was asked for leaves it as it is
  abbrev pub next_in : WriteStep → Ans → Stage
  next_in (Way walk) (Value n) = walked_to seen (walk_taken task.site task.hash walk n)
  next_in (Lock place take) ans = locked_to seen place (lock_of place) (take_taken take ans)
  next_in (Check back) (Value n) = backed_to seen (back_taken task.site task.hash seen.path back n)
  next_in (Fill place load) (Value n) = filled_to task.hash seen place (load_taken load n)
  next_in Count (Value n) = counted task seen n
  next_in (step.Make make) Passed = made_to seen (make_taken seen.written.slot make)
  next_in Draw (Drawn n) = drawn_to task seen n
  next_in (Unnote part place) Passed = unnoted_to task seen part place
  next_in CountSpent (Value n) = answered seen n reply.Spent
  next_in (Give held end) Passed = go seen (giving (given held) end)
  next_in same ans = go seen same

-- any step but the load of a bucket's words
abbrev pub IsElsewhere : WriteStep → Type 0
IsElsewhere (Fill place load) = ⊥
IsElsewhere more = ⊤

-- nothing was seen yet
abbrev pub nothing : Seen
nothing = record {
  path = record { root = 0; segment = 0; head = 0 };
  first = false;
  second = false;
  held = none_held;
  buckets = no_words;
  place = Home;
  written = record { slot = 0; key = 0; value = 0; fingers = 0; published = mark_place; mark = 0 };
}

abbrev pub begun : Change → Site → WriteOp
begun change site = record {
  task = record { site = site; change = change; hash = key_hash site.geometry change.key };
  stage = go nothing (Way Power);
}

abbrev pub wanted : WriteOp → Want
wanted op = wanted_in op.task op.stage.seen op.stage.step

abbrev pub taken : WriteOp → Ans → WriteOp
taken op ans = record { task = op.task; stage = next_in op.task op.stage.seen op.stage.step ans }

-- how it ended, or will once its locks are given back; before that it counts as one with the power off
abbrev pub end_at : WriteStep → WriteEnd
end_at (Ended end) = end
end_at (Give held end) = end_of end
end_at more = ends.Off

-- nothing more is to be done
abbrev pub is_over : WriteStep → Bool
is_over (Ended end) = true
is_over (Give held end) = is_none (give_next held)
is_over more = false

abbrev pub is_without_slot : WriteStep → Bool
is_without_slot (Ended ends.NoSlot) = true
is_without_slot more = false

-- what it hands on then
abbrev pub kept_in : Task → Seen → Kept
kept_in task seen = record { site = task.site; change = task.change; hash = task.hash; segment = seen.path.segment; head = seen.path.head; held = seen.held; buckets = seen.buckets }

abbrev pub kept_of : WriteOp → Kept
kept_of op = kept_in op.task op.stage.seen
