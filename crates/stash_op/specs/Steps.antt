-- What is wanted in each step, and what an answer makes of it.
use Rattle.std.specs.Prelude.{ℕ, ◌+◌, ⊤, Bool, true, false, Option, None, Some, is_none, List, if◌then◌else◌}
use Rattle.bucket_meta.specs.Bucket.{mark_place, rest_place}
use Rattle.image_layout.specs.Volatile.{counter_word}
use Rattle.op_core.specs.declared.want.Want.{Want}
use Rattle.op_core.specs.declared.want.Want.TheVariants as want
use Rattle.op_core.specs.declared.want.Ans.{Ans}
use Rattle.op_core.specs.declared.want.Ans.TheVariants.{Value, Passed, Drawn}
use Rattle.op_core.specs.declared.why.Why.TheVariants.{Busy, Moved}
use Rattle.map_model.specs.declared.entry.Reply.{Reply}
use Rattle.map_model.specs.declared.entry.Reply.TheVariants as reply
use Rattle.phase.specs.declared.role.Role.{Role}
use Rattle.phase.specs.declared.take.Take.TheVariants.{Look}
use Rattle.phase.specs.declared.take.Taken.{Taken}
use Rattle.phase.specs.declared.take.Taken.TheVariants as taking
use Rattle.phase.specs.declared.load.Loaded.{Loaded}
use Rattle.phase.specs.declared.load.Loaded.TheVariants as loaded
use Rattle.phase.specs.declared.make.Make.TheVariants.{Key}
use Rattle.phase.specs.declared.make.Made.{Made}
use Rattle.phase.specs.declared.make.Made.TheVariants as made
use Rattle.phase.specs.declared.held.Held.{Held}
use Rattle.phase.specs.declared.kept.Kept.{Kept}
use Rattle.phase.specs.Places.{lock_word}
use Rattle.phase.specs.Takes.{take_wanted, take_taken}
use Rattle.phase.specs.Loads.{load_begun, load_taken}
use Rattle.phase.specs.Makes.{make_wanted, make_taken}
use Rattle.phase.specs.Helds.{with_held, give_next, give_wanted, given, give_step}
use Rattle.phase.specs.Buckets.{with_words}
use Rattle.stash_op.specs.declared.step.StashBucket.{StashBucket}
use Rattle.stash_op.specs.declared.step.StashBucket.TheVariants.{First, Second}
use Rattle.stash_op.specs.declared.step.NoteWords.{NoteWords}
use Rattle.phase.specs.declared.note.NoteWord.{NoteWord}
use Rattle.phase.specs.declared.note.NoteWord.TheVariants.{Mark, Fingers}
use Rattle.stash_op.specs.declared.step.StashEnd.{StashEnd}
use Rattle.stash_op.specs.declared.step.StashEnd.TheVariants as ends
use Rattle.phase.specs.declared.ending.Ending.{Ending}
use Rattle.phase.specs.declared.ending.Ending.TheVariants as ending
use Rattle.stash_op.specs.declared.step.Seen.{Seen}
use Rattle.stash_op.specs.declared.step.StashStep.{StashStep}
use Rattle.stash_op.specs.declared.step.StashStep.TheVariants.{Lock, Fill, Note, Draw, CountSpent, Give, Ended}
use Rattle.stash_op.specs.declared.step.StashStep.TheVariants as step
use Rattle.stash_op.specs.declared.step.Stage.{Stage}
use Rattle.stash_op.specs.declared.op.StashOp.{StashOp}
use Rattle.stash_op.specs.Search.{place_of, note_place, free_slot, record_in, noted, has_finger}
use Rattle.image_layout.specs.Places.{place_in_bucket}

-- ---- ends
-- what was seen, and the next step
abbrev pub go : Seen → StashStep → Stage
go seen next = record { seen = seen; step = next }

abbrev pub end_of : Ending → StashEnd
end_of (ending.Replied answer place) = ends.Replied answer place
end_of (ending.Again why) = ends.Again why

-- the locks that are held are given back, one after another, and then it ends so
abbrev pub giving : Held → Ending → StashStep
giving held end = give_step held (Give held end) (Ended (end_of end))

abbrev pub give : Seen → Ending → Stage
give seen end = go seen (giving seen.held end)

abbrev pub answered : Seen → ℕ → Reply → Stage
answered seen place answer = give seen (ending.Replied answer place)

-- ---- a free slot: the record comes to the first one, of the first stash bucket that has one
abbrev pub putting : Kept → Seen → StashBucket → ℕ → Stage
putting kept seen bucket slot = go (record seen { bucket = bucket; written = record_in kept seen.buckets bucket slot }) (step.Make Key)

-- where the second one has none either, both are full
abbrev pub in_second : Kept → Seen → Option ℕ → Stage
in_second kept seen (Some slot) = putting kept seen Second slot
in_second kept seen None = go seen (Ended (ends.NeedSplit kept.segment))

-- the lock of each is taken first, where it is not held
abbrev pub at_second : Kept → Seen → Option ℕ → Stage
at_second kept seen (Some free) = in_second kept seen (free_slot seen.buckets Second)
at_second kept seen None = go seen (Lock Second Look)

abbrev pub in_first : Kept → Seen → Option ℕ → Stage
in_first kept seen (Some slot) = putting kept seen First slot
in_first kept seen None = at_second kept seen seen.held.second

abbrev pub at_first : Kept → Seen → Option ℕ → Stage
at_first kept seen (Some free) = in_first kept seen (free_slot seen.buckets First)
at_first kept seen None = go seen (Lock First Look)

-- behind the last word of a stash bucket, whose words were put in
abbrev pub searched : Kept → Seen → StashBucket → Stage
searched kept seen First = in_first kept seen (free_slot seen.buckets First)
searched kept seen Second = in_second kept seen (free_slot seen.buckets Second)

abbrev pub put_in : Seen → StashBucket → List ℕ → Seen
put_in seen bucket words = record seen { buckets = with_words (place_of bucket) words seen.buckets }

abbrev pub filled_with : Kept → Seen → StashBucket → List ℕ → Stage
filled_with kept seen bucket words = searched kept (put_in seen bucket words) bucket

abbrev pub filled_to : Kept → Seen → StashBucket → Loaded → Stage
filled_to kept seen bucket (loaded.On load) = go seen (Fill bucket load)
filled_to kept seen bucket (loaded.All words) = filled_with kept seen bucket words

-- ---- locks
abbrev pub with_lock : Seen → StashBucket → ℕ → Seen
with_lock seen bucket free = record seen { held = with_held (place_of bucket) free seen.held }

abbrev pub locked_to : Seen → StashBucket → ℕ → Taken → Stage
locked_to seen bucket lock (taking.On take) = go seen (Lock bucket take)
locked_to seen bucket lock (taking.Held free) = go (with_lock seen bucket free) (Fill bucket load_begun)
locked_to seen bucket lock (taking.Busy value) = give seen (ending.Again (Busy lock value))
locked_to seen bucket lock (taking.Moved before after) = give seen (ending.Again (Moved lock before after))
locked_to seen bucket lock taking.Spent = go seen CountSpent

-- ---- stores, the note, and the draw
abbrev pub made_to : Seen → Made → Stage
made_to seen (made.On make) = go seen (step.Make make)
made_to seen made.Settled = go seen (Note Mark)

abbrev pub noted_to : ℕ → Seen → NoteWord → Stage
noted_to hash seen Mark = if has_finger seen (noted hash seen) then go seen (Note Fingers) else go seen Draw
noted_to hash seen Fingers = go seen Draw

-- ---- the machine
module _ (kept : Kept) where
  abbrev pub lock_of : Role → ℕ
  lock_of place = lock_word kept.site kept.hash kept.segment place

  abbrev pub note_wanted : NoteWord → NoteWords → Want
  note_wanted Mark note = want.Store (lock_of (note_place note.bucket) + mark_place) note.mark
  note_wanted Fingers note = want.Store (lock_of (note_place note.bucket) + rest_place) note.fingers

  module _ (seen : Seen) where
    -- THE EVENT that is wanted
    abbrev pub wanted_in : StashStep → Want
    wanted_in (Lock bucket take) = take_wanted (lock_of (place_of bucket)) take
    wanted_in (Fill bucket load) = want.Load (lock_of (place_of bucket) + place_in_bucket load.next)
    wanted_in (step.Make make) = make_wanted (lock_of (place_of seen.bucket)) seen.written make
    wanted_in (Note part) = note_wanted part (noted kept.hash seen)
    wanted_in Draw = want.Draw
    wanted_in CountSpent = want.Load (counter_word kept.site.geometry)
    wanted_in (Give held end) = give_wanted kept.site kept.hash kept.segment held
    wanted_in (Ended end) = want.Done

    -- WHAT AN ANSWER makes of it; one of another kind than was asked for leaves it as it is
    abbrev pub next_in : StashStep → Ans → Stage
    next_in (Lock bucket take) ans = locked_to seen bucket (lock_of (place_of bucket)) (take_taken take ans)
    next_in (Fill bucket load) (Value n) = filled_to kept seen bucket (load_taken load n)
    next_in (step.Make make) Passed = made_to seen (make_taken seen.written.slot make)
    next_in (Note part) Passed = noted_to kept.hash seen part
    next_in Draw (Drawn n) = answered seen n reply.Done
    next_in CountSpent (Value n) = answered seen n reply.Spent
    next_in (Give held end) Passed = go seen (giving (given held) end)
    next_in same ans = go seen same

-- any step but the load of a bucket's words
abbrev pub IsElsewhere : StashStep → Type 0
IsElsewhere (Fill bucket load) = ⊥
IsElsewhere more = ⊤

-- what was seen when it begins: what was kept
abbrev pub nothing : Kept → Seen
nothing kept = record {
  held = kept.held;
  buckets = kept.buckets;
  bucket = First;
  written = record { slot = 0; key = 0; value = 0; fingers = 0; published = mark_place; mark = 0 };
}

abbrev pub begun : Kept → StashOp
begun kept = record { kept = kept; stage = at_first kept (nothing kept) kept.held.first }

abbrev pub wanted : StashOp → Want
wanted op = wanted_in op.kept op.stage.seen op.stage.step

abbrev pub taken : StashOp → Ans → StashOp
taken op ans = record { kept = op.kept; stage = next_in op.kept op.stage.seen op.stage.step ans }

-- how it ended, or will once its locks are given back; before that it counts as one with the power off
abbrev pub end_at : StashStep → StashEnd
end_at (Ended end) = end
end_at (Give held end) = end_of end
end_at more = ends.Off

-- nothing more is to be done
abbrev pub is_over : StashStep → Bool
is_over (Ended end) = true
is_over (Give held end) = is_none (give_next held)
is_over more = false

abbrev pub needs_split : StashStep → Bool
needs_split (Ended (ends.NeedSplit segment)) = true
needs_split more = false

-- what it hands on then
abbrev pub kept_in : Kept → Seen → Kept
kept_in kept seen = record kept { held = seen.held; buckets = seen.buckets }

abbrev pub kept_of : StashOp → Kept
kept_of op = kept_in op.kept op.stage.seen
