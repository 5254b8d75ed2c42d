-- What an enclosing wants in each step, and what an answer makes of it; and how it ends.
use Rattle.std.specs.Prelude.{ℕ, ◌+◌, ◌==◌, ◌&&◌, nat_lt, Bool, true, false, Option, None, Some, replicate, slice_set, if◌then◌else◌}
use Rattle.hash_word.specs.Hash.{home_of}
use Rattle.bucket_meta.specs.Bucket.{lock_place, mark_place}
use Rattle.segment_head.specs.HeadWord.{version_in, depth_in}
use Rattle.image_layout.specs.Places.{buckets, last_bucket, place_in_bucket, words_of_buckets, last_of_buckets}
use Rattle.image_layout.specs.Volatile.{counter_word, free_guard}
use Rattle.sound_image.specs.Records.{key_hash}
use Rattle.way.specs.Ways.{head_word, numbered_word, is_leading}
use Rattle.whole_segment.specs.Room.{has_no_room}
use Rattle.op_core.specs.declared.want.Want.{Want}
use Rattle.op_core.specs.declared.want.Want.TheVariants as want
use Rattle.op_core.specs.declared.want.Ans.{Ans}
use Rattle.op_core.specs.declared.want.Ans.TheVariants.{Value, Won, Lost, Passed}
use Rattle.op_core.specs.declared.why.Why.TheVariants.{Busy, Moved}
use Rattle.map_model.specs.declared.entry.Reply.TheVariants.{Deep, Spent}
use Rattle.map_model.specs.declared.change.Change.{Change}
use Rattle.world.specs.declared.site.Site.{Site}
use Rattle.phase.specs.declared.take.Take.TheVariants.{Look}
use Rattle.phase.specs.declared.take.Taken.{Taken}
use Rattle.phase.specs.declared.take.Taken.TheVariants as taking
use Rattle.phase.specs.Takes.{take_wanted, take_taken}
use Rattle.enclose_op.specs.declared.enclosed.Enclosed.{Enclosed}
use Rattle.enclose_op.specs.declared.give.Give.{Give as Giving}
use Rattle.enclose_op.specs.declared.op.NotEnclosed.{NotEnclosed}
use Rattle.enclose_op.specs.declared.op.NotEnclosed.TheVariants as not_enclosed
use Rattle.enclose_op.specs.declared.op.EncloseEnd.{EncloseEnd}
use Rattle.enclose_op.specs.declared.op.EncloseEnd.TheVariants as ends
use Rattle.enclose_op.specs.declared.op.EncloseStep.{EncloseStep}
use Rattle.enclose_op.specs.declared.op.EncloseStep.TheVariants.{Guard, Lock, Head, Fill, CountSpent, CountDeep, Give, Ended, Whole}
use Rattle.enclose_op.specs.declared.op.EncloseOp.{EncloseOp}
use Rattle.enclose_op.specs.Whole.{kept_first}
use Rattle.enclose_op.specs.Giving.{guard_of, lock_of, give_from, give_wanted, given}

-- what is enclosed so far, and the next event
abbrev pub go : Enclosed → EncloseStep → EncloseOp
go e next = record { enclosed = e; step = next }

-- ---- what is held is given back
-- the guard and the locks before a bucket, and then it ends so
abbrev pub giving : ℕ → NotEnclosed → EncloseStep
giving to end = Give (give_from 0 to) end

abbrev pub given_by : Option Giving → NotEnclosed → EncloseStep
given_by (Some more) end = Give more end
given_by None end = Ended end

abbrev pub given_to : Giving → NotEnclosed → EncloseStep
given_to give end = given_by (given give) end

-- ---- a lock
abbrev pub next_lock : ℕ → EncloseStep
next_lock b = if nat_lt b last_bucket then Lock (b + 1) Look else Head

abbrev pub with_lock : Enclosed → ℕ → ℕ → Enclosed
with_lock e b free = record e { locks = slice_set e.locks b free }

abbrev pub locked_to : Enclosed → ℕ → Taken → EncloseOp
locked_to e b (taking.On take) = go e (Lock b take)
locked_to e b (taking.Held free) = go (with_lock e b free) (next_lock b)
locked_to e b (taking.Busy seen) = go e (giving b (not_enclosed.Again (Busy (lock_of e b) seen)))
locked_to e b (taking.Moved before after) = go e (giving b (not_enclosed.Again (Moved (lock_of e b) before after)))
locked_to e b taking.Spent = go e (CountSpent b)

-- ---- the header
-- it is followed where it has the image's version, is that of a normal segment, and covers the hash
abbrev pub is_followed : Enclosed → ℕ → Bool
is_followed e head = (version_in head == e.site.version) && is_leading head e.hash

abbrev pub with_head : Enclosed → ℕ → Enclosed
with_head e head = record e { head = head }

abbrev pub headed : Enclosed → ℕ → EncloseOp
headed e head = go (with_head e head) (if is_followed e head then Fill mark_place else giving buckets not_enclosed.Room)

-- ---- the words
-- the number of the word after one: lock words are left out
abbrev pub word_after : ℕ → ℕ
word_after at = if place_in_bucket (at + 1) == lock_place then at + (1 + mark_place) else at + 1

-- where there is no room, the segment is too deep to be split, or it is handed on
abbrev pub decided : Enclosed → EncloseStep
decided e = if has_no_room (kept_first e) (home_of e.hash) then (if depth_in e.head == e.site.geometry.depth then CountDeep else Whole) else giving buckets not_enclosed.Room

abbrev pub with_word : Enclosed → ℕ → ℕ → Enclosed
with_word e at seen = record e { buckets = slice_set e.buckets at seen }

abbrev pub filled_to : Enclosed → ℕ → EncloseOp
filled_to e at = go e (if nat_lt at last_of_buckets then Fill (word_after at) else decided e)

abbrev pub filled : Enclosed → ℕ → ℕ → EncloseOp
filled e at seen = filled_to (with_word e at seen) at

-- ---- the machine
module _ (e : Enclosed) where
  -- THE EVENT that it wants
  abbrev pub wanted_in : EncloseStep → Want
  wanted_in Guard = want.Exchange (guard_of e) free_guard e.site.caller
  wanted_in (Lock b take) = take_wanted (lock_of e b) take
  wanted_in Head = want.Load (head_word e.site.geometry e.segment)
  wanted_in (Fill at) = want.Load (numbered_word e.site.geometry e.segment at)
  wanted_in (CountSpent b) = want.Load (counter_word e.site.geometry)
  wanted_in CountDeep = want.Load (counter_word e.site.geometry)
  wanted_in (Give give end) = give_wanted e give
  wanted_in (Ended end) = want.Done
  wanted_in Whole = want.Done

  -- WHAT AN ANSWER makes of it; one of another kind than was asked for leaves it as it is
  abbrev pub next_in : EncloseStep → Ans → EncloseOp
  next_in Guard Won = go e (Lock 0 Look)
  next_in Guard (Lost seen) = go e (Ended (not_enclosed.Again (Busy (guard_of e) seen)))
  next_in (Lock b take) ans = locked_to e b (take_taken take ans)
  next_in Head (Value head) = headed e head
  next_in (Fill at) (Value seen) = filled e at seen
  next_in (CountSpent b) (Value place) = go e (giving b (not_enclosed.Replied Spent place))
  next_in CountDeep (Value place) = go e (giving buckets (not_enclosed.Replied Deep place))
  next_in (Give give end) Passed = go e (given_to give end)
  next_in same ans = go e same

abbrev pub wanted : EncloseOp → Want
wanted op = wanted_in op.enclosed op.step

abbrev pub taken : EncloseOp → Ans → EncloseOp
taken op ans = next_in op.enclosed op.step ans

-- one that has done nothing yet, of a change whose key has this hash
abbrev pub begun_with : Site → Change → ℕ → ℕ → EncloseOp
begun_with here change segment hash = record {
  enclosed = record {
    site = here;
    change = change;
    hash = hash;
    segment = segment;
    head = 0;
    locks = replicate buckets 0;
    buckets = replicate words_of_buckets 0;
  };
  step = Guard;
}

abbrev pub begun : Site → Change → ℕ → EncloseOp
begun here change segment = begun_with here change segment (key_hash here.geometry change.key)

-- HOW IT ENDS; one that is not at its end counts as one that was cut off
abbrev pub end_at : EncloseStep → EncloseEnd
end_at (Ended end) = ends.Back end
end_at Whole = ends.Whole
end_at more = ends.Off

-- the segment is enclosed
abbrev pub is_whole : EncloseStep → Bool
is_whole Whole = true
is_whole more = false
