-- What a split wants in each step, and what an answer makes of it.
use Rattle.std.specs.Prelude.{ℕ, ◌+◌, ◌-◌, ◌%◌, nat_lt, ◌==◌, false, min, Option, None, Some, List, replicate, slice_set, if◌then◌else◌}
use Rattle.segment_head.specs.HeadWord.{state_in, free}
use Rattle.image_layout.specs.Places.{Shape, header_number, link_number, buckets, last_bucket, most_segments, header_words, bucket_place}
use Rattle.image_layout.specs.Volatile.{counter_word, allocation_guard, free_guard}
use Rattle.op_core.specs.declared.want.Want.{Want}
use Rattle.op_core.specs.declared.want.Want.TheVariants as want
use Rattle.op_core.specs.declared.want.Ans.{Ans}
use Rattle.op_core.specs.declared.want.Ans.TheVariants.{Value, Won, Lost, Passed}
use Rattle.op_core.specs.declared.why.Why.TheVariants.{Busy}
use Rattle.rounds.specs.declared.rounds.Rounds.{Rounds}
use Rattle.rounds.specs.Steps.{rounds_stores, rounds_wanted, event_wanted, rounds_taken}
use Rattle.rounds.specs.Steps as round
use Rattle.enclose_op.specs.declared.enclosed.Enclosed.{Enclosed}
use Rattle.enclose_op.specs.declared.give.Give.{Give}
use Rattle.enclose_op.specs.Giving.{give_from, give_wanted, given}
use Rattle.split_op.specs.declared.batch.Batch.{Batch}
use Rattle.split_op.specs.declared.batch.Batch.TheVariants.{Empty, Link, Mark, New, Copy}
use Rattle.split_op.specs.declared.step.SplitEnd.{SplitEnd}
use Rattle.split_op.specs.declared.step.SplitEnd.TheVariants as ends
use Rattle.split_op.specs.declared.step.SplitStep.{SplitStep}
use Rattle.split_op.specs.declared.step.SplitStep.TheVariants.{Take, Search, Count, Return, Look, Put, Release, Back, Ended}
use Rattle.split_op.specs.declared.op.SplitOp.{SplitOp}
use Rattle.split_op.specs.Sides.{side_words}
use Rattle.way.specs.Ways.{slot_word}
use Rattle.split_op.specs.Batches.{copied_from, due, after}

-- the same, at another step
abbrev pub go : SplitOp → SplitStep → SplitOp
go op step = record op { step = step }

-- the last slot in which a free one is looked for
abbrev pub last_slot : Shape → ℕ
last_slot shape = min shape.segments most_segments - 1

-- ---- what comes
-- what is held of the segment is given back, and then it ends so
abbrev pub back : SplitEnd → SplitStep
back end = Back (give_from 0 buckets) end

abbrev pub given_to : Option Give → SplitEnd → SplitStep
given_to (Some give) end = Back give end
given_to None end = Ended end

-- behind the load of the header of a slot: it is free, or the next one is looked at, or none is
abbrev pub searched : SplitOp → ℕ → ℕ → SplitOp
searched op slot head =
    if state_in head == free then record op { copied = record op.copied { side = slot }; step = Look 0 }
    else if nat_lt slot (last_slot op.copied.whole.site.geometry) then go op (Search (slot + 1)) else go op Count

-- behind that of a lock word of the slot
abbrev pub looked : SplitOp → ℕ → ℕ → SplitOp
looked op bucket lock =
    record op { locks = slice_set op.locks (bucket % buckets) lock; step = if nat_lt bucket last_bucket then Look (bucket + 1) else Put (Empty link_number) round.begun }

-- once all of a batch is stored and settled
abbrev pub finished : Batch → SplitStep
finished (Empty number) = Put (Link false) round.begun
finished (Link stored) = Put (Mark false) round.begun
finished (Mark stored) = Put (New false) round.begun
finished (New stored) = Release
finished (Copy number) = Ended ends.Copied

abbrev pub put_by : Option Want → Batch → Rounds → SplitStep
put_by (Some wanted) batch rounds = Put batch rounds
put_by None batch rounds = finished batch

-- a batch in rounds, until all of it is stored and settled
abbrev pub put_to : SplitOp → Batch → Rounds → SplitStep
put_to op batch rounds = put_by (rounds_wanted rounds (due op.copied op.locks batch)) batch rounds

-- behind an event of the rounds
abbrev pub batch_after : SplitOp → Batch → Rounds → Batch
batch_after op batch rounds = if rounds_stores rounds (due op.copied op.locks batch) then after op.copied op.locks batch else batch

abbrev pub stored : SplitOp → Batch → Rounds → SplitStep
stored op batch rounds = put_to op (batch_after op batch rounds) (rounds_taken rounds (due op.copied op.locks batch))

-- the copies begin
abbrev pub copying : SplitOp → SplitStep
copying op = put_to op (Copy (copied_from op.copied.words header_words)) round.begun

-- ---- the machine
-- THE EVENT that it wants
abbrev pub wanted_in : SplitOp → SplitStep → Want
wanted_in op Take = want.Exchange (allocation_guard op.copied.whole.site.geometry) free_guard op.copied.whole.site.caller
wanted_in op (Search slot) = want.Load (slot_word op.copied.whole.site.geometry slot header_number)
wanted_in op Count = want.Load (counter_word op.copied.whole.site.geometry)
wanted_in op (Return count) = want.Store (allocation_guard op.copied.whole.site.geometry) free_guard
wanted_in op (Look bucket) = want.Load (slot_word op.copied.whole.site.geometry op.copied.side (bucket_place (bucket % buckets)))
wanted_in op (Put batch rounds) = event_wanted rounds (due op.copied op.locks batch)
wanted_in op Release = want.Store (allocation_guard op.copied.whole.site.geometry) free_guard
wanted_in op (Back give end) = give_wanted op.copied.whole give
wanted_in op (Ended end) = want.Done

-- WHAT AN ANSWER makes of it; one of another kind than was asked for leaves it as it is
abbrev pub next_in : SplitOp → SplitStep → Ans → SplitOp
next_in op Take Won = go op (Search 0)
next_in op Take (Lost seen) = go op (back (ends.Again (Busy (allocation_guard op.copied.whole.site.geometry) seen)))
next_in op (Search slot) (Value head) = searched op slot head
next_in op Count (Value count) = go op (Return count)
next_in op (Return count) Passed = go op (back (ends.Full count))
next_in op (Look bucket) (Value lock) = looked op bucket lock
next_in op (Put batch rounds) Passed = go op (stored op batch rounds)
next_in op Release Passed = go op (copying op)
next_in op (Back give end) Passed = go op (given_to (given give) end)
next_in op same ans = go op same

abbrev pub wanted : SplitOp → Want
wanted op = wanted_in op op.step

abbrev pub taken : SplitOp → Ans → SplitOp
taken op ans = next_in op op.step ans

-- one that goes on from an enclosed segment, with these words of the side
abbrev pub begun : Enclosed → List ℕ → SplitOp
begun e words = record { copied = record { whole = e; side = 0; words = words }; locks = replicate buckets 0; step = Take }

-- THE SPLIT of an enclosed segment, with the words that are made of its records
abbrev pub split_of : Enclosed → SplitOp
split_of e = begun e (side_words e)

-- ---- how it ended, once it has
abbrev pub end_at : SplitStep → Option SplitEnd
end_at (Ended end) = Some end
end_at more = None

abbrev pub end_of : SplitOp → Option SplitEnd
end_of op = end_at op.step
