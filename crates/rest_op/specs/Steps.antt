-- What the rest of a split wants in each step, and what an answer makes of it; and how it ends.
use Rattle.std.specs.Prelude.{ℕ, ◌+◌, ◌-◌, ◌%◌, ◌==◌, not, nat_lt, Bool, true, false, Option, None, Some, List, slice_index, if◌then◌else◌}
use Rattle.trace.specs.Events.{line_of}
use Rattle.bucket_meta.specs.Bucket.{mark_place, rest_place}
use Rattle.segment_head.specs.SplitHeads.{finished_head}
use Rattle.image_layout.specs.Places.{homes, buckets, note_words, is_mark_note, home_of_note, place_of_note}
use Rattle.way.specs.Ways.{head_word}
use Rattle.op_core.specs.declared.want.Want.{Want}
use Rattle.op_core.specs.declared.want.Want.TheVariants as want
use Rattle.op_core.specs.declared.want.Ans.{Ans}
use Rattle.op_core.specs.declared.want.Ans.TheVariants.{Passed}
use Rattle.whole_segment.specs.declared.notes.Notes.{Notes}
use Rattle.rounds.specs.declared.rounds.Rounds.{Rounds}
use Rattle.rounds.specs.Steps.{rounds_stores, rounds_wanted, event_wanted, rounds_taken}
use Rattle.rounds.specs.Steps as rounds
use Rattle.enclose_op.specs.declared.enclosed.Enclosed.{Enclosed}
use Rattle.enclose_op.specs.declared.give.Give.{Give as Giving}
use Rattle.enclose_op.specs.declared.give.Give.TheVariants.{Lock}
use Rattle.enclose_op.specs.Whole.{kept_word}
use Rattle.enclose_op.specs.Giving.{lock_of, give_wanted, given}
use Rattle.rest_op.specs.declared.op.RestEnd.{RestEnd}
use Rattle.rest_op.specs.declared.op.RestEnd.TheVariants as ends
use Rattle.rest_op.specs.declared.op.RestStep.{RestStep}
use Rattle.rest_op.specs.declared.op.RestStep.TheVariants.{Clear, Head, HeadFlush, HeadFence, Note, Open, Give, Ended}
use Rattle.rest_op.specs.declared.op.RestOp.{RestOp}
use Rattle.rounds.specs.Seeking.{seek}

-- the home of a word of the notes, for any number
abbrev pub note_home : ℕ → ℕ
note_home n = home_of_note n % homes

module _ (op : RestOp) where
  -- ---- what is cleared
  -- a bucket has records that are to be cleared
  abbrev pub is_cleared : ℕ → Bool
  is_cleared b = not (slice_index op.cleared b == kept_word op.whole b mark_place)

  abbrev pub clear_from : ℕ → ℕ
  clear_from b = seek is_cleared (buckets - b) b

  -- the store that is to come: word 1 of this bucket
  abbrev pub due : ℕ → Option (ℕ × ℕ)
  due b = if nat_lt b buckets then Some (lock_of op.whole b + mark_place, slice_index op.cleared b) else None

  -- where all are cleared, and that is settled, the header is next
  abbrev pub clearing_by : Option Want → ℕ → Rounds → RestStep
  clearing_by (Some want) b rounds = Clear b rounds
  clearing_by None b rounds = Head

  abbrev pub clearing : ℕ → Rounds → RestStep
  clearing b rounds = clearing_by (rounds_wanted rounds (due b)) b rounds

  -- after an event of the rounds
  abbrev pub next_clear : Bool → ℕ → ℕ
  next_clear true b = clear_from (b + 1)
  next_clear false b = b

  abbrev pub cleared : ℕ → Rounds → RestStep
  cleared b rounds = clearing (next_clear (rounds_stores rounds (due b)) b) (rounds_taken rounds (due b))

  -- ---- notes
  -- what it is to be, and what it was
  abbrev pub note_value : ℕ → ℕ
  note_value n = if is_mark_note n then slice_index op.notes.first (note_home n) else slice_index op.notes.third (note_home n)

  abbrev pub note_old : ℕ → ℕ
  note_old n = if is_mark_note n then slice_index op.cleared (note_home n) else kept_word op.whole (note_home n) rest_place

  abbrev pub is_noted : ℕ → Bool
  is_noted n = not (note_value n == note_old n)

  abbrev pub note_from : ℕ → ℕ
  note_from n = seek is_noted (note_words - n) n

  -- where it stands
  abbrev pub note_word : ℕ → ℕ
  note_word n = lock_of op.whole (note_home n) + place_of_note n

-- where all notes are stored, the segment is opened
abbrev pub noting : ℕ → RestStep
noting n = if nat_lt n note_words then Note n else Open

-- ---- what is held is given back
-- from the lock of a bucket on
abbrev pub locks_from : ℕ → Giving
locks_from b = Lock b buckets

abbrev pub given_by : Option Giving → RestStep
given_by (Some more) = Give more
given_by None = Ended

abbrev pub given_to : Giving → RestStep
given_to give = given_by (given give)

-- ---- the machine
module _ (op : RestOp) where
  -- THE EVENT that it wants
  abbrev pub wanted_in : RestStep → Want
  wanted_in (Clear b rounds) = event_wanted rounds (due op b)
  wanted_in Head = want.Store (head_word op.whole.site.geometry op.whole.segment) (finished_head op.whole.head)
  wanted_in HeadFlush = want.Flush (line_of (head_word op.whole.site.geometry op.whole.segment))
  wanted_in HeadFence = want.Fence
  wanted_in (Note n) = want.Store (note_word op n) (note_value op n)
  wanted_in Open = give_wanted op.whole (locks_from 0)
  wanted_in (Give give) = give_wanted op.whole give
  wanted_in Ended = want.Done

  -- WHAT AN ANSWER makes of it; one of another kind than was asked for leaves it as it is
  abbrev pub next_in : RestStep → Ans → RestStep
  next_in (Clear b rounds) Passed = cleared op b rounds
  next_in Head Passed = HeadFlush
  next_in HeadFlush Passed = HeadFence
  next_in HeadFence Passed = noting (note_from op 0)
  next_in (Note n) Passed = if nat_lt n note_words then noting (note_from op (n + 1)) else Open
  next_in Open Passed = Give (locks_from 1)
  next_in (Give give) Passed = given_to give
  next_in same ans = same

abbrev pub wanted : RestOp → Want
wanted op = wanted_in op op.step

abbrev pub at_step : RestOp → RestStep → RestOp
at_step op next = record { whole = op.whole; cleared = op.cleared; notes = op.notes; step = next }

abbrev pub taken : RestOp → Ans → RestOp
taken op ans = at_step op (next_in op op.step ans)

-- ---- where it begins: at the first bucket that has records to be cleared
abbrev pub begun_in : RestOp → RestStep
begun_in op = clearing op (clear_from op 0) rounds.begun

abbrev pub idle : Enclosed → List ℕ → Notes → RestOp
idle whole cleared notes = record { whole = whole; cleared = cleared; notes = notes; step = Ended }

abbrev pub begun : Enclosed → List ℕ → Notes → RestOp
begun whole cleared notes = at_step (idle whole cleared notes) (begun_in (idle whole cleared notes))

-- HOW IT ENDS; one that is not at its end counts as one that was cut off
abbrev pub end_at : RestStep → RestEnd
end_at Ended = ends.Split
end_at more = ends.Off

abbrev pub end_of : RestOp → RestEnd
end_of op = end_at op.step
