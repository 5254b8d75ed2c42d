-- What a mending wants in each step, and what an answer makes of it; and how it ends.
use Rattle.std.specs.Prelude.{ℕ, ◌+◌, ◌-◌, ◌==◌, not, nat_lt, Bool, true, false, Option, None, Some, replicate, slice_index, slice_set, if◌then◌else◌}
use Rattle.trace.specs.Events.{line_of}
use Rattle.segment_head.specs.SplitHeads.{finished_head}
use Rattle.image_layout.specs.Places.{note_words, words_of_buckets, last_of_buckets}
use Rattle.image_layout.specs.Volatile.{free_guard}
use Rattle.way.specs.Ways.{head_word, numbered_word}
use Rattle.op_core.specs.declared.want.Want.{Want}
use Rattle.op_core.specs.declared.want.Want.TheVariants as want
use Rattle.op_core.specs.declared.want.Ans.{Ans}
use Rattle.op_core.specs.declared.want.Ans.TheVariants.{Value, Passed}
use Rattle.rounds.specs.declared.rounds.Rounds.{Rounds}
use Rattle.rounds.specs.Steps.{rounds_stores, rounds_wanted, event_wanted, rounds_taken}
use Rattle.rounds.specs.Steps as rounds
use Rattle.repair_op.specs.declared.guarded.Guarded.{Guarded}
use Rattle.repair_op.specs.Guarded.{guard_of}
use Rattle.repair_op.specs.Steps.{with_head}
use Rattle.mend_op.specs.declared.stage.Stage.{Stage}
use Rattle.mend_op.specs.declared.stage.Stage.TheVariants as stage
use Rattle.mend_op.specs.declared.op.MendEnd.{MendEnd}
use Rattle.mend_op.specs.declared.op.MendEnd.TheVariants as ends
use Rattle.mend_op.specs.declared.op.MendStep.{MendStep}
use Rattle.mend_op.specs.declared.op.MendStep.TheVariants.{Fill, Round, Finish, FinishFlush, FinishFence, Note, Renew, RenewFlush, RenewFence, Give, Ended}
use Rattle.mend_op.specs.declared.op.MendOp.{MendOp}
use Rattle.mend_op.specs.Words.{renewed_head}
use Rattle.mend_op.specs.Stages.{most, place, made}
use Rattle.rounds.specs.Seeking.{seek}

-- ---- where words stand
-- the header word of the segment, and the word of its buckets of this number
abbrev pub own_head_word : MendOp → ℕ
own_head_word op = head_word op.guarded.site.geometry op.guarded.segment

abbrev pub word_at : MendOp → ℕ → ℕ
word_at op i = numbered_word op.guarded.site.geometry op.guarded.segment i

-- ---- its parts
abbrev pub at_step : MendOp → MendStep → MendOp
at_step op next = record { guarded = op.guarded; words = op.words; next = op.next; step = next }

-- a word was loaded
abbrev pub with_word : MendOp → ℕ → ℕ → MendOp
with_word op i seen = record { guarded = op.guarded; words = slice_set op.words i seen; next = op.next; step = op.step }

-- a word was stored
abbrev pub with_stored : MendOp → ℕ → MendOp
with_stored op i = with_word op i (slice_index op.next i)

-- what a stage makes of the words is to be stored
abbrev pub prepared : Stage → MendOp → MendOp
prepared stage op = record { guarded = op.guarded; words = op.words; next = made stage op.guarded.site.geometry op.guarded.head op.words; step = op.step }

-- ---- the words of a stage
module _ (op : MendOp) (stage : Stage) where
  -- one is another than it is to be
  abbrev pub is_changed : ℕ → Bool
  is_changed n = not (slice_index op.words (place stage n) == slice_index op.next (place stage n))

  abbrev pub changed_from : ℕ → ℕ
  changed_from n = seek is_changed (most stage - n) n

  -- the store that is to come: the word of this number
  abbrev pub due : ℕ → Option (ℕ × ℕ)
  due n = if nat_lt n (most stage) then Some (word_at op (place stage n), slice_index op.next (place stage n)) else None

-- ---- notes are stored alone; then the segment gets the image's version
abbrev pub noting : MendOp → ℕ → MendOp
noting op n = at_step op (if nat_lt n note_words then Note n else Renew)

abbrev pub noted_from : MendOp → ℕ → MendOp
noted_from op n = noting op (changed_from op stage.Note n)

abbrev pub begin_notes : MendOp → MendOp
begin_notes op = noted_from (prepared stage.Note op) 0

-- ---- the other stages store in rounds
-- where all is stored and settled, the split ends, or notes are next
abbrev pub over : Stage → MendOp → MendOp
over stage.Clear op = at_step op Finish
over stage.Mend op = begin_notes op
over stage.Note op = at_step op Renew

abbrev pub rounding_by : Option Want → Stage → ℕ → Rounds → MendOp → MendOp
rounding_by (Some want) stage n rounds op = at_step op (Round stage n rounds)
rounding_by None stage n rounds op = over stage op

abbrev pub rounding : Stage → ℕ → Rounds → MendOp → MendOp
rounding stage n rounds op = rounding_by (rounds_wanted rounds (due op stage n)) stage n rounds op

abbrev pub begin : Stage → MendOp → MendOp
begin stage op = rounding stage (changed_from (prepared stage op) stage 0) rounds.begun (prepared stage op)

-- after an event of the rounds
abbrev pub rounded_by : Bool → Stage → ℕ → Rounds → MendOp → MendOp
rounded_by true stage n rounds op = rounding stage (changed_from (with_stored op (place stage n)) stage (n + 1)) rounds (with_stored op (place stage n))
rounded_by false stage n rounds op = rounding stage n rounds op

abbrev pub rounded : Stage → ℕ → Rounds → MendOp → MendOp
rounded stage n rounds op = rounded_by (rounds_stores rounds (due op stage n)) stage n (rounds_taken rounds (due op stage n)) op

-- ---- words are loaded
-- once all are, a split that has a ready side is to end first
abbrev pub loaded_by : Option ℕ → MendOp → MendOp
loaded_by (Some side) op = begin stage.Clear op
loaded_by None op = begin stage.Mend op

abbrev pub filled_to : ℕ → MendOp → MendOp
filled_to i op = if nat_lt i last_of_buckets then at_step op (Fill (i + 1)) else loaded_by op.guarded.side op

-- ---- the header
abbrev pub finished : MendOp → MendOp
finished op = record { guarded = with_head op.guarded (finished_head op.guarded.head); words = op.words; next = op.next; step = FinishFlush }

-- ---- a word of the notes
abbrev pub noted : MendOp → ℕ → MendOp
noted op n = if nat_lt n note_words then noted_from (with_stored op (place stage.Note n)) (n + 1) else at_step op Renew

-- ---- the machine
-- the store that is to come, where one is
abbrev pub store_wanted : Option (ℕ × ℕ) → Want
store_wanted (Some next) = want.Store next.0 next.1
store_wanted None = want.Done

module _ (op : MendOp) where
  -- THE EVENT that it wants
  abbrev pub wanted_in : MendStep → Want
  wanted_in (Fill i) = want.Load (word_at op i)
  wanted_in (Round stage n rounds) = event_wanted rounds (due op stage n)
  wanted_in Finish = want.Store (own_head_word op) (finished_head op.guarded.head)
  wanted_in FinishFlush = want.Flush (line_of (own_head_word op))
  wanted_in FinishFence = want.Fence
  wanted_in (Note n) = store_wanted (due op stage.Note n)
  wanted_in Renew = want.Store (own_head_word op) (renewed_head op.guarded.site.version op.guarded.head)
  wanted_in RenewFlush = want.Flush (line_of (own_head_word op))
  wanted_in RenewFence = want.Fence
  wanted_in Give = want.Store (guard_of op.guarded) free_guard
  wanted_in Ended = want.Done

  -- WHAT AN ANSWER makes of it; one of another kind than was asked for leaves it as it is
  abbrev pub next_in : MendStep → Ans → MendOp
  next_in (Fill i) (Value seen) = filled_to i (with_word op i seen)
  next_in (Round stage n rounds) Passed = rounded stage n rounds op
  next_in Finish Passed = finished op
  next_in FinishFlush Passed = at_step op FinishFence
  next_in FinishFence Passed = begin stage.Mend op
  next_in (Note n) Passed = noted op n
  next_in Renew Passed = at_step op RenewFlush
  next_in RenewFlush Passed = at_step op RenewFence
  next_in RenewFence Passed = at_step op Give
  next_in Give Passed = at_step op Ended
  next_in same ans = at_step op same

abbrev pub wanted : MendOp → Want
wanted op = wanted_in op op.step

abbrev pub taken : MendOp → Ans → MendOp
taken op ans = next_in op op.step ans

-- one that has done nothing yet
abbrev pub begun : Guarded → MendOp
begun guarded = record { guarded = guarded; words = replicate words_of_buckets 0; next = replicate words_of_buckets 0; step = Fill 0 }

-- HOW IT ENDS, once it has
abbrev pub end_at : MendStep → Option MendEnd
end_at Ended = Some ends.Repaired
end_at more = None

abbrev pub end_of : MendOp → Option MendEnd
end_of op = end_at op.step
