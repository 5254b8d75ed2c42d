-- How many events an engine has left, and how many lines it has flushed and not fenced; and by what a call ends that goes on alone, though
-- its attempts may end without a reply.
use Rattle.std.specs.Prelude.{ℕ, zero, suc, true, false, ◌+◌, ◌*◌, ◌==◌, ◌&&◌, not, Bool, if◌then◌else◌}
use Rattle.trace.specs.Events.{Words}
use Rattle.segment_head.specs.HeadWord.{version_in, state_in, free, is_live}
use Rattle.image_layout.specs.Places.{Shape, state_word, header_word, most_segments}
use Rattle.split_op.specs.SplitPart.{is_new_slot}
use Rattle.directory_op.specs.Left.{left_alone as publish_left_alone}
use Rattle.rest_op.specs.RestPart.{rest_part}
use Rattle.repair_op.specs.declared.step.Settling.TheVariants as settling
use Rattle.repair_op.specs.declared.step.RepairStep.{RepairStep}
use Rattle.repair_op.specs.declared.step.RepairStep.TheVariants.{Free, GiveSlots, Unmark}
use Rattle.mend_op.specs.declared.op.MendStep.{MendStep}
use Rattle.mend_op.specs.declared.op.MendStep.TheVariants as mending
use Rattle.engine.specs.declared.engine.Op.{Op}
use Rattle.engine.specs.declared.engine.Op.TheVariants.{Enclose, Split, Publish, Rest, Repair, Redirect, Mend}
use Rattle.engine.specs.declared.engine.Engine.{Engine}
use Rattle.engine.specs.OpPart.{op_part}

-- an attempt makes at most so many events, but while it waits for the guard of the directory
abbrev pub most_events : ℕ
most_events = op_part.most_events

-- one of the call itself at most so many, and one of a get: round numbers above what their machines say of themselves
abbrev pub most_of_attempt : ℕ
most_of_attempt = 700

abbrev pub most_of_get : ℕ
most_of_get = 150

-- at most so many events are left
abbrev pub left : Engine → ℕ
left e = op_part.left e.op

-- at most so many lines are flushed and not fenced
abbrev pub waiting : Engine → ℕ
waiting e = op_part.waiting e.op

-- ---- an attempt of a caller alone: nobody else has the guard of the directory, for which it then tries once
-- at most so many events are left of it
abbrev pub op_left_alone : Op → ℕ
op_left_alone (Publish op) = publish_left_alone op + rest_part.most_events
op_left_alone op = op_part.left op

abbrev pub left_alone : Engine → ℕ
left_alone e = op_left_alone e.op

-- and it has at most so many
abbrev pub most_alone : ℕ
most_alone = most_events + 1

-- ---- a call of a caller alone
-- how many of the first so many slots are free
abbrev pub free_below : Shape → Words → ℕ → ℕ
free_below shape words zero = 0
free_below shape words (suc s) = (if state_in (words (header_word shape s)) == free then 1 else 0) + free_below shape words s

abbrev pub free_slots : Shape → Words → ℕ
free_slots shape words = free_below shape words shape.segments

-- how many of them are stale: their segments are live, and have not the version of the image
abbrev pub is_stale : Words → ℕ → Bool
is_stale words head = is_live head && not (version_in head == version_in (words state_word))

abbrev pub stale_below : Shape → Words → ℕ → ℕ
stale_below shape words zero = 0
stale_below shape words (suc s) = (if is_stale words (words (header_word shape s)) then 1 else 0) + stale_below shape words s

abbrev pub stale_segments : Shape → Words → ℕ
stale_segments shape words = stale_below shape words shape.segments

-- the beginning of a repair is behind the store by which a slot may become free
abbrev pub has_freed : RepairStep → Bool
has_freed (Free slot side settling.Store) = false
has_freed (Free slot side settling) = true
has_freed GiveSlots = true
has_freed (Unmark settling) = true
has_freed step = false

-- and a mending behind the one by which the segment gets the image's version
abbrev pub is_renewed : MendStep → Bool
is_renewed mending.RenewFlush = true
is_renewed mending.RenewFence = true
is_renewed mending.Give = true
is_renewed mending.Ended = true
is_renewed step = false

-- how far a call has come: the machines of the call itself may find that a segment is to be split or repaired. A split is first to take a free
-- slot, and a repair may free one and is to give the segment the image's version; then each goes on to its end, after which the call begins anew
abbrev pub stage : Op → ℕ
stage (Enclose op) = 2
stage (Split op) = if is_new_slot op then 4 else 2
stage (Publish op) = 4
stage (Rest op) = 4
stage (Repair op) = if has_freed op.step then 0 else 2
stage (Redirect op) = 0
stage (Mend op) = if is_renewed op.step then 4 else 0
stage op = 3

-- AT MOST SO MANY ATTEMPTS of the call end without a reply from here on: each split takes a free slot, each repair leaves one stale segment
-- fewer and frees one slot at the most, and nothing else frees slots or makes segments stale
abbrev pub attempts_left : Shape → Words → Engine → ℕ
attempts_left shape words e = 4 * stale_segments shape words + 2 * free_slots shape words + stage e.op

-- at most so many events are left of the call
abbrev pub events_left : Shape → Words → Engine → ℕ
events_left shape words e = attempts_left shape words e * (most_alone + 1) + left_alone e

-- of a call that has not begun
abbrev pub events_of_call : Shape → ℕ
events_of_call shape = (6 * shape.segments + 5) * (most_alone + 1)

-- and at the most, in an image with all the slots that one may have
abbrev pub most_of_call : ℕ
most_of_call = (6 * most_segments + 5) * (most_alone + 1)
