-- Words are stored in rounds: what is wanted in each step, and what comes after.
use Rattle.std.specs.Prelude.{ℕ, ◌+◌, nat_lt, Bool, false, Option, None, Some, List, [], length, slice_index, if◌then◌else◌}
use Rattle.trace.specs.Events.{line_of}
use Rattle.op_core.specs.declared.want.Want.{Want}
use Rattle.op_core.specs.declared.want.Want.TheVariants.{Store, Flush, Fence, Done}
use Rattle.whole_segment.specs.Rounds.{most_lines, takes, touched}
use Rattle.rounds.specs.declared.rounds.RoundStep.{RoundStep}
use Rattle.rounds.specs.declared.rounds.RoundStep.TheVariants.{Storing, Flushing, Fencing}
use Rattle.rounds.specs.declared.rounds.Rounds.{Rounds}

-- a round that has touched these lines, at this step
abbrev pub at_step : List ℕ → RoundStep → Rounds
at_step lines step = record { round = lines; step = step }

-- nothing was stored yet
abbrev pub begun : Rounds
begun = at_step [] Storing

-- ---- the next event
-- there is a store to come, its word and its value, and the round takes its line
abbrev pub has_room : List ℕ → Option (ℕ × ℕ) → Bool
has_room lines None = false
has_room lines (Some next) = takes lines (line_of next.0)

-- it is the next event
abbrev pub stores_at : List ℕ → RoundStep → Option (ℕ × ℕ) → Bool
stores_at lines Storing next = has_room lines next
stores_at lines (Flushing i) next = false
stores_at lines Fencing next = false

abbrev pub rounds_stores : Rounds → Option (ℕ × ℕ) → Bool
rounds_stores rounds next = stores_at rounds.round rounds.step next

-- ---- what is wanted
-- a round ends with the flush of its first line; one that has touched none is at its end
abbrev pub first_flush : List ℕ → Option Want
first_flush lines = if nat_lt 0 (length lines) then Some (Flush (slice_index lines 0)) else None

-- while words are stored, that is the store, where the round takes its line
abbrev pub storing_wanted : List ℕ → Option (ℕ × ℕ) → Option Want
storing_wanted lines None = first_flush lines
storing_wanted lines (Some next) = if takes lines (line_of next.0) then Some (Store next.0 next.1) else first_flush lines

-- and then the flush of each line; behind the last one a fence
abbrev pub flushing_wanted : List ℕ → ℕ → Want
flushing_wanted lines i = if nat_lt i (length lines) then Flush (slice_index lines i) else Fence

abbrev pub wanted_at : List ℕ → RoundStep → Option (ℕ × ℕ) → Option Want
wanted_at lines Storing next = storing_wanted lines next
wanted_at lines (Flushing i) next = Some (flushing_wanted lines i)
wanted_at lines Fencing next = Some Fence

-- THE EVENT that is wanted, where this store is to come; none where all is stored and settled
abbrev pub rounds_wanted : Rounds → Option (ℕ × ℕ) → Option Want
rounds_wanted rounds next = wanted_at rounds.round rounds.step next

-- WHAT A MACHINE WANTS that is in its rounds: their event, and else nothing. A round touches no more lines than it may
abbrev pub want_or_done : Option Want → Want
want_or_done (Some want) = want
want_or_done None = Done

abbrev pub event_wanted : Rounds → Option (ℕ × ℕ) → Want
event_wanted rounds next = if nat_lt most_lines (length rounds.round) then Done else want_or_done (rounds_wanted rounds next)

-- ---- what comes after
-- behind the flush of the line of this number
abbrev pub flushed_to : List ℕ → ℕ → RoundStep
flushed_to lines i = if nat_lt (i + 1) (length lines) then Flushing (i + 1) else Fencing

-- behind that of the first line, if there is one
abbrev pub ended : List ℕ → Rounds
ended lines = if nat_lt 0 (length lines) then at_step lines (flushed_to lines 0) else at_step lines Storing

-- behind a store its line is touched
abbrev pub stored_to : List ℕ → Option (ℕ × ℕ) → Rounds
stored_to lines None = ended lines
stored_to lines (Some next) = if takes lines (line_of next.0) then at_step (touched lines (line_of next.0)) Storing else ended lines

abbrev pub taken_at : List ℕ → RoundStep → Option (ℕ × ℕ) → Rounds
taken_at lines Storing next = stored_to lines next
taken_at lines (Flushing i) next = if nat_lt i (length lines) then at_step lines (flushed_to lines i) else begun
taken_at lines Fencing next = begun

-- THE STATE that the event leaves, when it was done
abbrev pub rounds_taken : Rounds → Option (ℕ × ℕ) → Rounds
rounds_taken rounds next = taken_at rounds.round rounds.step next
