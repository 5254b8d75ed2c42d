-- How many events are left at most, and how many lines wait for a fence.
use Rattle.std.specs.Prelude.{ℕ, suc, ◌+◌, ◌-◌, ◌*◌}
use Rattle.image_layout.specs.Places.{Shape}
use Rattle.whole_segment.specs.Rounds.{most_lines}
use Rattle.rounds.specs.Left.{rounds_left, few_left}
use Rattle.rounds.specs.Waiting.{rounds_waiting}
use Rattle.directory_op.specs.Left.{most_entries, deepest_entries}
use Rattle.redirect_op.specs.declared.step.RedirectStep.{RedirectStep}
use Rattle.redirect_op.specs.declared.step.RedirectStep.TheVariants.{Guard, Root, Entry, Head, Store, Settle, Fence, GiveDirectory, Give, Ended}
use Rattle.redirect_op.specs.declared.op.RedirectOp.{RedirectOp}
use Rattle.redirect_op.specs.Steps.{shape_of, last_entry}

-- ---- events
-- with so many entries from the load of the root on: of each of them, and of the segment that it names, a word is loaded, and it may be stored,
-- flushed and fenced; then come a fence and the guard
abbrev pub rooted_with : ℕ → ℕ
rooted_with entries = 5 * entries + 3

-- how many entries come behind this one
abbrev pub entries_behind : RedirectOp → ℕ → ℕ
entries_behind op index = last_entry op - index

-- with so many stores to come
abbrev pub stores_left : RedirectOp → ℕ → ℕ
stores_left op stores = few_left op.rounds (rounds_left op.rounds stores)

abbrev pub left_at : RedirectOp → RedirectStep → ℕ
left_at op Guard = suc (rooted_with (deepest_entries (shape_of op)))
left_at op Root = rooted_with (deepest_entries (shape_of op))
left_at op (Entry index) = 2 * entries_behind op index + 2 + stores_left op (suc (entries_behind op index)) + 2
left_at op (Head index slot) = 2 * entries_behind op index + 1 + stores_left op (suc (entries_behind op index)) + 2
left_at op (Store index) = 2 * entries_behind op index + stores_left op (suc (entries_behind op index)) + 2
left_at op Settle = stores_left op 0 + 1
left_at op Fence = 2
left_at op GiveDirectory = 1
left_at op (Give end) = 1
left_at op (Ended end) = 0

abbrev pub left_of : RedirectOp → ℕ
left_of op = left_at op op.step

-- IN AN IMAGE OF THIS SHAPE it makes at most so many from its beginning on
abbrev pub events_in : Shape → ℕ
events_in shape = suc (rooted_with (deepest_entries shape))

-- and in any image, from any state on, so many
abbrev pub most_events : ℕ
most_events = suc (rooted_with most_entries) + most_lines

-- ---- lines that are flushed and not fenced
abbrev pub waiting_at : RedirectOp → RedirectStep → ℕ
waiting_at op (Entry index) = rounds_waiting op.rounds
waiting_at op (Head index slot) = rounds_waiting op.rounds
waiting_at op (Store index) = rounds_waiting op.rounds
waiting_at op Settle = rounds_waiting op.rounds
waiting_at op step = 0

abbrev pub waiting_of : RedirectOp → ℕ
waiting_of op = waiting_at op op.step
