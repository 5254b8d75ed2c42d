-- At most so many events are left.
use Rattle.std.specs.Prelude.{ℕ, ◌+◌, ◌-◌, ◌*◌, nat_lt, List, length, if◌then◌else◌}
use Rattle.whole_segment.specs.Rounds.{most_lines}
use Rattle.rounds.specs.declared.rounds.RoundStep.{RoundStep}
use Rattle.rounds.specs.declared.rounds.RoundStep.TheVariants.{Storing, Flushing, Fencing}
use Rattle.rounds.specs.declared.rounds.Rounds.{Rounds}

-- a flush for each line of the round, and a fence; none where it has touched no line
abbrev pub round_left : List ℕ → ℕ
round_left lines = if nat_lt 0 (length lines) then length lines + 1 else 0

abbrev pub left_at : List ℕ → RoundStep → ℕ
left_at lines Storing = round_left lines
left_at lines (Flushing i) = length lines - i + 1
left_at lines Fencing = 1

-- where so many stores are to come: each of them may touch a line, which is flushed and fenced
abbrev pub rounds_left : Rounds → ℕ → ℕ
rounds_left rounds stores = 3 * stores + left_at rounds.round rounds.step

-- of a machine that is in its rounds so many; none in a round that has more lines than it may, of which no event is wanted
abbrev pub few_left : Rounds → ℕ → ℕ
few_left rounds left = if nat_lt most_lines (length rounds.round) then 0 else left
