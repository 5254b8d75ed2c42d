-- Lines that are flushed and wait for a fence.
use Rattle.std.specs.Prelude.{ℕ, min, nat_lt, List, length, if◌then◌else◌}
use Rattle.whole_segment.specs.Rounds.{most_lines}
use Rattle.rounds.specs.declared.rounds.RoundStep.{RoundStep}
use Rattle.rounds.specs.declared.rounds.RoundStep.TheVariants.{Storing, Flushing, Fencing}
use Rattle.rounds.specs.declared.rounds.Rounds.{Rounds}

-- how many of these lines, at this step
abbrev pub round_waiting : List ℕ → RoundStep → ℕ
round_waiting lines Storing = 0
round_waiting lines (Flushing i) = min i (length lines)
round_waiting lines Fencing = length lines

-- how many of a round; of one that has more lines than a round may touch, none is said to wait
abbrev pub rounds_waiting : Rounds → ℕ
rounds_waiting rounds = if nat_lt most_lines (length rounds.round) then 0 else round_waiting rounds.round rounds.step
