-- A round is the list of the lines that it has touched; and the fields by which it is held.
use Rattle.std.specs.Prelude.{◌≡◌, ℕ, ◌-◌, ◌≤◌, List, ◌++◌, length, take, replicate}
use Rattle.whole_segment.specs.declared.round.Round.TheInside.{Inside}
use Rattle.whole_segment.specs.Rounds.{most_lines}

-- the lines of these fields
abbrev pub lines_of : Inside → List ℕ
lines_of a = take a.count a.lines

-- the fields of these lines: each place that is not used is 0
abbrev pub round_of : List ℕ → Inside
round_of lines = record { lines = lines ++ replicate (most_lines - length lines) 0; count = length lines }

-- THE FIELDS are those of the lines of a round, which are at most eight
pub record IsRound (a : Inside) : Type 0 where
  pub eight : length a.lines ≡ most_lines
  pub most : a.count ≤ most_lines
  pub fields : round_of (lines_of a) ≡ a
