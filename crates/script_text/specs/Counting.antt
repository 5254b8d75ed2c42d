-- Lines, one at a time.
use Rattle.std.specs.Prelude.{ℕ, ◌+◌, ◌-◌, ◌==◌, Bool, true, false, List, [], ◌∷◌, length, take, slice_index, if◌then◌else◌}

-- a line without the carriage return that may end it
abbrev pub without_return : List ℕ → List ℕ
without_return line = if slice_index line (length line - 1) == 13 then take (length line - 1) line else line

-- how many lines there are to come, where one has begun or not
abbrev pub lines_to_come : Bool → List ℕ → ℕ
lines_to_come begun [] = if begun then 1 else 0
lines_to_come begun (byte ∷ bytes) = if byte == 10 then 1 + lines_to_come false bytes else lines_to_come true bytes
