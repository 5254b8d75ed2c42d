-- Where the lines of an input end, and where the words of a line.
use Rattle.std.specs.Prelude.{ℕ, ◌==◌, ◌&&◌, Bool, false, List, [], ◌∷◌, if◌then◌else◌}

-- the bytes begin with this one
abbrev pub begins_with : ℕ → List ℕ → Bool
begins_with byte [] = false
begins_with byte (b ∷ bytes) = b == byte

-- one more byte at the front of the first part; where there is no part, a part of that byte alone
abbrev pub before_first : ℕ → List (List ℕ) → List (List ℕ)
before_first byte [] = (byte ∷ []) ∷ []
before_first byte (part ∷ parts) = (byte ∷ part) ∷ parts

-- the lines: each ends in a line feed (10), which the last may lack; a carriage return (13) right before the line feed is dropped
abbrev pub lines : List ℕ → List (List ℕ)
lines [] = []
lines (b ∷ bytes) = if b == 10 then [] ∷ lines bytes else if begins_with 10 bytes && (b == 13) then lines bytes else before_first b (lines bytes)

-- what stands between the spaces (32), also where that is nothing
abbrev pub between_spaces : List ℕ → List (List ℕ)
between_spaces [] = [] ∷ []
between_spaces (b ∷ bytes) = if b == 32 then [] ∷ between_spaces bytes else before_first b (between_spaces bytes)

-- the parts that are not empty
abbrev pub not_empty : List (List ℕ) → List (List ℕ)
not_empty [] = []
not_empty ([] ∷ parts) = not_empty parts
not_empty ((b ∷ part) ∷ parts) = (b ∷ part) ∷ not_empty parts

-- the words of a line
abbrev pub words : List ℕ → List (List ℕ)
words line = not_empty (between_spaces line)
