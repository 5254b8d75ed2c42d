-- The depth and the patterns of the two sides of a segment, the hashes of its 1-side and how many places of a deeper directory a side has, and the prefix
-- of a segment beside that of its 1-side.
use Rattle.std.specs.Prelude.{◌≡◌, ◌==◌, ◌&&◌, Bool, nat_lt, ℕ, ◌+◌, ◌-◌, ◌*◌, ◌^◌, ◌<◌}
use Rattle.hash_word.specs.Hash.{Covers}
use Rattle.segment_head.specs.declared.prefix.Prefix.{Prefix}

-- a pattern is a number: that of the 0-side of a segment with this one has a 0 behind it, and that of its 1-side a 1
abbrev pub pattern_of_zero_side : ℕ → ℕ
pattern_of_zero_side pattern = 2 * pattern

abbrev pub pattern_of_one_side : ℕ → ℕ
pattern_of_one_side pattern = pattern_of_zero_side pattern + 1

-- the depth of both sides of a segment of this depth: one bit more
abbrev pub depth_of_sides : ℕ → ℕ
depth_of_sides depth = depth + 1

-- THE 1-SIDE of a segment of this depth and pattern: the hashes that it covers with a 1 as the bit behind them
abbrev pub IsOfOneSide : (depth pattern h : ℕ) → Type 0
IsOfOneSide depth pattern h = Covers (depth_of_sides depth) (pattern_of_one_side pattern) h

-- how many places of a directory of a greater depth each side of a segment of this depth has
abbrev pub run_of_sides : ℕ → ℕ → ℕ
run_of_sides greater depth = 2 ^ (greater - depth - 1)

-- the pattern of the 1-side of a segment of this depth and pattern, followed by zeros alone down to a greater depth: the first of these places
abbrev pub one_side_down_to : ℕ → ℕ → ℕ → ℕ
one_side_down_to greater depth pattern = pattern_of_one_side pattern * run_of_sides greater depth

-- a prefix of a side is that of the 1-side of a whole with these numbers, followed by zeros alone or by nothing, as a test
abbrev pub is_side_prefix : (depth pattern side_depth side_pattern : ℕ) → Bool
is_side_prefix depth pattern side_depth side_pattern = nat_lt depth side_depth && (side_pattern == one_side_down_to side_depth depth pattern)

-- the side is deeper, and its pattern is that of the 1-side of the whole, followed by zeros alone
pub record IsSidePrefix (whole side : Prefix) : Type 0 where
  pub deeper : whole.depth < side.depth
  pub zeros : side.pattern ≡ one_side_down_to side.depth whole.depth whole.pattern
