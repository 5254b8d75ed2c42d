-- What a split makes of a header word: its 1-side, and the segment itself, which is the 0-side behind it.
use Rattle.std.specs.Prelude.{ℕ, suc, min, ◌%◌, ◌^◌}
use Rattle.hash_word.specs.Hash.{hash_bits}
use Rattle.segment_head.specs.HeadWord.{depth_bits, pattern_bits, version_in, depth_in, pattern_in, header_of, normal}
use Rattle.segment_head.specs.Prefixes.{depth_of_sides, pattern_of_zero_side, pattern_of_one_side}

-- the depth of the 1-side of a segment with this header, as the successor of its own, and its pattern
abbrev pub side_depth_in : ℕ → ℕ
side_depth_in head = suc (depth_in head)

abbrev pub side_pattern_in : ℕ → ℕ
side_pattern_in head = pattern_of_one_side (pattern_in head)

-- how many bits of a hash that depth is, whatever the header is: all of them at the most
abbrev pub capped_side_depth : ℕ → ℕ
capped_side_depth head = min (side_depth_in head) hash_bits

-- what a header word has of them, whatever the header is: both sides have the same depth, of 8 bits, and the 0-side and the 1-side a pattern of 32
abbrev pub side_depth_field : ℕ → ℕ
side_depth_field head = depth_of_sides (depth_in head) % 2 ^ depth_bits

abbrev pub zero_pattern_field : ℕ → ℕ
zero_pattern_field head = pattern_of_zero_side (pattern_in head) % 2 ^ pattern_bits

abbrev pub one_pattern_field : ℕ → ℕ
one_pattern_field head = pattern_of_one_side (pattern_in head) % 2 ^ pattern_bits

-- the header with another state, and else as it was
abbrev pub with_state : ℕ → ℕ → ℕ
with_state head state = header_of (version_in head) state (depth_in head) (pattern_in head)

-- that of the 0-side, of this state and of the version that it had
abbrev pub zero_side_head : ℕ → ℕ → ℕ
zero_side_head state head = header_of (version_in head) state (side_depth_field head) (zero_pattern_field head)

-- the header of a segment when its split is made: that of the 0-side, normal
abbrev pub finished_head : ℕ → ℕ
finished_head head = zero_side_head normal head

-- that of the 1-side, of this version and this state
abbrev pub one_side_head : ℕ → ℕ → ℕ → ℕ
one_side_head version state head = header_of version state (side_depth_field head) (one_pattern_field head)
