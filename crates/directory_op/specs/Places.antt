-- Which words are loaded and stored: entries of the directory, and the header of the side.
use Rattle.std.specs.Prelude.{ℕ, ◌+◌, ◌-◌, ◌*◌, nat_le, nat_lt, min, ◌&&◌, if◌then◌else◌}
use Rattle.segment_head.specs.HeadWord.{depth_in, pattern_in, normal}
use Rattle.segment_head.specs.SplitHeads.{with_state}
use Rattle.image_layout.specs.Places.{Shape, most_depth, root_word, entries_of, entry_at}

-- how many entries the area of a depth has; no area is deeper than an image allows
abbrev pub entries_there : ℕ → ℕ
entries_there depth = if nat_le depth most_depth then entries_of depth else 0

-- the word of an entry; an area or an entry that the image has not gives the root's word
abbrev pub entry_word_at : Shape → ℕ → ℕ → ℕ
entry_word_at shape depth index = if nat_le depth shape.depth && nat_lt index (entries_there depth) then entry_at depth index else root_word

-- how many entries of a root's depth a segment with this header has, and the first and the last of them
abbrev pub run_of : ℕ → ℕ → ℕ
run_of root head = entries_there (root - depth_in head)

abbrev pub side_first : ℕ → ℕ → ℕ
side_first root head = pattern_in head * run_of root head

abbrev pub side_last : ℕ → ℕ → ℕ
side_last root head = min ((pattern_in head + 1) * run_of root head) (entries_there root) - 1

-- the header of a normal segment, which is else as this one
abbrev pub live_head : ℕ → ℕ
live_head head = with_state head normal
