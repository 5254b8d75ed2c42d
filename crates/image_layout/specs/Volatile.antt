-- The words behind those of the image: no medium has them, and all are 0 when the power comes on.
use Rattle.std.specs.Prelude.{ℕ, ◌+◌, ◌^◌}
use Rattle.image_layout.specs.Places.{Shape, words_of}

-- the commit counter, to which a draw adds one
abbrev pub counter_word : Shape → ℕ
counter_word shape = words_of shape

-- how many words behind it the power word stands, and how many the guards of free slots for segments and of the directory
abbrev pub power_from : ℕ
power_from = 1

abbrev pub allocation_from : ℕ
allocation_from = 2

abbrev pub directory_from : ℕ
directory_from = 3

-- the power word, which says whether the power is off
abbrev pub power_word : Shape → ℕ
power_word shape = words_of shape + power_from

-- what it is while the power is on; with any other word it is off, and who turns it off stores `power_off`
abbrev pub power_on : ℕ
power_on = 0

abbrev pub power_off : ℕ
power_off = 1

-- the guard of free slots for segments
abbrev pub allocation_guard : Shape → ℕ
allocation_guard shape = words_of shape + allocation_from

-- the guard of the directory
abbrev pub directory_guard : Shape → ℕ
directory_guard shape = words_of shape + directory_from

-- how many words stand between those of the image and the guards of segments: these four
abbrev pub guards_from : ℕ
guards_from = directory_from + 1

-- the guard of the segment in a slot
abbrev pub segment_guard : Shape → ℕ → ℕ
segment_guard shape slot = words_of shape + guards_from + slot

-- the word of a guard that nobody holds; else it is the number of the caller who has it
abbrev pub free_guard : ℕ
free_guard = 0

-- how many words there are with those of the image
abbrev pub all_words_of : Shape → ℕ
all_words_of shape = words_of shape + guards_from + shape.segments

-- a number above that of all these words, of whatever image
abbrev pub words_bound : ℕ
words_bound = 2 ^ 32
