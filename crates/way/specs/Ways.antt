-- The way from a hash to its bucket: the words on it, and what the header of its segment has to cover.
use Rattle.std.specs.Prelude.{ℕ, ◌+◌, ◌-◌, nat_le, nat_lt, Bool, ◌==◌, ◌&&◌, if◌then◌else◌}
use Rattle.image_layout.specs.Places.{Shape, root_word, entry_at, head_at, header_word, link_word, bucket_at}
use Rattle.image_layout.specs.Volatile.{segment_guard}
use Rattle.hash_word.specs.Hash.{hash_bits, index_of, top}
use Rattle.segment_head.specs.HeadWord.{state_in, depth_in, pattern_in, normal}

-- the entry of a hash in the directory of a depth; a depth that the image has not gives the root's word
abbrev pub entry_word : Shape → ℕ → ℕ → ℕ
entry_word shape hash root = if nat_le root shape.depth then entry_at root (index_of root hash) else root_word

-- a word of a slot; a slot that the image has not gives the root's word
abbrev pub of_slot : Shape → (slot word : ℕ) → ℕ
of_slot shape slot word = if nat_lt slot shape.segments then word else root_word

-- that word by its number, counted from the first, which is 0
abbrev pub slot_word : Shape → (slot number : ℕ) → ℕ
slot_word shape slot number = of_slot shape slot (head_at shape slot + number)

-- the header word of a segment
abbrev pub head_word : Shape → ℕ → ℕ
head_word shape segment = of_slot shape segment (header_word shape segment)

-- the word of its link
abbrev pub slot_link : Shape → ℕ → ℕ
slot_link shape segment = of_slot shape segment (link_word shape segment)

-- its guard
abbrev pub slot_guard : Shape → ℕ → ℕ
slot_guard shape segment = of_slot shape segment (segment_guard shape segment)

-- the first word of a bucket of it, its lock word
abbrev pub bucket_word : Shape → ℕ → ℕ → ℕ
bucket_word shape segment b = of_slot shape segment (bucket_at shape segment b)

-- the word of it that has number i among those of its buckets; and the way back, from such a word to its number
abbrev pub numbered_word : Shape → ℕ → ℕ → ℕ
numbered_word shape segment i = bucket_word shape segment 0 + i

abbrev pub number_of_word : Shape → ℕ → ℕ → ℕ
number_of_word shape segment word = word - bucket_word shape segment 0

-- a header covers a hash whose top bits, as many as its depth, are its pattern
abbrev pub is_covering : ℕ → ℕ → Bool
is_covering h1 hash = nat_le (depth_in h1) hash_bits && (top (depth_in h1) hash == pattern_in h1)

-- a header leads to the hash where it is that of a normal segment and covers it: such a segment owns the hash
abbrev pub is_leading : ℕ → ℕ → Bool
is_leading h1 hash = (state_in h1 == normal) && is_covering h1 hash
