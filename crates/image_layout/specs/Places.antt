-- Where the parts of an image stand, by word number. An image is a list of 64-bit words.
use Rattle.std.specs.Prelude.{ℕ, ◌+◌, ◌-◌, ◌*◌, ◌/◌, ◌%◌, ◌^◌, ◌≤◌, Bool, ◌==◌}
pub use Rattle.hash_word.specs.Hash.{homes, most_depth}
use Rattle.hash_word.specs.Hash.{place_over}
use Rattle.bucket_meta.specs.Bucket.{mark_place, rest_place, record_slots, key_behind, value_behind, second_stash_index, stash_indices}

-- how many slots for segments an image may have at most, and the greatest kind of hash
abbrev pub most_segments : ℕ
most_segments = 16384

abbrev pub most_kind : ℕ
most_kind = 1

-- the kind of hash by which a key is its own hash; any other kind mixes it
abbrev pub identity_kind : ℕ
identity_kind = 0

-- the number of the format, and from which bit on the kind of hash stands above it, in one word
abbrev pub format_number : ℕ
format_number = 1

abbrev pub kind_from : ℕ
kind_from = 32

-- that word, of the number of the format and this kind of hash
abbrev pub format_word : ℕ → ℕ
format_word kind = format_number + kind * 2 ^ kind_from

-- what such a word says: the number of the format, and the kind of hash
abbrev pub format_in : ℕ → ℕ
format_in w = w % 2 ^ kind_from

abbrev pub kind_in : ℕ → ℕ
kind_in w = w / 2 ^ kind_from

-- how many words the front of an image has, a header and a bucket
abbrev pub block : ℕ
block = 32

-- the last word of a bucket, counted from its lock word, which is 0
abbrev pub last_word : ℕ
last_word = block - 1

-- which word of the front says the magic, which the format and the kind of hash, which the slots for segments, and which the greatest depth
abbrev pub front_magic : ℕ
front_magic = 0

abbrev pub front_format : ℕ
front_format = 1

abbrev pub front_segments : ℕ
front_segments = 2

abbrev pub front_depth : ℕ
front_depth = 3

-- how many words of the front, its first ones, say magic, format and shape: those up to this one
abbrev pub front_words : ℕ
front_words = front_depth + 1

-- how many stash buckets a segment has: those that a note may name
abbrev pub stash_buckets : ℕ
stash_buckets = stash_indices

-- the number of stash bucket c among all buckets, where the stash stands behind the homes
abbrev pub stash_bucket : ℕ → ℕ
stash_bucket c = homes + c

-- that of the second one; that of the first is homes
abbrev pub second_stash : ℕ
second_stash = stash_bucket second_stash_index

-- how many buckets a segment has
abbrev pub buckets : ℕ
buckets = homes + stash_buckets

-- the last one of them, counted from the first, which is 0
abbrev pub last_bucket : ℕ
last_bucket = buckets - 1

-- in how many buckets beside the stash a key may stand: its home and its probing bucket
abbrev pub homes_of_key : ℕ
homes_of_key = 2

-- in how many buckets it may stand: these, and the stash buckets
abbrev pub buckets_of_key : ℕ
buckets_of_key = homes_of_key + stash_buckets

-- in how many record slots: those of these buckets
abbrev pub slots_of_key : ℕ
slots_of_key = buckets_of_key * record_slots

-- how many record slots a segment has, in all its buckets
abbrev pub segment_slots : ℕ
segment_slots = buckets * record_slots

-- the number of record slot r of bucket b among those
abbrev pub slot_among_buckets : ℕ → ℕ → ℕ
slot_among_buckets b r = record_slots * b + r

-- how many record slots the stash of a segment has
abbrev pub stash_slots : ℕ
stash_slots = stash_buckets * record_slots

-- how many words of a home have notes: its metadata word, and the last word before its records
abbrev pub note_words_of_home : ℕ
note_words_of_home = 2

-- how many words of a segment have notes: these of each home
abbrev pub note_words : ℕ
note_words = note_words_of_home * homes

-- of the one of this number among the words with notes: its home, and which word of that bucket it is
abbrev pub home_of_note : ℕ → ℕ
home_of_note n = n / note_words_of_home

abbrev pub place_of_note : ℕ → ℕ
place_of_note n = mark_place + (rest_place - mark_place) * (n % note_words_of_home)

-- whether the one of this number is the metadata word of its home
abbrev pub is_mark_note : ℕ → Bool
is_mark_note n = n % note_words_of_home == 0

-- which of them is the metadata word of home c, and which the last word before its records
abbrev pub mark_note : ℕ → ℕ
mark_note c = note_words_of_home * c

abbrev pub rest_note : ℕ → ℕ
rest_note c = note_words_of_home * c + 1

-- how many blocks of a slot are its header, in front of its buckets
abbrev pub header_blocks : ℕ
header_blocks = 1

-- how many words these have
abbrev pub header_words : ℕ
header_words = block * header_blocks

-- how many blocks a slot has: its header and its buckets
abbrev pub slot_blocks : ℕ
slot_blocks = header_blocks + buckets

-- how many words a segment has: those of these blocks
abbrev pub segment_words : ℕ
segment_words = block * slot_blocks

-- which block of its slot the header is, counted from the first, which is 0
abbrev pub header_block : ℕ
header_block = 0

-- which block of its slot a word stands in, by its number among the words of all slots, counted from the first word of the first one
abbrev pub block_in_slot : ℕ → ℕ
block_in_slot number = number / block % slot_blocks

-- how many words the buckets of a segment have together
abbrev pub words_of_buckets : ℕ
words_of_buckets = block * buckets

-- the last one of them, counted from the first, which is 0
abbrev pub last_of_buckets : ℕ
last_of_buckets = words_of_buckets - 1

-- the first word of bucket b among them, and word n of it
abbrev pub first_among_buckets : ℕ → ℕ
first_among_buckets b = block * b

abbrev pub word_among_buckets : ℕ → ℕ → ℕ
word_among_buckets b n = first_among_buckets b + n

-- the bucket in which word i of the words of all buckets of a segment stands, and which word of its bucket it is; the second also of a word by its number
-- in its bucket, in its slot or among the words of all slots, since all of these begin with a whole block
abbrev pub bucket_among : ℕ → ℕ
bucket_among i = i / block

abbrev pub place_in_bucket : ℕ → ℕ
place_in_bucket i = i % block

-- the first word of bucket b among the words of its slot, where the buckets stand behind the header
abbrev pub bucket_place : ℕ → ℕ
bucket_place b = header_words + first_among_buckets b

-- the bucket in which a word of a slot stands, by its number there, 0 for a word of the header; and the first bucket behind the word: the header is one
-- block, so it is as many as the blocks before the word
abbrev pub bucket_of : ℕ → ℕ
bucket_of number = number / block - header_blocks

abbrev pub bucket_behind : ℕ → ℕ
bucket_behind number = 1 - header_blocks + number / block

-- the number that this word has among the words of the buckets, and that of the metadata word of its bucket; of a word of the header 0
abbrev pub among_buckets : ℕ → ℕ
among_buckets number = number - header_words

abbrev pub mark_among_buckets : ℕ → ℕ
mark_among_buckets number = number - place_in_bucket number - (header_words - mark_place)

-- the three numbers that say how an image is laid out
pub record Shape : Type 0 where
  -- how many slots for segments there are
  pub segments : ℕ
  -- the greatest depth of the directory
  pub depth : ℕ
  -- how keys are hashed: 0 identity, 1 mixed
  pub kind : ℕ

pub record IsShape (shape : Shape) : Type 0 where
  pub some : 1 ≤ shape.segments
  pub segments : shape.segments ≤ most_segments
  pub depth : shape.depth ≤ most_depth
  pub kind : shape.kind ≤ most_kind

-- the word of the root depth g
abbrev pub root_word : ℕ
root_word = 8

-- the word of the image's version V and of the clean marker
abbrev pub state_word : ℕ
state_word = 16

-- how many entries the directory area of a depth has
abbrev pub entries_of : ℕ → ℕ
entries_of depth = 2 ^ depth

-- the depth of the area below that of a depth
abbrev pub depth_below : ℕ → ℕ
depth_below depth = depth + 1

-- the depth of the area above that of a depth, and 0 of 0, which has none above; the entry of it that has the hashes of entry i, and of one more; and
-- which half of them entry i has, 0 or 1
abbrev pub depth_above : ℕ → ℕ
depth_above depth = depth - 1

abbrev pub entry_above : ℕ → ℕ
entry_above i = place_over 1 i

abbrev pub half_of_entry : ℕ → ℕ
half_of_entry i = i % 2

-- entry i of the directory area of depth e: the areas follow one another from word 32 on, depth 0 first
abbrev pub entry_at : ℕ → ℕ → ℕ
entry_at e i = block + entries_of e - 1 + i

-- two to the power of one more than the greatest depth, written out: the areas of the largest image have one entry less
abbrev pub most_power : ℕ
most_power = 131072

-- the first segment begins at the next whole block behind the areas
abbrev pub first_segment : Shape → ℕ
first_segment shape = (block + entries_of (shape.depth + 1) - 1 + (block - 1)) / block * block

-- the number of a word behind the areas among the words of all slots
abbrev pub among_slots : Shape → ℕ → ℕ
among_slots shape i = i - first_segment shape

-- the first word of the header of the segment in slot s
abbrev pub head_at : Shape → ℕ → ℕ
head_at shape s = first_segment shape + segment_words * s

-- which of the words of a slot is its header word, and which the word of its link, counted from the first, which is 0
abbrev pub header_number : ℕ
header_number = 1

abbrev pub link_number : ℕ
link_number = 2

-- the header word of a slot, and the word of its link
abbrev pub header_word : Shape → ℕ → ℕ
header_word shape s = head_at shape s + header_number

abbrev pub link_word : Shape → ℕ → ℕ
link_word shape s = head_at shape s + link_number

-- where the segments of the largest image begin, written out
abbrev pub first_segment_of_largest : ℕ
first_segment_of_largest = 131104

-- how many words the image has
abbrev pub words_of : Shape → ℕ
words_of shape = head_at shape shape.segments

-- how many words an image has at most, written out
abbrev pub most_words : ℕ
most_words = 35258400

-- the first word of bucket b of segment s; the stash buckets stand behind the homes; bracketed as proofs ask for it
abbrev pub bucket_at : Shape → ℕ → ℕ → ℕ
bucket_at shape s b = head_at shape s + header_words + first_among_buckets b

-- the word of segment s that has number i among those of its buckets; and the way back, from such a word to its number
abbrev pub numbered_at : Shape → ℕ → ℕ → ℕ
numbered_at shape s i = bucket_at shape s 0 + i

abbrev pub number_at : Shape → ℕ → ℕ → ℕ
number_at shape s word = word - bucket_at shape s 0

-- the key and the value of record slot r in a bucket
abbrev pub key_at : Shape → ℕ → ℕ → ℕ → ℕ
key_at shape s b r = key_behind (bucket_at shape s b) r

abbrev pub value_at : Shape → ℕ → ℕ → ℕ → ℕ
value_at shape s b r = value_behind (bucket_at shape s b) r
