-- The fields of a bucket's words. Word 0 is the lock word and words 1 to 3 are the metadata, here w0 to w3; record slot s has its key in word 4 + 2s and its value in word 5 + 2s. Bits are counted from 0, the lowest.
use Rattle.std.specs.Prelude.{◌≡◌, ℕ, ◌+◌, ◌-◌, ◌*◌, ◌/◌, ◌%◌, ◌^◌, nat_lt, count_ones, if◌then◌else◌}
use Rattle.word_bits.specs.Bits.{word_bits, bits, bit}
use Rattle.hash_word.specs.Hash.{fingerprint_bits}

-- how many record slots a bucket has
abbrev pub record_slots : ℕ
record_slots = 14

-- how many note slots it has
abbrev pub note_slots : ℕ
note_slots = 4

-- how many of them have their fingerprints in w3: the lower ones, and the others, the upper ones, have theirs in w1
abbrev pub lower_notes : ℕ
lower_notes = 2

-- the last of the lower ones, and the last of all
abbrev pub last_lower_note : ℕ
last_lower_note = lower_notes - 1

abbrev pub last_note : ℕ
last_note = note_slots - 1

-- the words of a bucket before its records, by their numbers in it: its lock word
abbrev pub lock_place : ℕ
lock_place = 0

-- its metadata word: which slots have a record, and what is said of the stash
abbrev pub mark_place : ℕ
mark_place = 1

-- the word of the fingerprints of its first slots
abbrev pub fingers_place : ℕ
fingers_place = 2

-- and the word of the rest of them, with the fingerprints of two notes
abbrev pub rest_place : ℕ
rest_place = 3

-- the word in which the key of its first record slot stands, behind the last metadata word
abbrev pub first_key : ℕ
first_key = rest_place + 1

-- the word of the value of that slot, behind its key
abbrev pub first_value : ℕ
first_value = first_key + 1

-- the words of a record: its key, and its value behind it
abbrev pub record_words : ℕ
record_words = 2

-- the word of the key of record slot r, and that of its value
abbrev pub key_place : ℕ → ℕ
key_place r = first_key + record_words * r

abbrev pub value_place : ℕ → ℕ
value_place r = first_value + record_words * r

-- the record slot whose key or value stands in the word of this number, which is one of its records
abbrev pub slot_of_place : ℕ → ℕ
slot_of_place m = (m - first_key) / record_words

-- the word of the key of record slot r and that of its value, of a bucket whose first word is this one; bracketed as proofs ask for it
abbrev pub key_behind : ℕ → ℕ → ℕ
key_behind at r = at + first_key + record_words * r

abbrev pub value_behind : ℕ → ℕ → ℕ
value_behind at r = at + first_value + record_words * r

-- how many lock words a version has: a free one, and a locked one above it
abbrev pub locks_of_version : ℕ
locks_of_version = 2

-- 1 where the bucket is locked: the lowest bit of its lock word
abbrev pub lock_bit : ℕ → ℕ
lock_bit w0 = w0 % locks_of_version

-- the version of a lock word, in all the bits above the lock
abbrev pub lock_version : ℕ → ℕ
lock_version w0 = w0 / locks_of_version

-- the lock word that is free with a version
abbrev pub free_lock : ℕ → ℕ
free_lock version = locks_of_version * version

-- the lock word that is locked, of the free one with the same version
abbrev pub locked : ℕ → ℕ
locked free = free + 1

-- the lock word with which a locked one is given back: free, with the next version; and the same, of the free one that was locked
abbrev pub unlocked : ℕ → ℕ
unlocked held = held + 1

abbrev pub given_back : ℕ → ℕ
given_back free = free + locks_of_version

-- the lock word that is free with the version of a lock word, be that locked or free
abbrev pub without_lock : ℕ → ℕ
without_lock w0 = free_lock (lock_version w0)

-- how many bits of a lock word its version has: all but the lowest, which is the lock
abbrev pub lock_version_bits : ℕ
lock_version_bits = word_bits - 1

-- the last version that a lock may have
abbrev pub last_lock_version : ℕ
last_lock_version = 2 ^ lock_version_bits - 1

-- the lock word that is free with the last version, so that nobody takes the lock any more
abbrev pub spent_lock : ℕ
spent_lock = free_lock last_lock_version

-- from which bit of the metadata word on the allocation bits of record slots stand, and from which one on their membership bits: behind those
abbrev pub allocated_from : ℕ
allocated_from = 0

abbrev pub member_from : ℕ
member_from = allocated_from + record_slots

-- 1 where record slot s, of 14, has a record
abbrev pub allocated : ℕ → ℕ → ℕ
allocated s w1 = bit s w1

-- how many records a bucket has, by its word 1
abbrev pub records_of : ℕ → ℕ
records_of w1 = count_ones (bits allocated_from record_slots w1)

-- 1 where the record of slot s stands in its probing bucket
abbrev pub member : ℕ → ℕ → ℕ
member s w1 = bit (member_from + s) w1

-- how many bits of w1 are of the record slots: an allocation bit and a membership bit of each
abbrev pub marks_bits : ℕ
marks_bits = 2 * record_slots

-- how many fingerprints a word has room for
abbrev pub fingers_of_word : ℕ
fingers_of_word = word_bits / fingerprint_bits

-- how many fingerprints of record slots stand in w3, the last word before the records: those that w2 has no room for
abbrev pub rest_fingers : ℕ
rest_fingers = record_slots - fingers_of_word

-- the fingerprint of slot s: 0 to 7 stand in w2, 8 to 13 in w3
abbrev pub finger : ℕ → ℕ → ℕ → ℕ
finger s w2 w3 = if nat_lt s fingers_of_word then bits (fingerprint_bits * s) fingerprint_bits w2 else bits (fingerprint_bits * (s - fingers_of_word)) fingerprint_bits w3

-- from which bit of w1 on a bit of each note slot says whether it holds a note
abbrev pub note_used_from : ℕ
note_used_from = marks_bits

-- from which on, whether this bucket is the probing bucket of the record that the note tells of
abbrev pub note_member_from : ℕ
note_member_from = note_used_from + note_slots

-- and from which on, which of the two stash buckets the note names
abbrev pub note_index_from : ℕ
note_index_from = note_member_from + note_slots

-- from which bit of w1 on the count of records without a note stands
abbrev pub count_from : ℕ
count_from = note_index_from + note_slots

-- how many bits it has
abbrev pub count_bits : ℕ
count_bits = 5

-- the greatest count that these can hold
abbrev pub greatest_count : ℕ
greatest_count = 2 ^ count_bits - 1

-- from which bit of w1 on the fingerprints of the upper note slots stand
abbrev pub upper_fingers_from : ℕ
upper_fingers_from = count_from + count_bits

-- from which bit of w3 on those of the lower note slots stand, above those of record slots
abbrev pub note_fingers_from : ℕ
note_fingers_from = fingerprint_bits * rest_fingers

-- how many bits of w3 those have
abbrev pub note_fingers_bits : ℕ
note_fingers_bits = lower_notes * fingerprint_bits

-- from which bit of w1 on the fingerprint of the last note slot stands, behind that of the first upper one
abbrev pub last_finger_from : ℕ
last_finger_from = upper_fingers_from + fingerprint_bits

-- 1 where note slot i holds the note of a record that stands in the stash
abbrev pub note_used : ℕ → ℕ → ℕ
note_used i w1 = bit (note_used_from + i) w1

-- 1 where this bucket is the probing bucket of the record that the note tells of
abbrev pub note_member : ℕ → ℕ → ℕ
note_member i w1 = bit (note_member_from + i) w1

-- the side of a note is what this bit says: that of a record of which this bucket is the home, and that of one of which it is the probing bucket
abbrev pub home_side : ℕ
home_side = 0

abbrev pub probing_side : ℕ
probing_side = 1

-- how many sides a note may have
abbrev pub note_sides : ℕ
note_sides = probing_side + 1

-- the numbers of the two stash buckets, as a note names them
abbrev pub first_stash_index : ℕ
first_stash_index = 0

abbrev pub second_stash_index : ℕ
second_stash_index = 1

-- how many stash buckets a note may name
abbrev pub stash_indices : ℕ
stash_indices = second_stash_index + 1

-- which of the two stash buckets the note names
abbrev pub note_index : ℕ → ℕ → ℕ
note_index i w1 = bit (note_index_from + i) w1

-- the fingerprint of a note: those of the lower note slots stand in w3, those of the upper ones in w1
abbrev pub note_finger : ℕ → ℕ → ℕ → ℕ
note_finger i w1 w3 =
    if nat_lt i lower_notes then bits (note_fingers_from + fingerprint_bits * i) fingerprint_bits w3
    else bits (upper_fingers_from + fingerprint_bits * (i - lower_notes)) fingerprint_bits w1

-- how many records of this bucket stand in the stash without a note
abbrev pub overflow_count : ℕ → ℕ
overflow_count w1 = bits count_from count_bits w1

-- from which bit of w1 on no field has a bit, behind the fingerprint of the last note slot
abbrev pub mark_spare_from : ℕ
mark_spare_from = last_finger_from + fingerprint_bits

-- how many bits these are, up to the word's last
abbrev pub mark_spare_bits : ℕ
mark_spare_bits = word_bits - mark_spare_from

-- the bits of w1 that no field has
abbrev pub spare_part : ℕ → ℕ
spare_part w1 = bits mark_spare_from mark_spare_bits w1

-- what w1 says of the record slots: which have a record, and which of these stand in their probing bucket
abbrev pub slots_part : ℕ → ℕ
slots_part w1 = w1 % 2 ^ marks_bits

-- what w3 says of them, the fingerprints of slots 8 to 13; and the fingerprints of two notes that stand above these
abbrev pub slot_fingers_part : ℕ → ℕ
slot_fingers_part w3 = w3 % 2 ^ note_fingers_from

abbrev pub note_fingers_part : ℕ → ℕ
note_fingers_part w3 = bits note_fingers_from note_fingers_bits w3

-- words 1 and 3 of a bucket, x1 and x3, say of its record slots what w1 and w3 say
pub record KeepsRecords (w1 w3 x1 x3 : ℕ) : Type 0 where
  pub slots : slots_part x1 ≡ slots_part w1
  pub fingers : slot_fingers_part x3 ≡ slot_fingers_part w3
