-- Some bits of a word as a number. Bits are counted from 0, the lowest.
use Rattle.std.specs.Prelude.{ℕ, ◌/◌, ◌%◌, ◌^◌, nat_lt, if◌then◌else◌}

-- how many bits a word has
abbrev pub word_bits : ℕ
word_bits = 64

-- the number that so many bits of a word make, from bit low upwards
abbrev pub bits : ℕ → ℕ → ℕ → ℕ
bits low count w = w / 2 ^ low % 2 ^ count

-- bit i of a word, 0 or 1
abbrev pub bit : ℕ → ℕ → ℕ
bit i w = bits i 1 w

-- a word with bit i alone, which is 0 past the word's end
abbrev pub mask : ℕ → ℕ
mask i = if nat_lt i word_bits then 2 ^ i else 0
