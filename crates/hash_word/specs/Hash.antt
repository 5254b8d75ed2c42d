-- The hash of a key, and what the bits of a hash say: a fingerprint, a home bucket, and a place in the directory.
use Rattle.std.specs.Prelude.{◌≡◌, ℕ, ◌+◌, ◌-◌, ◌*◌, ◌/◌, ◌%◌, ◌^◌, bit_xor}
use Rattle.hash_word.specs.declared.Kind.{Kind}
use Rattle.hash_word.specs.declared.Kind.TheVariants.{Identity, Mix}

-- a number with its own upper bits mixed into its lower ones
abbrev pub folded : ℕ → ℕ → ℕ
folded shift z = bit_xor z (z / 2 ^ shift)

-- the finalizer of SplitMix64, products modulo 2^64
abbrev pub mixed : ℕ → ℕ
mixed z = folded 31 (folded 27 (folded 30 z * 0xBF58476D1CE4E5B9 % 2 ^ 64) * 0x94D049BB133111EB % 2 ^ 64)

-- the hash of a key
abbrev pub hash_of : Kind → ℕ → ℕ
hash_of Identity key = key
hash_of Mix key = mixed key

-- how many bits a fingerprint has
abbrev pub fingerprint_bits : ℕ
fingerprint_bits = 8

-- the bits of a fingerprint, which are the lowest ones
abbrev pub finger_mask : ℕ
finger_mask = 2 ^ fingerprint_bits - 1

-- bits 0 to 7 are the fingerprint
abbrev pub finger_of : ℕ → ℕ
finger_of h = h % 2 ^ fingerprint_bits

-- how many home buckets a segment has
abbrev pub homes : ℕ
homes = 64

-- bits 8 to 13 are the number of the home bucket
abbrev pub home_of : ℕ → ℕ
home_of h = h / 2 ^ fingerprint_bits % homes

-- the probing bucket of a home bucket is the next one, and the first after the last
abbrev pub probing_of : ℕ → ℕ
probing_of home = (home + 1) % homes

-- the bucket after the probing bucket of a home bucket
abbrev pub next_of : ℕ → ℕ
next_of home = (home + 2) % homes

-- the bucket before a home bucket, and the last before the first
abbrev pub previous_of : ℕ → ℕ
previous_of home = (home + (homes - 1)) % homes

-- how many bits a hash has
abbrev pub hash_bits : ℕ
hash_bits = 64

-- the top d of them
abbrev pub top : ℕ → ℕ → ℕ
top d h = h / 2 ^ (hash_bits - d)

-- a prefix is a depth and a pattern. The first place under it in a directory of depth g; the first one under the next pattern of its depth is behind them all
abbrev pub first_under : (g depth pattern : ℕ) → ℕ
first_under g depth pattern = pattern * 2 ^ (g - depth)

-- the first of the hashes whose top bits, as many as the depth, are this number: hashes are the places of a directory that is as deep as they have bits
abbrev pub first_hash_of : ℕ → ℕ → ℕ
first_hash_of depth number = first_under hash_bits depth number

-- the greatest depth that a directory may have
abbrev pub most_depth : ℕ
most_depth = 16

-- how many bits the version of an image has, in its state word and in each header word
abbrev pub version_bits : ℕ
version_bits = 8

-- bits 0 to 7 of either: in the state word the version of the image, and in a header word that of the image when its segment was last current
abbrev pub version_in : ℕ → ℕ
version_in w = w % 2 ^ version_bits

-- the place of a hash in a directory of depth g
abbrev pub index_of : ℕ → ℕ → ℕ
index_of g h = top g h

-- a segment of this depth and pattern covers a hash whose top bits are the pattern
abbrev pub Covers : ℕ → ℕ → ℕ → Type 0
Covers depth pattern h = top depth h ≡ pattern

-- the place over place i that is so many depths less deep
abbrev pub place_over : (depths i : ℕ) → ℕ
place_over depths i = i / 2 ^ depths

-- entry i of a directory of depth g lies under a prefix: the hashes whose entry it is have the pattern as their top bits, as many as the depth
abbrev pub IsUnderPrefix : (g depth pattern i : ℕ) → Type 0
IsUnderPrefix g depth pattern i = place_over (g - depth) i ≡ pattern
