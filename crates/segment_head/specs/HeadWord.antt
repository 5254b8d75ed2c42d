-- The fields of the header word of a segment.
use Rattle.std.specs.Prelude.{◌≡◌, ◌⊎◌, ℕ, zero, suc, Bool, Option, None, Some, ◌==◌, ◌||◌, ◌+◌, ◌*◌, ◌/◌, ◌^◌, ◌≤◌}
use Rattle.word_bits.specs.Bits.{bits}
use Rattle.hash_word.specs.Hash.{version_bits}
pub use Rattle.hash_word.specs.Hash.{version_in}

-- how many bits each field behind the version has, and the lowest bit of each; they follow one another, the version from bit 0 on, and spare bits are no field
abbrev pub state_bits : ℕ
state_bits = 8

abbrev pub depth_bits : ℕ
depth_bits = 8

abbrev pub spare_bits : ℕ
spare_bits = 8

abbrev pub pattern_bits : ℕ
pattern_bits = 32

abbrev pub state_from : ℕ
state_from = version_bits

abbrev pub depth_from : ℕ
depth_from = state_from + state_bits

abbrev pub spare_from : ℕ
spare_from = depth_from + depth_bits

abbrev pub pattern_from : ℕ
pattern_from = spare_from + spare_bits

-- bits 8 to 15: the state
abbrev pub state_in : ℕ → ℕ
state_in h1 = bits state_from state_bits h1

-- bits 16 to 23: the local depth
abbrev pub depth_in : ℕ → ℕ
depth_in h1 = bits depth_from depth_bits h1

-- bits 32 to 63: the pattern
abbrev pub pattern_in : ℕ → ℕ
pattern_in h1 = h1 / 2 ^ pattern_from

-- a header word of these fields, with bits 24 to 31 zero
abbrev pub header_of : ℕ → ℕ → ℕ → ℕ → ℕ
header_of version state depth pattern = version + 2 ^ state_from * state + 2 ^ depth_from * depth + 2 ^ pattern_from * pattern

-- the numbers of the four states
abbrev pub free : ℕ
free = 0

abbrev pub normal : ℕ
normal = 1

abbrev pub splitting : ℕ
splitting = 2

abbrev pub fresh : ℕ
fresh = 3

-- the last of them: a greater number is none
abbrev pub last_state : ℕ
last_state = fresh

-- a live segment is normal or splitting
abbrev pub is_live : ℕ → Bool
is_live h1 = (state_in h1 == normal) || (state_in h1 == splitting)

abbrev pub HasLiveState : ℕ → Type 0
HasLiveState h1 = (state_in h1 ≡ normal) ⊎ (state_in h1 ≡ splitting)

-- THE LINK, the header word behind that one, where it links this slot
abbrev pub link_to : ℕ → ℕ
link_to slot = suc slot

-- and where it links none
abbrev pub no_link : ℕ
no_link = 0

-- a link names one of so many slots, or none
abbrev pub LinksWithin : (slots link : ℕ) → Type 0
LinksWithin slots link = link ≤ slots

-- and the slot that a link names, where it names one
abbrev pub linked_in : ℕ → Option ℕ
linked_in zero = None
linked_in (suc slot) = Some slot
