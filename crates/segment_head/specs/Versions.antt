-- The version byte of a header word, taken out.
use Rattle.std.specs.Prelude.{ℕ, ◌*◌, ◌/◌, ◌^◌}
use Rattle.hash_word.specs.Hash.{version_bits}

-- the header word with 0 as its version byte, and all its other bits
abbrev pub unversioned : ℕ → ℕ
unversioned h1 = h1 / 2 ^ version_bits * 2 ^ version_bits
