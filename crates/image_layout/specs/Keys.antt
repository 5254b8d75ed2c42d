-- The hash of a key, by the kind of hash that an image is laid out with.
use Rattle.std.specs.Prelude.{ℕ, ◌==◌, if◌then◌else◌}
use Rattle.hash_word.specs.declared.Kind.TheVariants.{Identity, Mix}
use Rattle.hash_word.specs.Hash.{hash_of}
use Rattle.image_layout.specs.Places.{Shape, identity_kind}

-- the hash of a key in an image of this kind
abbrev pub key_hash : Shape → ℕ → ℕ
key_hash shape key = if shape.kind == identity_kind then hash_of Identity key else hash_of Mix key
