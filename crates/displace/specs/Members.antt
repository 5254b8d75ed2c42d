-- Whose the records of a bucket are: its own, or its members, which stand in it as their probing bucket.
use Rattle.std.specs.Prelude.{◌≡◌, ℕ, ◌<◌}
use Rattle.bucket_meta.specs.declared.metadata.Meta.{Meta}
use Rattle.word_bits.specs.Bits.{bit}

-- each record in the slots below n is a member
abbrev pub OnlyMembersBelow : ℕ → Meta → Type 0
OnlyMembersBelow n m = (s : ℕ) → s < n → bit s m.alloc ≡ 1 → bit s m.member ≡ 1

-- no record in the slots below n is a member
abbrev pub NoMembersBelow : ℕ → Meta → Type 0
NoMembersBelow n m = (s : ℕ) → s < n → bit s m.alloc ≡ 1 → bit s m.member ≡ 0
