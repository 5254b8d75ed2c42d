-- Exact overflow data: what a home bucket and its probing bucket say of the records of that home in the stash.
use Rattle.std.specs.Prelude.{ℕ, ◌+◌, ◌<◌, List, ◌++◌, slice_index}
use Rattle.bucket_meta.specs.declared.metadata.Meta.{Meta}
use Rattle.word_bits.specs.Bits.{bit}
use Rattle.bucket_meta.specs.Bucket.{home_side, probing_side}
use Rattle.bucket_meta.specs.Notes.{OverflowNote, how_often, notes_on, AreExact}

-- the notes of one side of a bucket: `home_side` is of its own home, `probing_side` of the home that has it as its probing bucket
abbrev pub notes_at : Meta → ℕ → List OverflowNote
notes_at meta side = notes_on (λ i. bit i meta.used) (λ i. bit i meta.omember) (λ i. slice_index meta.ofps i) (λ i. bit i meta.oindex) side

-- the notes of a home: those in its own bucket and those in its probing bucket
abbrev pub notes_of : (home probe : Meta) → List OverflowNote
notes_of home probe = notes_at home home_side ++ notes_at probe probing_side

-- the notes and the count of a home are exact for its records in the stash
abbrev pub IsExactFor : (home probe : Meta) → List OverflowNote → Type 0
IsExactFor home probe stashed = AreExact (notes_of home probe) home.ocount stashed

-- a note of the home names this fingerprint and this stash bucket
abbrev pub IsNamed : (home probe : Meta) → OverflowNote → Type 0
IsNamed home probe note = 0 < how_often note (notes_of home probe)

-- a note of the home names this fingerprint and this stash bucket, or some record of the home has no note
abbrev pub IsNotedOrCounted : (home probe : Meta) → OverflowNote → Type 0
IsNotedOrCounted home probe note = 0 < how_often note (notes_of home probe) + home.ocount
