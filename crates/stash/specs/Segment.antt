-- Exact overflow data of a whole segment, of 64 buckets.
use Rattle.std.specs.Prelude.{ℕ, ◌<◌, ◌==◌, List, slice_index_or, filter, map}
use Rattle.bucket_meta.specs.declared.metadata.Meta.{Meta}
use Rattle.bucket_meta.specs.Notes.{OverflowNote}
use Rattle.hash_word.specs.Hash.{probing_of}
use Rattle.image_layout.specs.Places.{homes, stash_buckets}
use Rattle.stash.specs.Exact.{IsExactFor}
use Rattle.stash.specs.NoteSlots.{SameSlots}

-- a record in the stash, as its home bucket, its fingerprint and its stash bucket
abbrev pub Stashed : Type 0
Stashed = ℕ × ℕ × ℕ

-- the records of one home
abbrev pub of_home : List Stashed → ℕ → List OverflowNote
of_home records home = map (λ entry. (entry.1, entry.2)) (filter (λ entry. entry.0 == home) records)

-- a record of one of the 64 homes that stands in one of the stash buckets
abbrev pub IsStashed : Stashed → Type 0
IsStashed entry = (entry.0 < homes) × (entry.2 < stash_buckets)

-- bucket b of the 64, where d stands for what no list of 64 lacks
abbrev pub bucket : List Meta → ℕ → Meta → Meta
bucket metas b d = slice_index_or metas b d

-- the notes and the count of each of the 64 homes are exact for its records
abbrev pub IsExactSegment : List Meta → List Stashed → Type 0
IsExactSegment metas records = (b : ℕ) (d : Meta) → b < homes → IsExactFor (bucket metas b d) (bucket metas (probing_of b) d) (of_home records b)

-- all that is said of the record slots of the 64 buckets is as it was
abbrev pub SameSlotsInAll : (old new : List Meta) → Type 0
SameSlotsInAll old new = (b : ℕ) (d : Meta) → b < homes → SameSlots (bucket old b d) (bucket new b d)
