-- The load of a bucket.
use Rattle.std.specs.Prelude.{ℕ, ◌+◌, nat_lt, if◌then◌else◌, slice_set, replicate}
use Rattle.phase.specs.declared.load.Load.{Load}
use Rattle.phase.specs.declared.load.Loaded.{Loaded}
use Rattle.phase.specs.declared.load.Loaded.TheVariants.{On, All}
use Rattle.bucket_meta.specs.Bucket.{mark_place}
use Rattle.image_layout.specs.Places.{block, last_word}

abbrev pub load_begun : Load
load_begun = record { words = replicate block 0; next = mark_place }

abbrev pub load_taken : Load → ℕ → Loaded
load_taken load seen =
    if nat_lt load.next last_word then On (record { words = slice_set load.words load.next seen; next = load.next + 1 })
    else All (slice_set load.words load.next seen)
