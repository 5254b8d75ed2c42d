-- The buckets of a key, and their lock words.
use Rattle.std.specs.Prelude.{ℕ, Bool, true, false}
use Rattle.hash_word.specs.Hash.{home_of, next_of, previous_of}
use Rattle.bucket_meta.specs.Bucket.{first_stash_index, second_stash_index}
use Rattle.image_layout.specs.Standing.{looked_at}
use Rattle.way.specs.Ways.{bucket_word}
use Rattle.world.specs.declared.site.Site.{Site}
use Rattle.phase.specs.declared.role.Role.{Role}
use Rattle.phase.specs.declared.role.Role.TheVariants.{Second, Next, Previous}
use Rattle.phase.specs.Asked.{index}

-- the number of the bucket, for a hash: of those where its key may stand by the order in which it is looked for, and the home's two neighbours
abbrev pub bucket_of_role : ℕ → Role → ℕ
bucket_of_role hash Next = next_of (home_of hash)
bucket_of_role hash Previous = previous_of (home_of hash)
bucket_of_role hash place = looked_at (home_of hash) (index place)

-- the number of a stash bucket among the two, as a note names it; that of the first for a bucket that is none
abbrev pub stash_index : Role → ℕ
stash_index Second = second_stash_index
stash_index place = first_stash_index

-- a third bucket: no key of this hash stands there, and room is made by it
abbrev pub is_third : Role → Bool
is_third Next = true
is_third Previous = true
is_third place = false

-- the lock word of the bucket, for a hash and a segment
abbrev pub lock_word : Site → ℕ → ℕ → Role → ℕ
lock_word here hash segment place = bucket_word here.geometry segment (bucket_of_role hash place)
