-- What a view with areas knows and has not loose is so in the newest words and in whatever medium stands beside them.
use Rattle.std.proofs.Common.{◌≡◌, ℕ, ◌+◌, ◌<◌, ◌≤◌, ap, sym, ◌∙◌}
use Rattle.trace.specs.Events.{Words}
use Rattle.image_layout.specs.Places.{Shape, block, bucket_at, buckets}
use Rattle.world.specs.Ground.{Ground, IsUnder}
use Rattle.world.specs.Views.{View}
use Rattle.world.specs.Holders.{KnowsWord}
use Rattle.world.specs.areas.Asking.{MayBeNewest, MayStandBeside}
use Rattle.world.specs.areas.Splitting.{KnowsBuckets}
use Rattle.world.proofs.basics.Grounds.{under_lock}

-- words have what a view knows and has not loose
abbrev pub Shows : View → Words → Type 0
Shows v w = (i x : ℕ) → KnowsWord v i x → w i ≡ x

pub shown_now : (site : Ground) (v : View) (words : Words) → MayBeNewest site v words → Shows v words
shown_now site v words now i x k = now.knows i x k.known

pub shown_beside : (site : Ground) (v : View) (words medium : Words) → MayStandBeside site v words medium → Shows v medium
shown_beside site v words medium beside i x k = beside.agrees i x k.known k.firm

-- words have the buckets of a segment that others have, but for their lock words
abbrev pub HasBuckets : Shape → Words → Words → ℕ → Type 0
HasBuckets shape word w s = (b m : ℕ) → b < buckets → 1 ≤ m → m < block → w (bucket_at shape s b + m) ≡ word (bucket_at shape s b + m)

pub shown_buckets : (shape : Shape) (v : View) (word w : Words) (s : ℕ) → Shows v w → KnowsBuckets shape v s word → HasBuckets shape word w s
shown_buckets shape v word w s shows knows b m near above inside = shows (bucket_at shape s b + m) (word (bucket_at shape s b + m)) (knows b m near above inside)

-- so they have each word under the lock of such a bucket
pub under_same : (shape : Shape) (word w : Words) (s b : ℕ) → b < buckets → HasBuckets shape word w s → (i : ℕ) → IsUnder (bucket_at shape s b) i → w i ≡ word i
under_same shape word w s b near same i under =
    let u = under_lock shape s b i under in ap w u.3 ∙ same b u.0 near u.1 u.2 ∙ sym (ap word u.3)
