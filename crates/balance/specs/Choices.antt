-- Which of its two buckets takes a new record: the one with fewer records, home where both have as many, and neither where both
-- are full.
use Rattle.std.specs.Prelude.{◌≡◌, ◌≢◌, ℕ, nat_lt, None, if◌then◌else◌}
use Rattle.bucket_meta.specs.Bucket.{record_slots, records_of}
use Rattle.bucket_meta.specs.Search.{lowest_free}
use Rattle.balance.specs.declared.choice.Choice.{Choice}
use Rattle.balance.specs.declared.choice.Choice.TheVariants.{Home, Probe, Neither}

-- by how many records each has
abbrev pub choice_by : ℕ → ℕ → Choice
choice_by home probe = if nat_lt probe home then Probe else if nat_lt home record_slots then Home else Neither

-- and by their metadata words
abbrev pub choice_of : ℕ → ℕ → Choice
choice_of w1 u1 = choice_by (records_of w1) (records_of u1)

-- A CHOICE HAS ROOM, by the metadata words of home and probing bucket: the bucket that is chosen has a free slot, and where neither
-- is, neither has one
pub record HasRoom (w1 u1 : ℕ) : Type 0 where
  pub home : choice_of w1 u1 ≡ Home → lowest_free w1 ≢ None
  pub probe : choice_of w1 u1 ≡ Probe → lowest_free u1 ≢ None
  pub neither : choice_of w1 u1 ≡ Neither → (lowest_free w1 ≡ None) × (lowest_free u1 ≡ None)
