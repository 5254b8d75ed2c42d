-- What a reader has to note of buckets to place an answer.
use Rattle.std.specs.Prelude.{◌≡◌, ℕ, ◌<◌, ◌⊎◌, None, Some, List}
use Rattle.hash_word.specs.Hash.{home_of, probing_of, finger_of}
use Rattle.trace.specs.Events.{Words}
use Rattle.image_layout.specs.Places.{Shape, bucket_at, stash_bucket, stash_buckets}
use Rattle.sound_image.specs.Records.{key_hash}
use Rattle.frame_facts.specs.Buckets.{value_in}
use Rattle.frame_facts.specs.Hits.{Hit}
use Rattle.frame_facts.specs.Owners.{owner_of}
use Rattle.world.specs.Ground.{Ground, IsUnder}
use Rattle.world.specs.Views.{Glance, View, Has}
use Rattle.world.specs.Kinds.{places}
use Rattle.world.specs.Conditions.{IsNow, May}
use Rattle.frame_facts.specs.HomeNotes.{IsUnnoted}

-- the 31 words behind the lock word of a bucket are noted: they are those of `word`
pub record NotedBucket (shape : Shape) (notes : List Glance) (s b : ℕ) (word : Words) : Type 0 where
  pub note : Glance
  pub has : Has note notes
  pub lock : note.word ≡ bucket_at shape s b
  pub words : (i : ℕ) → IsUnder (bucket_at shape s b) i → Has (i, word i) note.words

-- whenever all noted locks are free and the noted header is as it was, the segment owns the key
abbrev pub IsLedThen : Ground → List Glance → ℕ → ℕ → Type 0
IsLedThen site notes s k = (words : Words) → IsNow site notes words → owner_of site.shape words (key_hash site.shape k) ≡ Some s

-- a reader looked in the key's home and probing bucket, and in each stash bucket that it had to visit
pub record Looked (site : Ground) (notes : List Glance) (word : Words) (s k : ℕ) : Type 0 where
  pub segment : s < site.shape.segments
  pub led : IsLedThen site notes s k
  pub home : NotedBucket site.shape notes s (home_of (key_hash site.shape k)) word
  pub probing : NotedBucket site.shape notes s (probing_of (home_of (key_hash site.shape k))) word

-- the answers of a get: none, where the key stands in no bucket that it looked in, or the value of its record
pub record MayAnswer (site : Ground) (v : View) : Type 0 where
  pub none : (s k : ℕ) (word : Words) → Looked site v.notes word s k
      → ((t : ℕ) → Hit site.shape word s (home_of (key_hash site.shape k)) t k → ⊥) → ((t : ℕ) → Hit site.shape word s (probing_of (home_of (key_hash site.shape k))) t k → ⊥)
      → ((c : ℕ) → c < stash_buckets → (NotedBucket site.shape v.notes s (stash_bucket c) word × ((t : ℕ) → Hit site.shape word s (stash_bucket c) t k → ⊥))
      ⊎ IsUnnoted site.shape word s (home_of (key_hash site.shape k)) (finger_of (key_hash site.shape k)) c)
      → May site (places k None) v
  pub some : (s b r k : ℕ) (word : Words) → Looked site v.notes word s k → NotedBucket site.shape v.notes s b word → Hit site.shape word s b r k
      → May site (places k (Some (value_in word (bucket_at site.shape s b) r))) v
