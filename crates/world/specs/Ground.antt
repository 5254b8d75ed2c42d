-- What is fixed from the end of a restart to the close: how the image is laid out, the words of its structure, what each key had at the start, and how many callers there are.
use Rattle.std.specs.Prelude.{◌≡◌, ◌≢◌, ℕ, ◌^◌, ◌<◌, Option}
use Rattle.trace.specs.Events.{Words}
pub use Rattle.bucket_meta.specs.Bucket.{spent_lock}
use Rattle.image_layout.specs.Places.{Shape, IsShape, root_word, state_word, bucket_at, buckets, block}
pub use Rattle.image_layout.specs.Ranges.{IsUnder}
use Rattle.image_layout.specs.StateWord.{version_in}
use Rattle.frame_facts.specs.Claims.{HasSoundFrame}
use Rattle.sound_image.specs.Segments.{frame_of}
use Rattle.frame_facts.specs.Facts.{IsLiveSlot, IsCurrentSlot}

pub record Ground : Type 0 where
  pub shape : Shape
  -- the words of the structure: those in front of the segments, and their headers
  pub front : Words
  -- what a key had at the start
  pub start : ℕ → Option ℕ
  pub callers : ℕ

-- how many callers there are stays below this number: so the commit counter, which each of them may raise once after it was found below
-- `spent_count`, never wraps
abbrev pub callers_bound : ℕ
callers_bound = 2 ^ 32

-- the image has a shape, and the callers are too few to spend the commit counter
pub record IsGround (site : Ground) : Type 0 where
  pub shape : IsShape site.shape
  pub few : site.callers < callers_bound

-- a word is the lock word of a bucket
abbrev pub IsLockWord : Shape → ℕ → Type 0
IsLockWord shape lock = (s : ℕ) × (b : ℕ) × (s < shape.segments) × (b < buckets) × (lock ≡ bucket_at shape s b)

-- the version of the image
abbrev pub version_of : Ground → ℕ
version_of site = version_in (site.front state_word)

-- THE STRUCTURE of words is sound: headers, links, root and directory are, and the first words are those of the start but for the root
pub record IsStructured (site : Ground) (word : Words) : Type 0 where
  pub fixed : (i : ℕ) → i < block → i ≢ root_word → word i ≡ site.front i
  pub sound : HasSoundFrame site.shape word

-- a segment is live with the version of the image
abbrev pub IsCurrentIn : Ground → Words → ℕ → Type 0
IsCurrentIn site words s = IsCurrentSlot (frame_of site.shape words) (version_of site) s

-- a word is the lock word of a bucket of such a segment
abbrev pub IsCurrentLock : Ground → Words → ℕ → Type 0
IsCurrentLock site words lock = (s : ℕ) × (b : ℕ) × (s < site.shape.segments) × (b < buckets) × (lock ≡ bucket_at site.shape s b) × IsCurrentIn site words s

-- a word is the lock word of a bucket of a live segment
abbrev pub IsLiveLock : Shape → Words → ℕ → Type 0
IsLiveLock shape words lock = (s : ℕ) × (b : ℕ) × (s < shape.segments) × (b < buckets) × (lock ≡ bucket_at shape s b) × IsLiveSlot (frame_of shape words) s

-- a lock word of a live segment that is free with the last version
abbrev pub IsSpentLock : Shape → Words → ℕ → Type 0
IsSpentLock shape words lock = IsLiveLock shape words lock × (words lock ≡ spent_lock)

-- some lock word is
abbrev pub HasSpentLock : Shape → Words → Type 0
HasSpentLock shape words = (lock : ℕ) × IsSpentLock shape words lock
