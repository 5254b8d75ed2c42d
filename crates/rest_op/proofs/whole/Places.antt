-- Where the words of the segment stand.
use Rattle.std.proofs.Common.{◌≡◌, ℕ, ◌+◌, ◌*◌, ◌<◌, arith}
use Rattle.image_layout.specs.Places.{Shape, head_at, bucket_at, block}
use Rattle.world.specs.areas.Areas.{header_word}
use Rattle.world.specs.areas.Splitting.{link_word}

-- header, link and buckets are apart
pub no_header : (shape : Shape) (s b m : ℕ) → bucket_at shape s b + m ≡ header_word shape s → ⊥
no_header shape s b m e = by (head_at shape s) b m e
  where
    by : (f b m : ℕ) → f + 32 + 32 * b + m ≡ f + 1 → ⊥
    by f b m e = omega (arith, e)

pub no_link : (shape : Shape) (s b m : ℕ) → bucket_at shape s b + m ≡ link_word shape s → ⊥
no_link shape s b m e = by (head_at shape s) b m e
  where
    by : (f b m : ℕ) → f + 32 + 32 * b + m ≡ f + 2 → ⊥
    by f b m e = omega (arith, e)

pub link_no_header : (shape : Shape) (s : ℕ) → link_word shape s ≡ header_word shape s → ⊥
link_no_header shape s e = by (head_at shape s) e
  where
    by : (f : ℕ) → f + 2 ≡ f + 1 → ⊥
    by f e = omega (arith, e)

-- a word of a bucket is one of one bucket
pub same_bucket : (shape : Shape) (s b c m n : ℕ) → m < block → n < block → bucket_at shape s b + m ≡ bucket_at shape s c + n → (b ≡ c) × (m ≡ n)
same_bucket shape s b c m n low near e = by (head_at shape s) b c m n low near e
  where
    by : (f b c m n : ℕ) → m < 32 → n < 32 → f + 32 + 32 * b + m ≡ f + 32 + 32 * c + n → (b ≡ c) × (m ≡ n)
    by f b c m n low near e = (omega (arith, low, near, e), omega (arith, low, near, e))
