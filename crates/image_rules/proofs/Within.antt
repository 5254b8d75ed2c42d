-- Words that are within an image.
use Rattle.std.proofs.Common.{◌≡◌, ℕ, ◌+◌, ◌<◌, ◌≤◌, arith}
use Rattle.image_layout.specs.Places.{Shape, words_of}

-- a word of the front
pub in_front : (shape : Shape) (long i : ℕ) → long ≡ words_of shape → i < 32 → i < long
in_front shape long i whole below = omega arith

-- word i of a bucket that ends within
pub in_bucket : (long whole from i : ℕ) → long ≡ whole → from + 32 ≤ whole → i < 32 → from + i < long
in_bucket long whole from i same ends below = omega arith
