-- What one bucket more adds to what the stash has for the first of them.
use Rattle.std.proofs.Common.{◌≡◌, ℕ, ◌+◌, ap, add-one}
use Rattle.image_layout.specs.Places.{Shape}
use Rattle.sound_image.specs.Segments.{ImageWords}
use Rattle.picture.specs.Counts.{stashed, stashed_below}

pub one_bucket : (shape : Shape) (word : ImageWords) (s n : ℕ) → stashed_below (n + 1) shape word s ≡ stashed_below n shape word s + stashed shape word s n
one_bucket shape word s n = ap (λ m. stashed_below m shape word s) (add-one n)
