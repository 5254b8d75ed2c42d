-- The file of an image is never longer than what is read of a store.
use Rattle.std.proofs.Common.{ℕ, ◌+◌, ◌-◌, ◌*◌, ◌/◌, ◌^◌, ◌≤◌, List, length, arith}
use Rattle.image_layout.specs.Places.{Shape, IsShape, words_of, most_words}
use Rattle.image_layout.proofs.Areas.{power_le}
use Rattle.sound_image.specs.Image.{image_bytes, IsSoundImage}
use Rattle.image_file.proofs.FileWords.{length-image_bytes}

at_most : (areas segments : ℕ) → areas ≤ 131072 → segments ≤ 16384 → (32 + areas - 1 + 31) / 32 * 32 + 2144 * segments ≤ most_words
at_most areas segments a s = omega arith

words-le : (shape : Shape) → IsShape shape → words_of shape ≤ most_words
words-le shape is =
    let deep : shape.depth + 1 ≤ 17 = omega (arith, is.depth) in
    at_most (2 ^ (shape.depth + 1)) shape.segments (power_le (shape.depth + 1) 17 deep) is.segments

pub file-le : (shape : Shape) (words : List ℕ) → IsSoundImage shape words → length (image_bytes words) ≤ 282067200
file-le shape words sound = omega (arith, length-image_bytes words, sound.whole, words-le shape sound.in_range)
