-- Words as a list, each by its number, and which of them is a word of a bucket.
use Rattle.std.specs.Prelude.{ℕ, List, map, slice_index}
use Rattle.std.specs.List.{range_with_len}
use Rattle.image_layout.specs.Places.{word_among_buckets}

-- words 0 to n - 1
unfoldable pub words_by : ℕ → (ℕ → ℕ) → List ℕ
words_by n word = map word (range_with_len 0 n)

-- word n of bucket b, of a list of the words of all buckets
abbrev pub word_of_bucket : List ℕ → ℕ → ℕ → ℕ
word_of_bucket words b n = slice_index words (word_among_buckets b n)
