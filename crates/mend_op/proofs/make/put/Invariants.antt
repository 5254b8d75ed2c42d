-- The words of the buckets before this one are put, and no others are changed.
use Rattle.std.proofs.Common.{◌≡◌, ◌≢◌, ◌+◌, ◌*◌, ◌<◌, ℕ, length, slice_index}
use Rattle.image_layout.specs.Places.{block, words_of_buckets}
use Rattle.mend_op.proofs.make.put.Given as goal

abbrev pub invariant-loop-bucket : goal.invariant-loop-bucket
invariant-loop-bucket l = record {
  long : length l.words ≡ words_of_buckets;
  here : (b : ℕ) → b < l.bucket → slice_index l.words (block * b + l.number) ≡ slice_index l.values b;
  others : (i : ℕ) → ((b : ℕ) → b < l.bucket → i ≢ block * b + l.number) → slice_index l.words i ≡ slice_index l.fn.words i;
}
