-- The lock words of the buckets before this one are free, and no others are changed.
use Rattle.std.proofs.Common.{◌≡◌, ◌≢◌, ◌*◌, ◌<◌, ℕ, length, slice_index}
use Rattle.image_layout.specs.Places.{block, words_of_buckets}
use Rattle.mend_op.specs.Words.{mended_lock}
use Rattle.mend_op.proofs.make.free_locks.Given as goal

abbrev pub invariant-loop-bucket : goal.invariant-loop-bucket
invariant-loop-bucket l = record {
  long : length l.words ≡ words_of_buckets;
  here : (b : ℕ) → b < l.bucket → slice_index l.words (block * b) ≡ mended_lock (slice_index l.fn.words (block * b));
  others : (i : ℕ) → ((b : ℕ) → b < l.bucket → i ≢ block * b) → slice_index l.words i ≡ slice_index l.fn.words i;
}
