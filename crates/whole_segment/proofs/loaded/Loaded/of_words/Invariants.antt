-- The words of the buckets before this one are put.
use Rattle.std.proofs.Common.{◌≡◌, ◌<◌, ℕ}
use Rattle.bucket_meta.specs.Bucket.{record_slots}
use Rattle.whole_segment.specs.Records.{first_in, third_in, key_in, first_of, third_of, key_of}
use Rattle.whole_segment.proofs.loaded.Loaded.of_words.Given as goal

abbrev pub invariant-loop-bucket : goal.invariant-loop-bucket
invariant-loop-bucket l = record {
  first : (b : ℕ) → b < l.bucket → first_in l.loaded b ≡ first_of l.words b;
  third : (b : ℕ) → b < l.bucket → third_in l.loaded b ≡ third_of l.words b;
  keys : (b r : ℕ) → b < l.bucket → r < record_slots → key_in l.loaded b r ≡ key_of l.words b r;
}
