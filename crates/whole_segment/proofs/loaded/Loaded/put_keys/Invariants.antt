-- The keys before this one are put, and nothing else is changed.
use Rattle.std.proofs.Common.{◌≡◌, ◌<◌, ℕ}
use Rattle.bucket_meta.specs.Bucket.{record_slots}
use Rattle.whole_segment.specs.Records.{key_in, key_of}
use Rattle.whole_segment.proofs.loaded.Loaded.put_keys.Given as goal

abbrev pub invariant-loop-slot : goal.invariant-loop-slot
invariant-loop-slot l = record {
  here : (r : ℕ) → r < l.slot → key_in l.self l.bucket r ≡ key_of l.words l.bucket r;
  others : (b r : ℕ) → b < l.bucket → r < record_slots → key_in l.self b r ≡ key_in l.fn.self b r;
  first : l.self.first ≡ l.fn.self.first;
  third : l.self.third ≡ l.fn.self.third;
}
