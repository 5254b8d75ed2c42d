-- The buckets before this one are marked.
use Rattle.std.proofs.Common.{◌≡◌}
use Rattle.bucket_meta.specs.Marks.{cleared_mark}
use Rattle.sound_image.specs.Records.{key_hash}
use Rattle.whole_segment.specs.Records.{first_in, key_in, IsCovered}
use Rattle.whole_segment.proofs.marking.Marking.{AreMarkedBelow}
use Rattle.whole_segment.proofs.loaded.Loaded.without_half.Given as goal

abbrev pub invariant-loop-bucket : goal.invariant-loop-bucket
invariant-loop-bucket l = record {
  marks : AreMarkedBelow cleared_mark (IsCovered (first_in l.self) (key_in l.self) (key_hash l.geometry) l.depth l.pattern) (first_in l.self) (first_in l.rest) l.bucket;
  third : l.rest.third ≡ l.self.third;
  keys : l.rest.keys ≡ l.self.keys;
}
