-- The buckets before this one are read.
use Rattle.std.proofs.Common.{◌≡◌, ℕ, ◌<◌, length}
use Rattle.bucket_meta.specs.declared.metadata.Meta.{Meta}
use Rattle.bucket_meta.specs.MetaWords.{IsMetaOf}
use Rattle.stash.specs.Segment.{bucket}
use Rattle.whole_segment.specs.Records.{first_in, third_in}
use Rattle.whole_segment.proofs.notes.metas_of.Given as goal

abbrev pub invariant-loop-bucket : goal.invariant-loop-bucket
invariant-loop-bucket l = record {
  long : length l.metas ≡ 64;
  read : (b : ℕ) (d : Meta) → b < l.bucket → IsMetaOf (bucket l.metas b d) (first_in l.loaded b) 0 (third_in l.loaded b);
}
