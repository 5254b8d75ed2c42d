-- The buckets before this one are written.
use Rattle.std.proofs.Common.{◌≡◌, ℕ, ◌<◌, length, get_or}
use Rattle.bucket_meta.specs.declared.metadata.Meta.{Meta}
use Rattle.bucket_meta.specs.MetaWords.{IsMetaOf}
use Rattle.word_bits.specs.Bits.{bits}
use Rattle.stash.specs.Segment.{bucket}
use Rattle.whole_segment.proofs.notes.words_of.Given as goal

abbrev pub invariant-loop-bucket : goal.invariant-loop-bucket
invariant-loop-bucket l = record {
  long : length l.first ≡ 64;
  as_long : length l.third ≡ 64;
  upper : (b : ℕ) → b < l.bucket → bits 61 3 (get_or l.first b 0) ≡ 0;
  written : (b : ℕ) (d : Meta) → b < l.bucket → (w2 : ℕ) × IsMetaOf (bucket l.metas b d) (get_or l.first b 0) w2 (get_or l.third b 0);
}
