use Rattle.std.proofs.Common.{ℕ, ◌<◌}
use Rattle.bucket_meta.specs.declared.metadata.Meta.{Meta}
use Rattle.stash.specs.NoteSlots.{IsBare}
use Rattle.stash.specs.Segment.{SameSlotsInAll, bucket}
use Rattle.stash.proofs.segment.clear_all.Given as goal

abbrev pub invariant-loop-meta : goal.invariant-loop-meta
invariant-loop-meta l = record { bare : (b : ℕ) (d : Meta) → b < l.meta-index → IsBare (bucket l.metas b d); slots : SameSlotsInAll l.fn.metas l.metas }
