-- The words of a stale segment of one's own: they are held, and its version is not the image's.
use Rattle.std.proofs.Common.{ℕ, ◌+◌, ◌<◌, inr, sym, ap, ◌∙◌}
use Rattle.trace.specs.Events.{Words}
use Rattle.segment_head.specs.HeadWord.{version_in}
use Rattle.image_layout.specs.Places.{block, bucket_at, buckets}
use Rattle.world.specs.Ground.{Ground, IsCurrentIn}
use Rattle.world.specs.Views.{View}
use Rattle.world.specs.areas.Areas.{Stale, header_word}
use Rattle.world.specs.areas.Fitting.{HoldsWord}
use Rattle.world.specs.areas.Asking.{MayBeNewest}
use Rattle.world.specs.areas.Repairing.{HasStale}
use Rattle.world.proofs.holders.directing.Clearing.{bucket_in_slot}

module _ (site : Ground) (v : View) (s : ℕ) (word : Words) (mine : HasStale site v s word) where
  -- each word of its buckets is held
  pub holds_bucket : (b m : ℕ) → b < buckets → m < block → HoldsWord site.shape v (bucket_at site.shape s b + m)
  holds_bucket b m near inside = inr (Stale s, mine.stale, bucket_in_slot site.shape s b m near inside)

  -- it is not current
  pub not_current : (words : Words) → MayBeNewest site v words → IsCurrentIn site words s → ⊥
  not_current words new is =
      let i = header_word site.shape s in
      mine.old (ap version_in (sym (new.knows i (word i) mine.header.known)) ∙ is.current)
