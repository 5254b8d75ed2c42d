-- What is remembered where nothing could be moved: the words of the third buckets were loaded, and by the first metadata words of all
-- four no record can be moved to make room.
use Rattle.std.specs.Prelude.{ℕ, List, slice_index}
use Rattle.bucket_meta.specs.Bucket.{mark_place}
use Rattle.part.specs.Room.{NothingMoves}
use Rattle.phase.specs.declared.role.Role.TheVariants.{Next, Previous}
use Rattle.phase.specs.declared.kept.Kept.{Kept}
use Rattle.phase.specs.Keeps.{WasLoaded}

pub record NothingToMove (kept : Kept) (loads : List (ℕ × ℕ)) : Type 0 where
  pub next : WasLoaded kept loads Next
  pub previous : WasLoaded kept loads Previous
  pub moves : NothingMoves (slice_index kept.buckets.home mark_place) (slice_index kept.buckets.probing mark_place) (slice_index kept.buckets.next mark_place) (slice_index kept.buckets.previous mark_place)
