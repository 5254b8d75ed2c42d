-- The search from the note slot that is looked at gives what the whole search gives.
use Rattle.std.proofs.Common.{◌≡◌, ◌-◌}
use Rattle.bucket_meta.specs.NoteWords.{is_unused, unused_place}
use Rattle.bucket_meta.specs.Search.{lowest_among}
use Rattle.bucket_meta.proofs.words.unused_place.Given as goal

abbrev pub invariant-loop-place : goal.invariant-loop-place
invariant-loop-place l = unused_place l.w1 ≡ lowest_among (is_unused l.w1) l.place (4 - l.place)
