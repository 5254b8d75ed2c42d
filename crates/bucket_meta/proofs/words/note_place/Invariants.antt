-- The search from the note slot that is looked at gives what the whole search gives.
use Rattle.std.proofs.Common.{◌≡◌, ◌-◌}
use Rattle.bucket_meta.specs.Visits.{is_note}
use Rattle.bucket_meta.specs.NoteWords.{note_place}
use Rattle.bucket_meta.specs.Search.{lowest_among}
use Rattle.bucket_meta.proofs.words.note_place.Given as goal

abbrev pub invariant-loop-place : goal.invariant-loop-place
invariant-loop-place l = note_place l.w1 l.w3 l.side l.finger l.index ≡ lowest_among (is_note l.w1 l.w3 l.side l.finger l.index) l.place (4 - l.place)
