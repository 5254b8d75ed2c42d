-- The notes of a home are those of its two buckets.
use Rattle.stash.specs.Exact.{notes_at}
use Rattle.stash.proofs.Visits.{named_by_first, named_by_second}
use Rattle.stash.proofs.notes.is_named.Goals as goal

pub returns-then-has_note : goal.returns-then-has_note
returns-then-has_note c =
    named_by_first (c.args.finger, c.args.index) (notes_at c.args.home.now 0) (notes_at c.args.probe.now 1) c.has_note.result c.if-has_note.true c.has_note.ensures

pub returns-else-has_note : goal.returns-else-has_note
returns-else-has_note c =
    named_by_second (c.args.finger, c.args.index) (notes_at c.args.home.now 0) (notes_at c.args.probe.now 1) c.has_note.result c.has_note-else-has_note.result
    c.if-has_note.false c.has_note.ensures c.has_note-else-has_note.ensures
