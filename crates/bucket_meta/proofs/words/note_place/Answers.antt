-- The note slot that is looked at is the one that is sought, or the search goes on behind it.
use Rattle.std.proofs.Common.{◌∙◌, sym, arith}
use Rattle.bucket_meta.specs.Visits.{is_note}
use Rattle.bucket_meta.proofs.Search.{among_found, among_next, among_end}
use Rattle.bucket_meta.proofs.words.note_place.Goals as goal

pub returns-then-is_note-clause-is : goal.returns-then-is_note-clause-is
returns-then-is_note-clause-is c =
    sym (c.loop-place.invariant ∙ among_found 4 (is_note c.args.w1 c.args.w3 c.args.side c.args.finger c.args.index) c.loop-place.place c.loop-place-test.true (sym c.is_note.ensures ∙ c.if-is_note.true))

pub loop-place-preserved : goal.loop-place-preserved
loop-place-preserved c =
    c.loop-place.invariant ∙ among_next 4 (is_note c.args.w1 c.args.w3 c.args.side c.args.finger c.args.index) c.loop-place.place c.loop-place-test.true (sym c.is_note.ensures ∙ c.if-is_note.false)

pub returns-clause-is : goal.returns-clause-is
returns-clause-is c =
    sym (c.loop-place.invariant ∙ among_end 4 (is_note c.args.w1 c.args.w3 c.args.side c.args.finger c.args.index) c.loop-place.place (omega (arith, c.loop-place-test.false)))
