-- The note slot that is looked at is the one that is sought, or the search goes on behind it.
use Rattle.std.proofs.Common.{◌∙◌, sym, arith}
use Rattle.bucket_meta.specs.NoteWords.{is_unused}
use Rattle.bucket_meta.proofs.Search.{among_found, among_next, among_end}
use Rattle.bucket_meta.proofs.words.unused_place.Goals as goal

pub returns-then-is_unused-clause-is : goal.returns-then-is_unused-clause-is
returns-then-is_unused-clause-is c = sym (c.loop-place.invariant ∙ among_found 4 (is_unused c.args.w1) c.loop-place.place c.loop-place-test.true (sym c.is_unused.ensures ∙ c.if-is_unused.true))

pub loop-place-preserved : goal.loop-place-preserved
loop-place-preserved c = c.loop-place.invariant ∙ among_next 4 (is_unused c.args.w1) c.loop-place.place c.loop-place-test.true (sym c.is_unused.ensures ∙ c.if-is_unused.false)

pub returns-clause-is : goal.returns-clause-is
returns-clause-is c = sym (c.loop-place.invariant ∙ among_end 4 (is_unused c.args.w1) c.loop-place.place (omega (arith, c.loop-place-test.false)))
