-- Of the records so far each home has as many at most, so its count stays below 28, and each record is noted in turn.
use Rattle.std.proofs.Common.{List, take, get_or, sym, subst, arith, rules}
use Rattle.std.proofs.lemmas.List.{take_more, take_all, length-take-le}
use Rattle.std.proofs.lemmas.List.Elements.{All-get_or}
use Rattle.stash.specs.Noted.{AreNotedInOrder}
use Rattle.stash.specs.Segment.{Stashed, IsStashed, IsExactSegment}
use Rattle.stash.proofs.Buckets.{count_at_most, one_more_in_order}
use Rattle.stash.proofs.segment.rebuild.Goals as goal

pub note_in-requires-clause-room : goal.note_in-requires-clause-room
note_in-requires-clause-room c d =
    let stashed = c.args.stashed.now in
    let so_far = c.loop-home.home-index in
    let none : Stashed = (0, 0, 0) in
    let fits = All-get_or IsStashed stashed so_far none c.loop-home-test.true c.requires.within in
    let most = count_at_most c.loop-home.metas (take so_far stashed) (get_or stashed so_far none).0 d c.loop-home.invariant.exact fits.0 in
    omega (arith, most, length-take-le so_far stashed c.loop-home.auto.home-index-end, c.requires.room)

pub loop-home-preserved : goal.loop-home-preserved
loop-home-preserved c =
    let stashed = c.args.stashed.now in
    let so_far = c.loop-home.home-index in
    let none : Stashed = (0, 0, 0) in
    let P : List Stashed → Type 0 = λ records. IsExactSegment c.note_in.new.metas records in
    let Q : List Stashed → Type 0 = λ records. AreNotedInOrder records c.clear_all.new.metas c.note_in.new.metas in
    let longer = sym (take_more stashed so_far none c.loop-home-test.true) in
    record {
      order = subst Q longer (one_more_in_order (take so_far stashed) (get_or stashed so_far none) c.clear_all.new.metas c.loop-home.metas c.note_in.new.metas
          c.loop-home.invariant.order c.note_in.ensures.noted);
      exact = subst P longer (c.note_in.ensures.exact (take so_far stashed) c.loop-home.invariant.exact);
      slots = search rules;
    }

pub returns-clause-exact : goal.returns-clause-exact
returns-clause-exact c =
    let stashed = c.args.stashed.now in
    let P : List Stashed → Type 0 = λ records. IsExactSegment c.loop-home.metas records in
    subst P (take_all c.loop-home.home-index stashed c.loop-home-test.false) c.loop-home.invariant.exact

pub returns-clause-rebuilt : goal.returns-clause-rebuilt
returns-clause-rebuilt c =
    let stashed = c.args.stashed.now in
    let Q : List Stashed → Type 0 = λ records. AreNotedInOrder records c.clear_all.new.metas c.loop-home.metas in
    (c.clear_all.new.metas, c.clear_all.ensures, subst Q (take_all c.loop-home.home-index stashed c.loop-home-test.false) c.loop-home.invariant.order)
