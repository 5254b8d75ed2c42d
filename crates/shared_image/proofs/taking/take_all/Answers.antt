-- The keeper takes one pass after another.
use Rattle.std.proofs.Common.{◌≡◌, ◌∷◌, [], ◌<◌, length, sym, ap, subst, ◌∙◌, append_assoc, append-nil, arith}
use Rattle.std.specs.Vec.Iter.{into_iter_items}
use Rattle.std.proofs.lemmas.List.{nil_from_length}
use Rattle.vlock.specs.declared.knows.Watch.{Watch}
use Rattle.vlock.specs.Seats.{both}
use Rattle.shared_image.specs.Closed.{with_all}
use Rattle.shared_image.proofs.TakenIn.{with_more, stands_with}
use Rattle.shared_image.proofs.taking.take_all.Goals as goal

pub take_in-requires-clause-callers : goal.take_in-requires-clause-callers
take_in-requires-clause-callers c =
    let at = c.loop-pass in
    subst (λ (w : Watch). 0 < w.view.callers) (sym at.invariant.taken) (stands_with c.args.keeper.seat.me.0 at.yielded c.requires.callers)

pub loop-pass-preserved : goal.loop-pass-preserved
loop-pass-preserved c =
    let at = c.loop-pass in
    let x = c.in-Some.pass in
    let steps : into_iter_items at.pass-iterator ≡ x ∷ into_iter_items c.next.new.self = c.in-Some.ensures.steps.0 in
    record {
      rest = append_assoc at.yielded (x ∷ []) _ ∙ rw (← steps) at.invariant.rest;
      count = (let was = at.invariant.count in
          let gone = c.in-Some.ensures.steps.1 in
          let short = ap length steps in
          omega arith);
      seat = c.take_in.ensures.table;
      taken = c.take_in.ensures.views ∙ ap (λ (w : Watch). both w x.me.0) at.invariant.taken ∙ sym (with_more c.args.keeper.seat.me.0 at.yielded x);
    }

pub returns-clause-taken : goal.returns-clause-taken
returns-clause-taken c =
    let at = c.loop-pass in
    let none = c.in-None.ensures.steps in
    let empty : into_iter_items at.pass-iterator ≡ [] = nil_from_length _ (sym at.invariant.count ∙ none.0) in
    let all = sym (append-nil at.yielded) ∙ rw empty at at.invariant.rest ∙ c.into_iter-pass-iterator.ensures.into_iter_gives.0 in
    at.invariant.taken ∙ ap (λ xs. with_all c.args.keeper.seat.me.0 xs) all
