use Rattle.std.proofs.Common.{ap, subst, ◌∙◌}
use Rattle.std.specs.FinMap.{from_entries}
use Rattle.std.specs.Prelude.{◌↔◌, IsTrue}
use Rattle.map_model.specs.Apart.{joined_again}
use Rattle.map_model.proofs.PutApart.{ShowOneDraw}
use Rattle.map_model.proofs.Checks.{shown, unshown}
use Rattle.map_model.proofs.legality.is_right_woven.Goals as goal

pub returns : goal.returns
returns c =
    shown (from_entries c.args.start.now) c.args.all.now c.in_ok-places.places.items c.in_ok-places.ensures c.are_replies.result c.in_ok-plain.plain c.deref-3.result.now
    (subst (ShowOneDraw c.args.all.now) c.deref.ensures.value (c.each_drawn_once.ensures.0 c.if-not-each_drawn_once.false))
    c.in_ok-plain.ensures (c.deref-3.ensures.value ∙ c.in_ok-row.ensures ∙ ap joined_again c.deref-2.ensures.value) c.are_replies.ensures

pub returns-then-not-each_drawn_once : goal.returns-then-not-each_drawn_once
returns-then-not-each_drawn_once c =
    let tells = subst (λ places. IsTrue c.each_drawn_once.result ↔ ShowOneDraw c.args.all.now places) c.deref.ensures.value c.each_drawn_once.ensures in
    unshown (from_entries c.args.start.now) c.args.all.now c.in_ok-places.places.items c.in_ok-places.ensures c.each_drawn_once.result tells c.if-not-each_drawn_once.true
