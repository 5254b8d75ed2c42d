use Rattle.std.proofs.Common.{sym, subst, map, ◌∙◌}
use Rattle.std.specs.List.{AllByRecursion}
use Rattle.std.specs.FinMap.{from_entries}
use Rattle.map_model.specs.Weave.{draws}
use Rattle.map_model.specs.Legal.{IsPlace}
use Rattle.map_model.specs.Roomed.{lists_of}
use Rattle.map_model.proofs.Checks.{ordered}
use Rattle.map_model.proofs.legality.weave_check.Goals as goal

pub returns : goal.returns
returns c =
    let places = subst (λ es. AllByRecursion (IsPlace (draws es)) es) (c.deref.ensures.value ∙ sym c.deref-2.ensures.value) (c.have_places.ensures.0 c.if-not-have_places.false) in
    ordered (from_entries c.args.start.now) (lists_of c.args.lists.now) (map (λ row. row.items) c.rows-rows.result.now) c.deref-2.result.now
    c.rows-rows.ensures (c.deref-2.ensures.value ∙ c.in_ok-all.ensures) c.is_right_woven.result
    (c.are_in_order.ensures.0 c.if-not-are_in_order.false, places) c.is_right_woven.ensures
