use Rattle.std.proofs.Common.{◌-◌, ◌<◌, Some, length, arith, ap, sym, ◌∙◌}
use Rattle.std.proofs.lemmas.List.{length-map}
use Rattle.std.specs.Prelude.{slice_get}
use Rattle.map_model.specs.Roomed.{lists_of}
use Rattle.map_model.proofs.KeptViews.{kept_of, slice_get-all_kept}
use Rattle.map_model.proofs.lists.Lists.of.Goals as goal

pub returns : goal.returns
returns c =
    let within : c.args.caller - 1 < length c.self.inside.lists.items = omega (arith, ap length c.self.view_is, length-map c.self.inside.lists.items kept_of) in
    ap (λ kept. slice_get (lists_of kept) (c.args.caller - 1)) (sym c.self.view_is)
    ∙ slice_get-all_kept c.self.inside.lists.items (c.args.caller - 1) c.index.result.now within c.index.ensures
    ∙ ap Some (sym c.deref.ensures.value)
