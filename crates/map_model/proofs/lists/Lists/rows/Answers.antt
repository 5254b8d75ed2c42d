use Rattle.std.proofs.Common.{map, ap, sym, ◌∙◌}
use Rattle.map_model.specs.Roomed.{lists_of}
use Rattle.map_model.proofs.KeptViews.{lists_of-all_kept}
use Rattle.map_model.proofs.lists.Lists.rows.Goals as goal

pub returns : goal.returns
returns c =
    ap (λ rows. map (λ row. row.items) rows) c.deref.ensures.value
    ∙ sym (lists_of-all_kept c.self.inside.lists.items) ∙ ap lists_of c.self.view_is
