use Rattle.std.proofs.Common.{sym, ap, ◌∙◌}
use Rattle.std.specs.FinMap as map
use Rattle.map_model.proofs.PlainMaps.{get-from_entries_at}
use Rattle.map_model.proofs.plain_map.PlainMap.get.Goals as goal

pub returns : goal.returns
returns c =
    c.copied.ensures ∙ c.get.ensures.value
    ∙ sym (get-from_entries_at c.self.inside.pairs.entries c.args.key)
    ∙ ap (λ plain. map.get plain c.args.key) c.self.view_is
