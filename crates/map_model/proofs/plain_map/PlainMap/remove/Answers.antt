use Rattle.std.proofs.Common.{ap, ◌∙◌}
use Rattle.std.specs.FinMap as map
use Rattle.map_model.proofs.PlainMaps.{from_entries-removed}
use Rattle.map_model.proofs.plain_map.PlainMap.remove.Goals as goal

pub returns : goal.returns
returns c =
    from_entries-removed c.self.inside.pairs.entries c.remove.new.self.entries c.args.key c.remove.ensures.updates.0
    ∙ ap (λ plain. map.remove plain c.args.key) c.self.view_is
