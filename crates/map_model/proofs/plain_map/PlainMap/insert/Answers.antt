use Rattle.std.proofs.Common.{ap, ◌∙◌}
use Rattle.std.specs.FinMap as map
use Rattle.map_model.proofs.PlainMaps.{from_entries-inserted}
use Rattle.map_model.proofs.plain_map.PlainMap.insert.Goals as goal

pub returns : goal.returns
returns c =
    from_entries-inserted c.self.inside.pairs.entries c.insert.new.self.entries c.args.key c.args.value c.in_ok-insert.ensures.updates.0
    ∙ ap (λ plain. map.insert plain c.args.key c.args.value) c.self.view_is
