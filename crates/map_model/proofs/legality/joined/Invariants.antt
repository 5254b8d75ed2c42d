use Rattle.std.proofs.Common.{◌≡◌, map, take}
use Rattle.map_model.specs.Weave.{all_of}
use Rattle.map_model.proofs.legality.joined.Given as goal

abbrev pub invariant-loop-row : goal.invariant-loop-row
invariant-loop-row l = l.all.items ≡ all_of (map (λ row. row.items) (take l.row-index l.rows))
