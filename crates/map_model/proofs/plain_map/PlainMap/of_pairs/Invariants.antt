use Rattle.std.proofs.Common.{◌≡◌, drop}
use Rattle.std.specs.FinMap.{from_entries}
use Rattle.map_model.proofs.plain_map.PlainMap.of_pairs.Given as goal

abbrev pub invariant-loop-i : goal.invariant-loop-i
invariant-loop-i l = l.plain ≡ from_entries (drop l.i l.pairs)
