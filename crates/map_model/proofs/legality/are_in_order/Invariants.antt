use Rattle.std.proofs.Common.{drop, map}
use Rattle.std.specs.List.{AllByRecursion}
use Rattle.map_model.specs.Legal.{InOrder}
use Rattle.map_model.proofs.legality.are_in_order.Given as goal

-- the callers that are left are in order exactly where all are
abbrev pub invariant-loop-row : goal.invariant-loop-row
invariant-loop-row l = record {
  forth : AllByRecursion (InOrder 1 0) (map (λ row. row.items) (drop l.row-index l.rows)) → AllByRecursion (InOrder 1 0) (map (λ row. row.items) l.rows);
  back : AllByRecursion (InOrder 1 0) (map (λ row. row.items) l.rows) → AllByRecursion (InOrder 1 0) (map (λ row. row.items) (drop l.row-index l.rows));
}
