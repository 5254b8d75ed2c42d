use Rattle.std.proofs.Common.{◌≡◌, suc, drop}
use Rattle.map_model.specs.Legal.{InOrder}
use Rattle.map_model.proofs.legality.is_in_order.Given as goal

-- the entries that are left are in order exactly where all are
abbrev pub invariant-loop-entry : goal.invariant-loop-entry
invariant-loop-entry l = record {
  numbered : l.serial ≡ suc l.entry-index;
  forth : InOrder l.serial l.seen (drop l.entry-index l.row) → InOrder 1 0 l.row;
  back : InOrder 1 0 l.row → InOrder l.serial l.seen (drop l.entry-index l.row);
}
