use Rattle.std.proofs.Common.{◌≡◌, ◌-◌, List, length, take}
use Rattle.map_model.specs.Roomed.{Roomed, with_room}
use Rattle.serve.specs.Jobs.{among}
use Rattle.serve.proofs.serving.list_entries.Given as goal

abbrev pub invariant-loop-i : goal.invariant-loop-i
invariant-loop-i l = record {
  same : length l.lists ≡ length l.fn.lists;
  listed : (before behind : List Roomed) → length before ≡ l.number - 1 → l.fn.lists ≡ among before (with_room (length l.told)) behind
      → l.lists ≡ among before (record { entries = take l.i l.told; spare = length l.told - l.i }) behind;
}
