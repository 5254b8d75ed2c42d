use Rattle.std.proofs.Common.{◌≡◌, ◌≤◌, slice_index}
use Rattle.image_rules.specs.Noted.{how_many, stashed_below}
use Rattle.image_rules.proofs.notes.count_in.Given as goal

abbrev pub invariant-loop-slot : goal.invariant-loop-slot
invariant-loop-slot l =
    record { counted : l.count ≡ how_many l.sought (stashed_below l.geometry (slice_index l.words) l.s l.b l.k l.slot); few : l.count ≤ l.slot }
