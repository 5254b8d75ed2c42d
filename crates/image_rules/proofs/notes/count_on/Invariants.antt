use Rattle.std.proofs.Common.{◌≡◌, ◌≤◌}
use Rattle.image_rules.specs.Noted.{how_many, noted}
use Rattle.image_rules.proofs.notes.count_on.Given as goal

abbrev pub invariant-loop-note_slot : goal.invariant-loop-note_slot
invariant-loop-note_slot l = record { counted : l.count ≡ how_many l.sought (noted l.w1 l.w3 l.side l.note_slot); few : l.count ≤ l.note_slot }
