use Rattle.std.proofs.Common.{◌≡◌, map, take}
use Rattle.map_model.specs.Roomed.{with_room}
use Rattle.map_model.proofs.KeptViews.{all_kept}
use Rattle.map_model.proofs.lists.Lists.new.Given as goal

abbrev pub invariant-loop-entries : goal.invariant-loop-entries
invariant-loop-entries l = all_kept l.lists.items ≡ map with_room (take l.entries-index l.room)
