-- The search from the slot that is looked at gives what the whole search gives.
use Rattle.std.proofs.Common.{◌≡◌, ◌-◌}
use Rattle.bucket_meta.specs.Search.{lowest_among, is_there, lowest_with}
use Rattle.bucket_meta.proofs.words.lowest_with.Given as goal

abbrev pub invariant-loop-slot : goal.invariant-loop-slot
invariant-loop-slot l = lowest_with l.words l.key ≡ lowest_among (is_there l.words l.key) l.slot (14 - l.slot)
