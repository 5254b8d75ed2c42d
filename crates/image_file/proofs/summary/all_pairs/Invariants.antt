use Rattle.std.proofs.Common.{slice_index}
use Rattle.image_file.specs.Pairs.{ArePairsBelow}
use Rattle.image_file.proofs.summary.all_pairs.Given as goal

abbrev pub invariant-loop-n : goal.invariant-loop-n
invariant-loop-n l = ArePairsBelow l.geometry (slice_index l.words) l.n l.pairs.items
