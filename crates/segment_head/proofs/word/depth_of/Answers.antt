-- The byte above the state is the depth.
use Rattle.std.proofs.Common.{◌/◌, ◌^◌}
use Rattle.std.proofs.lemmas.Nat.{and_mask}
use Rattle.segment_head.proofs.word.depth_of.Goals as goal

pub returns : goal.returns
returns c = and_mask (c.args.h1 / 2 ^ 16) 8
