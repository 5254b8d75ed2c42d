-- Those of both stash buckets.
use Rattle.std.proofs.Common.{arith, slice_index}
use Rattle.sound_image.specs.Records.{stashed_in}
use Rattle.image_rules.specs.Noted.{matches}
use Rattle.image_rules.proofs.stashed.Counts.{count_both}
use Rattle.image_rules.proofs.notes.count_stashed.Goals as goal

pub returns-clause-is : goal.returns-clause-is
returns-clause-is c =
    let both = count_both (matches c.args.sought) (stashed_in c.args.geometry.now (slice_index c.args.words.now) c.args.s c.args.b 0)
    (stashed_in c.args.geometry.now (slice_index c.args.words.now) c.args.s c.args.b 1) in
    omega (arith, both, c.count_in.ensures.is, c.count_in-2.ensures.is)
