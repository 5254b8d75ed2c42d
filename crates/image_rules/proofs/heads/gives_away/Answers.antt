-- A segment gives away what is in its 1-side, to its ready side.
use Rattle.std.proofs.Common.{slice_index}
use Rattle.sound_image.specs.Segments.{frame_of}
use Rattle.image_rules.proofs.Answered.{fails}
use Rattle.image_rules.proofs.covered.Owners.{side-prefix}
use Rattle.image_rules.proofs.heads.gives_away.Goals as goal

pub returns-else-in_one_side : goal.returns-else-in_one_side
returns-else-in_one_side c =
    fails c.in_one_side.result c.if-in_one_side.false
    (λ gives. c.in_one_side.ensures.1
    (side-prefix (frame_of c.args.geometry.now (slice_index c.args.words.now)) c.args.s c.prefix_of.result c.prefix_of.ensures.is c.args.hash gives.in_side))
