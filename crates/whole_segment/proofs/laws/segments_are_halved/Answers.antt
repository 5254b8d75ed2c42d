-- It is a lemma.
use Rattle.whole_segment.proofs.marking.Sides.{are_sides}
use Rattle.whole_segment.proofs.laws.segments_are_halved.Goals as goal

pub returns : goal.returns
returns c first covered key hash depth pattern word are = are_sides first covered key hash depth pattern word are
