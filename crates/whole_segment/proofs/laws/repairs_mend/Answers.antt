-- It is a lemma.
use Rattle.whole_segment.proofs.marking.Mended.{is_mended}
use Rattle.whole_segment.proofs.laws.repairs_mend.Goals as goal

pub returns : goal.returns
returns c first spoiled key hash depth pattern word are = is_mended first key hash depth pattern spoiled word are
