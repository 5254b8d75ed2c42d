-- The law is a lemma.
use Rattle.image_layout.proofs.PartWords as lemma
use Rattle.image_layout.proofs.laws.parts_within.Goals as goal

pub returns : goal.returns
returns c = lemma.parts_within
