-- All that a fact looks at is the same.
use Rattle.frame_facts.proofs.Structure.{followed}
use Rattle.frame_facts.proofs.learning.facts_follow_the_structure.Goals as goal

pub returns : goal.returns
returns c = followed
