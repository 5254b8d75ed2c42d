-- By definition, and by what a medium has in common with the newest words.
use Rattle.frame_facts.proofs.Told.{current_told, begins_told}
use Rattle.frame_facts.proofs.learning.headers_tell.Goals as goal

pub returns-clause-current : goal.returns-clause-current
returns-clause-current c = current_told

pub returns-clause-begins : goal.returns-clause-begins
returns-clause-begins c = begins_told
