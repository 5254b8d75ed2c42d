-- What an entry is to name lives.
use Rattle.frame_facts.proofs.Stores.{linked, doubled, named_claimer, named_side}
use Rattle.frame_facts.proofs.keeping.directory_stores_keep_facts.Goals as goal

pub returns-clause-links : goal.returns-clause-links
returns-clause-links c = linked

pub returns-clause-doubles : goal.returns-clause-doubles
returns-clause-doubles c = doubled

pub returns-clause-claimer : goal.returns-clause-claimer
returns-clause-claimer c = named_claimer

pub returns-clause-side : goal.returns-clause-side
returns-clause-side c = named_side
