-- Each header's store keeps the claims, and no new side of a current segment is lost.
use Rattle.frame_facts.proofs.Stores.{takes, frees, begins, ends, drops, renewed}
use Rattle.frame_facts.proofs.keeping.header_stores_keep_facts.Goals as goal

pub returns-clause-takes : goal.returns-clause-takes
returns-clause-takes c = takes

pub returns-clause-frees : goal.returns-clause-frees
returns-clause-frees c = frees

pub returns-clause-begins : goal.returns-clause-begins
returns-clause-begins c = begins

pub returns-clause-ends : goal.returns-clause-ends
returns-clause-ends c = ends

pub returns-clause-drops : goal.returns-clause-drops
returns-clause-drops c = drops

pub returns-clause-byte : goal.returns-clause-byte
returns-clause-byte c = renewed
