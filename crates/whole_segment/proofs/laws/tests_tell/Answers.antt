-- Each is a lemma.
use Rattle.whole_segment.proofs.Telling.{covered_is, spoiled_is, tells_room}
use Rattle.whole_segment.proofs.laws.tests_tell.Goals as goal

pub returns-clause-covered : goal.returns-clause-covered
returns-clause-covered c = covered_is

pub returns-clause-spoiled : goal.returns-clause-spoiled
returns-clause-spoiled c = spoiled_is

pub returns-clause-room : goal.returns-clause-room
returns-clause-room c = tells_room
