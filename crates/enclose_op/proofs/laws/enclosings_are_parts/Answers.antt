-- By its steps, and by the words that it loaded.
use Rattle.enclose_op.proofs.EncloseIsPart.{enclose_is_part, begins_as_part, begins_undecided, hands_on_whole}
use Rattle.enclose_op.proofs.Rooms.{finds_room, keeps_room}
use Rattle.enclose_op.proofs.causes.Saying.{says_of_held}
use Rattle.enclose_op.proofs.laws.enclosings_are_parts.Goals as goal

pub returns-clause-part : goal.returns-clause-part
returns-clause-part c = enclose_is_part

pub returns-clause-begins : goal.returns-clause-begins
returns-clause-begins c = begins_as_part

pub returns-clause-undecided : goal.returns-clause-undecided
returns-clause-undecided c = begins_undecided

pub returns-clause-whole : goal.returns-clause-whole
returns-clause-whole c = hands_on_whole

pub returns-clause-room : goal.returns-clause-room
returns-clause-room c = finds_room

pub returns-clause-keeps : goal.returns-clause-keeps
returns-clause-keeps c = keeps_room

pub returns-clause-held : goal.returns-clause-held
returns-clause-held c = says_of_held
