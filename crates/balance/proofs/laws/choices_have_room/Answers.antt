-- By how many slots are taken.
use Rattle.balance.proofs.Rooms.{has_room}
use Rattle.balance.proofs.laws.choices_have_room.Goals as goal

pub returns : goal.returns
returns c = has_room
