-- By the step that decides, and by those that follow.
use Rattle.release_op.proofs.NoRoom.{needs_split_now}
use Rattle.release_op.proofs.Leaving.{leaves_there}
use Rattle.release_op.proofs.Ends.{tells_no_other}
use Rattle.release_op.proofs.laws.releases_find_no_room.Goals as goal

pub returns-clause-now : goal.returns-clause-now
returns-clause-now c = needs_split_now

pub returns-clause-there : goal.returns-clause-there
returns-clause-there c = leaves_there

pub returns-clause-no_other : goal.returns-clause-no_other
returns-clause-no_other c = tells_no_other
