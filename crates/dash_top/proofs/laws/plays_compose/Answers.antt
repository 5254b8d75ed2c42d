-- By the law that sessions compose, over the words of the bytes.
use Rattle.dash_top.proofs.Chain.{plays_leave_sound, plays_share_map}
use Rattle.dash_top.proofs.laws.plays_compose.Goals as goal

pub returns-clause-sound : goal.returns-clause-sound
returns-clause-sound c = plays_leave_sound

pub returns-clause-maps : goal.returns-clause-maps
returns-clause-maps c = plays_share_map c.sessions_compose.ensures.maps
