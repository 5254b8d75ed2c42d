-- By its two kinds of event.
use Rattle.enclose_op.proofs.Backing.{give_laws}
use Rattle.enclose_op.proofs.laws.all_is_given_back.Goals as goal

pub returns : goal.returns
returns c = give_laws
