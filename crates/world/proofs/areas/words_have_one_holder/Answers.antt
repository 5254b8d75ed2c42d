use Rattle.world.proofs.fitting.OneHolder.{one_holder, held_near}
use Rattle.world.proofs.areas.words_have_one_holder.Goals as goal

pub returns-clause-holder : goal.returns-clause-holder
returns-clause-holder c = one_holder

pub returns-clause-near : goal.returns-clause-near
returns-clause-near c = held_near
