use Rattle.world.proofs.stepping.Rests.{rests_are_quiet, others_are_quiet}
use Rattle.world.proofs.steps.rests_are_quiet.Goals as goal

pub returns-clause-nobody : goal.returns-clause-nobody
returns-clause-nobody c = rests_are_quiet

pub returns-clause-others : goal.returns-clause-others
returns-clause-others c = others_are_quiet
