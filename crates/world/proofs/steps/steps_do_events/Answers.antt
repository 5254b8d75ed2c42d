use Rattle.world.proofs.device.Worlds.{one_word}
use Rattle.world.proofs.calls.mildly.Well.{does_its_event}
use Rattle.world.proofs.steps.steps_do_events.Goals as goal

pub returns-clause-words : goal.returns-clause-words
returns-clause-words c = does_its_event

pub returns-clause-one : goal.returns-clause-one
returns-clause-one c = one_word
