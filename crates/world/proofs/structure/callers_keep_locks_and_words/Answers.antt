use Rattle.world.proofs.moving.Callers.{callers_keep_locks, callers_keep_words}
use Rattle.world.proofs.structure.callers_keep_locks_and_words.Goals as goal

pub returns-clause-locks : goal.returns-clause-locks
returns-clause-locks c = callers_keep_locks

pub returns-clause-words : goal.returns-clause-words
returns-clause-words c = callers_keep_words
