-- The laws are lemmas.
use Rattle.restart_op.proofs.restarts.Counting.{begins_with_a_sweep, falls, ends_at_none, on_words, restart_counts}
use Rattle.restart_op.proofs.restarts.Asking.{restart_asks}
use Rattle.restart_op.proofs.laws.restart_ends.Goals as goal

pub returns-clause-most : goal.returns-clause-most
returns-clause-most c = begins_with_a_sweep

pub returns-clause-falls : goal.returns-clause-falls
returns-clause-falls c = falls

pub returns-clause-none : goal.returns-clause-none
returns-clause-none c = ends_at_none

pub returns-clause-words : goal.returns-clause-words
returns-clause-words c = on_words

pub returns-clause-counts : goal.returns-clause-counts
returns-clause-counts c = restart_counts

pub returns-clause-asks : goal.returns-clause-asks
returns-clause-asks c = restart_asks
