-- The laws are lemmas.
use Rattle.restart_op.proofs.restarts.Beginning.{ends_started, is_restart, restart_begins, has_seats, keeps_pairs, ends_at_rest, ends_owned, ends_open}
use Rattle.restart_op.proofs.laws.restart_begins.Goals as goal

pub returns-clause-started : goal.returns-clause-started
returns-clause-started c = ends_started

pub returns-clause-restart : goal.returns-clause-restart
returns-clause-restart c = is_restart

pub returns-clause-begins : goal.returns-clause-begins
returns-clause-begins c = restart_begins

pub returns-clause-seats : goal.returns-clause-seats
returns-clause-seats c = has_seats

pub returns-clause-pairs : goal.returns-clause-pairs
returns-clause-pairs c = keeps_pairs

pub returns-clause-rest : goal.returns-clause-rest
returns-clause-rest c = ends_at_rest

pub returns-clause-own : goal.returns-clause-own
returns-clause-own c = ends_owned

pub returns-clause-structure : goal.returns-clause-structure
returns-clause-structure c = ends_open
