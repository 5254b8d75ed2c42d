-- By the views of callers that are through.
use Rattle.engine.proofs.holding.Quiet.{through_is_quiet, through_is_exact, through_is_once, through_is_own, through_has_map}
use Rattle.engine.proofs.turns.through_is_quiet.Goals as goal

pub returns-clause-quiet : goal.returns-clause-quiet
returns-clause-quiet c = through_is_quiet c.current_segments_rest.ensures

pub returns-clause-exact : goal.returns-clause-exact
returns-clause-exact c = through_is_exact

pub returns-clause-once : goal.returns-clause-once
returns-clause-once c = through_is_once

pub returns-clause-own : goal.returns-clause-own
returns-clause-own c = through_is_own

pub returns-clause-map : goal.returns-clause-map
returns-clause-map c = through_has_map c.entries_are_legal.ensures
