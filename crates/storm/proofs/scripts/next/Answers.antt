-- By what a stream is.
use Rattle.std.proofs.Common.{ap, ◌∙◌}
use Rattle.pm_trace.specs.Choice.{number_of}
use Rattle.storm.specs.Stream.{behind, next_of}
use Rattle.storm.proofs.scripts.next.Goals as goal

pub returns-clause-state : goal.returns-clause-state
unfolding behind
returns-clause-state c = c.next_number.ensures.state

pub returns-clause-number : goal.returns-clause-number
unfolding next_of
returns-clause-number c = c.next_number.ensures.number ∙ ap number_of c.next_number.ensures.state
