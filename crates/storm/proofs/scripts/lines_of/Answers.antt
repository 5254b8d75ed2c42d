-- The numbers of the calls, and then those of the schedule.
use Rattle.storm.specs.Scripts.{numbers_of_calls, numbers_of_steps}
use Rattle.storm.proofs.Streams.{behind_both}
use Rattle.storm.proofs.scripts.lines_of.Goals as goal

pub returns-clause-state : goal.returns-clause-state
returns-clause-state c =
    behind_both c.args.state.now (numbers_of_calls c.args.calls) numbers_of_steps _ _ c.in_ok-add_calls.ensures.state c.in_ok-add_steps.ensures.state
