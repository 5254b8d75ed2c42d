-- By two numbers.
use Rattle.storm.proofs.Streams.{behind_both}
use Rattle.storm.proofs.scripts.next_step.Goals as goal

pub returns-clause-state : goal.returns-clause-state
returns-clause-state c = behind_both c.args.state.now 1 1 _ _ c.next.ensures.state c.next-events.ensures.state
