-- And one number more, of the cut.
use Rattle.std.proofs.Common.{◌+◌}
use Rattle.storm.specs.Scripts.{numbers_of_calls, numbers_of_steps}
use Rattle.storm.proofs.Streams.{behind_both}
use Rattle.storm.proofs.scripts.cut_script.Goals as goal

pub returns-clause-state : goal.returns-clause-state
returns-clause-state c =
    behind_both c.args.state.now (numbers_of_calls c.args.calls + numbers_of_steps) 1 _ _ c.in_ok-lines.ensures.state c.next_cut.ensures.state
