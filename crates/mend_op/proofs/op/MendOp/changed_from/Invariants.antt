-- None before this one is changed, so the first from here is the first from the beginning.
use Rattle.std.proofs.Common.{◌≡◌, ◌≤◌, ◌-◌}
use Rattle.mend_op.specs.Stages.{most}
use Rattle.rounds.specs.Seeking.{seek}
use Rattle.mend_op.specs.Steps.{is_changed, changed_from}
use Rattle.mend_op.proofs.op.MendOp.changed_from.Given as goal

abbrev pub invariant-loop-number : goal.invariant-loop-number
invariant-loop-number l = record {
  near : l.number ≤ most l.stage;
  rest : seek (is_changed l.self l.stage) (most l.stage - l.number) l.number ≡ changed_from l.self l.stage l.from;
}
