-- None before this one passes, so the first from here is the first from the beginning.
use Rattle.std.proofs.Common.{◌≡◌, ◌≤◌, ◌*◌, ◌-◌}
use Rattle.image_layout.specs.Places.{homes}
use Rattle.rest_op.specs.Steps.{is_noted, note_from}
use Rattle.rounds.specs.Seeking.{seek}
use Rattle.rest_op.proofs.op.RestOp.note_from.Given as goal

abbrev pub invariant-loop-number : goal.invariant-loop-number
invariant-loop-number l = record {
  near : l.number ≤ 2 * homes;
  rest : seek (is_noted l.self) (2 * homes - l.number) l.number ≡ note_from l.self l.from;
}
