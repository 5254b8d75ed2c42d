use Rattle.std.proofs.Common.{◌≡◌, ◌+◌, ◌*◌, ◌++◌, length, map}
use Rattle.std.specs.Prelude.{All}
use Rattle.std.specs.List.{range_with_len}
use Rattle.script_text.specs.Calls.{IsLineSoFar}
use Rattle.storm.specs.Stream.{behind}
use Rattle.storm.specs.Scripts.{step_line}
use Rattle.storm.proofs.scripts.add_steps.Given as goal

abbrev pub invariant-loop-step : goal.invariant-loop-step
invariant-loop-step l = record {
  lines : l.lines.items ≡ l.initial.lines.items ++ map (step_line l.initial.state) (range_with_len 0 l._step);
  count : length l.lines.items ≡ length l.initial.lines.items + l._step;
  state : l.state ≡ behind l.initial.state (2 * l._step);
  so_far : All IsLineSoFar l.lines.items;
}
