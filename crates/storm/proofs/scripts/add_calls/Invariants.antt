use Rattle.std.proofs.Common.{◌≡◌, ◌+◌, ◌*◌, ◌++◌, length, map}
use Rattle.std.specs.Prelude.{All}
use Rattle.std.specs.List.{range_with_len}
use Rattle.script_text.specs.Calls.{IsLineSoFar}
use Rattle.storm.specs.Stream.{behind}
use Rattle.storm.specs.Scripts.{call_line}
use Rattle.storm.proofs.scripts.add_calls.Given as goal

abbrev pub invariant-loop-turn : goal.invariant-loop-turn
invariant-loop-turn l = record {
  lines : l.lines.items ≡ l.initial.lines.items ++ map (call_line l.initial.state) (range_with_len 0 l.turn);
  count : length l.lines.items ≡ length l.initial.lines.items + l.turn;
  state : l.state ≡ behind l.initial.state (3 * l.turn);
  so_far : All IsLineSoFar l.lines.items;
}
