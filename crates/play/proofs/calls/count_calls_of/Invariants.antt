-- Those of the lines before, and of those behind.
use Rattle.std.proofs.Common.{◌≡◌, ◌+◌, ◌≤◌, length, drop}
use Rattle.script_text.specs.Calls.{calls_of}
use Rattle.play.proofs.calls.count_calls_of.Given as goal

abbrev pub invariant-loop-line : goal.invariant-loop-line
invariant-loop-line l = record {
  so_far : l.count + length (calls_of l.caller (drop l.line-index l.lines)) ≡ length (calls_of l.caller l.lines);
  few : l.count ≤ l.line-index;
}
