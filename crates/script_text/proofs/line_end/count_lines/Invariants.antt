use Rattle.std.proofs.Common.{◌≡◌, ◌+◌, ◌≤◌, false, drop}
use Rattle.script_text.specs.Counting.{lines_to_come}
use Rattle.script_text.proofs.line_end.count_lines.Given as goal

abbrev pub invariant-loop-byte : goal.invariant-loop-byte
invariant-loop-byte l = record {
  counted : l.count + lines_to_come l.begun (drop l.byte-index l.bytes) ≡ lines_to_come false l.bytes;
  small : l.count ≤ l.byte-index;
}
