use Rattle.std.proofs.Common.{length}
use Rattle.script_text.specs.Splits.{lines}
use Rattle.script_text.specs.Script.{IsShort}
use Rattle.script_text.proofs.Progress.{IsReadTo}
use Rattle.script_text.proofs.parsing.parse.Given as goal

abbrev pub invariant-lines : goal.invariant-lines
invariant-lines l = record {
  read : IsReadTo l.mode l.bytes l.rest l.phase l.lines.items l.number;
  short : IsShort l.bytes;
}

abbrev pub decreases-lines : goal.decreases-lines
decreases-lines l = length (lines l.rest)
