use Rattle.std.proofs.Common.{◌≡◌, drop}
use Rattle.std.specs.Prelude.{max}
use Rattle.script_text.specs.Calls.{last_caller}
use Rattle.play.proofs.calls.last_caller.Given as goal

abbrev pub invariant-loop-line : goal.invariant-loop-line
invariant-loop-line l = max l.last (last_caller (drop l.line-index l.lines)) ≡ last_caller l.lines
