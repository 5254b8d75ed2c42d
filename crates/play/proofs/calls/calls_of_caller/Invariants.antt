use Rattle.std.proofs.Common.{◌≡◌, ◌++◌, drop}
use Rattle.script_text.specs.Calls.{calls_of}
use Rattle.play.proofs.calls.calls_of_caller.Given as goal

abbrev pub invariant-loop-line : goal.invariant-loop-line
invariant-loop-line l = l.calls.items ++ calls_of l.caller (drop l.line-index l.lines) ≡ calls_of l.caller l.lines
