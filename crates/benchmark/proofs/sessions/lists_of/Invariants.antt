use Rattle.std.proofs.Common.{◌-◌}
use Rattle.benchmark.proofs.OneList.{HasRoom}
use Rattle.benchmark.proofs.sessions.lists_of.Given as goal

abbrev pub invariant-loop-line : goal.invariant-loop-line
invariant-loop-line l = HasRoom (l.lines - l.line) l.lists
