use Rattle.std.proofs.Common.{◌≡◌, drop}
use Rattle.core_run.specs.Run.{cut_of}
use Rattle.play.proofs.playing.cut_of.Given as goal

abbrev pub invariant-loop-line : goal.invariant-loop-line
invariant-loop-line l = cut_of (drop l.line-index l.lines) ≡ cut_of l.lines
