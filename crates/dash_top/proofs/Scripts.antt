-- The lines of a good script are all of the forms that there are so far.
use Rattle.std.proofs.Common.{ℕ, zero, suc, ◌<◌, List, [], ◌∷◌, length, get_or, arith}
use Rattle.std.specs.List.{AllByRecursion}
use Rattle.script_text.specs.declared.line.Line.{Line}
use Rattle.script_text.specs.Calls.{IsLineSoFar}

pub each_line : (lines : List Line) → AllByRecursion IsLineSoFar lines → (k : ℕ) (d : Line) → k < length lines → IsLineSoFar (get_or lines k d)
each_line [] all k d lt = absurd (omega arith)
each_line (line ∷ lines) all zero d lt = all.0
each_line (line ∷ lines) all (suc k) d lt = each_line lines all.1 k d (omega arith)
