-- What may stand in a script that is in order: nothing behind a cut, no call behind another line, and behind a close only runs of caller 0 and a cut.
use Rattle.std.proofs.Common.{◌≡◌, ℕ, List, [], ◌∷◌, refl, eqb-true}
use Rattle.std.specs.Prelude.{IsTrue, All}
use Rattle.std.specs.List.{AllByRecursion}
use Rattle.std.proofs.lemmas.Bool.{false≢true}
use Rattle.std.proofs.lemmas.List.Elements.{All-from_recursion}
use Rattle.script_text.specs.declared.line.Line.{Line}
use Rattle.script_text.specs.declared.line.Line.TheVariants.{Call as CallLine, Fuse, Step, Until, At, Close, Cut}
use Rattle.script_text.specs.declared.line.Mode.{Mode}
use Rattle.script_text.specs.declared.line.Mode.TheVariants.{Play, Serve}
use Rattle.script_text.specs.declared.phase.Phase.TheVariants.{Running, Closing, CutOff}
use Rattle.script_text.specs.Calls.{calls_of}
use Rattle.script_text.specs.Order.{may_run, may_close, may_follow, IsOrdered, IsBehindClose}

-- BEHIND A CUT
no_run_behind_cut : (mode : Mode) (c : ℕ) → IsTrue (may_run mode CutOff c) → ⊥
no_run_behind_cut Play c h = false≢true h
no_run_behind_cut Serve c h = false≢true h

no_close_behind_cut : (mode : Mode) → IsTrue (may_close mode CutOff) → ⊥
no_close_behind_cut Play h = false≢true h
no_close_behind_cut Serve h = false≢true h

no_line_behind_cut : (mode : Mode) (line : Line) → IsTrue (may_follow mode CutOff line) → ⊥
no_line_behind_cut mode (CallLine c call) h = false≢true h
no_line_behind_cut mode (Fuse c n) h = false≢true h
no_line_behind_cut mode (Step c n) h = no_run_behind_cut mode c h
no_line_behind_cut mode (Until c event n) h = no_run_behind_cut mode c h
no_line_behind_cut mode (At c n) h = no_run_behind_cut mode c h
no_line_behind_cut mode Close h = no_close_behind_cut mode h
no_line_behind_cut mode (Cut n) h = false≢true h

pub none_behind_cut : (mode : Mode) (lines : List Line) → IsOrdered mode CutOff lines → lines ≡ []
none_behind_cut mode [] h = refl
none_behind_cut mode (line ∷ lines) h = absurd (no_line_behind_cut mode line h.0)

no_calls_behind_cut : (mode : Mode) (lines : List Line) (caller : ℕ) → IsOrdered mode CutOff lines → calls_of caller lines ≡ []
no_calls_behind_cut mode [] caller h = refl
no_calls_behind_cut mode (line ∷ lines) caller h = absurd (no_line_behind_cut mode line h.0)

-- BEHIND A CLOSE
only_zero_runs : (mode : Mode) (c : ℕ) → IsTrue (may_run mode Closing c) → c ≡ 0
only_zero_runs Play c h = eqb-true c 0 h
only_zero_runs Serve c h = absurd (false≢true h)

no_second_close : (mode : Mode) → IsTrue (may_close mode Closing) → ⊥
no_second_close Play h = false≢true h
no_second_close Serve h = false≢true h

pub no_calls_behind_close : (mode : Mode) (lines : List Line) (caller : ℕ) → IsOrdered mode Closing lines → calls_of caller lines ≡ []
no_calls_behind_close mode [] caller h = refl
no_calls_behind_close mode (CallLine c call ∷ lines) caller h = absurd (false≢true h.0)
no_calls_behind_close mode (Fuse c n ∷ lines) caller h = absurd (false≢true h.0)
no_calls_behind_close mode (Step c n ∷ lines) caller h = no_calls_behind_close mode lines caller h.1
no_calls_behind_close mode (Until c event n ∷ lines) caller h = no_calls_behind_close mode lines caller h.1
no_calls_behind_close mode (At c n ∷ lines) caller h = no_calls_behind_close mode lines caller h.1
no_calls_behind_close mode (Close ∷ lines) caller h = no_calls_behind_close mode lines caller h.1
no_calls_behind_close mode (Cut n ∷ lines) caller h = no_calls_behind_cut mode lines caller h.1

all_behind_cut : (mode : Mode) (lines : List Line) → IsOrdered mode CutOff lines → AllByRecursion IsBehindClose lines
all_behind_cut mode [] h = tt
all_behind_cut mode (line ∷ lines) h = absurd (no_line_behind_cut mode line h.0)

each_behind_close : (mode : Mode) (lines : List Line) → IsOrdered mode Closing lines → AllByRecursion IsBehindClose lines
each_behind_close mode [] h = tt
each_behind_close mode (CallLine c call ∷ lines) h = absurd (false≢true h.0)
each_behind_close mode (Fuse c n ∷ lines) h = absurd (false≢true h.0)
each_behind_close mode (Step c n ∷ lines) h = (only_zero_runs mode c h.0, each_behind_close mode lines h.1)
each_behind_close mode (Until c event n ∷ lines) h = (only_zero_runs mode c h.0, each_behind_close mode lines h.1)
each_behind_close mode (At c n ∷ lines) h = (only_zero_runs mode c h.0, each_behind_close mode lines h.1)
each_behind_close mode (Close ∷ lines) h = absurd (no_second_close mode h.0)
each_behind_close mode (Cut n ∷ lines) h = (tt, all_behind_cut mode lines h.1)

pub all_behind_close : (mode : Mode) (lines : List Line) → IsOrdered mode Closing lines → All IsBehindClose lines
all_behind_close mode lines h = All-from_recursion IsBehindClose lines (each_behind_close mode lines h)

-- BEHIND A RUN
pub no_calls_behind_run : (mode : Mode) (lines : List Line) (caller : ℕ) → IsOrdered mode Running lines → calls_of caller lines ≡ []
no_calls_behind_run mode [] caller h = refl
no_calls_behind_run mode (CallLine c call ∷ lines) caller h = absurd (false≢true h.0)
no_calls_behind_run mode (Fuse c n ∷ lines) caller h = absurd (false≢true h.0)
no_calls_behind_run mode (Step c n ∷ lines) caller h = no_calls_behind_run mode lines caller h.1
no_calls_behind_run mode (Until c event n ∷ lines) caller h = no_calls_behind_run mode lines caller h.1
no_calls_behind_run mode (At c n ∷ lines) caller h = no_calls_behind_run mode lines caller h.1
no_calls_behind_run mode (Close ∷ lines) caller h = no_calls_behind_close mode lines caller h.1
no_calls_behind_run mode (Cut n ∷ lines) caller h = no_calls_behind_cut mode lines caller h.1
