-- Which lines may stand behind which.
use Rattle.std.specs.Prelude.{◌≡◌, ℕ, ◌==◌, Bool, true, false, ⊤, IsTrue, List, [], ◌∷◌, if◌then◌else◌}
use Rattle.map_model.specs.Weave.{keeper_number}
use Rattle.script_text.specs.declared.line.Line.{Line}
use Rattle.script_text.specs.declared.line.Line.TheVariants.{Call as CallLine, Fuse, Step, Until, At, Close, Cut}
use Rattle.script_text.specs.declared.line.Mode.{Mode}
use Rattle.script_text.specs.declared.line.Mode.TheVariants.{Play, Serve}
use Rattle.script_text.specs.declared.phase.Phase.{Phase}
use Rattle.script_text.specs.declared.phase.Phase.TheVariants.{Calling, Running, Closing, CutOff}
use Rattle.script_text.specs.declared.reading.Reading.{Reading}
use Rattle.script_text.specs.declared.reading.Reading.TheVariants.{Skipped, Says, BadWord, BadNumber, BadCaller, BadOrder}

-- PHASES
-- a run ends the calls, and leaves a close as it is
abbrev pub after_run : Phase → Phase
after_run Calling = Running
after_run Running = Running
after_run Closing = Closing
after_run CutOff = CutOff

-- where a script is behind a line
abbrev pub phase_after : Phase → Line → Phase
phase_after phase (CallLine c call) = phase
phase_after phase (Fuse c n) = phase
phase_after phase (Step c n) = after_run phase
phase_after phase (Until c event n) = after_run phase
phase_after phase (At c n) = after_run phase
phase_after phase Close = Closing
phase_after phase (Cut n) = CutOff

-- WHAT MAY FOLLOW
-- calls stand before all other lines
abbrev pub may_call : Phase → Bool
may_call Calling = true
may_call Running = false
may_call Closing = false
may_call CutOff = false

-- only a play is scheduled; after a close only caller 0 runs, and after a cut nobody
abbrev pub may_run : Mode → Phase → ℕ → Bool
may_run Serve phase c = false
may_run Play Calling c = true
may_run Play Running c = true
may_run Play Closing c = c == keeper_number
may_run Play CutOff c = false

-- only a play is closed by a line, and only once
abbrev pub may_close : Mode → Phase → Bool
may_close Serve phase = false
may_close Play Calling = true
may_close Play Running = true
may_close Play Closing = false
may_close Play CutOff = false

-- a cut stands anywhere but behind a cut
abbrev pub may_cut : Phase → Bool
may_cut Calling = true
may_cut Running = true
may_cut Closing = true
may_cut CutOff = false

-- the line may stand where a script is in this phase; a fuse has no form so far
abbrev pub may_follow : Mode → Phase → Line → Bool
may_follow mode phase (CallLine c call) = may_call phase
may_follow mode phase (Fuse c n) = false
may_follow mode phase (Step c n) = may_run mode phase c
may_follow mode phase (Until c event n) = may_run mode phase c
may_follow mode phase (At c n) = may_run mode phase c
may_follow mode phase Close = may_close mode phase
may_follow mode phase (Cut n) = may_cut phase

-- each line may stand behind those before it
abbrev pub IsOrdered : Mode → Phase → List Line → Type 0
IsOrdered mode phase [] = ⊤
IsOrdered mode phase (line ∷ lines) = IsTrue (may_follow mode phase line) × IsOrdered mode (phase_after phase line) lines

-- what may stand behind a close: a run of caller 0, and a cut
abbrev pub IsBehindClose : Line → Type 0
IsBehindClose (CallLine c call) = ⊥
IsBehindClose (Fuse c n) = ⊥
IsBehindClose (Step c n) = c ≡ keeper_number
IsBehindClose (Until c event n) = c ≡ keeper_number
IsBehindClose (At c n) = c ≡ keeper_number
IsBehindClose Close = ⊥
IsBehindClose (Cut n) = ⊤

-- READINGS IN ORDER
-- a line of the grammar is bad where it may not stand
abbrev pub in_place : Mode → Phase → Reading → Reading
in_place mode phase Skipped = Skipped
in_place mode phase (Says line) = if may_follow mode phase line then Says line else BadOrder
in_place mode phase BadWord = BadWord
in_place mode phase BadNumber = BadNumber
in_place mode phase BadCaller = BadCaller
in_place mode phase BadOrder = BadOrder

-- only a line of the grammar leads a script on
abbrev pub phase_behind : Phase → Reading → Phase
phase_behind phase Skipped = phase
phase_behind phase (Says line) = phase_after phase line
phase_behind phase BadWord = phase
phase_behind phase BadNumber = phase
phase_behind phase BadCaller = phase
phase_behind phase BadOrder = phase

-- the readings, where those that may not stand where they do are bad
abbrev pub in_order : Mode → Phase → List Reading → List Reading
in_order mode phase [] = []
in_order mode phase (reading ∷ rest) = in_place mode phase reading ∷ in_order mode (phase_behind phase (in_place mode phase reading)) rest
