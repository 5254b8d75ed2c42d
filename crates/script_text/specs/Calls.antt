-- The calls of each caller, and the lines that there are so far.
use Rattle.std.specs.Prelude.{ℕ, ◌^◌, ◌<◌, ◌≤◌, max, ◌==◌, ⊤, List, [], ◌∷◌, if◌then◌else◌}
use Rattle.map_model.specs.declared.call.Call.{Call}
use Rattle.map_model.specs.declared.call.Call.TheVariants.{Get, Insert, Update, Remove}
use Rattle.map_model.specs.Weave.{most_callers, first_caller}
use Rattle.script_text.specs.declared.line.Line.{Line}
use Rattle.script_text.specs.declared.line.Line.TheVariants.{Call as CallLine, Fuse, Step, Until, At, Close, Cut}

-- the calls that the lines give to a caller, in their order
abbrev pub calls_of : ℕ → List Line → List Call
calls_of caller [] = []
calls_of caller (CallLine c call ∷ lines) = if c == caller then call ∷ calls_of caller lines else calls_of caller lines
calls_of caller (Fuse c n ∷ lines) = calls_of caller lines
calls_of caller (Step c n ∷ lines) = calls_of caller lines
calls_of caller (Until c event n ∷ lines) = calls_of caller lines
calls_of caller (At c n ∷ lines) = calls_of caller lines
calls_of caller (Close ∷ lines) = calls_of caller lines
calls_of caller (Cut n ∷ lines) = calls_of caller lines

-- the last caller that the lines give a call, and 0 where there is none
abbrev pub last_caller : List Line → ℕ
last_caller [] = 0
last_caller (CallLine c call ∷ lines) = max c (last_caller lines)
last_caller (Fuse c n ∷ lines) = last_caller lines
last_caller (Step c n ∷ lines) = last_caller lines
last_caller (Until c event n ∷ lines) = last_caller lines
last_caller (At c n ∷ lines) = last_caller lines
last_caller (Close ∷ lines) = last_caller lines
last_caller (Cut n ∷ lines) = last_caller lines

-- the numbers of a call are words of 64 bits
abbrev pub IsCallSoFar : Call → Type 0
IsCallSoFar (Get k) = k < 2 ^ 64
IsCallSoFar (Insert k v) = (k < 2 ^ 64) × (v < 2 ^ 64)
IsCallSoFar (Update k v) = (k < 2 ^ 64) × (v < 2 ^ 64)
IsCallSoFar (Remove k) = k < 2 ^ 64

-- the lines that a script can have so far: calls of callers 1 to 64, runs of callers up to 64, a close and a cut, all of words
abbrev pub IsLineSoFar : Line → Type 0
IsLineSoFar (CallLine c call) = (first_caller ≤ c) × (c ≤ most_callers) × IsCallSoFar call
IsLineSoFar (Fuse c n) = ⊥
IsLineSoFar (Step c n) = (c ≤ most_callers) × (n < 2 ^ 64)
IsLineSoFar (Until c event n) = (c ≤ most_callers) × (n < 2 ^ 64)
IsLineSoFar (At c n) = (c ≤ most_callers) × (n < 2 ^ 64)
IsLineSoFar Close = ⊤
IsLineSoFar (Cut n) = n < 2 ^ 64
