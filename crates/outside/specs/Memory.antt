-- Calls on memory that fail, and gates in memory.
use Rattle.std.specs.Prelude.{ℕ, ◌<◌, ◌⊎◌, Bool, true, false, List, Contains, slice_index_or}
use Rattle.outside.specs.Causes.{count_after}
use Rattle.outside.specs.declared.gates.GateState.{GateState}
use Rattle.outside.specs.declared.gates.GateState.TheVariants.{Unmade}

-- after so many calls, the next one is in the list of those that are to fail
abbrev pub IsToFail : List ℕ → ℕ → Type 0
IsToFail fails calls = Contains fails (count_after calls)

-- after so many calls, this one is in the list or wants more room than there is
abbrev pub IsRefused : List ℕ → ℕ → ℕ → ℕ → Type 0
IsRefused fails calls size room = IsToFail fails calls ⊎ (room < size)

-- the cuts of a fuse: one where it has cut
abbrev pub cut_count : Bool → ℕ
cut_count true = 1
cut_count false = 0

-- the state of a caller's gate in the table, and past its end none is made
abbrev pub state_at : List GateState → ℕ → GateState
state_at states caller = slice_index_or states caller Unmade
