-- What the callers of a session were told, from their entries and from where they stopped.
use Rattle.std.specs.Prelude.{ℕ, ◌+◌, Option, None, Some, List, [], ◌∷◌, length, if◌then◌else◌}
use Rattle.map_model.specs.declared.entry.Entry.{Entry}
use Rattle.map_model.specs.declared.entry.Stop.{Stop}
use Rattle.session.specs.Transcript.{Told}
use Rattle.session.specs.Callers.{open_count}

-- a caller that stopped has a call open if that had begun
abbrev pub left_by : Option Stop → Option (Option Entry)
left_by None = None
left_by (Some stop) = if stop.begun then Some stop.drew else None

abbrev pub told_by : List Entry → Option Stop → Told
told_by es stop = record { entries = es; left_open = left_by stop }

-- what each caller that has a list was told
abbrev pub tolds_of : List (List Entry) → List (Option Stop) → List Told
tolds_of [] stops = []
tolds_of (es ∷ lists) [] = told_by es None ∷ tolds_of lists []
tolds_of (es ∷ lists) (stop ∷ stops) = told_by es stop ∷ tolds_of lists stops

-- how many calls have their reply
abbrev pub replies_in : List (List Entry) → ℕ
replies_in [] = 0
replies_in (es ∷ lists) = length es + replies_in lists

-- how many calls are open, of each caller one at the most
abbrev pub opens_in : List Told → ℕ
opens_in [] = 0
opens_in (told ∷ others) = open_count told.left_open + opens_in others
