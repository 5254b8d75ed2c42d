-- All stores of a list in rounds: which events are wanted, one after another, until none is.
use Rattle.std.specs.Prelude.{◌≡◌, ℕ, Bool, true, false, Option, None, Some, List, [], ◌∷◌, map}
use Rattle.trace.specs.Events.{line_of}
use Rattle.op_core.specs.declared.want.Want.{Want}
use Rattle.op_core.specs.declared.want.Want.TheVariants.{Store, Flush, Fence}
use Rattle.whole_segment.specs.Rounds.{Deed}
use Rattle.whole_segment.specs.Rounds.Deed.{Stores, Flushes, Fences}
use Rattle.rounds.specs.declared.rounds.Rounds.{Rounds}
use Rattle.rounds.specs.Steps.{rounds_stores, rounds_wanted, rounds_taken}

-- the store that is to come of these, each a word and its value
abbrev pub next_of : List (ℕ × ℕ) → Option (ℕ × ℕ)
next_of [] = None
next_of (store ∷ stores) = Some store

-- those that are to come behind it
abbrev pub rest_by : Bool → List (ℕ × ℕ) → List (ℕ × ℕ)
rest_by false stores = stores
rest_by true [] = []
rest_by true (store ∷ stores) = stores

-- THE EVENTS by which these are stored, one after another, until none is wanted
abbrev pub Runs : Rounds → List (ℕ × ℕ) → List Want → Type 0
Runs rounds stores [] = rounds_wanted rounds (next_of stores) ≡ None
Runs rounds stores (want ∷ wants) =
    (rounds_wanted rounds (next_of stores) ≡ Some want) × Runs (rounds_taken rounds (next_of stores)) (rest_by (rounds_stores rounds (next_of stores)) stores) wants

-- ---- what is done by them
abbrev pub deed_by : Want → List Deed → List Deed
deed_by (Store word value) deeds = Stores (line_of word) ∷ deeds
deed_by (Flush line) deeds = Flushes line ∷ deeds
deed_by Fence deeds = Fences ∷ deeds
deed_by other deeds = deeds

abbrev pub deeds_of : List Want → List Deed
deeds_of [] = []
deeds_of (want ∷ wants) = deed_by want (deeds_of wants)

-- what is stored, in its order
abbrev pub stored_by : Want → List (ℕ × ℕ) → List (ℕ × ℕ)
stored_by (Store word value) stores = (word, value) ∷ stores
stored_by other stores = stores

abbrev pub stored_of : List Want → List (ℕ × ℕ)
stored_of [] = []
stored_of (want ∷ wants) = stored_by want (stored_of wants)

-- the lines of the words that are stored
abbrev pub lines_of : List (ℕ × ℕ) → List ℕ
lines_of stores = map (λ store. line_of store.0) stores
