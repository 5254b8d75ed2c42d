-- The one order of all entries, made from the places that they drew and loaded.
use Rattle.std.specs.Prelude.{ℕ, ◌-◌, ◌^◌, zero, suc, Bool, not, ◌&&◌, ◌==◌, List, [], ◌++◌, length, filter}
use Rattle.std.specs.List.{flat_map}
use Rattle.map_model.specs.declared.entry.Entry.{Entry}

-- whether an entry loaded place n
abbrev pub loaded_at : ℕ → Entry → Bool
loaded_at n e = not e.drew && (e.place == n)

-- whether an entry drew place n
abbrev pub drew_at : ℕ → Entry → Bool
drew_at n e = e.drew && (e.place == n)

-- how many callers a run has at most; what is said here is said of any number of them
abbrev pub most_callers : ℕ
most_callers = 64

-- callers are numbered from this number on
abbrev pub first_caller : ℕ
first_caller = 1

-- in lists and among engines they have seats, from 0 on: the seat of the one with this number
abbrev pub seat_of : ℕ → ℕ
seat_of caller = caller - first_caller

-- and the number below it is the keeper's, who starts the image and closes it
abbrev pub keeper_number : ℕ
keeper_number = 0

-- the entries of all callers, by caller number and then in each caller's order
abbrev pub all_of : List (List Entry) → List Entry
all_of lists = flat_map (λ list. list) lists

-- how many entries drew their place
abbrev pub draws : List Entry → ℕ
draws all = length (filter (λ e. e.drew) all)

-- who finds so many places drawn, or more, is answered as spent and draws none; who found fewer may draw behind them
abbrev pub spent_count : ℕ
spent_count = 2 ^ 63

-- at place n: first the entries that loaded it, then the one that drew it
abbrev pub at_place : List Entry → ℕ → List Entry
at_place all n = filter (loaded_at n) all ++ filter (drew_at n) all

-- the entries at the places below a limit, from place 0 upward
abbrev pub weave_below : List Entry → ℕ → List Entry
weave_below all zero = []
weave_below all (suc n) = weave_below all n ++ at_place all n

-- the weave of the callers' lists: the places from 0 to the number of drawn places
abbrev pub weave : List (List Entry) → List Entry
weave lists = weave_below (all_of lists) (suc (draws (all_of lists)))
