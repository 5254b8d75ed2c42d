-- Legality said of each entry at its own place: a new entry leaves what is said of the others as it was.
use Rattle.std.specs.Prelude.{◌≡◌, ℕ, zero, suc, ◌<◌, List, [], ◌++◌, length, filter}
use Rattle.std.specs.List.{AllByRecursion}
use Rattle.map_model.specs.declared.entry.Entry.{Entry}
use Rattle.map_model.specs.Map.{Map}
use Rattle.map_model.specs.Weave.{all_of, draws, drew_at}
use Rattle.map_model.specs.Legal.{IsReplyOf, InOrder, IsPlace, replay}

-- the entries that drew a place below n, in the order of their places
abbrev pub draws_below : List Entry → ℕ → List Entry
draws_below all zero = []
draws_below all (suc n) = draws_below all n ++ filter (drew_at n) all

-- the map after n draws
abbrev pub map_at : Map → List Entry → ℕ → Map
map_at start all n = replay start (draws_below all n)

-- the entry's reply may stand at the map after as many draws as its place says
abbrev pub IsRightAtPlace : Map → List Entry → Entry → Type 0
IsRightAtPlace start all e = IsReplyOf (map_at start all e.place) e.call e.reply

-- the lists are a legal history, each entry looked at alone
pub record IsLegalByPlaces (start : Map) (lists : List (List Entry)) : Type 0 where
  pub callers : AllByRecursion (InOrder 1 0) lists
  pub places : AllByRecursion (IsPlace (draws (all_of lists))) (all_of lists)
  pub each_once : (n : ℕ) → n < draws (all_of lists) → length (filter (drew_at n) (all_of lists)) ≡ 1
  pub replies : AllByRecursion (IsRightAtPlace start (all_of lists)) (all_of lists)
