-- The laws of legal histories: each can be read on its own, and is proved by a function of `laws`.
use Rattle.std.specs.Prelude.{◌≡◌, ℕ, ◌≤◌, ◌↔◌, true, false, List, [], ◌∷◌, ◌++◌}
use Rattle.map_model.specs.declared.entry.Entry.{Entry}
use Rattle.map_model.specs.Map.{Map, after}
use Rattle.map_model.specs.Weave.{all_of, draws, weave}
use Rattle.map_model.specs.Legal.{IsReplyOf, replay, IsLegal, IsNext}
use Rattle.map_model.specs.ByPlaces.{map_at, IsLegalByPlaces}

-- an entry that loaded a place which the draws have reached, with a right reply for that place, keeps a history legal
abbrev pub LoadedKeepsLegal : Type 0
LoadedKeepsLegal =
    (start : Map) (before : List (List Entry)) (mine : List Entry) (after' : List (List Entry)) (e : Entry)
    → IsLegal start (before ++ mine ∷ after') → IsNext mine e
    → e.drew ≡ false → e.place ≤ draws (all_of (before ++ mine ∷ after'))
    → IsReplyOf (map_at start (all_of (before ++ mine ∷ after')) e.place) e.call e.reply
    → IsLegal start (before ++ (mine ++ e ∷ []) ∷ after')

-- an entry that drew the next place, with a right reply for the map of the whole history, keeps it legal
abbrev pub DrawnKeepsLegal : Type 0
DrawnKeepsLegal =
    (start : Map) (before : List (List Entry)) (mine : List Entry) (after' : List (List Entry)) (e : Entry)
    → IsLegal start (before ++ mine ∷ after') → IsNext mine e
    → e.drew ≡ true → e.place ≡ draws (all_of (before ++ mine ∷ after'))
    → IsReplyOf (replay start (weave (before ++ mine ∷ after'))) e.call e.reply
    → IsLegal start (before ++ (mine ++ e ∷ []) ∷ after')

-- a history is legal exactly where each entry, looked at alone, is right at its own place
abbrev pub LegalByPlaces : Type 0
LegalByPlaces = (start : Map) (lists : List (List Entry)) → IsLegal start lists ↔ IsLegalByPlaces start lists

-- the whole weave of a legal history leaves the map that its draws leave
abbrev pub WeaveLeavesDraws : Type 0
WeaveLeavesDraws = (start : Map) (lists : List (List Entry)) → IsLegal start lists
    → replay start (weave lists) ≡ map_at start (all_of lists) (draws (all_of lists))

-- the new history has the maps of the old one at all its places, and then the map that the new entry makes
pub record KeepsMaps (start : Map) (old new : List (List Entry)) (e : Entry) : Type 0 where
  pub earlier : (n : ℕ) → n ≤ draws (all_of old) → map_at start (all_of new) n ≡ map_at start (all_of old) n
  pub last : replay start (weave new) ≡ after (replay start (weave old)) e.call e.reply

-- so it is with one more entry that loaded a place
abbrev pub LoadedKeepsMaps : Type 0
LoadedKeepsMaps =
    (start : Map) (before : List (List Entry)) (mine : List Entry) (after' : List (List Entry)) (e : Entry)
    → IsLegal start (before ++ mine ∷ after') → IsNext mine e
    → e.drew ≡ false → e.place ≤ draws (all_of (before ++ mine ∷ after'))
    → KeepsMaps start (before ++ mine ∷ after') (before ++ (mine ++ e ∷ []) ∷ after') e

-- and with one more that drew the next place
abbrev pub DrawnKeepsMaps : Type 0
DrawnKeepsMaps =
    (start : Map) (before : List (List Entry)) (mine : List Entry) (after' : List (List Entry)) (e : Entry)
    → IsLegal start (before ++ mine ∷ after') → IsNext mine e
    → e.drew ≡ true → e.place ≡ draws (all_of (before ++ mine ∷ after'))
    → KeepsMaps start (before ++ mine ∷ after') (before ++ (mine ++ e ∷ []) ∷ after') e
