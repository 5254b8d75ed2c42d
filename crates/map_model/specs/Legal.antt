-- When the callers' lists of entries are one history of a plain map.
use Rattle.std.specs.Prelude.{◌≡◌, ℕ, suc, ◌<◌, ◌≤◌, ⊤, List, [], ◌∷◌, length, filter, if◌then◌else◌}
use Rattle.std.specs.List.{AllByRecursion}
use Rattle.map_model.specs.declared.call.Call.{Call}
use Rattle.map_model.specs.declared.call.Call.TheVariants.{Get, Insert, Update, Remove}
use Rattle.map_model.specs.declared.entry.Reply.{Reply}
use Rattle.map_model.specs.declared.entry.Reply.TheVariants.{Found, Absent, Done, Exists, Full, Deep, Spent}
use Rattle.map_model.specs.declared.entry.Entry.{Entry}
use Rattle.map_model.specs.Map.{Map, reply_of, is_done, after}
use Rattle.map_model.specs.Weave.{all_of, draws, drew_at, weave}

-- the calls that may be refused for want of room
abbrev pub IsInsert : Call → Type 0
IsInsert (Get k) = ⊥
IsInsert (Insert k v) = ⊤
IsInsert (Update k v) = ⊥
IsInsert (Remove k) = ⊥

-- the calls that may be refused because a number is spent
abbrev pub IsChange : Call → Type 0
IsChange (Get k) = ⊥
IsChange (Insert k v) = ⊤
IsChange (Update k v) = ⊤
IsChange (Remove k) = ⊤

-- a reply that may stand where the map is m: the map's own, or Full or Deep at an insert, or Spent at a change
abbrev pub IsReplyOf : Map → Call → Reply → Type 0
IsReplyOf m call (Found v) = Found v ≡ reply_of m call
IsReplyOf m call Absent = Absent ≡ reply_of m call
IsReplyOf m call Done = Done ≡ reply_of m call
IsReplyOf m call Exists = Exists ≡ reply_of m call
IsReplyOf m call Full = IsInsert call
IsReplyOf m call Deep = IsInsert call
IsReplyOf m call Spent = IsChange call

-- the map after a row of entries
abbrev pub replay : Map → List Entry → Map
replay m [] = m
replay m (e ∷ es) = replay (after m e.call e.reply) es

-- along a row of entries each reply may stand where it stands
abbrev pub AreReplies : Map → List Entry → Type 0
AreReplies m [] = ⊤
AreReplies m (e ∷ es) = IsReplyOf m e.call e.reply × AreReplies (after m e.call e.reply) es

-- what a caller has seen after an entry: the place that it loaded, or the one behind the place that it drew
abbrev pub seen_after : Entry → ℕ
seen_after e = if e.drew then suc e.place else e.place

-- the entries of one caller, who has seen so much before: numbered on by one, drawn exactly where they change
-- the map, and none at a place below what the caller had seen
abbrev pub InOrder : ℕ → ℕ → List Entry → Type 0
InOrder serial seen [] = ⊤
InOrder serial seen (e ∷ es) =
    (e.serial ≡ serial) × (e.drew ≡ is_done e.reply) × (seen ≤ e.place) × InOrder (suc serial) (seen_after e) es

-- with so many draws in all, a drawn place is below that number, and a loaded one at most that number
abbrev pub IsPlace : ℕ → Entry → Type 0
IsPlace draws e = seen_after e ≤ draws

-- the lists are one legal history of a map that starts as this one
pub record IsLegal (start : Map) (lists : List (List Entry)) : Type 0 where
  pub callers : AllByRecursion (InOrder 1 0) lists
  pub places : AllByRecursion (IsPlace (draws (all_of lists))) (all_of lists)
  pub each_once : (n : ℕ) → n < draws (all_of lists) → length (filter (drew_at n) (all_of lists)) ≡ 1
  pub replies : AreReplies start (weave lists)

-- what a caller has seen after all its entries
abbrev pub seen_of : ℕ → List Entry → ℕ
seen_of seen [] = seen
seen_of seen (e ∷ es) = seen_of (seen_after e) es

-- an entry that may come next in a caller's list
pub record IsNext (list : List Entry) (e : Entry) : Type 0 where
  pub serial : e.serial ≡ suc (length list)
  pub drew : e.drew ≡ is_done e.reply
  pub after_seen : seen_of 0 list ≤ e.place
