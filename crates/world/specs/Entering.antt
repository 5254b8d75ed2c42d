-- What a step adds to the replies of its caller: one entry at the most.
use Rattle.std.specs.Prelude.{◌≡◌, ℕ, ◌≤◌, true, false, Some, List, [], ◌∷◌, ◌++◌, ◌⊎◌}
use Rattle.map_model.specs.declared.call.Call.TheVariants.{Get}
use Rattle.map_model.specs.declared.entry.Reply.TheVariants.{Done, Spent}
use Rattle.map_model.specs.declared.entry.Entry.{Entry}
use Rattle.map_model.specs.Map.{shown}
use Rattle.map_model.specs.Weave.{spent_count}
use Rattle.world.specs.Views.{Answer, View}
use Rattle.world.specs.Kinds.{Kind, finds_room, refuses, validates, draws_place, next_entry}

-- the entry is made by a step of this kind, which found this value: a call is answered as spent, or refused; a get tells what
-- its notes say; or a change has its place
abbrev pub IsMadeBy : Kind → ℕ → View → Entry → Type 0
IsMadeBy (finds_room call) n v e = (spent_count ≤ n) × (e ≡ next_entry v call Spent n false)
IsMadeBy (refuses call reply) n v e = e ≡ next_entry v call reply n false
IsMadeBy (validates lock) n v e = (a : Answer) × (v.answer ≡ Some a) × (e ≡ next_entry v (Get a.key) (shown a.value) a.place false)
IsMadeBy (draws_place call) n v e = e ≡ next_entry v call Done n true
IsMadeBy kind n v e = ⊥

-- the replies are as before, or one more, which the step made
abbrev pub Enters : Kind → ℕ → View → List Entry → Type 0
Enters kind n v own = (own ≡ v.own) ⊎ ((e : Entry) × (own ≡ v.own ++ e ∷ []) × IsMadeBy kind n v e)
