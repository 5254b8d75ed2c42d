-- The calls that change the map, each as the key that it speaks of and what it does with it.
use Rattle.std.specs.Prelude.{ℕ, Option, None, Some}
use Rattle.map_model.specs.declared.call.Call.{Call}
use Rattle.map_model.specs.declared.call.Call.TheVariants as call
use Rattle.map_model.specs.declared.change.Effect.{Effect}
use Rattle.map_model.specs.declared.change.Effect.TheVariants.{Insert, Update, Remove}
use Rattle.map_model.specs.declared.change.Change.{Change}

abbrev pub doing : ℕ → Effect → Call
doing key (Insert value) = call.Insert key value
doing key (Update value) = call.Update key value
doing key Remove = call.Remove key

-- the call that a change is
abbrev pub call_of : Change → Call
call_of change = doing change.key change.effect

-- the change that a call is; a get is none
abbrev pub change_of : Call → Option Change
change_of (call.Get key) = None
change_of (call.Insert key value) = Some (record { key = key; effect = Insert value })
change_of (call.Update key value) = Some (record { key = key; effect = Update value })
change_of (call.Remove key) = Some (record { key = key; effect = Remove })
