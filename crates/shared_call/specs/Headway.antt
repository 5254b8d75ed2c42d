-- How far a call has come: whether it has begun, and which place it drew.
use Rattle.std.specs.Prelude.{◌≡◌, ℕ, true, false, Option, None, Some, List, [], ◌∷◌, ◌++◌}
use Rattle.op_core.specs.declared.want.Want.{Want}
use Rattle.op_core.specs.declared.want.Ans.{Ans}
use Rattle.op_core.specs.declared.want.Ans.TheVariants.{Drawn}
use Rattle.map_model.specs.declared.call.Call.{Call}
use Rattle.map_model.specs.declared.entry.Reply.TheVariants.{Done}
use Rattle.world.specs.Views.{View, Has}
use Rattle.world.specs.Wants.{answer_to}
use Rattle.world.specs.Kinds.{next_entry}
use Rattle.engine.specs.Holding.{HasUntold}
use Rattle.vlock.specs.declared.knows.Watch.{Watch}
use Rattle.shared_call.specs.declared.headway.Headway.{Headway}

-- of a call of which no event was taken
abbrev pub no_headway : Headway
no_headway = record { begun = false; drew = None }

-- with an event that has this answer
abbrev pub headway_with : Headway → Ans → Headway
headway_with n (Drawn place) = record { begun = true; drew = Some place }
headway_with n ans = record { begun = true; drew = n.drew }

-- with these events, the newest first, each with the value that its word was found to have
abbrev pub headway_after : List (Want × ℕ) → Headway → Headway
headway_after [] before = before
headway_after (x ∷ events) before = headway_with (headway_after events before) (answer_to x.0 x.1)

-- THE HEADWAY by the events that a seat took since it knew p, where `before` was made by then
abbrev pub HasHeadway : Watch → Headway → Watch → Headway → Type 0
HasHeadway p before q now = (events : List (Want × ℕ)) → q.took ≡ events ++ p.took → now ≡ headway_after events before

-- WHAT A VIEW HAS PLANNED is the change of this call, and then it has the entries that it had before it
abbrev pub PlansCall : Call → View → View → Type 0
PlansCall call before v = (planned : Call) → Has planned v.planned → (planned ≡ call) × (v.own ≡ before.own)

-- THE VIEW OF A CALL that has drawn this place has the entry of that more than before it; and of one that has drawn none it has at the most an entry more,
-- which drew none
abbrev pub HasDrawn : Call → View → Option ℕ → View → Type 0
HasDrawn call before None v = HasUntold before.own v.own
HasDrawn call before (Some place) v = v.own ≡ before.own ++ next_entry before call Done place true ∷ []
