-- What the callers of a session were told, against the calls that their script gives them.
use Rattle.std.specs.Prelude.{◌≡◌, ℕ, ◌+◌, ◌≤◌, Option, None, Some, List, [], ◌∷◌, ◌++◌, length, map, take, slice_get}
use Rattle.map_model.specs.declared.call.Call.{Call}
use Rattle.map_model.specs.declared.entry.Entry.{Entry}
use Rattle.session.specs.Transcript.{Told}

-- a caller's entries with that of its open call, where that drew
abbrev pub with_open : List Entry → Option (Option Entry) → List Entry
with_open es None = es
with_open es (Some None) = es
with_open es (Some (Some e)) = es ++ e ∷ []

abbrev pub history_of : Told → List Entry
history_of told = with_open told.entries told.left_open

abbrev pub open_count : Option (Option Entry) → ℕ
open_count None = 0
open_count (Some drew) = 1

-- the caller's calls are the first of its script's, in their order; at most one is open, and it is the last of them
pub record FollowsScript (script : List Call) (told : Told) : Type 0 where
  pub its_calls : map (λ e. e.call) (history_of told) ≡ take (length (history_of told)) script
  pub within : length told.entries + open_count told.left_open ≤ length script

-- each call of the script has its reply, and none is open
pub record IsAnswered (script : List Call) (told : Told) : Type 0 where
  pub each : length told.entries ≡ length script
  pub none_open : told.left_open ≡ None

-- the call that a caller left open without drawing
abbrev pub undrawn_call : Option Call → Option (Option Entry) → List Call
undrawn_call None left = []
undrawn_call (Some call) None = []
undrawn_call (Some call) (Some None) = call ∷ []
undrawn_call (Some call) (Some (Some e)) = []

-- the calls of all callers that are open and did not draw
abbrev pub undrawn : List (List Call) → List Told → List Call
undrawn [] tolds = []
undrawn (script ∷ scripts) [] = []
undrawn (script ∷ scripts) (told ∷ tolds) =
    undrawn_call (slice_get script (length told.entries)) told.left_open ++ undrawn scripts tolds
