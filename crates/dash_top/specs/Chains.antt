-- Plays one after another, as relations of bytes: each on the image that the one before has left, by a close or by a power cut.
use Rattle.std.specs.Prelude.{◌≡◌, ℕ, List, [], ◌∷◌, map, if◌then◌else◌, ⊤}
use Rattle.std.specs.List.{AllByRecursion}
use Rattle.map_model.specs.declared.call.Call.{Call}
use Rattle.map_model.specs.Map.{Map}
use Rattle.map_model.specs.Weave.{weave}
use Rattle.map_model.specs.Legal.{replay}
use Rattle.image_layout.specs.Places.{Shape}
use Rattle.sound_image.specs.Image.{IsSoundFileOf}
use Rattle.session.specs.Callers.{history_of, undrawn}
use Rattle.serve.specs.Played.{scripts_of}
use Rattle.serve.specs.Runs.{ending_of, CarriesOn}
use Rattle.dash_top.specs.Played.{IsPlayed}

-- what a play reads, what it writes, and the image that it leaves
pub record PlayBytes : Type 0 where
  pub script : List ℕ
  pub transcript : List ℕ
  pub ending : List ℕ

-- EACH PLAY is played, the first from these bytes, and each other one from those that the one before has left
abbrev pub ArePlayed : List ℕ → List PlayBytes → Type 0
ArePlayed start [] = ⊤
ArePlayed start (play ∷ plays) = IsPlayed start play.script play.transcript play.ending × ArePlayed play.ending plays

-- WHAT EACH LEAVES is so again, of the shape of the first
abbrev pub PlaysLeaveSound : Type 0
PlaysLeaveSound = (shape : Shape) (start : List ℕ) (plays : List PlayBytes) → IsSoundFileOf shape start → ArePlayed start plays
    → AllByRecursion (λ play. IsSoundFileOf shape play.ending) plays

module _ {start script transcript ending : List ℕ} (played : IsPlayed start script transcript ending) where
  -- the map with which a play begins, and that which its history leaves
  abbrev pub map_before : Map
  map_before = played.session.opening

  abbrev pub map_after : Map
  map_after = replay map_before (weave (map history_of played.session.tolds))

  -- the calls that its cut left open; after a close there are none
  abbrev pub open_calls : List Call
  open_calls = if (ending_of played.lines).closed then [] else undrawn (scripts_of played.lines) played.session.tolds

-- ONE MAP GOES THROUGH ALL PLAYS: each begins with the map that the one before has left, each call that is open whole or absent
abbrev pub MapGoesThrough : (start : List ℕ) (plays : List PlayBytes) → ArePlayed start plays → Type 0
MapGoesThrough start [] played = ⊤
MapGoesThrough start (only ∷ []) played = ⊤
MapGoesThrough start (play ∷ next ∷ plays) played =
    CarriesOn (map_after played.0) (open_calls played.0) (map_before played.1.0) × MapGoesThrough play.ending (next ∷ plays) played.1

abbrev pub PlaysShareMap : Type 0
PlaysShareMap = (start : List ℕ) (plays : List PlayBytes) (played : ArePlayed start plays) → MapGoesThrough start plays played
