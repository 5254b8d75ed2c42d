-- The laws of the world, each to be read on its own.
use Rattle.std.specs.Prelude.{◌≡◌, ℕ, List, map, set}
use Rattle.std.specs.FinMap.{get}
use Rattle.map_model.specs.Map.{Map}
use Rattle.map_model.specs.Weave.{weave}
use Rattle.map_model.specs.Legal.{replay, IsLegal}
use Rattle.trace.specs.Events.{Words, with_word}
use Rattle.op_core.specs.declared.want.Want.{Want}
use Rattle.image_layout.specs.Places.{Shape}
use Rattle.world.specs.Ground.{Ground}
use Rattle.world.specs.Views.{View}
use Rattle.world.specs.History.{Log, map_now}
use Rattle.world.specs.Wants.{word_of, left_by, words_after}
use Rattle.world.specs.Kinds.{Kind, wanted, view_after}
use Rattle.world.specs.Entering.{Enters}
use Rattle.world.specs.Parts.{History}

module _ (site : Ground) (kind : Kind) where
  -- the word that a step finds
  abbrev pub found_by : Words → ℕ
  found_by words = words (word_of site.shape (wanted site.shape kind))

  -- the words after it
  abbrev pub words_by : ℕ → Words → Words
  words_by j words = words_after site.shape (wanted site.shape kind) j words

  -- the views after it
  abbrev pub views_by : ℕ → View → Words → List View → List View
  views_by j v words views = set views j (view_after site.shape kind (found_by words) v)

-- THE REPLIES ARE LEGAL: over a map that starts with the start's pairs, the replies of all callers are one legal history,
-- whose replay has for each key what the log gives it
abbrev pub EntriesAreLegal : Type 0
EntriesAreLegal = (site : Ground) (words : Words) (views : List View) (log : Log) → History site words views log
    → (start : Map) → ((k : ℕ) → get start k ≡ site.start k)
    → IsLegal start (map (λ v. v.own) views) × ((k : ℕ) → get (replay start (weave (map (λ v. v.own) views))) k ≡ map_now site.start log k)

-- the words that a want leaves differ from those before in its own word at most
abbrev pub ChangesOneWord : Type 0
ChangesOneWord = (shape : Shape) (want : Want) (c : ℕ) (words : Words)
    → words_after shape want c words ≡ with_word words (word_of shape want) (left_by shape want (words (word_of shape want)))

-- a step adds one entry at the most to what its caller has replied
abbrev pub StepsEnter : Type 0
StepsEnter = (shape : Shape) (kind : Kind) (n : ℕ) (v : View) → Enters kind n v (view_after shape kind n v).own

-- and leaves the view for as many callers
abbrev pub CallersStay : Type 0
CallersStay = (shape : Shape) (kind : Kind) (n : ℕ) (v : View) → (view_after shape kind n v).callers ≡ v.callers
