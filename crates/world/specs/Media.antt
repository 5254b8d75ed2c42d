-- What a power cut may leave, said by the views alone: each word of the image has the core of its newest value, or of a
-- value that some view has loose. For words that are shared this is all that a cut may leave; a device leaves no more.
use Rattle.std.specs.Prelude.{◌≡◌, ℕ, ◌<◌, ◌⊎◌, Option, List}
use Rattle.trace.specs.Events.{Words}
use Rattle.image_layout.specs.Places.{words_of}
use Rattle.map_model.specs.declared.call.Call.{Call}
use Rattle.map_model.specs.Map.{key_of}
use Rattle.frame_facts.specs.Core.{core_of}
use Rattle.world.specs.Ground.{Ground}
use Rattle.world.specs.Views.{View, Has, At, IsLoose}
use Rattle.world.specs.History.{Log, map_now, result_of}

module _ (site : Ground) (words : Words) (views : List View) where
  -- word i may be left with y
  abbrev pub MayLeave : ℕ → ℕ → Type 0
  MayLeave i y = (core_of site.shape i y ≡ core_of site.shape i (words i))
      ⊎ ((j : ℕ) × (u : View) × (x : ℕ) × At views j u × IsLoose u (i, x) × (core_of site.shape i y ≡ core_of site.shape i x))

  -- a medium that may be left
  abbrev pub IsPossible : Words → Type 0
  IsPossible medium = (i : ℕ) → i < words_of site.shape → MayLeave i (medium i)

-- a change that is stored and not drawn leaves a key with this
abbrev pub IsPlanned : List View → ℕ → Option ℕ → Type 0
IsPlanned views k a = (j : ℕ) × (u : View) × (call : Call) × At views j u × Has call u.planned × (key_of call ≡ k) × (result_of call ≡ a)

-- what a key may be left with: what the history gives it, or what one such change does
abbrev pub Stands : Ground → List View → Log → ℕ → Option ℕ → Type 0
Stands site views log k a = (a ≡ map_now site.start log k) ⊎ IsPlanned views k a
