-- A STEP of a caller, of a kind of its calls or of one at the structure: which event it is, what its view becomes, and what it asks of that
-- view alone.
use Rattle.std.specs.Prelude.{ℕ, ⊤}
use Rattle.op_core.specs.declared.want.Want.{Want}
use Rattle.image_layout.specs.Places.{Shape}
use Rattle.world.specs.Ground.{Ground}
use Rattle.world.specs.Views.{View, Has}
use Rattle.world.specs.History.{Log}
use Rattle.world.specs.Kinds.{Kind, peeks, asks_power, flushes, fences, cuts_power, wanted, view_after, log_after}
use Rattle.world.specs.Conditions.{May}
use Rattle.world.specs.areas.Areas.{Side}
use Rattle.world.specs.areas.Kinds.{StructureKind, wanted_at, view_then}
use Rattle.world.specs.areas.Asking.{KnowsDead, MayAt}
use Rattle.world.specs.areas.Bridging.{HasNoWhole}

pub data StepKind : Type 0 where
  -- to look a key up, to change what it has, to answer
  of_call : (kind : Kind) → StepKind
  -- to split, to double the directory, to repair
  of_structure : (kind : StructureKind) → StepKind

-- what is wanted of the memory
abbrev pub wanted_of : Shape → StepKind → Want
wanted_of shape (of_call kind) = wanted shape kind
wanted_of shape (of_structure kind) = wanted_at shape kind

-- the view after, by the word that was found
abbrev pub view_by : Shape → StepKind → ℕ → View → View
view_by shape (of_call kind) n v = view_after shape kind n v
view_by shape (of_structure kind) n v = view_then shape kind n v

-- the history after: steps at the structure add nothing
abbrev pub log_by : StepKind → Log → Log
log_by (of_call kind) log = log_after kind log
log_by (of_structure kind) log = log

-- MILD KINDS of calls: no word of the image and no lock is changed, and nothing is settled; so who has a segment whole may take one too
pub data IsMildKind : Kind → Type 0 where
  of_peek : (word : ℕ) → IsMildKind (peeks word)
  of_power : IsMildKind asks_power
  of_flush : (line : ℕ) → IsMildKind (flushes line)
  of_cut : IsMildKind cuts_power

-- WHAT A KIND OF CALLS ASKS OF AREAS: no segment is whole, but for mild kinds; and before a fence each side that is not settled is known
-- to be dead
abbrev pub AsksOfView : Ground → Kind → View → Type 0
AsksOfView site (peeks word) v = ⊤
AsksOfView site asks_power v = ⊤
AsksOfView site (flushes line) v = ⊤
AsksOfView site cuts_power v = ⊤
AsksOfView site fences v = HasNoWhole v × ((n : ℕ) → Has (Side n) v.areas → KnowsDead site v n)
AsksOfView site kind v = HasNoWhole v

-- WHAT A STEP ASKS of the stepping view alone
abbrev pub MayTake : Ground → StepKind → View → Type 0
MayTake site (of_call kind) v = May site kind v × AsksOfView site kind v
MayTake site (of_structure kind) v = MayAt site kind v
