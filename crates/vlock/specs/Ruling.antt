-- The rule of the shared words: the invariant of the world, over the words and the views of all seats.
use Rattle.std.specs.Prelude.{◌≡◌, ℕ, List, [], ◌∷◌, ◌++◌, length, slice_index}
use mathlib.Core.Option.{some}
use lib.ListN.{get_elem?}
use Rattle.atomic_table.specs.Table.{State}
use Rattle.trace.specs.Events.{Words}
use Rattle.image_layout.specs.Volatile.{all_words_of}
use Rattle.world.specs.Hits.{find}
use Rattle.world.specs.Ground.{Ground}
use Rattle.world.specs.Views.{View, Has}
use Rattle.world.specs.World.{fresh_view}
use Rattle.world.specs.Invariant.{Holds}
use Rattle.world.specs.Attempts.{OwesNothing}
use Rattle.vlock.specs.declared.knows.Watch.{Watch}
use Rattle.vlock.specs.declared.table.Opening.{Opening}
use Rattle.vlock.specs.Power.{StaysOff}
use Rattle.vlock.specs.Refused.{FullStands}

-- a list of words as a function
abbrev pub word : List ℕ → Words
word ws i = slice_index ws i

-- what is fixed for the world: its structure and its pairs are those of the words at the opening
abbrev pub ground_of : Opening → Ground
ground_of key = record {
  shape = key.geometry;
  front = word key.words.value.items;
  start = find key.geometry (word key.words.value.items);
  callers = key.callers;
}

-- what the first seat knows
abbrev pub first_of : Opening → Watch
first_of key = record { view = fresh_view key.callers; past = []; took = [] }

-- the views of all seats, each with those that it took in behind it
abbrev pub all_views : List Watch → List View
all_views [] = []
all_views (p ∷ ps) = p.view ∷ (p.past ++ all_views ps)

-- A SEAT IS IDLE, by what it knows: it owes nothing, replied nothing, and took in nothing
pub record IsIdle (p : Watch) : Type 0 where
  pub nothing : OwesNothing p.view
  pub own : p.view.own ≡ []
  pub past : p.past ≡ []

-- THE RULE: the words and all views meet the invariant of the world; what was taken in owes nothing, a seat that stands
-- for no caller is idle, where a seat's view has stored the power word, it is `power_off`, and where it was replied that no slot is free, none is that
-- was free at the start
pub record Kept (site : Ground) (s : State ℕ Watch) : Type 0 where
  pub words : length s.words ≡ all_words_of site.shape
  pub holds : Holds site (word s.words) (all_views s.views)
  pub past : (i : ℕ) (p : Watch) (u : View) → get_elem? s.views i ≡ some p → Has u p.past → OwesNothing u
  pub idle : (i : ℕ) (p : Watch) → get_elem? s.views i ≡ some p → p.view.callers ≡ 0 → IsIdle p
  pub off : StaysOff site (word s.words) s.views
  pub full : FullStands site (word s.words) s.views
