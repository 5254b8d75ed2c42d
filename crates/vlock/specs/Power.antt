-- The power word, by the views of all seats, and how it is stored.
use Rattle.std.specs.Prelude.{◌≡◌, ℕ, true, List, ◌∷◌}
use mathlib.Core.Option.{some}
use lib.ListN.{get_elem?}
use Rattle.trace.specs.Events.{Words}
use Rattle.image_layout.specs.Volatile.{power_word, power_off}
use Rattle.op_core.specs.declared.want.Want.TheVariants.{Store}
use Rattle.world.specs.Ground.{Ground}
use Rattle.vlock.specs.declared.knows.Watch.{Watch}

-- THE POWER STAYS OFF: where the view of a seat has stored the power word, the word is `power_off`, and so not that of a power
-- that is on
abbrev pub StaysOff : Ground → Words → List Watch → Type 0
StaysOff site words seats = (i : ℕ) (p : Watch) → get_elem? seats i ≡ some p → p.view.stored_power ≡ true → words (power_word site.shape) ≡ power_off

-- A SEAT TURNS THE POWER OFF: its one event stored `power_off` in the power word, and beside that it knows what it knew
abbrev pub TurnsOff : Ground → Watch → Watch → Type 0
TurnsOff site p q = (found : ℕ) × (q ≡ record {
  view = record p.view { stored_power = true };
  past = p.past;
  took = (Store (power_word site.shape) power_off, found) ∷ p.took;
})
