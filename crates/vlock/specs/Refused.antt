-- What a reply that no slot is free says of the words from then on.
use Rattle.std.specs.Prelude.{◌≡◌, ◌≢◌, ℕ, ◌<◌, List, ◌∷◌}
use mathlib.Core.Option.{some}
use lib.ListN.{get_elem?}
use Rattle.trace.specs.Events.{Words}
use Rattle.segment_head.specs.HeadWord.{state_in, free}
use Rattle.map_model.specs.declared.entry.Entry.{Entry}
use Rattle.map_model.specs.declared.entry.Reply.TheVariants.{Full}
use Rattle.world.specs.Ground.{Ground}
use Rattle.world.specs.Views.{View, Has}
use Rattle.world.specs.areas.Areas.{header_word}
use Rattle.vlock.specs.declared.knows.Watch.{Watch}

-- each slot that was free at the start is taken
abbrev pub HasNoFreeSlot : Ground → Words → Type 0
HasNoFreeSlot site words = (s : ℕ) → s < site.shape.segments → state_in (site.front (header_word site.shape s)) ≡ free → state_in (words (header_word site.shape s)) ≢ free

-- WHERE IT WAS REPLIED that no slot is free, by a seat or by one that it took in, that is so
abbrev pub FullStands : Ground → Words → List Watch → Type 0
FullStands site words seats = (i : ℕ) (p : Watch) (u : View) (e : Entry) → get_elem? seats i ≡ some p → Has u (p.view ∷ p.past) → Has e u.own → e.reply ≡ Full → HasNoFreeSlot site words
