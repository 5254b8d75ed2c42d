-- What an engine asks of the memory: words of the image and those behind it, and stores of words, which leave the notes of the
-- stash, but for one that its caller owes.
use Rattle.std.specs.Prelude.{◌≡◌, ℕ, ◌<◌, ◌⊎◌, List}
use Rattle.trace.specs.Events.{Words}
use Rattle.image_layout.specs.Places.{homes}
use Rattle.bucket_words.specs.HomeNotes.{SameHomeNotes}
use Rattle.map_model.specs.declared.call.Call.{Call}
use Rattle.world.specs.declared.site.Site.{Site}
use Rattle.world.specs.Ground.{Ground, IsGround}
use Rattle.world.specs.Views.{View, At}
use Rattle.world.specs.Wants.{words_after}
use Rattle.world.specs.Conditions.{IsOwing}
use Rattle.world.specs.Invariant.{Holds}
use Rattle.part.specs.Asks.{IsWithin, PutsWord}
use Rattle.engine.specs.declared.engine.Engine.{Engine}
use Rattle.engine.specs.Engine.{wanted}
use Rattle.engine.specs.OpPart.{calls, work_of}
use Rattle.engine.specs.Fits.{Suits, next_view}

abbrev pub AsksWithin : Type 0
AsksWithin = (site : Ground) (here : Site) (call : Call) (e : Engine) (before v : View) → IsGround site → Suits site here call e before v → IsWithin site.shape (wanted e)

abbrev pub AsksWords : Type 0
AsksWords = (site : Ground) (here : Site) (call : Call) (e : Engine) (before v : View) → Suits site here call e before v → PutsWord (wanted e)

-- while its caller splits and repairs no segment, what home b of segment s has noted, and what it has in the stash, stays as it was, or the caller owes it a
-- note before the event or after it
abbrev pub KeepsNotes : Type 0
KeepsNotes = (site : Ground) (here : Site) (call : Call) (e : Engine) (words : Words) (views : List View) (j : ℕ) (before v : View) (number : ℕ)
    → Holds site words views → At views j v → Suits site here call e before v → work_of e.op ≡ calls → (s b : ℕ) → s < site.shape.segments → b < homes
    → SameHomeNotes site.shape words (words_after site.shape (wanted e) number words) s b ⊎ IsOwing site v s b ⊎ IsOwing site (next_view site e words v) s b
