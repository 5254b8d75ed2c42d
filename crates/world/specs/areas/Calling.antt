-- The kinds of step of callers, beside areas: those that hold locks alone keep what is said of areas as all others do.
use Rattle.std.specs.Prelude.{ℕ, ⊤, List}
use Rattle.trace.specs.Events.{Words}
use Rattle.segment_head.specs.HeadWord.{HasLiveState}
use Rattle.world.specs.Ground.{Ground}
use Rattle.world.specs.Views.{View, Has, At}
use Rattle.world.specs.Kinds.{Kind, fences, unlocks}
use Rattle.world.specs.Conditions.{May}
use Rattle.world.specs.Parts.{Locks}
use Rattle.world.specs.Invariant.{KnownWords, Holds}
use Rattle.world.specs.Laws.{words_by, views_by}
use Rattle.world.specs.areas.Areas.{Side, Whole, header_word}
use Rattle.world.specs.areas.Fitting.{Fits, HasGrounds}
use Rattle.world.specs.areas.Spared.{LooseIsHeld}
use Rattle.world.specs.areas.Lasting.{Owners, Lasting}
use Rattle.world.specs.areas.Beginning.{AreasStand}

-- what a kind asks beside of a view that may have areas: no lock goes back while it has a segment whole, and no fence settles a side as live
abbrev pub AsksOfAreas : Ground → Words → Kind → View → Type 0
AsksOfAreas site words (unlocks lock next) v = (s : ℕ) → Has (Whole s) v.areas → ⊥
AsksOfAreas site words fences v = (n : ℕ) → Has (Side n) v.areas → HasLiveState (words (header_word site.shape n)) → ⊥
AsksOfAreas site words kind v = ⊤

-- EACH KIND OF STEP OF A CALLER keeps areas, owners and live segments
abbrev pub CallersKeepAreas : Type 0
CallersKeepAreas = (site : Ground) (kind : Kind) (words : Words) (views : List View) (j : ℕ) (v : View) → HasGrounds site words views → AreasStand site words views
    → LooseIsHeld site.shape views → At views j v → May site kind v → AsksOfAreas site words kind v
    → Fits site (words_by site kind j words) (views_by site kind j v words views) × Owners site (words_by site kind j words) (views_by site kind j v words views)
    × Lasting site (words_by site kind j words) (views_by site kind j v words views)

-- it keeps the locks
abbrev pub CallersKeepLocks : Type 0
CallersKeepLocks = (site : Ground) (kind : Kind) (words : Words) (views : List View) (j : ℕ) (v : View) → Locks site words views → At views j v → May site kind v
    → Locks site (words_by site kind j words) (views_by site kind j v words views)

-- and known and loose words held
abbrev pub CallersKeepHeldWords : Type 0
CallersKeepHeldWords = (site : Ground) (kind : Kind) (words : Words) (views : List View) (j : ℕ) (v : View) → Holds site words views → At views j v → May site kind v
    → KnownWords site (words_by site kind j words) (views_by site kind j v words views)
