-- What the conditions of callers' kinds rest on is so, for a view that has no segment whole; and which parts of the invariant the kinds keep then.
use Rattle.std.specs.Prelude.{ℕ, List}
use Rattle.trace.specs.Events.{Words}
use Rattle.world.specs.Ground.{Ground}
use Rattle.world.specs.Views.{View, At}
use Rattle.world.specs.History.{Log, map_now}
use Rattle.world.specs.Media.{IsPossible}
use Rattle.world.specs.Kinds.{Kind, log_after}
use Rattle.world.specs.Conditions.{IsNewest, StandsBeside, IsMapNow, May}
use Rattle.world.specs.Parts.{Plans, History, Room, Powered}
use Rattle.world.specs.Invariant.{Structure, Records, Overflow, Media, Notes, Holds}
use Rattle.world.specs.Laws.{words_by, views_by}
use Rattle.world.specs.areas.Asking.{IsNotWhole}
use Rattle.world.specs.areas.Keeping.{whole_beside}
use Rattle.world.specs.areas.Calling.{AsksOfAreas}

-- a view has no segment whole: so each that has no areas
abbrev pub HasNoWhole : View → Type 0
HasNoWhole v = (s : ℕ) → IsNotWhole v s

-- CALLERS KNOW AS BEFORE: the newest words may be the newest, the media that a cut may leave may stand beside them, and so may they
-- themselves; and the map of the history may be what all keys have
pub record CallersKnowAsBefore : Type 0 where
  pub newest : (site : Ground) (words : Words) (views : List View) (j : ℕ) (v : View) → Holds site words views → At views j v → HasNoWhole v → IsNewest site v words
  pub beside : (site : Ground) (words medium : Words) (views : List View) (j : ℕ) (v : View) → Holds site words views → At views j v → HasNoWhole v → IsPossible site words views medium
      → StandsBeside site v words (whole_beside site words medium)
  pub itself : (site : Ground) (words : Words) (views : List View) (j : ℕ) (v : View) → Holds site words views → At views j v → HasNoWhole v → StandsBeside site v words words
  pub map : (site : Ground) (words : Words) (views : List View) (j : ℕ) (v : View) (h : Holds site words views) → At views j v → HasNoWhole v
      → IsMapNow site v words (map_now site.start h.log)

-- a step of a caller that has no segment whole keeps a part
abbrev pub CallersKeepPart : ((site : Ground) → Words → List View → Log → Type 0) → Type 0
CallersKeepPart Part = (site : Ground) (kind : Kind) (words : Words) (views : List View) (j : ℕ) (v : View) (h : Holds site words views) → At views j v → HasNoWhole v → May site kind v
    → Part site (words_by site kind j words) (views_by site kind j v words views) (log_after kind h.log)

-- CALLERS KEEP planned changes, the history, the room for places and the power
pub record CallersKeepOthers : Type 0 where
  pub plans : CallersKeepPart (λ site words views log. Plans site words views log)
  pub history : CallersKeepPart (λ site words views log. History site words views log)
  pub room : CallersKeepPart (λ site words views log. Room site views log)
  pub powered : CallersKeepPart (λ site words views log. Powered site words views)

-- and that a current segment which nobody has whole owns its records, with each key once, or its mover has it under way
abbrev pub CallersKeepRecords : Type 0
CallersKeepRecords = CallersKeepPart (λ site words views log. Records site words views)

-- with exact notes but for those that are owed
abbrev pub CallersKeepNotesOfHomes : Type 0
CallersKeepNotesOfHomes = CallersKeepPart (λ site words views log. Overflow site words views)

-- ---- with the three laws that follow each kind of step of such a caller keeps the invariant
-- THE STRUCTURE, where no fence settles a side as a live segment
abbrev pub CallersKeepStructure : Type 0
CallersKeepStructure = (site : Ground) (kind : Kind) (words : Words) (views : List View) (j : ℕ) (v : View) → Holds site words views → At views j v → HasNoWhole v → May site kind v
    → AsksOfAreas site words kind v → Structure site (words_by site kind j words) (views_by site kind j v words views)

-- MEDIA: each is a table, and has what the history or one planned change gives each key
abbrev pub CallersKeepMedia : Type 0
CallersKeepMedia = CallersKeepPart (λ site words views log. Media site words views log)

-- AND WHAT READERS NOTED falls behind no further than its word comes
abbrev pub CallersKeepReadersNotes : Type 0
CallersKeepReadersNotes = CallersKeepPart (λ site words views log. Notes site words views log)
