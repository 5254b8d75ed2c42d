-- Each kind of step of a caller keeps what is said of spent numbers, by locks, history and live segments alone: so whatever areas its view has.
use Rattle.std.specs.Prelude.{ℕ, List}
use Rattle.trace.specs.Events.{Words}
use Rattle.sound_image.specs.Segments.{frame_of}
use Rattle.frame_facts.specs.Facts.{Lives, IsLiveSlot}
use Rattle.world.specs.Ground.{Ground}
use Rattle.world.specs.Views.{View, Has, At}
use Rattle.world.specs.History.{Log}
use Rattle.world.specs.Parts.{Locks, History, Spending}
use Rattle.world.specs.Invariant.{Holds}
use Rattle.world.specs.Kinds.{Kind, log_after}
use Rattle.world.specs.Conditions.{May}
use Rattle.world.specs.Laws.{words_by, views_by}

-- what it rests on
pub record SpendingParts (site : Ground) (words : Words) (views : List View) : Type 0 where
  pub log : Log
  pub living : (j : ℕ) (v : View) (s : ℕ) → At views j v → Has (Lives s) v.facts → IsLiveSlot (frame_of site.shape words) s
  pub locks : Locks site words views
  pub history : History site words views log
  pub spending : Spending site words views log

-- CALLERS KEEP what is said of spent numbers
abbrev pub CallersKeepSpending : Type 0
CallersKeepSpending = (site : Ground) (kind : Kind) (words : Words) (views : List View) (j : ℕ) (v : View) (h : Holds site words views) → At views j v → May site kind v
    → Spending site (words_by site kind j words) (views_by site kind j v words views) (log_after kind h.log)
