-- WHO TELLS THAT A SEGMENT IS REPAIRED leaves it with the image's version, and who tells another guard taken than the segment's finds it old still: what is
-- asked of each machine of a repair.
use Rattle.std.specs.Prelude.{◌≡◌, ◌≢◌, ℕ, None, Some, List}
use Rattle.trace.specs.Events.{Words}
use Rattle.op_core.specs.declared.why.Why.TheVariants.{Busy}
use Rattle.segment_head.specs.HeadWord.{version_in}
use Rattle.image_layout.specs.Volatile.{segment_guard}
use Rattle.map_model.specs.declared.call.Call.{Call}
use Rattle.world.specs.declared.site.Site.{Site}
use Rattle.world.specs.Ground.{Ground, version_of}
use Rattle.world.specs.Views.{View, At}
use Rattle.world.specs.Invariant.{Holds}
use Rattle.world.specs.areas.Areas.{header_word}
use Rattle.part.specs.Outcomes.{again, finished}
use Rattle.part.specs.Part.{Part, Suits, next}

-- its header has the image's version
abbrev pub HasImageVersion : Ground → Words → ℕ → Type 0
HasImageVersion site words segment = version_in (words (header_word site.shape segment)) ≡ version_of site

-- WHERE THE NEXT EVENT DECIDES that it has finished, beside any other callers, the segment that its state names has the image's version in the
-- newest words
module _ {M : Type 0} (p : Part M) (segment_of : M → ℕ) where
  abbrev pub FinishesCurrent : Type 0
  FinishesCurrent = (site : Ground) (here : Site) (call : Call) (words : Words) (views : List View) (j : ℕ) (op : M) (before v : View) → Holds site words views → At views j v
      → Suits p site here call op before v → p.outcome op ≡ None → p.outcome (next p site words op) ≡ Some finished → HasImageVersion site words (segment_of op)

  -- WHERE THE NEXT EVENT DECIDES that a guard is another's, and that is not the segment's own, the segment has not the image's version in the newest
  -- words. Of its own guard nothing is said: who has that may have stored the version already
  abbrev pub StaysOld : Type 0
  StaysOld = (site : Ground) (here : Site) (call : Call) (words : Words) (views : List View) (j : ℕ) (op : M) (before v : View) (word value : ℕ)
      → Holds site words views → At views j v → Suits p site here call op before v → p.outcome op ≡ None → p.outcome (next p site words op) ≡ Some (again (Busy word value))
      → word ≢ segment_guard site.shape (segment_of op) → HasImageVersion site words (segment_of op) → ⊥
