-- How the events of a device stand to what the views say: a power cut leaves no more than the views say, and what a view
-- has flushed is as its flush found it.
use Rattle.std.specs.Prelude.{◌≡◌, ℕ, ◌<◌, ◌⊎◌, List, Contains}
use Rattle.trace.specs.Events.{Words, line_of, Trace, value}
use Rattle.trace.specs.Progress.{pending, HadSince}
use Rattle.trace.specs.Steps.{HadSinceSettled}
use Rattle.image_layout.specs.Places.{words_of}
use Rattle.frame_facts.specs.Core.{core_of}
use Rattle.world.specs.Ground.{Ground}
use Rattle.world.specs.Views.{View, Has, At}
use Rattle.world.specs.Media.{MayLeave}

module _ (site : Ground) (start : Words) (es : Trace) where
  -- a caller flushed the line of word i and has not fenced since; and since that flush the word had only the core that it
  -- has now, or one that it had before a store which the caller still has dirty
  pub record IsFlushed (c : ℕ) (dirty : List (ℕ × ℕ)) (i : ℕ) : Type 0 where
    pub moment : ℕ
    pub is_pending : Contains (pending c es) (line_of i, moment)
    pub since : (y : ℕ) → HadSince start es moment i y → (core_of site.shape i y ≡ core_of site.shape i (value start es i))
        ⊎ ((z : ℕ) × Has (i, z) dirty × (core_of site.shape i y ≡ core_of site.shape i z))

  pub record Tied (views : List View) : Type 0 where
    pub covered : (i y : ℕ) → i < words_of site.shape → HadSinceSettled start es i y → MayLeave site (value start es) views i y
    pub fresh : (c : ℕ) (v : View) (i x : ℕ) → At views c v → Has (i, x) v.flushed → IsFlushed c v.dirty i
