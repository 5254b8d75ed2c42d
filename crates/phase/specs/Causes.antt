-- What a machine remembers of its way, by what its attempt loaded; and by what each end of a phase comes.
use Rattle.std.specs.Prelude.{◌≡◌, ℕ, ◌<◌, ⊤, List}
use Rattle.op_core.specs.declared.want.Want.TheVariants.{Load}
use Rattle.op_core.specs.declared.why.Why.TheVariants as why
use Rattle.segment_head.specs.HeadWord.{version_in}
use Rattle.trace.specs.Events.{Words}
use Rattle.way.specs.Ways.{entry_word, head_word}
use Rattle.map_model.specs.declared.call.Call.{Call}
use Rattle.world.specs.declared.site.Site.{Site}
use Rattle.world.specs.Views.{Has}
use Rattle.part.specs.Doings.{Doings}
use Rattle.part.specs.Causes.{IsDepth, HasAgainCause, IsStale, IsOff}
use Rattle.phase.specs.declared.walk.Path.{Path}
use Rattle.phase.specs.declared.walk.Walk.{Walk}
use Rattle.phase.specs.declared.walk.Walk.TheVariants.{Power, Root, Entry, Head}
use Rattle.phase.specs.declared.walk.Walked.{Walked}
use Rattle.phase.specs.declared.walk.Walked.TheVariants as walked
use Rattle.phase.specs.declared.back.Back.{Back}
use Rattle.phase.specs.declared.back.Backed.{Backed}
use Rattle.phase.specs.declared.back.Backed.TheVariants as backed
use Rattle.phase.specs.Walks.{walk_wanted}
use Rattle.phase.specs.Backs.{back_word}

-- ---- what is kept was loaded
module _ (here : Site) (hash : ℕ) (loads : List (ℕ × ℕ)) where
  -- the root depth, and the entry at it, which named the segment, one of the image
  abbrev pub WasNamed : ℕ → ℕ → Type 0
  WasNamed root segment = IsDepth here.geometry hash loads root × Has (entry_word here.geometry hash root, segment) loads × (segment < here.geometry.segments)

  -- and the header of that segment, of the image's version
  abbrev pub WasFound : Path → Type 0
  WasFound path = WasNamed path.root path.segment × Has (head_word here.geometry path.segment, path.head) loads × (version_in path.head ≡ here.version)

  abbrev pub RemembersWalk : Walk → Type 0
  RemembersWalk Power = ⊤
  RemembersWalk Root = ⊤
  RemembersWalk (Entry root) = IsDepth here.geometry hash loads root
  RemembersWalk (Head root segment) = WasNamed root segment

  abbrev pub RemembersWalked : Walked → Type 0
  RemembersWalked (walked.On walk) = RemembersWalk walk
  RemembersWalked (walked.There path) = WasFound path
  RemembersWalked end = ⊤

-- ---- causes, for an attempt of this call that did this
module _ (here : Site) (hash : ℕ) (words : Words) (did : Doings) (call : Call) where
  -- THE CAUSE of each end of the way, by its last event
  abbrev pub HasWalkCause : Walk → Walked → Type 0
  HasWalkCause walk walked.Off = IsOff here.geometry words did call (walk_wanted here hash walk)
  HasWalkCause walk (walked.Stale segment byte) = IsStale here.geometry words did call (walk_wanted here hash walk) here.version segment byte
  HasWalkCause walk more = ⊤

  -- and of the way again
  abbrev pub HasBackCause : Path → Back → Backed → Type 0
  HasBackCause path at (backed.Moved word before after) = HasAgainCause here.geometry words did call (Load (back_word here hash path at)) here.version (why.Moved word before after)
  HasBackCause path at more = ⊤
