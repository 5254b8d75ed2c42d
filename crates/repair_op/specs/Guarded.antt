-- WHAT IS GUARDED: a stale segment whose guard is held, as one machine of a repair hands it on to the next.
use Rattle.std.specs.Prelude.{◌≡◌, ◌≢◌, ℕ, ⊤, ◌^◌, ◌<◌, ◌⊎◌, Option, None, Some, [], ◌∷◌}
use Rattle.trace.specs.Events.{Words}
use Rattle.segment_head.specs.HeadWord.{version_in, state_in, depth_in, normal, splitting, link_to}
use Rattle.frame_facts.specs.Facts.{Lacks, Deep, Begins}
use Rattle.map_model.specs.declared.call.Call.{Call}
use Rattle.world.specs.declared.site.Site.{Site}
use Rattle.world.specs.Ground.{Ground, version_of}
use Rattle.world.specs.Views.{View, Has}
use Rattle.world.specs.areas.Areas.{Segment, Stale, header_word, link_word}
use Rattle.world.specs.Kinds.{first_hash_of}
use Rattle.world.specs.areas.Repairing.{side_depth_in, side_pattern_in, HasStale}
use Rattle.phase.specs.Giving.{IsQuiet}
use Rattle.repair_op.specs.declared.guarded.Guarded.{Guarded}
use Rattle.way.specs.Ways.{slot_guard, slot_link}

-- ---- its words
abbrev pub guard_of : Guarded → ℕ
guard_of g = slot_guard g.site.geometry g.segment

abbrev pub link_of : Guarded → ℕ
link_of g = slot_link g.site.geometry g.segment

-- ---- what is so of it, whatever the view
-- it runs here, as a caller that has a number, in an image of this version
pub record RunsHere (site : Ground) (here : Site) (g : Guarded) : Type 0 where
  pub at : g.site ≡ here
  pub shape : g.site.geometry ≡ site.shape
  pub version : g.site.version ≡ version_of site
  pub numbered : 0 < g.site.caller
  pub caller : g.site.caller < 2 ^ 64

-- ITS HEADER has not the image's version
pub record IsOld (site : Ground) (g : Guarded) : Type 0 where
  pub within : g.segment < site.shape.segments
  pub fits : g.head < 2 ^ 64
  pub old : version_in g.head ≢ version_of site

-- ---- what a view holds of it
module _ (site : Ground) (g : Guarded) where
  -- the segment is splitting, and has linked this slot; that begins where the 1-side begins, of which the segment claims nothing
  pub record KnowsReadySide (side : ℕ) (v : View) : Type 0 where
    pub splits : state_in g.head ≡ splitting
    pub slot : side < site.shape.segments
    pub linked : Has (link_word site.shape g.segment, link_to side) v.known
    pub begins : Has (Begins side (first_hash_of (side_depth_in g.head) (side_pattern_in g.head))) v.facts
    pub lacks : Has (Lacks g.segment (side_depth_in g.head) (side_pattern_in g.head)) v.facts

  -- WHAT IT IS IN THE MIDDLE OF: nothing, or a split that has a ready side
  abbrev pub HasState : Option ℕ → View → Type 0
  HasState None v = state_in g.head ≡ normal
  HasState (Some side) v = KnowsReadySide side v

  -- a word is one of its header: the header word or the link; and such words alone are known
  abbrev pub IsOfHead : ℕ → Type 0
  IsOfHead i = (i ≡ header_word site.shape g.segment) ⊎ (i ≡ link_word site.shape g.segment)

  abbrev pub KnowsOnlyHead : View → Type 0
  KnowsOnlyHead v = (p : ℕ × ℕ) → Has p v.known → IsOfHead p.0

  -- all entries of its 1-side name deeper segments than it is
  abbrev pub HasDeepEntries : Option ℕ → View → Type 0
  HasDeepEntries None v = ⊤
  HasDeepEntries (Some side) v = Has (Deep (depth_in g.head) (side_depth_in g.head) (side_pattern_in g.head)) v.facts

-- WHAT IS HANDED ON: the guard of a stale segment is held, and nothing else; its header is known and settled, and its link where it has a ready
-- side; and nothing is unsettled, planned, under way or owed
pub record KeepsGuarded (site : Ground) (here : Site) (call : Call) (g : Guarded) (v : View) : Type 0 where
  pub here_is : RunsHere site here g
  pub old : IsOld site g
  pub areas : v.areas ≡ Stale g.segment ∷ Segment g.segment ∷ []
  pub no_locks : v.held ≡ []
  pub header : Has (header_word site.shape g.segment, g.head) v.known
  pub known : KnowsOnlyHead site g v
  pub state : HasState site g g.side v
  pub quiet : IsQuiet v

-- WHAT IS HANDED ON BEHIND THE DIRECTORY: the same, and where it has a ready side, all entries of its 1-side name deeper segments
pub record KeepsRedirected (site : Ground) (here : Site) (call : Call) (g : Guarded) (v : View) : Type 0 where
  pub guarded : KeepsGuarded site here call g v
  pub deep : HasDeepEntries site g g.side v

-- A GUARDED SEGMENT IS STALE, and its view may do what who holds such a one may, by any words that have its header
abbrev pub GuardedAreStale : Type 0
GuardedAreStale = (site : Ground) (here : Site) (call : Call) (g : Guarded) (v : View) (word : Words) → KeepsGuarded site here call g v → word (header_word site.shape g.segment) ≡ g.head
    → HasStale site v g.segment word
