-- How the beginning of a repair fits the world: the kind of each event, and how the view of its caller stands in each step.
use Rattle.std.specs.Prelude.{◌≡◌, ◌≢◌, ℕ, ◌^◌, ◌<◌, ◌⊎◌, ⊤, true, None, List, [], ◌∷◌}
use Rattle.trace.specs.Events.{line_of}
use Rattle.segment_head.specs.HeadWord.{state_in, depth_in, pattern_in, free, normal, splitting, link_to}
use Rattle.image_layout.specs.Places.{root_word}
use Rattle.frame_facts.specs.Facts.{Fact, Lives, Owns}
use Rattle.way.specs.Ways.{head_word}
use Rattle.map_model.specs.declared.call.Call.{Call}
use Rattle.world.specs.declared.site.Site.{Site}
use Rattle.world.specs.Ground.{Ground}
use Rattle.world.specs.Views.{View, Has}
use Rattle.world.specs.Kinds.{peeks, flushes}
use Rattle.world.specs.Attempts.{HoldsOnly}
use Rattle.world.specs.areas.Areas.{Area, Segment, Stale, Side, Free as FreeSlot, Allocation, header_word, link_word}
use Rattle.world.specs.areas.Rows.{frees, unmarks}
use Rattle.world.specs.areas.Kinds.{of_segment, of_free_slots, is_new_side, takes, takes_for_side, gives, finds_stale, finds_link, finds_side, moves, settles}
use Rattle.world.specs.areas.Repairing.{side_depth_in, side_pattern_in}
use Rattle.world.specs.StepKinds.{StepKind, of_call, of_structure}
use Rattle.phase.specs.Giving.{IsQuiet}
use Rattle.rounds.specs.Stands.{IsSettled}
use Rattle.repair_op.specs.declared.guarded.Guarded.{Guarded}
use Rattle.repair_op.specs.declared.step.RepairEnd.{RepairEnd}
use Rattle.repair_op.specs.declared.step.RepairEnd.TheVariants as ends
use Rattle.repair_op.specs.declared.step.Settling.{Settling}
use Rattle.repair_op.specs.declared.step.Settling.TheVariants as settling
use Rattle.repair_op.specs.declared.step.RepairStep.{RepairStep}
use Rattle.repair_op.specs.declared.step.RepairStep.TheVariants.{Guard, Head, Link, Side as LoadSide, Slots, Free, GiveSlots, Unmark, Give, Ended}
use Rattle.repair_op.specs.Guarded.{IsOld, IsOfHead, KnowsOnlyHead, KeepsGuarded}
use Rattle.repair_op.specs.Steps.{with_state}

-- ---- the kind of each event
-- of those that settle a word, where its store is of this kind
abbrev pub settle_kind : Settling → StepKind → ℕ → StepKind
settle_kind settling.Store stored word = stored
settle_kind settling.Flush stored word = of_call (flushes (line_of word))
settle_kind settling.Fence stored word = of_structure (settles [])

abbrev pub kind_at : Guarded → RepairStep → StepKind
kind_at g Guard = of_structure (takes (of_segment g.segment) g.site.caller)
kind_at g Head = of_structure (finds_stale g.segment g.site.version)
kind_at g Link = of_structure (finds_link g.segment (depth_in g.head) (pattern_in g.head))
kind_at g (LoadSide slot) = of_structure (finds_side g.segment slot (depth_in g.head) (pattern_in g.head))
kind_at g (Slots slot side) = of_structure (takes_for_side slot g.site.caller)
kind_at g (Free slot side settling) = settle_kind settling (of_structure (moves (frees g.segment) slot (with_state side free))) (head_word g.site.geometry slot)
kind_at g GiveSlots = of_structure (gives of_free_slots)
kind_at g (Unmark settling) = settle_kind settling (of_structure (moves unmarks g.segment (with_state g.head normal))) (head_word g.site.geometry g.segment)
kind_at g (Give end) = of_structure (gives (of_segment g.segment))
kind_at g (Ended end) = of_call (peeks root_word)

-- ---- THE VIEW
-- these areas are held, and no lock; and nothing is planned, under way or owed
pub record HoldsJust (areas : List Area) (v : View) : Type 0 where
  pub areas_are : v.areas ≡ areas
  pub no_locks : v.held ≡ []
  pub planned : v.planned ≡ []
  pub moving : v.moving ≡ []
  pub owed : v.owed ≡ []

-- this word alone was stored and not flushed
pub record HasStoredAlone (i : ℕ) (v : View) : Type 0 where
  pub flushed : v.flushed ≡ []
  pub loose : (p : ℕ × ℕ) → Has p v.dirty → p.0 ≡ i

-- WHILE A WORD IS SETTLED: nothing was stored; or the word was, alone; or it is flushed as well
abbrev pub IsSettling : Settling → ℕ → View → Type 0
IsSettling settling.Store i v = IsSettled v
IsSettling settling.Flush i v = HasStoredAlone i v
IsSettling settling.Fence i v = v.dirty ≡ []

-- an end with which all is given back
abbrev pub IsBack : RepairEnd → Type 0
IsBack ends.Guarded = ⊥
IsBack end = ⊤

module _ (site : Ground) (g : Guarded) where
  -- the guard of the segment alone is held; or of one that is stale
  abbrev pub guard_area : List Area
  guard_area = Segment g.segment ∷ []

  abbrev pub stale_areas : List Area
  stale_areas = Stale g.segment ∷ guard_area

  -- its header is known, with this value, and no words but those of the header
  pub record KnowsHeadAs (head : ℕ) (v : View) : Type 0 where
    pub header : Has (header_word site.shape g.segment, head) v.known
    pub only : KnowsOnlyHead site g v

  -- it has linked this slot, and beside these words none is known but the header of that
  pub record KnowsSide (slot : ℕ) (v : View) : Type 0 where
    pub header : Has (header_word site.shape g.segment, g.head) v.known
    pub link : Has (link_word site.shape g.segment, link_to slot) v.known
    pub only : (p : ℕ × ℕ) → Has p v.known → IsOfHead site g p.0 ⊎ (p.0 ≡ header_word site.shape slot)

  -- it claims all of its 1-side
  abbrev pub owned_side : Fact
  owned_side = Owns g.segment (side_depth_in g.head) (side_pattern_in g.head)

  -- A SPLIT WAS CUT OFF: the segment is splitting, and no ready side was found
  pub record IsCutOff : Type 0 where
    pub old : IsOld site g
    pub splits : state_in g.head ≡ splitting
    pub no_side : g.side ≡ None

  -- the slot that is linked is its new side, with this header
  pub record IsSideFound (slot side : ℕ) (v : View) : Type 0 where
    pub cut : IsCutOff
    pub within : slot < site.shape.segments
    pub apart : slot ≢ g.segment
    pub fits : side < 2 ^ 64
    pub new : is_new_side (depth_in g.head) (pattern_in g.head) side ≡ true
    pub owns : Has owned_side v.facts
    pub knows : KnowsSide slot v

  -- THE SIDE BECOMES FREE under the guard of free slots: it is new; or free, once that is stored
  abbrev pub HoldsSide : Settling → ℕ → ℕ → View → Type 0
  HoldsSide settling.Store slot side v = HoldsJust (Allocation ∷ Side slot ∷ stale_areas) v × Has (header_word site.shape slot, side) v.known
  HoldsSide more slot side v = HoldsJust (FreeSlot slot ∷ Allocation ∷ stale_areas) v

  -- it is free, and all is settled
  pub record HasFreed (v : View) : Type 0 where
    pub cut : IsCutOff
    pub slot : ℕ
    pub apart : slot ≢ g.segment
    pub holds : HoldsJust (FreeSlot slot ∷ Allocation ∷ stale_areas) v
    pub settled : IsSettled v
    pub owns : Has owned_side v.facts
    pub knows : KnowsSide slot v

  -- THE SEGMENT BECOMES NORMAL: its header says that it is splitting; or that it is normal, once that is stored
  abbrev pub head_while : Settling → ℕ
  head_while settling.Store = g.head
  head_while more = with_state g.head normal

  pub record IsUnmarking (settling : Settling) (v : View) : Type 0 where
    pub cut : IsCutOff
    pub holds : HoldsJust stale_areas v
    pub knows : KnowsHeadAs (head_while settling) v
    pub settling_is : IsSettling settling (header_word site.shape g.segment) v
    pub owns : Has owned_side v.facts

  -- ITS GUARD IS TO BE GIVEN BACK: nothing else is held but what goes with it, words of its header alone are known, and nothing is under way
  pub record HoldsGuard (v : View) : Type 0 where
    pub within : g.segment < site.shape.segments
    pub guard : Has (Segment g.segment) v.areas
    pub areas : (a : Area) → Has a v.areas → (a ≡ Segment g.segment) ⊎ (a ≡ Stale g.segment)
    pub no_locks : v.held ≡ []
    pub known : KnowsOnlyHead site g v
    pub quiet : IsQuiet v

-- IN EACH STEP
module _ (site : Ground) (here : Site) (call : Call) (g : Guarded) where
  abbrev pub SuitsEnd : RepairEnd → View → Type 0
  SuitsEnd ends.Guarded v = KeepsGuarded site here call g v
  SuitsEnd end v = HoldsOnly [] v

  abbrev pub SuitsStep : RepairStep → View → Type 0
  SuitsStep Guard v = HoldsOnly [] v × Has (Lives g.segment) v.facts × (g.side ≡ None)
  SuitsStep Head v = (g.segment < site.shape.segments) × HoldsJust (guard_area site g) v × (v.known ≡ []) × IsSettled v × Has (Lives g.segment) v.facts × (g.side ≡ None)
  SuitsStep Link v = IsCutOff site g × HoldsJust (stale_areas site g) v × KnowsHeadAs site g g.head v × IsSettled v
  SuitsStep (LoadSide slot) v = IsCutOff site g × (slot < site.shape.segments) × HoldsJust (stale_areas site g) v
      × KnowsHeadAs site g g.head v × Has (link_word site.shape g.segment, link_to slot) v.known × IsSettled v
  SuitsStep (Slots slot side) v = IsSideFound site g slot side v × HoldsJust (Side slot ∷ stale_areas site g) v × Has (header_word site.shape slot, side) v.known × IsSettled v
  SuitsStep (Free slot side settling) v = IsSideFound site g slot side v × HoldsSide site g settling slot side v × IsSettling settling (header_word site.shape slot) v
  SuitsStep GiveSlots v = HasFreed site g v
  SuitsStep (Unmark settling) v = IsUnmarking site g settling v
  SuitsStep (Give end) v = IsBack end × HoldsGuard site g v
  SuitsStep (Ended end) v = SuitsEnd end v
