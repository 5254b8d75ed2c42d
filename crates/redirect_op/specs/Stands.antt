-- How the redirecting of entries fits the world: the kind of each event, and how the view of its caller stands in each step.
use Rattle.std.specs.Prelude.{◌≡◌, ◌≢◌, ℕ, ◌^◌, ◌<◌, ◌≤◌, ◌⊎◌, ⊤, None, Some, List, [], ◌∷◌}
use Rattle.trace.specs.Events.{HasLine}
use Rattle.hash_word.specs.Hash.{first_hash_of}
use Rattle.segment_head.specs.HeadWord.{depth_in, pattern_in}
use Rattle.image_layout.specs.Places.{root_word, entries_of, entry_at, words_of}
use Rattle.frame_facts.specs.Facts.{Fact, Lives, Lacks, Deep, Begins}
use Rattle.map_model.specs.declared.call.Call.{Call}
use Rattle.world.specs.declared.site.Site.{Site}
use Rattle.world.specs.Ground.{Ground}
use Rattle.world.specs.Views.{View, Has, IsLoose}
use Rattle.world.specs.Kinds.{peeks}
use Rattle.world.specs.Attempts.{HoldsOnly}
use Rattle.world.specs.areas.Areas.{Area, Directory, IsDirectoryWord, header_word}
use Rattle.world.specs.areas.Kinds.{of_segment, of_directory, takes, gives, reads, finds_entry, finds_begin, settles}
use Rattle.world.specs.areas.Repairing.{side_depth_in, side_pattern_in, IsEntryOfSide}
use Rattle.world.specs.StepKinds.{StepKind, of_call, of_structure}
use Rattle.rounds.specs.declared.rounds.Rounds.{Rounds}
use Rattle.rounds.specs.Steps.{rounds_wanted}
use Rattle.rounds.specs.Stands.{rounds_kind, RoundStands, IsSettled}
use Rattle.repair_op.specs.declared.guarded.Guarded.{Guarded}
use Rattle.repair_op.specs.Guarded.{RunsHere, IsOld, IsOfHead, KnowsReadySide, KeepsGuarded, KeepsRedirected}
use Rattle.repair_op.specs.Stands.{HoldsJust, HoldsGuard, stale_areas}
use Rattle.redirect_op.specs.declared.step.RedirectEnd.{RedirectEnd}
use Rattle.redirect_op.specs.declared.step.RedirectEnd.TheVariants as ends
use Rattle.redirect_op.specs.declared.step.RedirectStep.{RedirectStep}
use Rattle.redirect_op.specs.declared.step.RedirectStep.TheVariants.{Guard, Root, Entry, Head, Store, Settle, Fence, GiveDirectory, Give, Ended}
use Rattle.redirect_op.specs.declared.op.RedirectOp.{RedirectOp}
use Rattle.redirect_op.specs.Steps.{store_to}

-- ---- the kind of each event
-- what is relied on behind the last fence: all entries of the 1-side name deeper segments, and the segment has nothing of it
abbrev pub deep_of : Guarded → Fact
deep_of g = Deep (depth_in g.head) (side_depth_in g.head) (side_pattern_in g.head)

abbrev pub lacks_of : Guarded → Fact
lacks_of g = Lacks g.segment (side_depth_in g.head) (side_pattern_in g.head)

abbrev pub facts_of : Guarded → List Fact
facts_of g = deep_of g ∷ lacks_of g ∷ []

abbrev pub kind_at : RedirectOp → RedirectStep → StepKind
kind_at op Guard = of_structure (takes of_directory op.guarded.site.caller)
kind_at op Root = of_structure (reads root_word)
kind_at op (Entry index) = of_structure (finds_entry op.root index)
kind_at op (Head index slot) = of_structure (finds_begin slot)
kind_at op (Store index) = rounds_kind op.rounds (Some (store_to op index)) []
kind_at op Settle = rounds_kind op.rounds None (facts_of op.guarded)
kind_at op Fence = of_structure (settles (facts_of op.guarded))
kind_at op GiveDirectory = of_structure (gives of_directory)
kind_at op (Give end) = of_structure (gives (of_segment op.guarded.segment))
kind_at op (Ended end) = of_call (peeks root_word)

-- ---- THE VIEW
-- an end with which all is given back
abbrev pub IsBack : RedirectEnd → Type 0
IsBack (ends.Again why) = ⊤
IsBack ends.Guarded = ⊥

-- the first hash of the stale segment
abbrev pub first_of : Guarded → ℕ
first_of g = first_hash_of (depth_in g.head) (pattern_in g.head)

module _ (site : Ground) (here : Site) (g : Guarded) where
  -- the guard of the directory is held beside that of the stale segment
  abbrev pub directory_areas : List Area
  directory_areas = Directory ∷ stale_areas site g

  -- UNDER IT the segment is known as before, with its ready side, and words of the directory beside it
  pub record IsGuarding (v : View) : Type 0 where
    pub here_is : RunsHere site here g
    pub old : IsOld site g
    pub side : ℕ
    pub side_is : g.side ≡ Some side
    pub small : side < 2 ^ 64
    pub ready : KnowsReadySide site g side v
    pub holds : HoldsJust directory_areas v
    pub header : Has (header_word site.shape g.segment, g.head) v.known
    pub known : (p : ℕ × ℕ) → Has p v.known → IsOfHead site g p.0 ⊎ IsDirectoryWord site.shape p.0

  -- all entries of the 1-side lead into it, and all is settled
  pub record AreSettled (v : View) : Type 0 where
    pub guarding : IsGuarding v
    pub settled : IsSettled v
    pub deep : Has (deep_of g) v.facts

  module _ (root : ℕ) where
    -- the root is known: it is deeper than the segment
    pub record IsRooted (v : View) : Type 0 where
      pub guarding : IsGuarding v
      pub deeper : depth_in g.head < root
      pub within : root ≤ site.shape.depth
      pub fits : pattern_in g.head < 2 ^ depth_in g.head
      pub known : Has (root_word, root) v.known

    -- entry j is one of the 1-side
    abbrev pub IsOfSide : ℕ → Type 0
    IsOfSide j = IsEntryOfSide root (depth_in g.head) (pattern_in g.head) j

    -- an entry names this segment, which begins there
    pub record Names (j segment begin : ℕ) (v : View) : Type 0 where
      pub named : Has (entry_at root j, segment) v.known
      pub begins : Has (Begins segment begin) v.facts

    -- AN ENTRY LEADS INTO THE SIDE: it names a segment that begins behind the stale one's first hash; and one past it, no later
    abbrev pub LeadsBehind : ℕ → View → Type 0
    LeadsBehind j v = (segment : ℕ) × (begin : ℕ) × Names j segment begin v × (first_of g < begin)

    abbrev pub LeadsPast : ℕ → View → Type 0
    LeadsPast j v = (segment : ℕ) × (begin : ℕ) × Names j segment begin v × (begin ≤ first_of g)

    -- ALL ENTRIES of the 1-side below a number lead into it, and no other words are loose than entries below that
    pub record LeadBelow (index : ℕ) (v : View) : Type 0 where
      pub rooted : IsRooted v
      pub behind : (j : ℕ) → j < index → IsOfSide j → LeadsBehind j v
      pub loose : (p : ℕ × ℕ) → IsLoose v p → (j : ℕ) × (j < index) × (j < entries_of root) × (p.0 ≡ entry_at root j)

    module _ (rounds : Rounds) where
      -- the rounds have touched lines of the image
      pub record StandsInRounds (v : View) : Type 0 where
        pub round : RoundStands rounds v
        pub lines : (line : ℕ) → Has line rounds.round → HasLine (words_of site.shape) line

      -- while entries are stored in rounds: this one comes next
      pub record ComesNext (index : ℕ) (v : View) : Type 0 where
        pub below : LeadBelow index v
        pub of_side : IsOfSide index
        pub in_rounds : StandsInRounds v

      -- all lead into the side, and are to be settled
      pub record AreToSettle (v : View) : Type 0 where
        pub below : LeadBelow (entries_of root) v
        pub in_rounds : StandsInRounds v
        pub open_round : rounds_wanted rounds None ≢ None

-- IN EACH STEP
module _ (site : Ground) (here : Site) (call : Call) (op : RedirectOp) where
  abbrev pub SuitsEnd : RedirectEnd → View → Type 0
  SuitsEnd ends.Guarded v = KeepsRedirected site here call op.guarded v
  SuitsEnd (ends.Again why) v = HoldsOnly [] v

  abbrev pub SuitsStep : RedirectStep → View → Type 0
  SuitsStep Guard v = KeepsGuarded site here call op.guarded v × ((side : ℕ) × (op.guarded.side ≡ Some side))
  SuitsStep Root v = IsGuarding site here op.guarded v × IsSettled v
  SuitsStep (Entry index) v = ComesNext site here op.guarded op.root op.rounds index v
  SuitsStep (Head index slot) v = ComesNext site here op.guarded op.root op.rounds index v × Has (entry_at op.root index, slot) v.known × Has (Lives slot) v.facts
  SuitsStep (Store index) v = ComesNext site here op.guarded op.root op.rounds index v × LeadsPast site here op.guarded op.root index v
  SuitsStep Settle v = AreToSettle site here op.guarded op.root op.rounds v
  SuitsStep Fence v = LeadBelow site here op.guarded op.root (entries_of op.root) v × IsSettled v
  SuitsStep GiveDirectory v = AreSettled site here op.guarded v
  SuitsStep (Give end) v = RunsHere site here op.guarded × IsBack end × HoldsGuard site op.guarded v
  SuitsStep (Ended end) v = SuitsEnd end v
