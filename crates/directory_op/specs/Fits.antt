-- How the view of the caller stands in each step: what it holds and knows of the segment, of its side and of the directory, and what is
-- not settled.
use Rattle.std.specs.Prelude.{◌≡◌, ◌≢◌, None, ℕ, ◌+◌, ◌^◌, ◌<◌, ◌≤◌, ◌⊎◌, List, [], ◌∷◌}
use Rattle.trace.specs.Events.{HasLine}
use Rattle.hash_word.specs.Hash.{IsUnderPrefix}
use Rattle.bucket_meta.specs.Bucket.{mark_place, rest_place, record_slots}
use Rattle.segment_head.specs.HeadWord.{depth_in}
use Rattle.image_layout.specs.Places.{Shape, block, root_word, entries_of, entry_above, half_of_entry, entry_at, bucket_at, key_at, value_at, buckets, words_of}
use Rattle.segment_head.specs.SplitHeads.{side_depth_in, side_pattern_in}
use Rattle.bucket_words.specs.Buckets.{IsTaken}
use Rattle.frame_facts.specs.Facts.{Owns, Lacks, Deep}
use Rattle.map_model.specs.declared.call.Call.{Call}
use Rattle.world.specs.declared.site.Site.{Site}
use Rattle.world.specs.Ground.{Ground}
use Rattle.world.specs.Views.{View, Has, IsLoose}
use Rattle.world.specs.areas.Areas.{Area, Segment, Side, Whole, Directory, header_word}
use Rattle.world.specs.areas.Asking.{KnowsFree}
use Rattle.world.specs.areas.Splitting.{link_word, KnowsHead, KnowsBuckets}
use Rattle.split_op.specs.Phases.{IsThere, IsQuiet}
use Rattle.rounds.specs.Steps.{begun}
use Rattle.rounds.specs.Stands.{RoundStands, IsSettled}
use Rattle.split_op.specs.Whole.{IsOf, IsWhole, HoldsLocks, KnowsOnlyOf}
use Rattle.split_op.specs.declared.copied.Copied.{Copied}
use Rattle.split_op.specs.Copied.{split_head, side_head, copied_words, IsCopy, KeepsCopied}
use Rattle.directory_op.specs.declared.op.DirectoryEnd.TheVariants.{Published, Off}
use Rattle.directory_op.specs.declared.op.Stage.{Stage}
use Rattle.directory_op.specs.declared.op.Stage.TheVariants.{Fill, Filled, Deepen, Deepened, GoLive, Live, Enter, Entered}
use Rattle.directory_op.specs.declared.op.DirectoryStep.{DirectoryStep}
use Rattle.directory_op.specs.declared.op.DirectoryStep.TheVariants.{LoadHead, LoadSideHead, TakeGuard, AskPower, LoadRoot, LoadEntry, Store, GiveGuard, Ended}
use Rattle.directory_op.specs.declared.op.DirectoryOp.{DirectoryOp}
use Rattle.directory_op.specs.Places.{live_head}
use Rattle.directory_op.specs.Steps.{next_store}

-- ---- the depth and the pattern of the side
abbrev pub side_depth : Copied → ℕ
side_depth c = side_depth_in c.whole.head

abbrev pub side_pattern : Copied → ℕ
side_pattern c = side_pattern_in c.whole.head

-- entry i of the root's area lies in the 1-side
abbrev pub IsOfSide : Copied → ℕ → ℕ → Type 0
IsOfSide c root i = IsUnderPrefix root (side_depth c) (side_pattern c) i

-- ---- what is known
-- a word of the segment that is kept: its header, its link, or one behind the lock of a bucket
abbrev pub IsKeptWord : Shape → ℕ → ℕ → Type 0
IsKeptWord shape s i = (i ≡ header_word shape s) ⊎ (i ≡ link_word shape s) ⊎ ((b : ℕ) × (m : ℕ) × (b < buckets) × (mark_place ≤ m) × (m < block) × (i ≡ bucket_at shape s b + m))

-- a word of the side that is looked at: its header, a word of metadata, or the key or the value of a record
abbrev pub IsSideWord : Shape → Copied → ℕ → Type 0
IsSideWord shape c i = (i ≡ header_word shape c.side)
    ⊎ ((b : ℕ) × (m : ℕ) × (b < buckets) × (mark_place ≤ m) × (m ≤ rest_place) × (i ≡ bucket_at shape c.side b + m))
    ⊎ ((b : ℕ) × (r : ℕ) × (b < buckets) × (r < record_slots) × IsTaken (copied_words c) (bucket_at shape c.side b) r
    × ((i ≡ key_at shape c.side b r) ⊎ (i ≡ value_at shape c.side b r)))

module _ (site : Ground) (here : Site) (call : Call) (c : Copied) where
  -- THE SPLIT STANDS, by who has these areas: the guard and all locks of the segment are held, and its words are known, whether or not
  -- others are loose; nothing is planned, under way or owed
  pub record SplitStands (had : List Area) (v : View) : Type 0 where
    pub is : IsOf site here call c.whole
    pub whole : IsWhole site c.whole
    pub copy : IsCopy site c
    pub there : IsThere site c.whole.segment v.facts
    pub areas : v.areas ≡ had
    pub locks : HoldsLocks site c.whole v
    pub known : (i : ℕ) → IsKeptWord site.shape c.whole.segment i → Has (i, copied_words c i) v.known
    pub planned : v.planned ≡ []
    pub moving : v.moving ≡ []
    pub owed : v.owed ≡ []

  -- the areas under the guard of the directory: until the side is settled as live, and then
  abbrev pub with_side : List Area
  with_side = Directory ∷ Side c.side ∷ Whole c.whole.segment ∷ Segment c.whole.segment ∷ []

  abbrev pub without_side : List Area
  without_side = Directory ∷ Whole c.whole.segment ∷ Segment c.whole.segment ∷ []

  -- THE SIDE IS NEW: what is looked at of it is known, and its locks are free
  pub record SideIsNew (v : View) : Type 0 where
    pub split : SplitStands with_side v
    pub side : (i : ℕ) → IsSideWord site.shape c i → Has (i, copied_words c i) v.known
    pub free : KnowsFree site v c.side

  -- THE SIDE IS SETTLED as live, and claims its region
  pub record SideIsLive (v : View) : Type 0 where
    pub split : SplitStands without_side v
    pub owns : Has (Owns c.side (side_depth c) (side_pattern c)) v.facts

  -- WHAT IS HANDED ON: the side is live, and all its entries name it; the segment is splitting still, with its guard and all its locks held,
  -- and its words are known and settled; it has nothing of the 1-side, of which all entries name a deeper segment
  pub record KeepsPublished (v : View) : Type 0 where
    pub is : IsOf site here call c.whole
    pub whole : IsWhole site c.whole
    pub copy : IsCopy site c
    pub there : IsThere site c.whole.segment v.facts
    pub areas : v.areas ≡ Whole c.whole.segment ∷ Segment c.whole.segment ∷ []
    pub locks : HoldsLocks site c.whole v
    pub head : KnowsHead site.shape v c.whole.segment (copied_words c)
    pub buckets_are : KnowsBuckets site.shape v c.whole.segment (copied_words c)
    pub known : KnowsOnlyOf site c.whole v
    pub lacks : Has (Lacks c.whole.segment (side_depth c) (side_pattern c)) v.facts
    pub deep : Has (Deep (depth_in c.whole.head) (side_depth c) (side_pattern c)) v.facts
    pub quiet : IsQuiet v

-- ---- the directory
module _ (site : Ground) (here : Site) (op : DirectoryOp) where
  -- both headers were loaded
  pub record HasHeads : Type 0 where
    pub head : op.head ≡ split_head op.copied.whole
    pub side : op.side_head ≡ side_head op.copied.whole

  -- the directory is doubled: the segment is as deep as the root is, which is to be one deeper
  pub record Doubles (v : View) : Type 0 where
    pub root : op.root ≡ side_depth op.copied
    pub deep : op.root ≤ site.shape.depth
    pub known : Has (root_word, depth_in op.copied.whole.head) v.known

  -- THE ENTRIES BELOW a number are filled: each has what the entry of the root's area has from which it comes, and both are known
  abbrev pub FilledBelow : ℕ → View → Type 0
  FilledBelow place v = (j : ℕ) → j < place → (x : ℕ) × Has (entry_at (depth_in op.copied.whole.head) (entry_above j), x) v.known × Has (entry_at op.root j, x) v.known

  -- the root is deeper than the segment, as far as is known
  pub record IsDeepEnough (v : View) : Type 0 where
    pub deeper : side_depth op.copied ≤ op.root
    pub deep : op.root ≤ site.shape.depth
    pub known : Has (root_word, op.root) v.known

  -- THE ENTRIES of the 1-side below a number name the side
  abbrev pub EnteredBelow : ℕ → View → Type 0
  EnteredBelow index v = (j : ℕ) → j < index → j < entries_of op.root → IsOfSide op.copied op.root j → Has (entry_at op.root j, op.copied.side) v.known

  -- the words that may be loose in a stage
  abbrev pub IsStoredIn : Stage → ℕ → Type 0
  IsStoredIn (Fill place value) i = (j : ℕ) × (j < entries_of op.root) × (i ≡ entry_at op.root j)
  IsStoredIn Filled i = (j : ℕ) × (j < entries_of op.root) × (i ≡ entry_at op.root j)
  IsStoredIn Deepen i = ⊥
  IsStoredIn Deepened i = i ≡ root_word
  IsStoredIn GoLive i = ⊥
  IsStoredIn Live i = i ≡ header_word site.shape op.copied.side
  IsStoredIn (Enter index) i = (j : ℕ) × (j < entries_of op.root) × (i ≡ entry_at op.root j)
  IsStoredIn Entered i = (j : ℕ) × (j < entries_of op.root) × (i ≡ entry_at op.root j)

  -- what is not settled lies in the rounds, whose lines are of the image, and is what is stored in this stage
  pub record IsStoring (stage : Stage) (v : View) : Type 0 where
    pub heads : HasHeads
    pub round : RoundStands op.rounds v
    pub loose : (p : ℕ × ℕ) → IsLoose v p → IsStoredIn stage p.0
    pub lines : (line : ℕ) → Has line op.rounds.round → HasLine (words_of site.shape) line

  module _ (call : Call) where
    -- ---- while the directory is doubled
    pub record IsFilling (place : ℕ) (v : View) : Type 0 where
      pub new : SideIsNew site here call op.copied v
      pub doubles : Doubles v
      pub filled : FilledBelow place v

    -- the next entry has a value that is known of the entry from which it comes
    pub record FillsNext (place value : ℕ) (v : View) : Type 0 where
      pub filling : IsFilling place v
      pub low : place < entries_of op.root
      pub small : value < 2 ^ 64
      pub known : Has (entry_at (depth_in op.copied.whole.head) (entry_above place), value) v.known

    -- ---- while the side goes live
    pub record IsRooted (v : View) : Type 0 where
      pub new : SideIsNew site here call op.copied v
      pub root : IsDeepEnough v

    pub record HasGoneLive (v : View) : Type 0 where
      pub split : SplitStands site here call op.copied (with_side site here call op.copied) v
      pub root : IsDeepEnough v
      pub known : Has (header_word site.shape op.copied.side, live_head op.side_head) v.known

    -- ---- while entries are stored
    pub record IsEntering (index : ℕ) (v : View) : Type 0 where
      pub live : SideIsLive site here call op.copied v
      pub root : IsDeepEnough v
      pub entered : EnteredBelow index v

    pub record EntersNext (index : ℕ) (v : View) : Type 0 where
      pub entering : IsEntering index v
      pub low : index < entries_of op.root
      pub of_side : IsOfSide op.copied op.root index
      pub small : op.copied.side < 2 ^ 64

    -- THE VIEW in each stage, but for what is loose
    abbrev pub SuitsStage : Stage → View → Type 0
    SuitsStage (Fill place value) v = FillsNext place value v
    SuitsStage Filled v = IsFilling (entries_of op.root) v
    SuitsStage Deepen v = IsFilling (entries_of op.root) v
    SuitsStage Deepened v = IsRooted v
    SuitsStage GoLive v = IsRooted v
    SuitsStage Live v = HasGoneLive v
    SuitsStage (Enter index) v = EntersNext index v
    SuitsStage Entered v = IsEntering (entries_of op.root) v

    -- ---- between the stages
    -- under the guard, before the root is known
    pub record IsGuarding (v : View) : Type 0 where
      pub heads : HasHeads
      pub new : SideIsNew site here call op.copied v
      pub settled : IsSettled v

    -- an entry is to be loaded, with which two are filled
    pub record FillsFrom (place : ℕ) (v : View) : Type 0 where
      pub filling : IsFilling place v
      pub even : half_of_entry place ≡ 0
      pub low : place < entries_of op.root
      pub storing : IsStoring Filled v

    -- the guard may be given back
    pub record IsDirected (v : View) : Type 0 where
      pub live : SideIsLive site here call op.copied v
      pub settled : IsSettled v
      pub lacks : Has (Lacks op.copied.whole.segment (side_depth op.copied) (side_pattern op.copied)) v.facts
      pub deep : Has (Deep (depth_in op.copied.whole.head) (side_depth op.copied) (side_pattern op.copied)) v.facts

    -- before the guard is held, what was copied is kept as it was
    pub record IsWaiting (v : View) : Type 0 where
      pub keeps : KeepsCopied site here call op.copied v
      pub heads : HasHeads

    pub record HasOneHead (v : View) : Type 0 where
      pub keeps : KeepsCopied site here call op.copied v
      pub head : op.head ≡ split_head op.copied.whole

    -- where no store is to come, a round was begun and is to be settled
    pub record SuitsStore (stage : Stage) (v : View) : Type 0 where
      pub storing : IsStoring stage v
      pub at : SuitsStage stage v
      pub open_round : op.rounds ≡ begun → next_store op stage ≢ None

    -- THE VIEW in each step
    abbrev pub SuitsStep : DirectoryStep → View → Type 0
    SuitsStep LoadHead v = KeepsCopied site here call op.copied v
    SuitsStep LoadSideHead v = HasOneHead v
    SuitsStep TakeGuard v = IsWaiting v
    SuitsStep AskPower v = IsWaiting v
    SuitsStep LoadRoot v = IsGuarding v
    SuitsStep (LoadEntry place) v = FillsFrom place v
    SuitsStep (Store stage) v = SuitsStore stage v
    SuitsStep GiveGuard v = IsDirected v
    SuitsStep (Ended Published) v = KeepsPublished site here call op.copied v
    SuitsStep (Ended Off) v = IsWaiting v
