-- How a split fits the world: the kind of each event, and how the view of its caller stands in each step: what it holds and knows.
use Rattle.std.specs.Prelude.{◌≡◌, ◌≢◌, ℕ, zero, suc, ◌+◌, ◌%◌, ◌^◌, ◌<◌, ◌≤◌, ◌⊎◌, ⊤, Bool, true, false, Option, None, Some, List, [], ◌∷◌, length, slice_index}
use Rattle.trace.specs.Events.{HasLine}
use Rattle.op_core.specs.declared.want.Want.{Want}
use Rattle.op_core.specs.declared.want.Want.TheVariants.{Store}
use Rattle.bucket_meta.specs.Bucket.{mark_place, first_key}
use Rattle.segment_head.specs.HeadWord.{state_in, free, link_to}
use Rattle.image_layout.specs.Places.{root_word, words_of, head_at, header_number, link_number, bucket_at, bucket_place, place_in_bucket, among_buckets, buckets, block, header_words, segment_words, words_of_buckets}
use Rattle.map_model.specs.declared.call.Call.{Call}
use Rattle.map_model.specs.declared.entry.Reply.TheVariants.{Full}
use Rattle.map_model.specs.Changes.{call_of}
use Rattle.frame_facts.specs.Facts.{Taken}
use Rattle.world.specs.declared.site.Site.{Site}
use Rattle.world.specs.Ground.{Ground}
use Rattle.world.specs.Views.{View, Has, IsLoose}
use Rattle.world.specs.Kinds.{peeks, refuses}
use Rattle.world.specs.Attempts.{HoldsOnly}
use Rattle.world.specs.areas.Areas.{Area, Segment, Side, Free, Whole, Allocation, header_word}
use Rattle.world.specs.areas.Kinds.{of_free_slots, takes, gives, finds_free, closes, reads, moves}
use Rattle.world.specs.areas.Rows.{Row, marks, news}
use Rattle.world.specs.areas.Splitting.{link_word}
use Rattle.world.specs.StepKinds.{StepKind, of_call, of_structure}
use Rattle.part.specs.Outcomes.{Outcome, replied, again}
use Rattle.enclose_op.specs.Phases.{IsThere}
use Rattle.rounds.specs.declared.rounds.Rounds.{Rounds}
use Rattle.rounds.specs.Steps.{rounds_wanted}
use Rattle.rounds.specs.Stands.{kind_of, RoundStands, IsSettled}
use Rattle.enclose_op.specs.declared.enclosed.Enclosed.{Enclosed}
use Rattle.enclose_op.specs.Whole.{kept_words, IsOf, IsWhole, HoldsLocks, KnowsOnlyOf, KeepsWhole}
use Rattle.enclose_op.specs.Fits.{give_kind, SuitsGive}
use Rattle.split_op.specs.declared.copied.Copied.{Copied}
use Rattle.split_op.specs.declared.batch.Batch.{Batch}
use Rattle.split_op.specs.declared.batch.Batch.TheVariants.{Empty, Link, Mark, New, Copy}
use Rattle.split_op.specs.declared.step.SplitEnd.{SplitEnd}
use Rattle.split_op.specs.declared.step.SplitEnd.TheVariants as ends
use Rattle.split_op.specs.declared.step.SplitStep.{SplitStep}
use Rattle.split_op.specs.declared.step.SplitStep.TheVariants.{Take, Search, Count, Return, Look, Put, Release, Back, Ended}
use Rattle.split_op.specs.declared.op.SplitOp.{SplitOp}
use Rattle.split_op.specs.Copied.{split_head, side_head, IsCopy, KnowsOnlyOfBoth, KeepsCopied}
use Rattle.way.specs.Ways.{slot_word}
use Rattle.split_op.specs.Batches.{empty_value, is_copied, due}

-- ---- the kind of each event
-- the store of a header is a row of the structure; flushes and fences are those of any round
abbrev pub head_kind : Row → ℕ → ℕ → Option Want → StepKind
head_kind row s x (Some (Store word value)) = of_structure (moves row s x)
head_kind row s x other = kind_of [] other

module _ (op : SplitOp) where
  abbrev pub put_kind : Batch → Option Want → StepKind
  put_kind (Mark stored) want = head_kind (marks op.copied.side) op.copied.whole.segment (split_head op.copied.whole) want
  put_kind (New stored) want = head_kind (news op.copied.whole.segment) op.copied.side (side_head op.copied.whole) want
  put_kind (Empty number) want = kind_of [] want
  put_kind (Link stored) want = kind_of [] want
  put_kind (Copy number) want = kind_of [] want

  -- the word of the lock of a bucket of the side
  abbrev pub look_word : ℕ → ℕ
  look_word b = slot_word op.copied.whole.site.geometry op.copied.side (bucket_place (b % buckets))

  -- with the first of these loads the segment is whole
  abbrev pub look_kind : ℕ → StepKind
  look_kind zero = of_structure (closes op.copied.whole.segment (look_word 0))
  look_kind (suc b) = of_structure (reads (look_word (suc b)))

  abbrev pub kind_at : SplitStep → StepKind
  kind_at Take = of_structure (takes of_free_slots op.copied.whole.site.caller)
  kind_at (Search slot) = of_structure (finds_free slot)
  kind_at Count = of_call (refuses (call_of op.copied.whole.change) Full)
  kind_at (Return count) = of_structure (gives of_free_slots)
  kind_at (Look b) = look_kind b
  kind_at (Put batch rounds) = put_kind batch (rounds_wanted rounds (due op.copied op.locks batch))
  kind_at Release = of_structure (gives of_free_slots)
  kind_at (Back give end) = give_kind op.copied.whole give
  kind_at (Ended end) = of_call (peeks root_word)

-- ---- what is decided
abbrev pub outcome_of : SplitEnd → Option Outcome
outcome_of ends.Copied = None
outcome_of (ends.Again why) = Some (again why)
outcome_of (ends.Full count) = Some (replied Full count)

abbrev pub outcome_at : SplitStep → Option Outcome
outcome_at (Return count) = Some (replied Full count)
outcome_at (Back give end) = outcome_of end
outcome_at (Ended end) = outcome_of end
outcome_at step = None

-- it has copied, and another machine goes on
abbrev pub is_copied_end : SplitEnd → Bool
is_copied_end ends.Copied = true
is_copied_end end = false

abbrev pub hands_on_at : SplitStep → Bool
hands_on_at (Ended end) = is_copied_end end
hands_on_at step = false

-- ---- what is copied
-- THESE ARE THE WORDS of a side, in whichever other slot it is
pub record CopiesFrom (site : Ground) (e : Enclosed) (words : List ℕ) : Type 0 where
  pub each_word : length words ≡ words_of_buckets
  pub small : (i : ℕ) → slice_index words i < 2 ^ 64
  pub copy : (side : ℕ) → side < site.shape.segments → side ≢ e.segment → IsCopy site (record { whole = e; side = side; words = words })

-- a lock word for each bucket
pub record IsLockRow (locks : List ℕ) : Type 0 where
  pub each_lock : length locks ≡ buckets
  pub small : (i : ℕ) → slice_index locks i < 2 ^ 64

-- ---- THE VIEW
-- the slots before this one are known to be taken
abbrev pub KnowsTaken : ℕ → View → Type 0
KnowsTaken to v = (slot : ℕ) → slot < to → Has (Taken slot) v.facts

module _ (site : Ground) (here : Site) (call : Call) where
  -- the segment is as it was enclosed, with all its locks held and its words known; nothing is planned, under way or owed
  pub record KeepsOn (c : Copied) (v : View) : Type 0 where
    pub is : IsOf site here call c.whole
    pub whole : IsWhole site c.whole
    pub words : CopiesFrom site c.whole c.words
    pub there : IsThere site c.whole.segment v.facts
    pub locks : HoldsLocks site c.whole v
    pub buckets_are : (b m : ℕ) → b < buckets → mark_place ≤ m → m < block → Has (bucket_at site.shape c.whole.segment b + m, kept_words c.whole (bucket_at site.shape c.whole.segment b + m)) v.known
    pub planned : v.planned ≡ []
    pub moving : v.moving ≡ []
    pub owed : v.owed ≡ []

  -- WHILE A FREE SLOT IS LOOKED FOR the guard of free slots is held too
  pub record IsSearching (c : Copied) (v : View) : Type 0 where
    pub keeps : KeepsOn c v
    pub areas : v.areas ≡ Allocation ∷ Segment c.whole.segment ∷ []
    pub header : Has (header_word site.shape c.whole.segment, c.whole.head) v.known
    pub settled : IsSettled v
    pub only : KnowsOnlyOf site c.whole v

  -- THE SLOT is one of the image, and another than that of the segment; these are its lock words
  pub record HasSlot (c : Copied) (locks : List ℕ) : Type 0 where
    pub slot : c.side < site.shape.segments
    pub apart : c.side ≢ c.whole.segment
    pub row : IsLockRow locks

  -- a word of it, by its number
  abbrev pub side_at : Copied → ℕ → ℕ
  side_at c number = head_at site.shape c.side + number

  -- its header is known as a free one
  abbrev pub KnowsFreeHeader : Copied → View → Type 0
  KnowsFreeHeader c v = (head : ℕ) × Has (side_at c header_number, head) v.known × (state_in head ≡ free)

  -- ---- while its lock words are loaded
  abbrev pub look_areas : Copied → ℕ → List Area
  look_areas c zero = Free c.side ∷ Allocation ∷ Segment c.whole.segment ∷ []
  look_areas c (suc b) = Whole c.whole.segment ∷ Free c.side ∷ Allocation ∷ Segment c.whole.segment ∷ []

  pub record IsLooking (c : Copied) (locks : List ℕ) (b : ℕ) (v : View) : Type 0 where
    pub keeps : KeepsOn c v
    pub slot : HasSlot c locks
    pub near : b < buckets
    pub areas : v.areas ≡ look_areas c b
    pub header : Has (header_word site.shape c.whole.segment, c.whole.head) v.known
    pub side_header : KnowsFreeHeader c v
    pub looked : (d : ℕ) → d < b → Has (side_at c (bucket_place d), slice_index locks d) v.known
    pub settled : IsSettled v
    pub only : KnowsOnlyOfBoth site c v

  -- ---- while words are stored
  module _ (c : Copied) (locks : List ℕ) where
    -- before the side is new, behind that, and behind the guard of free slots
    abbrev pub areas_at : Batch → List Area
    areas_at (Empty number) = Whole c.whole.segment ∷ Free c.side ∷ Allocation ∷ Segment c.whole.segment ∷ []
    areas_at (Link stored) = Whole c.whole.segment ∷ Free c.side ∷ Allocation ∷ Segment c.whole.segment ∷ []
    areas_at (Mark stored) = Whole c.whole.segment ∷ Free c.side ∷ Allocation ∷ Segment c.whole.segment ∷ []
    areas_at (New false) = Whole c.whole.segment ∷ Free c.side ∷ Allocation ∷ Segment c.whole.segment ∷ []
    areas_at (New true) = Side c.side ∷ Whole c.whole.segment ∷ Allocation ∷ Segment c.whole.segment ∷ []
    areas_at (Copy number) = Side c.side ∷ Whole c.whole.segment ∷ Segment c.whole.segment ∷ []

    -- the header of the segment
    abbrev pub head_of : Batch → ℕ
    head_of (Empty number) = c.whole.head
    head_of (Link stored) = c.whole.head
    head_of (Mark false) = c.whole.head
    head_of (Mark true) = split_head c.whole
    head_of (New stored) = split_head c.whole
    head_of (Copy number) = split_head c.whole

    abbrev pub IsLinked : View → Type 0
    IsLinked v = Has (link_word site.shape c.whole.segment, link_to c.side) v.known

    -- its link, once it is stored
    abbrev pub KnowsLink : Batch → View → Type 0
    KnowsLink (Empty number) v = ⊤
    KnowsLink (Link false) v = ⊤
    KnowsLink (Link true) v = IsLinked v
    KnowsLink (Mark stored) v = IsLinked v
    KnowsLink (New stored) v = IsLinked v
    KnowsLink (Copy number) v = IsLinked v

    abbrev pub IsNewSide : View → Type 0
    IsNewSide v = Has (side_at c header_number, side_head c.whole) v.known

    -- the header of the side
    abbrev pub KnowsSideHeader : Batch → View → Type 0
    KnowsSideHeader (Empty number) v = KnowsFreeHeader c v
    KnowsSideHeader (Link stored) v = KnowsFreeHeader c v
    KnowsSideHeader (Mark stored) v = KnowsFreeHeader c v
    KnowsSideHeader (New false) v = KnowsFreeHeader c v
    KnowsSideHeader (New true) v = IsNewSide v
    KnowsSideHeader (Copy number) v = IsNewSide v

    -- a word of the slot that is emptied, by its number: the link, and the words of each bucket before its first key
    abbrev pub IsEmptied : ℕ → Type 0
    IsEmptied number = (number ≡ link_number) ⊎ ((header_words ≤ number) × (number < segment_words) × (place_in_bucket number < first_key))

    -- THE WORDS BEFORE ONE are emptied, and the lock words from there on are as they were loaded
    pub record IsEmptying (number : ℕ) (v : View) : Type 0 where
      pub next : IsEmptied number ⊎ (segment_words ≤ number)
      pub below : (p : ℕ) → IsEmptied p → p < number → Has (side_at c p, empty_value locks p) v.known
      pub above : (b : ℕ) → b < buckets → number ≤ bucket_place b → Has (side_at c (bucket_place b), slice_index locks b) v.known

    -- THE WORDS BEFORE ONE are copied, and the others that were emptied are so
    pub record IsCopying (number : ℕ) (v : View) : Type 0 where
      pub next : ((header_words ≤ number) × (number < segment_words) × (is_copied c.words number ≡ true)) ⊎ (segment_words ≤ number)
      pub below : (p : ℕ) → header_words ≤ p → p < segment_words → p < number → is_copied c.words p ≡ true → Has (side_at c p, slice_index c.words (among_buckets p)) v.known
      pub rest : (p : ℕ) → header_words ≤ p → p < segment_words → place_in_bucket p < first_key → (p < number → is_copied c.words p ≡ false) → Has (side_at c p, empty_value locks p) v.known

    abbrev pub KnowsSideWords : Batch → View → Type 0
    KnowsSideWords (Empty number) v = IsEmptying number v
    KnowsSideWords (Link stored) v = IsEmptying segment_words v
    KnowsSideWords (Mark stored) v = IsEmptying segment_words v
    KnowsSideWords (New stored) v = IsEmptying segment_words v
    KnowsSideWords (Copy number) v = IsCopying number v

    -- what may be loose: words of the slot but its header, or the one word that was stored
    abbrev pub MayBeLoose : Batch → ℕ → Type 0
    MayBeLoose (Empty number) i = (p : ℕ) × (link_number ≤ p) × (p < segment_words) × (i ≡ side_at c p)
    MayBeLoose (Link false) i = ⊥
    MayBeLoose (Link true) i = i ≡ link_word site.shape c.whole.segment
    MayBeLoose (Mark false) i = ⊥
    MayBeLoose (Mark true) i = i ≡ header_word site.shape c.whole.segment
    MayBeLoose (New false) i = ⊥
    MayBeLoose (New true) i = i ≡ side_at c header_number
    MayBeLoose (Copy number) i = (p : ℕ) × (link_number ≤ p) × (p < segment_words) × (i ≡ side_at c p)

    -- WHILE A TASK IS STORED
    pub record IsSplitting (batch : Batch) (v : View) : Type 0 where
      pub keeps : KeepsOn c v
      pub slot : HasSlot c locks
      pub areas : v.areas ≡ areas_at batch
      pub header : Has (header_word site.shape c.whole.segment, head_of batch) v.known
      pub link : KnowsLink batch v
      pub side_header : KnowsSideHeader batch v
      pub side_words : KnowsSideWords batch v
      pub loose : (p : ℕ × ℕ) → IsLoose v p → MayBeLoose batch p.0
      pub only : KnowsOnlyOfBoth site c v

  -- IN ROUNDS: the lines of the round are lines of the image, and an event is still to come
  pub record IsPutting (c : Copied) (locks : List ℕ) (batch : Batch) (rounds : Rounds) (v : View) : Type 0 where
    pub splits : IsSplitting c locks batch v
    pub stands : RoundStands rounds v
    pub lines : (line : ℕ) → Has line rounds.round → HasLine (words_of site.shape) line
    pub asks : rounds_wanted rounds (due c locks batch) ≢ None

  -- ---- IN EACH STEP
  abbrev pub SuitsEnd : Copied → SplitEnd → View → Type 0
  SuitsEnd c ends.Copied v = KeepsCopied site here call c v
  SuitsEnd c end v = HoldsOnly [] v

  abbrev pub SuitsStep : Copied → List ℕ → SplitStep → View → Type 0
  SuitsStep c locks Take v = KeepsWhole site here call c.whole v × CopiesFrom site c.whole c.words × IsLockRow locks
  SuitsStep c locks (Search slot) v = IsSearching c v × (slot < site.shape.segments) × IsLockRow locks × KnowsTaken slot v
  SuitsStep c locks Count v = IsSearching c v × KnowsTaken site.shape.segments v
  SuitsStep c locks (Return count) v = IsSearching c v
  SuitsStep c locks (Look b) v = IsLooking c locks b v
  SuitsStep c locks (Put batch rounds) v = IsPutting c locks batch rounds v
  SuitsStep c locks Release v = IsSplitting c locks (New true) v × IsSettled v
  SuitsStep c locks (Back give end) v = SuitsGive site c.whole give v × (is_copied_end end ≡ false)
  SuitsStep c locks (Ended end) v = SuitsEnd c end v
