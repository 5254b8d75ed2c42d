-- How the view of its caller stands in each step of an enclosing: what it holds and knows.
use Rattle.std.specs.Prelude.{◌≡◌, ◌≢◌, ℕ, ◌+◌, ◌-◌, ◌*◌, ◌^◌, ◌<◌, ◌≤◌, true, Option, None, Some, [], ◌∷◌, slice_index}
use Rattle.hash_word.specs.Hash.{home_of}
use Rattle.bucket_meta.specs.Bucket.{lock_place, mark_place, given_back}
use Rattle.segment_head.specs.HeadWord.{depth_in}
use Rattle.image_layout.specs.Places.{root_word, numbered_at, buckets, last_bucket, place_in_bucket, words_of_buckets, last_of_buckets}
use Rattle.way.specs.Ways.{head_word, numbered_word}
use Rattle.whole_segment.specs.Room.{has_no_room}
use Rattle.map_model.specs.declared.call.Call.{Call}
use Rattle.map_model.specs.declared.entry.Reply.TheVariants.{Deep, Spent}
use Rattle.map_model.specs.Changes.{call_of}
use Rattle.world.specs.declared.site.Site.{Site}
use Rattle.world.specs.Ground.{Ground}
use Rattle.world.specs.Views.{View, Has}
use Rattle.world.specs.Kinds.{peeks, learns, refuses, unlocks}
use Rattle.world.specs.Conditions.{FoundSpent}
use Rattle.world.specs.Attempts.{HoldsOnly}
use Rattle.world.specs.areas.Areas.{Segment}
use Rattle.world.specs.areas.Kinds.{of_segment, takes, gives, reads}
use Rattle.world.specs.areas.Splitting.{KnowsBuckets}
use Rattle.world.specs.StepKinds.{StepKind, of_call, of_structure}
use Rattle.part.specs.Outcomes.{Outcome, replied, again, finished}
use Rattle.phase.specs.Taking.{take_kind, IsTaking, take_left}
use Rattle.phase.specs.Stands.{IsThere}
use Rattle.phase.specs.Giving.{IsQuiet}
use Rattle.enclose_op.specs.declared.enclosed.Enclosed.{Enclosed}
use Rattle.enclose_op.specs.declared.give.Give.{Give as Giving}
use Rattle.enclose_op.specs.declared.give.Give.TheVariants as giving
use Rattle.enclose_op.specs.declared.op.NotEnclosed.{NotEnclosed}
use Rattle.enclose_op.specs.declared.op.NotEnclosed.TheVariants.{Replied, Again, Room}
use Rattle.enclose_op.specs.declared.op.EncloseStep.{EncloseStep}
use Rattle.enclose_op.specs.declared.op.EncloseStep.TheVariants.{Guard, Lock, Head, Fill, CountSpent, CountDeep, Give, Ended, Whole}
use Rattle.enclose_op.specs.Whole.{kept_words, kept_first, HasHead, HoldsBetween, KnowsOnlyOf, KnowsHeader, KeepsWhole}
use Rattle.enclose_op.specs.Giving.{lock_of, free_value}

-- ---- the kind of each event
module _ (e : Enclosed) where
  abbrev pub give_kind : Giving → StepKind
  give_kind (giving.Lock b to) = of_call (unlocks (lock_of e b) (given_back (free_value e b)))
  give_kind giving.Guard = of_structure (gives (of_segment e.segment))

  abbrev pub kind_at : EncloseStep → StepKind
  kind_at Guard = of_structure (takes (of_segment e.segment) e.site.caller)
  kind_at (Lock b take) = of_call (take_kind (lock_of e b) take)
  kind_at Head = of_structure (reads (head_word e.site.geometry e.segment))
  kind_at (Fill at) = of_call (learns (numbered_word e.site.geometry e.segment at))
  kind_at (CountSpent b) = of_call (refuses (call_of e.change) Spent)
  kind_at CountDeep = of_call (refuses (call_of e.change) Deep)
  kind_at (Give give end) = give_kind give
  kind_at (Ended end) = of_call (peeks root_word)
  kind_at Whole = of_call (peeks root_word)

-- ---- what is decided
abbrev pub outcome_of : NotEnclosed → Outcome
outcome_of (Replied reply place) = replied reply place
outcome_of (Again why) = again why
outcome_of Room = finished

-- from there on all is given back
abbrev pub outcome_at : EncloseStep → Option Outcome
outcome_at (Give give end) = Some (outcome_of end)
outcome_at (Ended end) = Some (outcome_of end)
outcome_at step = None

-- ---- at most so many events are left
abbrev pub give_left : Giving → ℕ
give_left (giving.Lock b to) = 2 + (last_bucket - b)
give_left giving.Guard = 1

abbrev pub left_at : EncloseStep → ℕ
left_at Guard = 2313
left_at (Lock b take) = 2180 + 2 * (last_bucket - b) + take_left take
left_at Head = 2180
left_at (Fill at) = 69 + (last_of_buckets - at)
left_at (CountSpent b) = 68
left_at CountDeep = 68
left_at (Give give end) = give_left give
left_at (Ended end) = 0
left_at Whole = 0

abbrev pub most_events : ℕ
most_events = 2313

-- ---- THE VIEW
module _ (site : Ground) (e : Enclosed) where
  -- the guard and the locks of these buckets are held, and nothing else; words of the slot alone are known; and nothing is unsettled, planned,
  -- under way or owed
  pub record HoldsPart (from to : ℕ) (v : View) : Type 0 where
    pub areas : v.areas ≡ Segment e.segment ∷ []
    pub locks : HoldsBetween site e from to v
    pub known : KnowsOnlyOf site e v
    pub quiet : IsQuiet v

  -- while it is given back
  abbrev pub SuitsGive : Giving → View → Type 0
  SuitsGive (giving.Lock b to) v = (b < to) × (to ≤ buckets) × HoldsPart b to v
  SuitsGive giving.Guard v = HoldsPart 0 0 v

  -- the locks of the buckets before one are held, of a segment that is known to be live and current
  pub record IsTakingLock (b : ℕ) (v : View) : Type 0 where
    pub near : b ≤ buckets
    pub there : IsThere site e.segment v.facts
    pub part : HoldsPart 0 b v

  -- THE WORDS BEFORE ONE are known as they are kept: this one is the next
  pub record IsFilling (at : ℕ) (v : View) : Type 0 where
    pub from : mark_place ≤ at
    pub last : at < words_of_buckets
    pub no_lock : place_in_bucket at ≢ lock_place
    pub same : (j : ℕ) → j < at → place_in_bucket j ≢ lock_place → Has (numbered_at site.shape e.segment j, slice_index e.buckets j) v.known

  -- all locks are held, and the header is known
  pub record IsHeaded (v : View) : Type 0 where
    pub taking : IsTakingLock buckets v
    pub head : HasHead site e
    pub header : KnowsHeader site e v
    pub small : (i : ℕ) → slice_index e.buckets i < 2 ^ 64

  -- ALL WORDS ARE KNOWN, and there is no room
  pub record IsCrammed (v : View) : Type 0 where
    pub headed : IsHeaded v
    pub buckets_are : KnowsBuckets site.shape v e.segment (kept_words e)
    pub no_room : has_no_room (kept_first e) (home_of e.hash) ≡ true

-- IN EACH STEP
module _ (site : Ground) (here : Site) (call : Call) (e : Enclosed) where
  abbrev pub SuitsStep : EncloseStep → View → Type 0
  SuitsStep Guard v = HoldsOnly [] v × IsThere site e.segment v.facts × ((i : ℕ) → slice_index e.buckets i < 2 ^ 64)
  SuitsStep (Lock b take) v = IsTakingLock site e b v × (b < buckets) × IsTaking take × ((i : ℕ) → slice_index e.buckets i < 2 ^ 64)
  SuitsStep Head v = IsTakingLock site e buckets v × ((i : ℕ) → slice_index e.buckets i < 2 ^ 64)
  SuitsStep (Fill at) v = IsHeaded site e v × IsFilling site e at v
  SuitsStep (CountSpent b) v = HoldsPart site e 0 b v × (b ≤ buckets) × FoundSpent v
  SuitsStep CountDeep v = IsCrammed site e v × (depth_in e.head ≡ site.shape.depth)
  SuitsStep (Give give end) v = SuitsGive site e give v
  SuitsStep (Ended end) v = HoldsOnly [] v
  SuitsStep Whole v = KeepsWhole site here call e v
