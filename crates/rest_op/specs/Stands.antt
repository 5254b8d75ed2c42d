-- How the rest of a split fits the world: the kind of each event, and how the view of its caller stands in each step.
use Rattle.std.specs.Prelude.{◌≡◌, ◌≢◌, ℕ, ◌+◌, ◌<◌, ◌≤◌, ◌==◌, ◌&&◌, nat_lt, None, [], ◌∷◌, slice_index, if◌then◌else◌}
use Rattle.trace.specs.Events.{line_of}
use Rattle.bucket_meta.specs.Bucket.{mark_place, rest_place, given_back}
use Rattle.segment_head.specs.HeadWord.{version_in, depth_in, pattern_in, splitting}
use Rattle.image_layout.specs.Places.{root_word, bucket_at, homes, buckets, block, note_words, mark_note, rest_note}
use Rattle.segment_head.specs.SplitHeads.{finished_head}
use Rattle.frame_facts.specs.Facts.{Lacks, Deep}
use Rattle.way.specs.Ways.{head_word}
use Rattle.world.specs.Ground.{Ground}
use Rattle.world.specs.Views.{View, Has, IsLoose}
use Rattle.world.specs.Kinds.{peeks, flushes}
use Rattle.world.specs.Attempts.{HoldsOnly, IsIdle}
use Rattle.world.specs.areas.Areas.{Segment, Whole, header_word}
use Rattle.world.specs.areas.Rows.{finishes}
use Rattle.world.specs.areas.Kinds.{sets, moves, settles, opens}
use Rattle.world.specs.StepKinds.{StepKind, of_call, of_structure}
use Rattle.world.specs.areas.Splitting.{link_word, IsHeader}
use Rattle.rounds.specs.declared.rounds.Rounds.{Rounds}
use Rattle.rounds.specs.Steps.{rounds_wanted}
use Rattle.rounds.specs.Stands.{rounds_kind, RoundStands, IsSettled}
use Rattle.enclose_op.specs.declared.enclosed.Enclosed.{Enclosed}
use Rattle.enclose_op.specs.Whole.{kept_word, HoldsLocks, KnowsOnlyOf, kept_third}
use Rattle.enclose_op.specs.Giving.{lock_of, free_value}
use Rattle.enclose_op.specs.Fits.{give_kind, SuitsGive}
use Rattle.rest_op.specs.declared.op.RestStep.{RestStep}
use Rattle.rest_op.specs.declared.op.RestStep.TheVariants.{Clear, Head, HeadFlush, HeadFence, Note, Open, Give, Ended}
use Rattle.rest_op.specs.declared.op.RestOp.{RestOp}
use Rattle.rest_op.specs.Steps.{due, note_word, note_value}
use Rattle.rest_op.specs.Reckoned.{side_depth, side_pattern}

-- ---- the kind of each event
abbrev pub kind_at : RestOp → RestStep → StepKind
kind_at op (Clear b rounds) = rounds_kind rounds (due op b) []
kind_at op Head = of_structure (moves finishes op.whole.segment (finished_head op.whole.head))
kind_at op HeadFlush = of_call (flushes (line_of (head_word op.whole.site.geometry op.whole.segment)))
kind_at op HeadFence = of_structure (settles [])
kind_at op (Note n) = of_structure (sets (note_word op n) (note_value op n))
kind_at op Open = of_structure (opens op.whole.segment (lock_of op.whole 0) (given_back (free_value op.whole 0)))
kind_at op (Give give) = give_kind op.whole give
kind_at op Ended = of_call (peeks root_word)

-- ---- its words
-- those of bucket b, where words 1 and 3 of each bucket are these, and the others as they are kept
abbrev pub value_of : Enclosed → (first third : ℕ → ℕ) → ℕ → ℕ → ℕ
value_of e first third b n = if n == mark_place then first b else if n == rest_place then third b else kept_word e b n

-- word 1 of each bucket, of which those before one are cleared
abbrev pub cleared_before : RestOp → ℕ → ℕ → ℕ
cleared_before op b c = if nat_lt c b then slice_index op.cleared c else kept_word op.whole c mark_place

-- words 1 and 3 of each bucket, of which those before one have their notes
abbrev pub first_before : RestOp → ℕ → ℕ → ℕ
first_before op n c = if nat_lt c homes && nat_lt (mark_note c) n then slice_index op.notes.first c else slice_index op.cleared c

abbrev pub third_before : RestOp → ℕ → ℕ → ℕ
third_before op n c = if nat_lt c homes && nat_lt (rest_note c) n then slice_index op.notes.third c else kept_third op.whole c

-- ---- THE VIEW
module _ (site : Ground) (e : Enclosed) where
  -- the 31 words behind the lock word of each bucket are known
  abbrev pub KnowsAll : (first third : ℕ → ℕ) → View → Type 0
  KnowsAll first third v = (b n : ℕ) → b < buckets → mark_place ≤ n → n < block → Has (bucket_at site.shape e.segment b + n, value_of e first third b n) v.known

  -- THE SEGMENT IS HELD WHOLE, with its guard and all locks and nothing else; and its header, its link and its words are known, and no others
  pub record HasAll (first third : ℕ → ℕ) (head : ℕ) (v : View) : Type 0 where
    pub areas : v.areas ≡ Whole e.segment ∷ Segment e.segment ∷ []
    pub locks : HoldsLocks site e v
    pub words : KnowsAll first third v
    pub header : Has (header_word site.shape e.segment, head) v.known
    pub link : (l : ℕ) × Has (link_word site.shape e.segment, l) v.known
    pub known : KnowsOnlyOf site e v
    pub idle : IsIdle v

  -- it is splitting still, and what the publishing of its side settled is relied on
  pub record IsSplit (first : ℕ → ℕ) (v : View) : Type 0 where
    pub head : ℕ
    pub is_head : IsHeader head splitting (depth_in e.head) (pattern_in e.head) (version_in e.head)
    pub all : HasAll first (kept_third e) head v
    pub lacks : Has (Lacks e.segment (side_depth e) (side_pattern e)) v.facts
    pub deep : Has (Deep (depth_in e.head) (side_depth e) (side_pattern e)) v.facts

  -- only the words that were cleared may be loose: word 1 of buckets before one
  abbrev pub IsLooseBefore : ℕ → View → Type 0
  IsLooseBefore b v = (p : ℕ × ℕ) → IsLoose v p → (c : ℕ) × (c < b) × (p.0 ≡ bucket_at site.shape e.segment c + mark_place)

  -- a line is that of word 1 of a bucket
  abbrev pub IsClearedLine : ℕ → Type 0
  IsClearedLine line = (c : ℕ) × (c < buckets) × (line ≡ line_of (bucket_at site.shape e.segment c + mark_place))

module _ (site : Ground) (op : RestOp) where
  -- buckets before this one are cleared, in rounds
  pub record IsClearing (b : ℕ) (rounds : Rounds) (v : View) : Type 0 where
    pub split : IsSplit site op.whole (cleared_before op b) v
    pub near : b ≤ buckets
    pub stands : RoundStands rounds v
    pub lines : (line : ℕ) → Has line rounds.round → IsClearedLine site op.whole line
    pub loose : IsLooseBefore site op.whole b v

  -- the header was stored, and nothing else may be loose
  pub record HasEnded (v : View) : Type 0 where
    pub all : HasAll site op.whole (λ c. slice_index op.cleared c) (kept_third op.whole) (finished_head op.whole.head) v
    pub flushed : v.flushed ≡ []
    pub loose : (p : ℕ × ℕ) → Has p v.dirty → p.0 ≡ header_word site.shape op.whole.segment

  -- and flushed
  pub record HasFlushed (v : View) : Type 0 where
    pub all : HasAll site op.whole (λ c. slice_index op.cleared c) (kept_third op.whole) (finished_head op.whole.head) v
    pub dirty : v.dirty ≡ []

  -- the notes before this one are stored
  pub record IsNoting (n : ℕ) (v : View) : Type 0 where
    pub all : HasAll site op.whole (first_before op n) (third_before op n) (finished_head op.whole.head) v
    pub settled : IsSettled v

  -- IN EACH STEP
  abbrev pub SuitsStep : RestStep → View → Type 0
  SuitsStep (Clear b rounds) v = IsClearing b rounds v × (rounds_wanted rounds (due op b) ≢ None)
  SuitsStep Head v = IsSplit site op.whole (λ c. slice_index op.cleared c) v × IsSettled v
  SuitsStep HeadFlush v = HasEnded v
  SuitsStep HeadFence v = HasFlushed v
  SuitsStep (Note n) v = (n < note_words) × IsNoting n v
  SuitsStep Open v = IsNoting note_words v
  SuitsStep (Give give) v = SuitsGive site op.whole give v
  SuitsStep Ended v = HoldsOnly [] v
