-- How a mending fits the world: the kind of each event, and how the view of its caller stands in each step.
use Rattle.std.specs.Prelude.{◌≡◌, ◌≢◌, ℕ, ◌^◌, ◌<◌, ◌≤◌, ◌⊎◌, Option, None, Some, List, [], ◌∷◌, slice_index}
use Rattle.trace.specs.Events.{line_of}
use Rattle.hash_word.specs.Hash.{Covers, hash_bits}
use Rattle.bucket_meta.specs.Bucket.{lock_bit}
use Rattle.segment_head.specs.HeadWord.{version_in, state_in, depth_in, pattern_in, normal, splitting}
use Rattle.segment_head.specs.SplitHeads.{finished_head}
use Rattle.image_layout.specs.Places.{root_word, numbered_at, buckets, note_words, words_of_buckets, first_among_buckets}
use Rattle.sound_image.specs.Records.{key_hash}
use Rattle.whole_segment.specs.Records.{Stands}
use Rattle.whole_segment.specs.Mending.{IsLookedFor}
use Rattle.frame_facts.specs.Facts.{Lacks, Deep}
use Rattle.frame_facts.specs.DeadSlots.{IsInSlot}
use Rattle.world.specs.Ground.{Ground, version_of}
use Rattle.world.specs.Views.{View, Has, IsLoose}
use Rattle.world.specs.Kinds.{peeks, flushes}
use Rattle.world.specs.Attempts.{HoldsOnly, IsIdle}
use Rattle.world.specs.areas.Areas.{Segment, Stale, header_word}
use Rattle.world.specs.areas.Rows.{finishes, renews}
use Rattle.world.specs.areas.Kinds.{of_segment, gives, reads, sets, moves, settles}
use Rattle.world.specs.areas.Repairing.{side_depth_in, side_pattern_in}
use Rattle.world.specs.StepKinds.{StepKind, of_call, of_structure}
use Rattle.rounds.specs.declared.rounds.Rounds.{Rounds}
use Rattle.rounds.specs.Steps.{rounds_wanted}
use Rattle.rounds.specs.Stands.{rounds_kind, RoundStands, IsSettled}
use Rattle.repair_op.specs.declared.guarded.Guarded.{Guarded}
use Rattle.mend_op.specs.declared.stage.Stage.{Stage}
use Rattle.mend_op.specs.declared.stage.Stage.TheVariants as stage
use Rattle.mend_op.specs.declared.op.MendStep.{MendStep}
use Rattle.mend_op.specs.declared.op.MendStep.TheVariants.{Fill, Round, Finish, FinishFlush, FinishFence, Note, Renew, RenewFlush, RenewFence, Give, Ended}
use Rattle.mend_op.specs.declared.op.MendOp.{MendOp}
use Rattle.mend_op.specs.Words.{first_of, key_of, renewed_head}
use Rattle.mend_op.specs.Stages.{most, place, made}
use Rattle.mend_op.specs.Steps.{own_head_word, word_at, due}

-- ---- the kind of each event
abbrev pub kind_at : MendOp → MendStep → StepKind
kind_at op (Fill i) = of_structure (reads (word_at op i))
kind_at op (Round stage n rounds) = rounds_kind rounds (due op stage n) []
kind_at op Finish = of_structure (moves finishes op.guarded.segment (finished_head op.guarded.head))
kind_at op FinishFlush = of_call (flushes (line_of (own_head_word op)))
kind_at op FinishFence = of_structure (settles [])
kind_at op (Note n) = of_structure (sets (word_at op (place stage.Note n)) (slice_index op.next (place stage.Note n)))
kind_at op Renew = of_structure (moves renews op.guarded.segment (renewed_head op.guarded.site.version op.guarded.head))
kind_at op RenewFlush = of_call (flushes (line_of (own_head_word op)))
kind_at op RenewFence = of_structure (settles [])
kind_at op Give = of_structure (gives (of_segment op.guarded.segment))
kind_at op Ended = of_call (peeks root_word)

-- ---- WORDS
-- A STAGE IN THE MIDDLE: of the words that it makes of others, those from one number on are as they were, and all else is as it is to be
pub record IsPartly (guarded : Guarded) (words next : List ℕ) (stage : Stage) (base : List ℕ) (n : ℕ) : Type 0 where
  pub near : n ≤ most stage
  pub small : (i : ℕ) → slice_index base i < 2 ^ 64
  pub makes : next ≡ made stage guarded.site.geometry guarded.head base
  pub behind : (m : ℕ) → n ≤ m → m < most stage → slice_index words (place stage m) ≡ slice_index base (place stage m)
  pub others : (i : ℕ) → i < words_of_buckets → (slice_index words i ≡ slice_index next i) ⊎ ((m : ℕ) × (n ≤ m) × (m < most stage) × (i ≡ place stage m))

module _ (site : Ground) (guarded : Guarded) where
  -- where the word of the buckets of this number stands
  abbrev pub place_of : ℕ → ℕ
  place_of i = numbered_at site.shape guarded.segment i

  -- each record that it covers stands where its key is looked for
  abbrev pub AreLookedFor : List ℕ → Type 0
  AreLookedFor words = IsLookedFor (first_of words) (key_of words) (key_hash site.shape) (depth_in guarded.head) (pattern_in guarded.head)

  -- MENDED WORDS: records are its own, each key stands once, and locks are free
  pub record AreMended (words : List ℕ) : Type 0 where
    pub own : (b r k : ℕ) → Stands (first_of words) (key_of words) b r k → Covers (depth_in guarded.head) (pattern_in guarded.head) (key_hash site.shape k)
    pub once : (b r c t k : ℕ) → Stands (first_of words) (key_of words) b r k → Stands (first_of words) (key_of words) c t k → (c ≡ b) × (t ≡ r)
    pub free : (b : ℕ) → b < buckets → lock_bit (slice_index words (first_among_buckets b)) ≡ 0

  -- ---- THE VIEW
  -- words of the slot alone are known
  abbrev pub KnowsOnlyOf : View → Type 0
  KnowsOnlyOf v = (p : ℕ × ℕ) → Has p v.known → IsInSlot site.shape guarded.segment p.0

  -- its split is to end: the segment claims nothing of its 1-side, and all entries of that name deeper ones
  pub record IsSplit (v : View) : Type 0 where
    pub splits : state_in guarded.head ≡ splitting
    pub lacks : Has (Lacks guarded.segment (side_depth_in guarded.head) (side_pattern_in guarded.head)) v.facts
    pub deep : Has (Deep (depth_in guarded.head) (side_depth_in guarded.head) (side_pattern_in guarded.head)) v.facts

  -- it is, where it has a ready side; else the segment is normal
  abbrev pub IsBefore : Option ℕ → View → Type 0
  IsBefore (Some side) v = IsSplit v
  IsBefore None v = state_in guarded.head ≡ normal

  -- what is known while words of a stage are stored in rounds: of a split that ends, and then of what is mended. Notes are stored alone
  abbrev pub IsInStage : Stage → List ℕ → View → Type 0
  IsInStage stage.Clear base v = IsSplit v
  IsInStage stage.Mend base v = (state_in guarded.head ≡ normal) × (depth_in guarded.head ≤ hash_bits) × AreLookedFor base
  IsInStage stage.Note base v = ⊥

  -- only the header may be loose
  abbrev pub IsHeadAlone : List (ℕ × ℕ) → Type 0
  IsHeadAlone pairs = (p : ℕ × ℕ) → Has p pairs → p.0 ≡ header_word site.shape guarded.segment

  -- its header is known, and has the image's version
  pub record KnowsCurrent (v : View) : Type 0 where
    pub head : ℕ
    pub header : Has (header_word site.shape guarded.segment, head) v.known
    pub version : version_in head ≡ version_of site

  -- its guard alone is held, since it is current
  pub record HasGuard (v : View) : Type 0 where
    pub areas : v.areas ≡ Segment guarded.segment ∷ []
    pub no_locks : v.held ≡ []
    pub current : KnowsCurrent v
    pub known : KnowsOnlyOf v
    pub idle : IsIdle v

  module _ (words : List ℕ) where
    -- THE SEGMENT IS HELD, and it is stale; its header and its words before this one are known, and nothing else is held, planned, under way or owed
    pub record HasSegment (n : ℕ) (v : View) : Type 0 where
      pub areas : v.areas ≡ Stale guarded.segment ∷ Segment guarded.segment ∷ []
      pub no_locks : v.held ≡ []
      pub header : Has (header_word site.shape guarded.segment, guarded.head) v.known
      pub words_are : (i : ℕ) → i < n → Has (place_of i, slice_index words i) v.known
      pub known : KnowsOnlyOf v
      pub idle : IsIdle v

    -- and all of its words are known
    abbrev pub HasAll : View → Type 0
    HasAll v = HasSegment words_of_buckets v

    -- ---- the header was stored, and nothing else may be loose
    pub record HasFinished (v : View) : Type 0 where
      pub is_normal : state_in guarded.head ≡ normal
      pub all : HasAll v
      pub flushed : v.flushed ≡ []
      pub loose : IsHeadAlone v.dirty

    -- and flushed
    pub record HasFlushed (v : View) : Type 0 where
      pub is_normal : state_in guarded.head ≡ normal
      pub all : HasAll v
      pub dirty : v.dirty ≡ []

    -- ---- words are stored in rounds
    -- only words before this one may be loose, and may be left as they were
    abbrev pub IsLooseBefore : Stage → List ℕ → ℕ → View → Type 0
    IsLooseBefore stage base n v = (p : ℕ × ℕ) → IsLoose v p → (m : ℕ) × (m < n) × (p ≡ (place_of (place stage m), slice_index base (place stage m)))

    -- a line is that of a word of the stage
    abbrev pub IsStageLine : Stage → ℕ → Type 0
    IsStageLine stage line = (m : ℕ) × (m < most stage) × (line ≡ line_of (place_of (place stage m)))

    module _ (next : List ℕ) where
      -- IN THE ROUNDS: words before this one are as they are to be, and this one is another than it is to be
      pub record IsRounding (stage : Stage) (base : List ℕ) (n : ℕ) (rounds : Rounds) (v : View) : Type 0 where
        pub partly : IsPartly guarded words next stage base n
        pub changes : n < most stage → slice_index words (place stage n) ≢ slice_index next (place stage n)
        pub all : HasAll v
        pub stands : RoundStands rounds v
        pub lines : (line : ℕ) → Has line rounds.round → IsStageLine stage line
        pub loose : IsLooseBefore stage base n v

      -- ---- notes before this one are stored
      pub record IsNoting (n : ℕ) (v : View) : Type 0 where
        pub base : List ℕ
        pub partly : IsPartly guarded words next stage.Note base n
        pub is_normal : state_in guarded.head ≡ normal
        pub mended : AreMended base
        pub all : HasAll v
        pub settled : IsSettled v

-- IN EACH STEP
module _ (site : Ground) (op : MendOp) where
  abbrev pub SuitsStep : MendStep → View → Type 0
  SuitsStep (Fill i) v = (i < words_of_buckets) × HasSegment site op.guarded op.words i v × IsBefore site op.guarded op.guarded.side v × IsSettled v
  SuitsStep (Round stage n rounds) v =
      (base : List ℕ) × IsRounding site op.guarded op.words op.next stage base n rounds v × IsInStage site op.guarded stage base v
      × (rounds_wanted rounds (due op stage n) ≢ None)
  SuitsStep Finish v = HasAll site op.guarded op.words v × IsSplit site op.guarded v × IsSettled v
  SuitsStep FinishFlush v = HasFinished site op.guarded op.words v
  SuitsStep FinishFence v = HasFlushed site op.guarded op.words v
  SuitsStep (Note n) v = (n < note_words) × IsNoting site op.guarded op.words op.next n v
  SuitsStep Renew v = IsNoting site op.guarded op.words op.next note_words v
  SuitsStep RenewFlush v = HasGuard site op.guarded v × (v.flushed ≡ []) × IsHeadAlone site op.guarded v.dirty
  SuitsStep RenewFence v = HasGuard site op.guarded v × (v.dirty ≡ [])
  SuitsStep Give v = HasGuard site op.guarded v × IsSettled v
  SuitsStep Ended v = HoldsOnly [] v
