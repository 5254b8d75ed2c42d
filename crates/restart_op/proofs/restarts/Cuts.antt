-- What a cut in a restart may leave: the words that were there, or in a sweep those with some headers without version, or those that it leaves at its end.
use Rattle.std.proofs.Common.{◌≡◌, ◌≢◌, ◌⊎◌, ℕ, ◌*◌, ◌/◌, ◌%◌, ◌^◌, ◌<◌, ◌≤◌, List, [], length, inl, inr, Bool, true, false, refl, sym, ap, subst, ◌∙◌, arith}
use Rattle.std.specs.Prelude.{slice_index}
use Rattle.std.specs.FinMap.{get}
use Rattle.std.proofs.lemmas.Bool.{cases_eq, cases_lt}
use Rattle.std.proofs.lemmas.List.{get_or_past}
use mathlib.Core.Path.{fun_ext}
use Rattle.segment_head.specs.Versions.{unversioned}
use Rattle.trace.specs.Events.{Words, with_word, Trace}
use Rattle.trace.specs.Events.Event.{fenced}
use Rattle.trace.specs.Steps.{HadSinceSettled}
use Rattle.trace.proofs.Replaced.{replaced_same, replaced_other}
use Rattle.trace.proofs.Media.{had_of_may, may_more, fence_since}
use Rattle.image_layout.specs.Places.{Shape, first_segment, state_word, words_of}
use Rattle.image_layout.specs.StateWord.{marker_in}
use Rattle.sound_image.specs.Segments.{ImageWords}
use Rattle.sound_image.specs.Rules.{FollowsRules}
use Rattle.sound_image.specs.Image.{IsSoundImage}
use Rattle.session.specs.Left.{HasPairsOf}
use Rattle.world.specs.areas.Areas.{header_word}
use Rattle.world.specs.areas.Restarting.{SameButVersion}
use Rattle.restart_op.specs.declared.restart.Started.{Started}
use Rattle.restart_op.specs.declared.restart.RestartStep.{RestartStep}
use Rattle.restart_op.specs.declared.restart.RestartStep.TheVariants.{Load, LoadHead, StoreHead, FlushHead, FenceHeads, Store, Flush, Fence, Ended}
use Rattle.restart_op.specs.Restart.{swept_through, started_for}
use Rattle.restart_op.specs.Restarted.{restarted, HasTheSame, HasStarted, RestartKeeps}
use Rattle.restart_op.proofs.images.Frames.{IsReversioned}
use Rattle.restart_op.proofs.Opened.{open_rules, open_has}
use Rattle.restart_op.proofs.restarts.Versions.{head_or_not, swept_by, only_version, marker_clear, started_alike, started_fits}
use Rattle.restart_op.proofs.restarts.Phases.{Leaving, HasSwept, IsBefore, Phase, phase_at}
use Rattle.world.proofs.moving.beginning.Restarting.{before_heads}

-- what a word may be left as is what it had since it was settled
pub leaving_now : (base : Words) → Leaving base (λ es i x. HadSinceSettled base es i x)
leaving_now base = record {
  more = λ e es i x _ had. may_more base e es i x had;
  fence = λ es i x had. elim (may_more base (fenced 0) es i x had) [ inl w ↦ absurd w | inr before ↦ inl before ];
  since = λ es i m x has had. fence_since base es 0 i m x has had;
}

module _ (shape : Shape) (words medium : List ℕ) (image : IsSoundImage shape words) (whole : length medium ≡ words_of shape) where
  abbrev word : ImageWords
  word = slice_index words

  abbrev left : ImageWords
  left = slice_index medium

  abbrev started : Started
  started = started_for (word state_word)

  -- behind the image both are 0
  behind : (i : ℕ) → words_of shape ≤ i → left i ≡ word i
  behind i past = get_or_past medium i 0 (omega (arith, whole, past)) ∙ sym (get_or_past words i 0 (let w = image.whole in omega (arith, w, past)))

  -- ---- the words that were there
  unchanged : left ≡ word → HasTheSame shape words medium
  unchanged same = record {
    sound = record {
      in_range = image.in_range;
      whole = whole;
      each_fits = λ i. subst (λ (w : ImageWords). w i < 2 ^ 64) (sym same) (image.each_fits i);
      says_shape = record {
        magic_word = ap (λ w. w 0) same ∙ image.says_shape.magic_word;
        format = ap (λ w. w 1) same ∙ image.says_shape.format;
        segments = ap (λ w. w 2) same ∙ image.says_shape.segments;
        depth = ap (λ w. w 3) same ∙ image.says_shape.depth;
      };
      follows = subst (λ (w : ImageWords). FollowsRules shape w) (sym same) image.follows;
    };
    pairs = λ m has. subst (λ (w : ImageWords). HasPairsOf shape w m) (sym same) has;
    front = λ i low. ap (λ w. w i) same;
  }

  unchanged_within : ((i : ℕ) → i < words_of shape → left i ≡ word i) → HasTheSame shape words medium
  unchanged_within each = unchanged (fun_ext (λ i. elim (cases_lt i (words_of shape)) [ inl within ↦ each i within | inr past ↦ behind i past ]))

  -- ---- words that differ in versions alone
  module _ (of : IsReversioned shape word left) (not_clean : marker_in (left state_word) ≡ 0) (fits : (i : ℕ) → left i < 2 ^ 64) where
    early : (i : ℕ) → i < 4 → left i ≡ word i
    early i low = of.same i (omega (arith, low)) (λ at. omega (arith, low, at)) (λ t slot e. before_heads (first_segment shape) i t (omega (arith, low)) e)

    reversioned : HasTheSame shape words medium
    reversioned = record {
      sound = record {
        in_range = image.in_range;
        whole = whole;
        each_fits = fits;
        says_shape = record {
          magic_word = early 0 (omega arith) ∙ image.says_shape.magic_word;
          format = early 1 (omega arith) ∙ image.says_shape.format;
          segments = early 2 (omega arith) ∙ image.says_shape.segments;
          depth = early 3 (omega arith) ∙ image.says_shape.depth;
        };
        follows = open_rules shape words image left of not_clean fits;
      };
      pairs = λ m has k. open_has shape words image left of fits k (get m k) (has k);
      front = early;
    }

  -- ---- in a sweep: a header has lost its version, or not yet
  abbrev IsHeadOrSame : ℕ → Type 0
  IsHeadOrSame i = (left i ≡ word i) ⊎ (((j : ℕ) × (j < shape.segments) × (i ≡ header_word shape j)) × (left i ≡ unversioned (word i)))

  module _ (swept : started.swept ≡ true) (each : (i : ℕ) → i < words_of shape → IsHeadOrSame i) where
    each_fits : (i : ℕ) → left i < 2 ^ 64
    each_fits i = elim (cases_lt i (words_of shape)) [
      | inl within ↦ elim (each i within) [
        | inl same ↦ subst (λ n. n < 2 ^ 64) (sym same) (image.each_fits i)
        | inr head ↦ lower (left i) (word i) head.1 (image.each_fits i)
      ]
      | inr past ↦ subst (λ n. n < 2 ^ 64) (sym (behind i past)) (image.each_fits i)
    ]
      where
        lower : (x y : ℕ) → x ≡ y / 2 ^ 8 * 2 ^ 8 → y < 2 ^ 64 → x < 2 ^ 64
        lower x y is low = omega (arith, is, low)

    state_same : left state_word ≡ word state_word
    state_same = elim (each state_word (omega arith)) [
      | inl same ↦ same
      | inr head ↦ absurd (let e = head.0.2 in omega (arith, e))
    ]

    last : left state_word % 2 ^ 8 ≡ 255
    last = ap (λ n. n % 2 ^ 8) state_same ∙ (swept_by (word state_word) swept).last

    head_at_slot : (s : ℕ) → s < shape.segments → IsHeadOrSame (header_word shape s)
    head_at_slot s slot = each (header_word shape s) (omega (arith, slot))

    sweeping : HasTheSame shape words medium
    sweeping = reversioned
        (record {
          same = λ i within away none. elim (each i within) [ inl same ↦ same | inr head ↦ absurd (none head.0.0 head.0.1 head.0.2) ];
          heads = λ s slot. elim (head_at_slot s slot) [
            | inl same ↦ subst (λ n. SameButVersion n (word (header_word shape s))) (sym same) (record { state = refl; depth = refl; pattern = refl })
            | inr head ↦ subst (λ n. SameButVersion n (word (header_word shape s))) (sym head.1) (only_version (word (header_word shape s)))
          ];
          some = (let is = last in omega (arith, is));
          past = λ s slot. (let is = last in omega (arith, is));
        })
        (ap marker_in state_same ∙ (swept_by (word state_word) swept).unmarked) each_fits

  -- ---- the state word was stored
  module _ (all : HasStarted shape started word left) where
    pub stored : HasTheSame shape words medium
    stored = reversioned (started_alike shape words image left all) (marker_clear shape words image left all) (started_fits shape words image left all)

  -- ---- step by step
  abbrev may : Trace → ℕ → ℕ → Type 0
  may es i x = HadSinceSettled word es i x

  abbrev PhaseNow : RestartStep → Words → Trace → Type 0
  PhaseNow = Phase shape image.in_range.some word word may (leaving_now word)

  abbrev Before : Words → Type 0
  Before = IsBefore shape image.in_range.some word word may (leaving_now word)

  abbrev Swept : ℕ → Words → Type 0
  Swept = HasSwept shape image.in_range.some word word may (leaving_now word)

  -- the medium has the words before the store
  left_before : (ws : Words) → Before ws → ((i : ℕ) → i < words_of shape → left i ≡ ws i) → HasTheSame shape words medium
  left_before ws before same = go started.swept refl
    where
      go : (b : Bool) → started.swept ≡ b → HasTheSame shape words medium
      go true swept_is = sweeping swept_is (λ i within. elim (head_or_not shape shape.segments i) [
        | inl head ↦ inr (head, same i within ∙ subst (λ n. ws n ≡ unversioned (word n)) (sym head.2) (before.heads swept_is head.0 head.1))
        | inr none ↦ inl (same i within ∙ before.others i (λ _. none))
      ])
      go false none = unchanged_within (λ i within. same i within ∙ before.others i (λ swept_is. absurd (let q = sym swept_is ∙ none in cc)))

  -- it has those of a sweep that goes on
  left_sweeping : (k : ℕ) (ws : Words) → started ≡ swept_through → k ≤ shape.segments → Swept k ws
      → ((i : ℕ) → i < words_of shape → (left i ≡ ws i) ⊎ (left i ≡ word i)) → HasTheSame shape words medium
  left_sweeping k ws swept most h each = sweeping (ap (λ (s : Started). s.swept) swept) (λ i within. elim (each i within) [
    | inl newest ↦ elim (head_or_not shape k i) [
      | inl head ↦ inr ((head.0, (let low = head.1 in omega (arith, low, most)), head.2), newest ∙ subst (λ n. ws n ≡ unversioned (word n)) (sym head.2) (h.heads head.0 head.1))
      | inr none ↦ inl (newest ∙ h.others i none)
    ]
    | inr old ↦ inl old
  ])

  -- it has those behind the store, or the state word of before
  left_stored : (ws before : Words) → Before before → ws ≡ with_word before state_word started.version
      → ((i : ℕ) → i < words_of shape → (left i ≡ ws i) ⊎ ((i ≡ state_word) × (left i ≡ before state_word))) → HasTheSame shape words medium
  left_stored ws before is_before is each = elim (each state_word (omega arith)) [
    | inl new ↦ stored (record {
      state = new ∙ ap (λ (w : Words). w state_word) is ∙ replaced_same before state_word started.version;
      heads = λ swept_is s slot. elsewhere (header_word shape s) (omega (arith, slot)) (λ e. omega (arith, e)) ∙ is_before.heads swept_is s slot;
      others = λ i away none. elim (cases_lt i (words_of shape)) [
        | inl within ↦ elsewhere i within away ∙ is_before.others i none
        | inr past ↦ behind i past
      ];
    })
    | inr old ↦ left_before before is_before (λ i within. elim (cases_eq i state_word) [
      | inl at ↦ subst (λ n. left n ≡ before n) (sym at) old.1
      | inr away ↦ elsewhere i within away
    ])
  ]
    where
      elsewhere : (i : ℕ) → i < words_of shape → i ≢ state_word → left i ≡ before i
      elsewhere i within away = elim (each i within) [
        | inl newest ↦ newest ∙ ap (λ (w : Words). w i) is ∙ replaced_other before state_word started.version i away
        | inr state ↦ absurd (away state.0)
      ]

  left_by : (s : RestartStep) (ws : Words) (es : Trace) → PhaseNow s ws es → ((i : ℕ) → i < words_of shape → may es i (left i)) → HasTheSame shape words medium
  left_by Load ws es h had = unchanged_within (λ i within. h.2 i (left i) within (had i within) ∙ ap (λ (w : Words). w i) h.0)
  left_by (LoadHead first slot) ws es h had =
      left_sweeping slot ws h.1.swept h.1.most h.1.words_are (λ i within. elim (h.1.left i (left i) within (had i within)) [ inl newest ↦ inl newest | inr o ↦ inr o.0 ])
  left_by (StoreHead first slot head) ws es h had =
      left_sweeping slot ws h.1.swept h.1.most h.1.words_are (λ i within. elim (h.1.left i (left i) within (had i within)) [ inl newest ↦ inl newest | inr o ↦ inr o.0 ])
  left_by (FlushHead slot end) ws es h had =
      left_sweeping end ws h.4.swept h.4.most h.4.words_are (λ i within. elim (h.4.left i (left i) within (had i within)) [ inl newest ↦ inl newest | inr o ↦ inr o.0 ])
  left_by (FenceHeads end) ws es h had =
      left_sweeping end ws h.1.swept h.1.most h.1.words_are (λ i within. elim (h.1.left i (left i) within (had i within)) [ inl newest ↦ inl newest | inr o ↦ inr o.0 ])
  left_by (Store st) ws es h had = left_before ws h.words_are (λ i within. h.settled i (left i) within (had i within))
  left_by (Flush st) ws es h had =
      left_stored ws h.0.before h.0.before_is (h.0.words_are ∙ ap (λ (s : Started). with_word h.0.before state_word s.version) h.0.started_is) (λ i within. h.0.left i (left i) within (had i within))
  left_by (Fence st) ws es h had =
      left_stored ws h.0.before h.0.before_is (h.0.words_are ∙ ap (λ (s : Started). with_word h.0.before state_word s.version) h.0.started_is) (λ i within. h.0.left i (left i) within (had i within))
  left_by (Ended st) ws es h had =
      left_stored ws h.0.before h.0.before_is (h.0.words_are ∙ ap (λ (s : Started). with_word h.0.before state_word s.version) h.0.started_is) (λ i within. h.0.left i (left i) within (had i within))

pub restart_keeps : RestartKeeps
restart_keeps shape words medium n image whole possible =
    let c = restarted shape words n in
    let word = slice_index words in
    left_by shape words medium image whole c.op.step c.words c.trace
    (phase_at shape image.in_range.some word word (λ es i x. HadSinceSettled word es i x) (leaving_now word) [] refl (λ i x within had. had) refl n)
    (λ i within. had_of_may word c.trace i (slice_index medium i) (possible i within))
