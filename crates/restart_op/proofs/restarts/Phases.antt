-- What words hold as a restart goes on: before its store they are those of before, or in a sweep such of which some headers have no version, and what a
-- word may be left as is its newest value, or of a header that is not settled yet the one of before; and after it the same is said of the state word.
use Rattle.std.proofs.Common.{◌≡◌, ◌≢◌, ℕ, suc, ◌+◌, ◌-◌, ◌*◌, ◌<◌, ◌≤◌, ◌⊎◌, inl, inr, Bool, true, false, [], ◌∷◌, length, refl, sym, ap, ◌∙◌, subst, arith}
use Rattle.std.specs.Prelude.{if◌then◌else◌, nat_lt, List}
use Rattle.std.proofs.lemmas.Bool.{cases_eq, ltb-true, ltb-false, lt-ltb}
use Rattle.segment_head.specs.Versions.{unversioned}
use Rattle.trace.specs.Events.{Words, line_of, with_word, Event, Trace, value, after}
use Rattle.trace.specs.Events.Event.{loaded, stored, flushed, fenced}
use Rattle.trace.specs.Progress.{pending, HadSince}
use Rattle.trace.specs.Steps.{Writes, IsFence}
use Rattle.trace.specs.Listed.{Has}
use Rattle.trace.proofs.Replaced.{replaced_same, replaced_other}
use Rattle.trace.proofs.Moments.{since_more}
use Rattle.trace.proofs.Media.{flush_since}
use Rattle.image_layout.specs.Places.{Shape, first_segment, state_word, words_of}
use Rattle.image_layout.specs.Volatile.{counter_word}
use Rattle.world.specs.areas.Areas.{header_word}
use Rattle.restart_op.specs.declared.restart.Started.{Started}
use Rattle.restart_op.specs.declared.restart.RestartStep.{RestartStep}
use Rattle.restart_op.specs.declared.restart.RestartStep.TheVariants.{Load, LoadHead, StoreHead, FlushHead, FenceHeads, Store, Flush, Fence, Ended}
use Rattle.restart_op.specs.Restart.{swept_through, started_for, head_or_state, head_stored, head_flushed}
use Rattle.restart_op.specs.Restarted.{restart_after, HasStarted}
use Rattle.restart_op.proofs.restarts.Along.{IsKeptBy, along}
use Rattle.restart_op.proofs.restarts.Versions.{all_swept}

-- WHAT A WORD MAY BE LEFT AS, after a trace of these events: what an event of caller 0 adds, and what its fence takes away
pub record Leaving (base : Words) (Left : Trace → ℕ → ℕ → Type 0) : Type 0 where
  pub more : (e : Event) (es : Trace) (i x : ℕ) → (IsFence e → ⊥) → Left (e ∷ es) i x → Writes (value base es) e i x ⊎ Left es i x
  pub fence : (es : Trace) (i x : ℕ) → Left (fenced 0 ∷ es) i x → Left es i x ⊎ ((m : ℕ) × Has (line_of i, m) (pending 0 es) × HadSince base es m i x)
  pub since : (es : Trace) (i m x : ℕ) → Has (line_of i, m) (pending 0 es) → Left (fenced 0 ∷ es) i x → HadSince base es m i x

pub head_in : (shape : Shape) (slot : ℕ) → slot < shape.segments → head_or_state shape slot ≡ header_word shape slot
head_in shape slot within = ap (λ (b : Bool). if b then header_word shape slot else state_word) (lt-ltb slot shape.segments within)

heads_apart : (f s t : ℕ) → t < s → f + 2144 * s + 1 ≡ f + 2144 * t + 1 → ⊥
heads_apart f s t less e = omega (arith, less, e)

module _ (shape : Shape) (some : 1 ≤ shape.segments) (base : Words) (was : Words) (Left : Trace → ℕ → ℕ → Type 0) (leaving : Leaving base Left) where
  -- what a restart finds, and what it is to leave
  abbrev found : Started
  found = started_for (was state_word)

  -- ---- words
  -- so many headers have lost their version, and all else is as it was
  pub record HasSwept (k : ℕ) (words : Words) : Type 0 where
    pub heads : (j : ℕ) → j < k → words (header_word shape j) ≡ unversioned (was (header_word shape j))
    pub others : (i : ℕ) → ((j : ℕ) → j < k → i ≢ header_word shape j) → words i ≡ was i

  none_swept : HasSwept 0 was
  none_swept = record { heads = λ j low. absurd (omega (arith, low)); others = λ i _. refl }

  next_head : (k : ℕ) (words : Words) → HasSwept k words → words (header_word shape k) ≡ was (header_word shape k)
  next_head k words h = h.others (header_word shape k) (λ j low e. heads_apart (first_segment shape) k j low e)

  swept_more : (k x : ℕ) (words : Words) → HasSwept k words → x ≡ unversioned (was (header_word shape k)) → HasSwept (k + 1) (with_word words (header_word shape k) x)
  swept_more k x words h is = record {
    heads = λ j low. elim (cases_eq (header_word shape j) (header_word shape k)) [
      | inl same ↦ subst (λ i. with_word words (header_word shape k) x i ≡ unversioned (was i)) (sym same) (replaced_same words (header_word shape k) x ∙ is)
      | inr other ↦ replaced_other words (header_word shape k) x (header_word shape j) other ∙ h.heads j (elim (cases_eq j k) [
        | inl e ↦ absurd (other (ap (header_word shape) e))
        | inr ne ↦ omega (arith, low, ne)
      ])
    ];
    others = λ i away. replaced_other words (header_word shape k) x i (away k (omega arith)) ∙ h.others i (λ j low. away j (omega (arith, low)));
  }

  -- THE WORDS BEFORE THE STORE: in a sweep all headers have lost their version
  pub record IsBefore (words : Words) : Type 0 where
    pub heads : found.swept ≡ true → (s : ℕ) → s < shape.segments → words (header_word shape s) ≡ unversioned (was (header_word shape s))
    pub others : (i : ℕ) → (found.swept ≡ true → (s : ℕ) → s < shape.segments → i ≢ header_word shape s) → words i ≡ was i

  -- ---- what a word may be left as
  -- its newest value alone
  abbrev pub AllSettled : Words → Trace → Type 0
  AllSettled words es = (i x : ℕ) → i < words_of shape → Left es i x → x ≡ words i

  -- it is a header from one slot to another, with the value of before
  abbrev IsOldHead : ℕ → ℕ → ℕ → ℕ → Type 0
  IsOldHead first end i x = (x ≡ was i) × ((j : ℕ) × (first ≤ j) × (j < end) × (i ≡ header_word shape j))

  -- IN A SWEEP: so many headers were stored, and those before the first are settled
  pub record Sweeps (first k : ℕ) (words : Words) (es : Trace) : Type 0 where
    pub swept : found ≡ swept_through
    pub words_are : HasSwept k words
    pub value_is : value base es ≡ words
    pub low : first ≤ k
    pub most : k ≤ shape.segments
    pub left : (i x : ℕ) → i < words_of shape → Left es i x → (x ≡ words i) ⊎ IsOldHead first k i x

  -- what was flushed has its newest value since
  abbrev pub Waits : Words → Trace → Type 0
  Waits words es = (p : ℕ × ℕ) → Has p (pending 0 es) → (i x : ℕ) → line_of i ≡ p.0 → HadSince base es p.1 i x → x ≡ words i

  -- the header's line was flushed
  abbrev IsFlushed : Trace → ℕ → Type 0
  IsFlushed es j = (m : ℕ) × Has (line_of (header_word shape j), m) (pending 0 es)

  -- THE LINES OF A ROUND: of those from the first on so many were flushed, and nothing else
  pub record Flushes (first k : ℕ) (words : Words) (es : Trace) : Type 0 where
    pub each : (j : ℕ) → first ≤ j → j < k → IsFlushed es j
    pub waits : Waits words es
    pub count : length (pending 0 es) ≡ k - first

  -- BEFORE THE STORE of the state word
  pub record IsReady (started : Started) (words : Words) (es : Trace) : Type 0 where
    pub started_is : started ≡ found
    pub words_are : IsBefore words
    pub value_is : value base es ≡ words
    pub settled : AllSettled words es
    pub none_waits : pending 0 es ≡ []

  -- AFTER IT
  pub record IsStored (started : Started) (words : Words) (es : Trace) : Type 0 where
    pub started_is : started ≡ found
    pub before : Words
    pub before_is : IsBefore before
    pub words_are : words ≡ with_word before state_word started.version
    pub value_is : value base es ≡ words
    pub left : (i x : ℕ) → i < words_of shape → Left es i x → (x ≡ words i) ⊎ ((i ≡ state_word) × (x ≡ before state_word))

  -- so it has changed the state word, and in a sweep the headers
  pub has_started : (started : Started) (words : Words) (es : Trace) → IsStored started words es → HasStarted shape found was words
  has_started started words es s = record {
    state = here state_word ∙ replaced_same s.before state_word started.version ∙ ap (λ (st : Started). st.version) s.started_is;
    heads = λ sweeps slot low. elsewhere (header_word shape slot) (λ e. omega (arith, e)) ∙ s.before_is.heads sweeps slot low;
    others = λ i away none. elsewhere i away ∙ s.before_is.others i none;
  }
    where
      here : (i : ℕ) → words i ≡ with_word s.before state_word started.version i
      here i = ap (λ (ws : Words). ws i) s.words_are

      elsewhere : (i : ℕ) → (i ≡ state_word → ⊥) → words i ≡ s.before i
      elsewhere i away = here i ∙ replaced_other s.before state_word started.version i away

  -- a round is within the image, and not longer than eight
  abbrev pub InRound : ℕ → ℕ → Type 0
  InRound first slot = (first ≤ slot) × (slot < shape.segments) × (slot - first ≤ 7)

  -- ---- step by step
  abbrev pub Phase : RestartStep → Words → Trace → Type 0
  Phase Load words es = (words ≡ was) × (value base es ≡ words) × AllSettled words es × (pending 0 es ≡ [])
  Phase (LoadHead first slot) words es = InRound first slot × Sweeps first slot words es × (pending 0 es ≡ [])
  Phase (StoreHead first slot head) words es = InRound first slot × Sweeps first slot words es × (pending 0 es ≡ []) × (head ≡ unversioned (was (header_word shape slot)))
  Phase (FlushHead slot end) words es =
      (first : ℕ) × (first ≤ slot) × (slot < end) × (end - first ≤ 8) × Sweeps first end words es × Flushes first slot words es
  Phase (FenceHeads end) words es = (first : ℕ) × Sweeps first end words es × Flushes first end words es
  Phase (Store started) words es = IsReady started words es
  Phase (Flush started) words es = IsStored started words es × (pending 0 es ≡ [])
  Phase (Fence started) words es = IsStored started words es × Waits words es × ((m : ℕ) × Has (line_of state_word, m) (pending 0 es)) × (length (pending 0 es) ≡ 1)
  Phase (Ended started) words es = IsStored started words es × AllSettled words es × (pending 0 es ≡ [])

  -- ---- events
  -- one that writes nothing
  left_quiet : (e : Event) (es : Trace) (i x : ℕ) → (IsFence e → ⊥) → ((i x : ℕ) → Writes (value base es) e i x → ⊥) → Left (e ∷ es) i x → Left es i x
  left_quiet e es i x other none l = elim (leaving.more e es i x other l) [
    | inl w ↦ absurd (none i x w)
    | inr before ↦ before
  ]

  sweeps_quiet : (e : Event) (first k : ℕ) (words : Words) (es : Trace) → (IsFence e → ⊥) → ((i x : ℕ) → Writes (value base es) e i x → ⊥)
      → after e (value base es) ≡ value base es → Sweeps first k words es → Sweeps first k words (e ∷ es)
  sweeps_quiet e first k words es other none still s = record {
    swept = s.swept;
    words_are = s.words_are;
    value_is = still ∙ s.value_is;
    low = s.low;
    most = s.most;
    left = λ i x within l. s.left i x within (left_quiet e es i x other none l);
  }

  stored_quiet : (e : Event) (started : Started) (words : Words) (es : Trace) → (IsFence e → ⊥) → ((i x : ℕ) → Writes (value base es) e i x → ⊥)
      → after e (value base es) ≡ value base es → IsStored started words es → IsStored started words (e ∷ es)
  stored_quiet e started words es other none still s = record {
    started_is = s.started_is;
    before = s.before;
    before_is = s.before_is;
    words_are = s.words_are;
    value_is = still ∙ s.value_is;
    left = λ i x within l. s.left i x within (left_quiet e es i x other none l);
  }

  -- a header is stored
  sweeps_store : (first k x : ℕ) (words : Words) (es : Trace) → k < shape.segments → x ≡ unversioned (was (header_word shape k)) → Sweeps first k words es
      → Sweeps first (k + 1) (with_word words (header_word shape k) x) (stored 0 (header_word shape k) x ∷ es)
  sweeps_store first k x words es within is s = record {
    swept = s.swept;
    words_are = swept_more k x words s.words_are is;
    value_is = ap (λ (ws : Words). with_word ws (header_word shape k) x) s.value_is;
    low = (let low = s.low in omega (arith, low));
    most = omega (arith, within);
    left = λ i y inside l. elim (leaving.more (stored 0 (header_word shape k) x) es i y (λ p. cc) l) [
      | inl w ↦ inl (w.1 ∙ sym (replaced_same words (header_word shape k) x) ∙ ap (with_word words (header_word shape k) x) (sym w.0))
      | inr h ↦ by_before i y (s.left i y inside h)
    ];
  }
    where
      by_before : (i y : ℕ) → (y ≡ words i) ⊎ IsOldHead first k i y → (y ≡ with_word words (header_word shape k) x i) ⊎ IsOldHead first (k + 1) i y
      by_before i y (inl newest) = elim (cases_eq i (header_word shape k)) [
        | inl at ↦ inr (newest ∙ ap words at ∙ next_head k words s.words_are ∙ ap was (sym at), (k, s.low, omega arith, at))
        | inr other ↦ inl (newest ∙ sym (replaced_other words (header_word shape k) x i other))
      ]
      by_before i y (inr o) = inr (o.0, (o.1.0, o.1.1, (let less = o.1.2 in omega (arith, less)), o.1.3))

  -- a line is flushed
  waits_flush : (line : ℕ) (words : Words) (es : Trace) → value base es ≡ words → Waits words es → Waits words (flushed 0 line ∷ es)
  waits_flush line words es is waits p (inl new) i x on had =
      flush_since base es 0 line i x (subst (λ (m : ℕ). HadSince base (flushed 0 line ∷ es) m i x) (ap (λ (q : ℕ × ℕ). q.1) new) had) ∙ ap (λ (ws : Words). ws i) is
  waits_flush line words es is waits p (inr earlier) i x on had = elim (since_more base (flushed 0 line) es p.1 i x had) [
    | inl w ↦ absurd w
    | inr h ↦ waits p earlier i x on h
  ]

  none_waiting : (words : Words) (es : Trace) → pending 0 es ≡ [] → Waits words es
  none_waiting words es none p has i x on had = absurd (subst (λ (ps : List (ℕ × ℕ)). Has p ps) none has)

  flushes_more : (first slot end : ℕ) (words : Words) (es : Trace) → first ≤ slot → slot < end → Sweeps first end words es → Flushes first slot words es
      → Flushes first (slot + 1) words (flushed 0 (line_of (header_word shape slot)) ∷ es)
  flushes_more first slot end words es low near s f = record {
    each = λ j from below. elim (cases_eq j slot) [
      | inl at ↦ (length es, inl (ap (λ (n : ℕ). (line_of (header_word shape n), length es)) at))
      | inr other ↦ let had = f.each j from (omega (arith, below, other)) in (had.0, inr had.1)
    ];
    waits = waits_flush (line_of (header_word shape slot)) words es s.value_is f.waits;
    count = (let count = f.count in omega (arith, count, low));
  }

  -- all of them are fenced
  fenced_settled : (first end : ℕ) (words : Words) (es : Trace) → Sweeps first end words es → Flushes first end words es → AllSettled words (fenced 0 ∷ es)
  fenced_settled first end words es s f i x within l = elim (leaving.fence es i x l) [
    | inl before ↦ elim (s.left i x within before) [
      | inl newest ↦ newest
      | inr o ↦
          let flushed_at = f.each o.1.0 o.1.1 o.1.2 in
          let on : line_of i ≡ line_of (header_word shape o.1.0) = ap line_of o.1.3 in
          let has : Has (line_of i, flushed_at.0) (pending 0 es) = subst (λ (n : ℕ). Has (n, flushed_at.0) (pending 0 es)) (sym on) flushed_at.1 in
          f.waits (line_of i, flushed_at.0) has i x refl (leaving.since es i flushed_at.0 x has l)
    ]
    | inr since ↦ f.waits (line_of i, since.0) since.1 i x refl since.2
  ]

  sweeps_fenced : (first end : ℕ) (words : Words) (es : Trace) → Sweeps first end words es → Flushes first end words es → Sweeps end end words (fenced 0 ∷ es)
  sweeps_fenced first end words es s f = record {
    swept = s.swept;
    words_are = s.words_are;
    value_is = s.value_is;
    low = omega arith;
    most = s.most;
    left = λ i x within l. inl (fenced_settled first end words es s f i x within l);
  }

  -- ---- the state word
  unswept : (words : Words) → words ≡ was → found.swept ≡ false → IsBefore words
  unswept words same not = record {
    heads = λ sweeps. absurd (let q = sym sweeps ∙ not in cc);
    others = λ i _. ap (λ (ws : Words). ws i) same;
  }

  seen_phase : (words : Words) (es : Trace) (b : Bool) → found.swept ≡ b → Phase Load words es
      → Phase (if b then LoadHead 0 0 else Store found) words (loaded 0 state_word ∷ es)
  seen_phase words es true p h = (
    (omega arith, omega (arith, some), omega arith),
    record {
      swept = all_swept (was state_word) p;
      words_are = subst (λ (ws : Words). HasSwept 0 ws) (sym h.0) none_swept;
      value_is = h.1;
      low = omega arith;
      most = omega arith;
      left = λ i x within l. inl (h.2 i x within (left_quiet (loaded 0 state_word) es i x (λ q. cc) (λ j y w. w) l));
    },
    h.3,
  )
  seen_phase words es false p h = record {
    started_is = refl;
    words_are = unswept words h.0 p;
    value_is = h.1;
    settled = λ i x within l. h.2 i x within (left_quiet (loaded 0 state_word) es i x (λ q. cc) (λ j y w. w) l);
    none_waits = h.3;
  }

  ready_fenced : (first end : ℕ) (words : Words) (es : Trace) → shape.segments ≤ end → Sweeps first end words es → Flushes first end words es
      → IsReady swept_through words (fenced 0 ∷ es)
  ready_fenced first end words es all s f =
      let whole : end ≡ shape.segments = (let most = s.most in omega (arith, most, all)) in
      record {
        started_is = sym s.swept;
        words_are = record {
          heads = λ _ j low. s.words_are.heads j (omega (arith, low, whole));
          others = λ i away. s.words_are.others i (λ j low. away (ap (λ (f : Started). f.swept) s.swept) j (omega (arith, low, whole)));
        };
        value_is = s.value_is;
        settled = fenced_settled first end words es s f;
        none_waits = refl;
      }

  stored_state : (started : Started) (words : Words) (es : Trace) → IsReady started words es
      → IsStored started (with_word words state_word started.version) (stored 0 state_word started.version ∷ es)
  stored_state started words es r = record {
    started_is = r.started_is;
    before = words;
    before_is = r.words_are;
    words_are = refl;
    value_is = ap (λ (ws : Words). with_word ws state_word started.version) r.value_is;
    left = λ i x within l. elim (leaving.more (stored 0 state_word started.version) es i x (λ p. cc) l) [
      | inl w ↦ inl (w.1 ∙ sym (replaced_same words state_word started.version) ∙ ap (with_word words state_word started.version) (sym w.0))
      | inr h ↦ let newest = r.settled i x within h in elim (cases_eq i state_word) [
        | inl at ↦ inr (at, newest ∙ ap words at)
        | inr other ↦ inl (newest ∙ sym (replaced_other words state_word started.version i other))
      ]
    ];
  }

  state_fenced : (started : Started) (words : Words) (es : Trace) → Phase (Fence started) words es → AllSettled words (fenced 0 ∷ es)
  state_fenced started words es h i x within l = elim (leaving.fence es i x l) [
    | inl before ↦ elim (h.0.left i x within before) [
      | inl newest ↦ newest
      | inr o ↦
          let on : line_of i ≡ line_of state_word = ap line_of o.0 in
          let has : Has (line_of i, h.2.0) (pending 0 es) = subst (λ (n : ℕ). Has (n, h.2.0) (pending 0 es)) (sym on) h.2.1 in
          h.1 (line_of i, h.2.0) has i x refl (leaving.since es i h.2.0 x has l)
    ]
    | inr since ↦ h.1 (line_of i, since.0) since.1 i x refl since.2
  ]

  -- ---- each step
  head_stored_phase : (first slot head : ℕ) (words : Words) (es : Trace) (a b : Bool) → nat_lt slot (shape.segments - 1) ≡ a → nat_lt (slot - first) 7 ≡ b
      → Phase (StoreHead first slot head) words es
      → Phase (if a then (if b then LoadHead first (slot + 1) else FlushHead first (slot + 1)) else FlushHead first shape.segments)
      (with_word words (header_word shape slot) head) (stored 0 (header_word shape slot) head ∷ es)
  head_stored_phase first slot head words es a b p q h = go a b p q
    where
      more : Sweeps first (slot + 1) (with_word words (header_word shape slot) head) (stored 0 (header_word shape slot) head ∷ es)
      more = sweeps_store first slot head words es h.0.1 h.3 h.1

      none_flushed : Flushes first first (with_word words (header_word shape slot) head) (stored 0 (header_word shape slot) head ∷ es)
      none_flushed = record {
        each = λ j from below. absurd (omega (arith, from, below));
        waits = none_waiting (with_word words (header_word shape slot) head) (stored 0 (header_word shape slot) head ∷ es) h.2;
        count = ap length h.2 ∙ omega arith;
      }

      go : (a b : Bool) → nat_lt slot (shape.segments - 1) ≡ a → nat_lt (slot - first) 7 ≡ b
          → Phase (if a then (if b then LoadHead first (slot + 1) else FlushHead first (slot + 1)) else FlushHead first shape.segments)
          (with_word words (header_word shape slot) head) (stored 0 (header_word shape slot) head ∷ es)
      go true true p q =
          let inside = ltb-true slot (shape.segments - 1) p in let room = ltb-true (slot - first) 7 q in let low = h.0.0 in
          ((omega (arith, low), omega (arith, inside), omega (arith, room)), more, h.2)
      go true false p q = let low = h.0.0 in let most = h.0.2 in (first, omega arith, omega (arith, low), omega (arith, most, low), more, none_flushed)
      go false b p q =
          let last = ltb-false slot (shape.segments - 1) p in let within = h.0.1 in let low = h.0.0 in let most = h.0.2 in
          let whole : slot + 1 ≡ shape.segments = omega (arith, last, within) in (
            first,
            omega arith,
            omega (arith, low, within),
            omega (arith, most, low, whole),
            subst (λ (n : ℕ). Sweeps first n (with_word words (header_word shape slot) head) (stored 0 (header_word shape slot) head ∷ es)) whole more,
            none_flushed,
          )

  head_flushed_phase : (slot end : ℕ) (words : Words) (es : Trace) (a : Bool) → nat_lt slot (end - 1) ≡ a → Phase (FlushHead slot end) words es
      → Phase (if a then FlushHead (slot + 1) end else FenceHeads end) words (flushed 0 (line_of (header_word shape slot)) ∷ es)
  head_flushed_phase slot end words es true p (first, low, near, few, s, f) =
      let more = ltb-true slot (end - 1) p in (
        first,
        omega (arith, low),
        omega (arith, more),
        few,
        sweeps_quiet (flushed 0 (line_of (header_word shape slot))) first end words es (λ q. cc) (λ i x w. w) refl s,
        flushes_more first slot end words es low near s f,
      )
  head_flushed_phase slot end words es false p (first, low, near, few, s, f) =
      let last = ltb-false slot (end - 1) p in
      let whole : slot + 1 ≡ end = omega (arith, last, near) in (
        first,
        sweeps_quiet (flushed 0 (line_of (header_word shape slot))) first end words es (λ q. cc) (λ i x w. w) refl s,
        subst (λ (n : ℕ). Flushes first n words (flushed 0 (line_of (header_word shape slot)) ∷ es)) whole (flushes_more first slot end words es low near s f),
      )

  heads_fenced_phase : (end : ℕ) (words : Words) (es : Trace) (a : Bool) → nat_lt end shape.segments ≡ a → Phase (FenceHeads end) words es
      → Phase (if a then LoadHead end end else Store swept_through) words (fenced 0 ∷ es)
  heads_fenced_phase end words es true p (first, s, f) =
      ((omega arith, ltb-true end shape.segments p, omega arith), sweeps_fenced first end words es s f, refl)
  heads_fenced_phase end words es false p (first, s, f) = ready_fenced first end words es (ltb-false end shape.segments p) s f

  pub phase_on : IsKeptBy shape Phase
  phase_on Load words es h =
      subst (λ (n : ℕ). Phase (if (started_for n).swept then LoadHead 0 0 else Store (started_for n)) words (loaded 0 state_word ∷ es)) (ap (λ (ws : Words). ws state_word) (sym h.0))
      (seen_phase words es _ refl h)
  phase_on (LoadHead first slot) words es h = (
    h.0,
    sweeps_quiet (loaded 0 (head_or_state shape slot)) first slot words es (λ q. cc) (λ i x w. w) refl h.1,
    h.2,
    ap (λ i. unversioned (words i)) (head_in shape slot h.0.1) ∙ ap unversioned (next_head slot words h.1.words_are),
  )
  phase_on (StoreHead first slot head) words es h =
      subst (λ (i : ℕ). Phase (head_stored shape first slot) (with_word words i head) (stored 0 i head ∷ es)) (sym (head_in shape slot h.0.1))
      (head_stored_phase first slot head words es _ _ refl refl h)
  phase_on (FlushHead slot end) words es h =
      let within : slot < shape.segments = (let near = h.2 in let most = h.4.most in omega (arith, near, most)) in
      subst (λ (i : ℕ). Phase (head_flushed slot end) words (flushed 0 (line_of i) ∷ es)) (sym (head_in shape slot within)) (head_flushed_phase slot end words es _ refl h)
  phase_on (FenceHeads end) words es h = heads_fenced_phase end words es _ refl h
  phase_on (Store started) words es h = (stored_state started words es h, h.none_waits)
  phase_on (Flush started) words es h = (
    stored_quiet (flushed 0 (line_of state_word)) started words es (λ q. cc) (λ i x w. w) refl h.0,
    waits_flush (line_of state_word) words es h.0.value_is (none_waiting words es h.1),
    (length es, inl refl),
    ap (λ (ps : List (ℕ × ℕ)). suc (length ps)) h.1,
  )
  phase_on (Fence started) words es h = (
    record {
      started_is = h.0.started_is;
      before = h.0.before;
      before_is = h.0.before_is;
      words_are = h.0.words_are;
      value_is = h.0.value_is;
      left = λ i x within l. inl (state_fenced started words es h i x within l);
    },
    state_fenced started words es h,
    refl,
  )
  phase_on (Ended started) words es h = (
    stored_quiet (loaded 0 (counter_word shape)) started words es (λ q. cc) (λ i x w. w) refl h.0,
    λ i x within l. h.1 i x within (left_quiet (loaded 0 (counter_word shape)) es i x (λ q. cc) (λ j y w. w) l),
    h.2,
  )

  pub phase_at : (es : Trace) → value base es ≡ was → AllSettled was es → pending 0 es ≡ [] → (n : ℕ)
      → Phase (restart_after shape was es n).op.step (restart_after shape was es n).words (restart_after shape was es n).trace
  phase_at es is settled none n = along shape Phase phase_on was es (refl, is, settled, none) n
