-- What is settled as a close goes on: before its store nothing is written, and each line that it is done with is settled
-- from its flush on; after the store only the state word may have two values, and at the end it has one.
use Rattle.std.proofs.Common.{◌≡◌, ℕ, ◌+◌, ◌-◌, ◌<◌, ◌≤◌, ◌⊎◌, inl, inr, max, cond, Bool, true, false, List, ◌∷◌, length, refl, sym, ap, ◌∙◌, subst, arith}
use Rattle.std.specs.Prelude.{if◌then◌else◌, nat_lt}
use Rattle.std.proofs.lemmas.Bool.{cases_eq, cases_lt, ltb-false}
use Rattle.std.proofs.Math.Nat.{le-max_left, le-max_right}
use Rattle.trace.specs.Events.{Words, line_of, with_word, Event, Trace, value, after}
use Rattle.trace.specs.Events.Event.{loaded, stored, flushed as flushed_line, fenced as fenced_all}
use Rattle.trace.specs.Progress.{pending, latest_of, settled_moment, HadSince}
use Rattle.trace.specs.Steps.{Writes, HadSinceSettled}
use Rattle.trace.proofs.Replaced.{cases_at, replaced_same, replaced_other}
use Rattle.trace.specs.Listed.{Has}
use Rattle.trace.proofs.Moments.{only_newest}
use Rattle.trace.proofs.Flushes.{latest_has}
use Rattle.trace.proofs.Media.{may_more, fence_since, flush_since}
use Rattle.image_layout.specs.Places.{Shape, state_word, words_of}
use Rattle.image_layout.specs.Volatile.{counter_word}
use Rattle.op_core.specs.declared.want.Want.TheVariants.{Done}
use Rattle.restart_op.specs.declared.close.CloseStep.{CloseStep}
use Rattle.restart_op.specs.declared.close.CloseStep.TheVariants.{Flush, Fence, Load, Store, FlushState, FenceState, Ended}
use Rattle.restart_op.specs.Close.{lines_of, state_line, wanted_in}
use Rattle.image_layout.specs.StateWord.{with_marker}
use Rattle.restart_op.specs.Closing.{close_after}
use Rattle.restart_op.proofs.closes.CloseAlong.{IsKeptBy, along}

line_within : (shape : Shape) (i : ℕ) → i < words_of shape → line_of i < lines_of shape
line_within shape i within = omega (arith, within)

latest_more : (m l t : ℕ) (ps : List (ℕ × ℕ)) → latest_of m ps ≤ latest_of m ((l, t) ∷ ps)
latest_more m l t ps = cases_at (λ b. latest_of m ps ≤ cond b (max t (latest_of m ps)) (latest_of m ps)) l m
    (λ _. omega (arith, le-max_right t (latest_of m ps))) (λ _. omega arith)

-- the words and the trace before the close, and the words with the marker
module _ (shape : Shape) (start : Words) (old : Trace) (was : Words) where
  abbrev pub marked : Words
  marked = with_word was state_word (with_marker (was state_word))

  -- ---- before the store
  -- nothing was written, so no word had another value since
  pub record Before (words : Words) (es : Trace) : Type 0 where
    pub words_are : words ≡ was
    pub value_is : value start es ≡ was
    pub long : length old ≤ length es
    pub since : (t i x : ℕ) → length old ≤ t → HadSince start es t i x → x ≡ was i
    pub less : (i x : ℕ) → HadSinceSettled start es i x → HadSinceSettled start old i x

  first_before : was ≡ value start old → Before was old
  first_before is = record {
    words_are = refl;
    value_is = sym is;
    long = omega arith;
    since = λ t i x late had. only_newest start old t i x late had ∙ ap (λ (ws : Words). ws i) (sym is);
    less = λ i x had. had;
  }

  -- an event that writes nothing keeps it so
  before_more : (e : Event) (words : Words) (es : Trace) → after e (value start es) ≡ value start es → ((i x : ℕ) → Writes (value start es) e i x → ⊥)
      → Before words es → Before words (e ∷ es)
  before_more e words es still none b = record {
    words_are = b.words_are;
    value_is = still ∙ b.value_is;
    long = let long = b.long in omega (arith, long);
    since = λ t i x late had. elim had [
      | inl p ↦ p ∙ ap (λ (ws : Words). ws i) (still ∙ b.value_is)
      | inr q ↦ b.since t i x late q.1
    ];
    less = λ i x had. elim (may_more start e es i x had) [
      | inl w ↦ absurd (none i x w)
      | inr h ↦ b.less i x h
    ];
  }

  -- a line is settled from then on, or will be at the next fence
  abbrev IsBehind : ℕ → Trace → Type 0
  IsBehind m es = (length old ≤ settled_moment m es) ⊎ (length old ≤ latest_of m (pending 0 es))

  abbrev Behind : ℕ → Trace → Type 0
  Behind line es = (m : ℕ) → m < line → IsBehind m es

  abbrev Settled : ℕ → Trace → Type 0
  Settled line es = (m : ℕ) → m < line → length old ≤ settled_moment m es

  behind_flush : (line limit : ℕ) (es : Trace) → length old ≤ length es → limit ≤ line + 1 → Behind line es → Behind limit (flushed_line 0 line ∷ es)
  behind_flush line limit es long near behind m below = elim (cases_lt m line) [
    | inl before ↦ elim (behind m before) [
      | inl h ↦ inl h
      | inr h ↦ inr (let more = latest_more m line (length es) (pending 0 es) in omega (arith, h, more))
    ]
    | inr not ↦ let same : m ≡ line = omega (arith, not, below, near) in
        inr (let had = latest_has m (length es) ((line, length es) ∷ pending 0 es) (inl (ap (λ (n : ℕ). (n, length es)) same)) in omega (arith, had, long))
  ]

  settled_fence : (line : ℕ) (es : Trace) → Behind line es → Settled line (fenced_all 0 ∷ es)
  settled_fence line es behind m below = elim (behind m below) [
    | inl h ↦ omega (arith, h, le-max_left (settled_moment m es) (latest_of m (pending 0 es)))
    | inr h ↦ omega (arith, h, le-max_right (settled_moment m es) (latest_of m (pending 0 es)))
  ]

  -- ---- after it
  -- each word has its newest value, or the one of before the close
  pub record After (words : Words) (es : Trace) : Type 0 where
    pub words_are : words ≡ marked
    pub value_is : value start es ≡ marked
    pub kept : (i x : ℕ) → i < words_of shape → HadSinceSettled start es i x → (x ≡ marked i) ⊎ (x ≡ was i)

  after_store : (words : Words) (es : Trace) (x : ℕ) → x ≡ with_marker (was state_word) → Before words es → Settled (lines_of shape) es
      → After (with_word words state_word x) (stored 0 state_word x ∷ es)
  after_store words es x is b settled = record {
    words_are = ap (λ (n : ℕ). with_word words state_word n) is ∙ ap (λ (ws : Words). with_word ws state_word (with_marker (was state_word))) b.words_are;
    value_is = ap (λ (n : ℕ). with_word (value start es) state_word n) is ∙ ap (λ (ws : Words). with_word ws state_word (with_marker (was state_word))) b.value_is;
    kept = λ i y within had. elim (may_more start (stored 0 state_word x) es i y had) [
      | inl w ↦ inl (w.1 ∙ is ∙ sym (replaced_same was state_word (with_marker (was state_word))) ∙ ap marked (sym w.0))
      | inr h ↦ inr (b.since (settled_moment (line_of i) es) i y (settled (line_of i) (line_within shape i within)) h)
    ];
  }

  after_more : (e : Event) (words : Words) (es : Trace) → after e (value start es) ≡ value start es → ((i x : ℕ) → Writes (value start es) e i x → ⊥)
      → After words es → After words (e ∷ es)
  after_more e words es still none a = record {
    words_are = a.words_are;
    value_is = still ∙ a.value_is;
    kept = λ i x within had. elim (may_more start e es i x had) [
      | inl w ↦ absurd (none i x w)
      | inr h ↦ a.kept i x within h
    ];
  }

  -- the state word's line is flushed, with the marker in it
  pub record IsFlushed (es : Trace) : Type 0 where
    pub moment : ℕ
    pub is_pending : Has (state_line, moment) (pending 0 es)
    pub since : (i x : ℕ) → HadSince start es moment i x → x ≡ marked i

  -- each word has its newest value alone
  abbrev pub IsSettledNow : Trace → Type 0
  IsSettledNow es = (i x : ℕ) → i < words_of shape → HadSinceSettled start es i x → x ≡ marked i

  pub elsewhere : (i : ℕ) → (i ≡ state_word → ⊥) → marked i ≡ was i
  elsewhere i other = replaced_other was state_word (with_marker (was state_word)) i other

  settled_now : (words : Words) (es : Trace) → After words es → IsFlushed es → IsSettledNow (fenced_all 0 ∷ es)
  settled_now words es a f i x within had = elim (cases_eq (line_of i) state_line) [
    | inl same ↦ f.since i x (fence_since start es 0 i f.moment x (subst (λ (l : ℕ). Has (l, f.moment) (pending 0 es)) (sym same) f.is_pending) had)
    | inr other ↦ elim (may_more start (fenced_all 0) es i x had) [
      | inl w ↦ absurd w
      | inr h ↦ elim (a.kept i x within h) [
        | inl e ↦ e
        | inr e ↦ e ∙ sym (elsewhere i (λ at. other (ap line_of at)))
      ]
    ]
  ]

  -- ---- step by step
  abbrev pub Phase : CloseStep → Words → Trace → Type 0
  Phase (Flush line waiting) words es = Before words es × Behind line es
  Phase (Fence line) words es = Before words es × Behind line es
  Phase Load words es = Before words es × Settled (lines_of shape) es
  Phase (Store state) words es = Before words es × Settled (lines_of shape) es × (state ≡ with_marker (was state_word))
  Phase FlushState words es = After words es
  Phase FenceState words es = After words es × IsFlushed es
  Phase Ended words es = After words es × IsSettledNow es

  flushed_phase : (line waiting : ℕ) (words : Words) (es : Trace) (a b : Bool) → nat_lt line (lines_of shape - 1) ≡ a → Before words es → Behind line es
      → Phase (if a then (if b then Flush (line + 1) (waiting + 1) else Fence (line + 1)) else Fence (lines_of shape)) words (flushed_line 0 line ∷ es)
  flushed_phase line waiting words es a b p before behind = go a b p
    where
      on : Before words (flushed_line 0 line ∷ es)
      on = before_more (flushed_line 0 line) words es refl (λ i x w. w) before

      go : (a b : Bool) → nat_lt line (lines_of shape - 1) ≡ a
          → Phase (if a then (if b then Flush (line + 1) (waiting + 1) else Fence (line + 1)) else Fence (lines_of shape)) words (flushed_line 0 line ∷ es)
      go true true p = (on, behind_flush line (line + 1) es before.long (omega arith) behind)
      go true false p = (on, behind_flush line (line + 1) es before.long (omega arith) behind)
      go false b p = (on, behind_flush line (lines_of shape) es before.long (let last = ltb-false line (lines_of shape - 1) p in omega (arith, last)) behind)

  fenced_phase : (line : ℕ) (words : Words) (es : Trace) (a : Bool) → nat_lt line (lines_of shape) ≡ a → Before words es → Behind line es
      → Phase (if a then Flush line 0 else Load) words (fenced_all 0 ∷ es)
  fenced_phase line words es true p before behind =
      (before_more (fenced_all 0) words es refl (λ i x w. w) before, λ m below. inl (settled_fence line es behind m below))
  fenced_phase line words es false p before behind =
      let all = ltb-false line (lines_of shape) p in
      (before_more (fenced_all 0) words es refl (λ i x w. w) before, λ m below. settled_fence line es behind m (omega (arith, all, below)))

  phase_on : IsKeptBy shape Phase
  phase_on (Flush line waiting) words es h = flushed_phase line waiting words es _ _ refl h.0 h.1
  phase_on (Fence line) words es h = fenced_phase line words es _ refl h.0 h.1
  phase_on Load words es h = (
    before_more (loaded 0 state_word) words es refl (λ i x w. w) h.0,
    h.1,
    ap (λ (ws : Words). with_marker (ws state_word)) h.0.words_are,
  )
  phase_on (Store state) words es h = after_store words es state h.2 h.0 h.1
  phase_on FlushState words es h = (
    after_more (flushed_line 0 state_line) words es refl (λ i x w. w) h,
    record {
      moment = length es;
      is_pending = inl refl;
      since = λ i x had. flush_since start es 0 state_line i x had ∙ ap (λ (ws : Words). ws i) h.value_is;
    },
  )
  phase_on FenceState words es h = (after_more (fenced_all 0) words es refl (λ i x w. w) h.0, settled_now words es h.0 h.1)
  phase_on Ended words es h = (
    after_more (loaded 0 (counter_word shape)) words es refl (λ i x w. w) h.0,
    λ i x within had. h.1 i x within (elim (may_more start (loaded 0 (counter_word shape)) es i x had) [
      | inl w ↦ absurd w
      | inr s ↦ s
    ]),
  )

  pub phase_at : was ≡ value start old → (n : ℕ)
      → Phase (close_after shape was old n).op.step (close_after shape was old n).words (close_after shape was old n).trace
  phase_at is n = along shape Phase phase_on was old (first_before is, λ m below. absurd (omega (arith, below))) n

  -- where nothing more is wanted it has ended
  pub at_end : (s : CloseStep) (words : Words) (es : Trace) → wanted_in s ≡ Done → Phase s words es → Phase Ended words es
  at_end (Flush line waiting) words es done h = cc
  at_end (Fence line) words es done h = cc
  at_end Load words es done h = cc
  at_end (Store state) words es done h = cc
  at_end FlushState words es done h = cc
  at_end FenceState words es done h = cc
  at_end Ended words es done h = h

  -- at any time nothing was written yet, or the marker alone
  pub either : (s : CloseStep) (words : Words) (es : Trace) → Phase s words es → Before words es ⊎ After words es
  either (Flush line waiting) words es h = inl h.0
  either (Fence line) words es h = inl h.0
  either Load words es h = inl h.0
  either (Store state) words es h = inl h.0
  either FlushState words es h = inr h
  either FenceState words es h = inr h.0
  either Ended words es h = inr h.0
