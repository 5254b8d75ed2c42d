-- Each event of a close leaves fewer to do, and never do more than eight lines wait.
use Rattle.std.proofs.Common.{◌≡◌, ◌≢◌, ℕ, zero, suc, ◌+◌, ◌-◌, ◌/◌, ◌<◌, ◌≤◌, ◌⊎◌, inl, inr, Bool, true, false, length, refl, sym, ap, subst, arith}
use Rattle.std.specs.Prelude.{if◌then◌else◌, nat_lt}
use Rattle.std.proofs.lemmas.Bool.{ltb-true, ltb-false}
use Rattle.op_core.specs.declared.want.Want.TheVariants.{Done}
use Rattle.trace.specs.Events.{Words, Trace}
use Rattle.trace.specs.Progress.{pending}
use Rattle.image_layout.specs.Places.{Shape, IsShape}
use Rattle.world.specs.Wants.{answer_to, word_of}
use Rattle.restart_op.specs.declared.close.CloseStep.{CloseStep}
use Rattle.restart_op.specs.declared.close.CloseStep.TheVariants.{Flush, Fence, Load, Store, FlushState, FenceState, Ended}
use Rattle.restart_op.specs.Close.{lines_of, wanted_in, wanted, taken, begun}
use Rattle.restart_op.specs.Closing.{close_after, events_of, left_in, left, Falls, EndsInTime, FewWait}
use Rattle.restart_op.proofs.closes.CloseAlong.{same_geometry, IsKeptBy, along}

-- ---- fewer
flushed_lowers : (shape : Shape) (line waiting : ℕ) (a b : Bool) → nat_lt line (lines_of shape - 1) ≡ a → nat_lt waiting 7 ≡ b
    → suc (left_in shape (if a then (if b then Flush (line + 1) (waiting + 1) else Fence (line + 1)) else Fence (lines_of shape))) ≤ left_in shape (Flush line waiting)
flushed_lowers shape line waiting true true p q =
    let more = ltb-true line (lines_of shape - 1) p in flush_more (lines_of shape) line waiting more
  where
    flush_more : (lines line waiting : ℕ) → line < lines - 1
        → suc ((lines - 1 - (line + 1)) + 1 + ((lines - 1 - (line + 1)) + 1 + (waiting + 1) + 7) / 8 + 4) ≤ (lines - 1 - line) + 1 + ((lines - 1 - line) + 1 + waiting + 7) / 8 + 4
    flush_more lines line waiting h = omega arith
flushed_lowers shape line waiting true false p q =
    let more = ltb-true line (lines_of shape - 1) p in let full = ltb-false waiting 7 q in round_full (lines_of shape) line waiting more full
  where
    round_full : (lines line waiting : ℕ) → line < lines - 1 → 7 ≤ waiting
        → suc (lines - (line + 1) + (lines - (line + 1) + 7) / 8 + 5) ≤ (lines - 1 - line) + 1 + ((lines - 1 - line) + 1 + waiting + 7) / 8 + 4
    round_full lines line waiting h k = omega arith
flushed_lowers shape line waiting false b p q = last_line (lines_of shape) line waiting
  where
    last_line : (lines line waiting : ℕ)
        → suc (lines - lines + (lines - lines + 7) / 8 + 5) ≤ (lines - 1 - line) + 1 + ((lines - 1 - line) + 1 + waiting + 7) / 8 + 4
    last_line lines line waiting = omega arith

fenced_lowers : (shape : Shape) (line : ℕ) (a : Bool) → nat_lt line (lines_of shape) ≡ a
    → suc (left_in shape (if a then Flush line 0 else Load)) ≤ left_in shape (Fence line)
fenced_lowers shape line true p = let more = ltb-true line (lines_of shape) p in next_round (lines_of shape) line more
  where
    next_round : (lines line : ℕ) → line < lines → suc ((lines - 1 - line) + 1 + ((lines - 1 - line) + 1 + 0 + 7) / 8 + 4) ≤ lines - line + (lines - line + 7) / 8 + 5
    next_round lines line h = omega arith
fenced_lowers shape line false p = omega arith

lowers : (shape : Shape) (s : CloseStep) (found : ℕ) → wanted_in s ≢ Done
    → left_in shape (taken (record { geometry = shape; step = s }) (answer_to (wanted_in s) found)).step < left_in shape s
lowers shape (Flush line waiting) found wants = flushed_lowers shape line waiting _ _ refl refl
lowers shape (Fence line) found wants = fenced_lowers shape line _ refl
lowers shape Load found wants = omega arith
lowers shape (Store state) found wants = omega arith
lowers shape FlushState found wants = omega arith
lowers shape FenceState found wants = omega arith
lowers shape Ended found wants = absurd (wants refl)

pub falls : Falls
falls op found wants =
    let next = taken op (answer_to (wanted op) found) in
    subst (λ (g : Shape). left_in g next.step < left op) (sym (same_geometry op (answer_to (wanted op) found))) (lowers op.geometry op.step found wants)

pub most : (shape : Shape) → IsShape shape → left (begun shape) ≡ events_of shape
most shape is = let some = is.some in counted (lines_of shape) (omega (arith, some))
  where
    counted : (lines : ℕ) → 1 ≤ lines → (lines - 1 - 0) + 1 + ((lines - 1 - 0) + 1 + 0 + 7) / 8 + 4 ≡ lines + (lines + 7) / 8 + 4
    counted lines h = omega arith

-- ---- the end
-- what was made and what is left are no more than there was at first, or nothing more is wanted
abbrev Spent : Shape → ℕ → CloseStep → Words → Trace → Type 0
Spent shape all s words es = (left_in shape s + length es ≤ all) ⊎ (wanted_in s ≡ Done)

stays_done : (shape : Shape) (s : CloseStep) (found : ℕ) → wanted_in s ≡ Done → wanted (taken (record { geometry = shape; step = s }) (answer_to (wanted_in s) found)) ≡ Done
stays_done shape (Flush line waiting) found done = cc
stays_done shape (Fence line) found done = cc
stays_done shape Load found done = cc
stays_done shape (Store state) found done = cc
stays_done shape FlushState found done = cc
stays_done shape FenceState found done = cc
stays_done shape Ended found done = refl

done_or_not : (s : CloseStep) → (wanted_in s ≡ Done) ⊎ (wanted_in s ≢ Done)
done_or_not (Flush line waiting) = inr (λ e. cc)
done_or_not (Fence line) = inr (λ e. cc)
done_or_not Load = inr (λ e. cc)
done_or_not (Store state) = inr (λ e. cc)
done_or_not FlushState = inr (λ e. cc)
done_or_not FenceState = inr (λ e. cc)
done_or_not Ended = inl refl

spent_on : (shape : Shape) (all : ℕ) → IsKeptBy shape (Spent shape all)
spent_on shape all s words es spent = elim (done_or_not s) [
  | inl done ↦ inr (stays_done shape s _ done)
  | inr wants ↦ elim spent [
    | inl fits ↦ inl (let low = lowers shape s (words (word_of shape (wanted_in s))) wants in omega (arith, low, fits))
    | inr done ↦ absurd (wants done)
  ]
]

none_left : (shape : Shape) (s : CloseStep) → left_in shape s ≤ 0 → wanted_in s ≡ Done
none_left shape (Flush line waiting) none = absurd (omega (arith, none))
none_left shape (Fence line) none = absurd (omega (arith, none))
none_left shape Load none = absurd (omega (arith, none))
none_left shape (Store state) none = absurd (omega (arith, none))
none_left shape FlushState none = absurd (omega (arith, none))
none_left shape FenceState none = absurd (omega (arith, none))
none_left shape Ended none = refl

longer : (shape : Shape) (words : Words) (es : Trace) (n : ℕ) → length (close_after shape words es n).trace ≡ n + length es
longer shape words es zero = omega arith
longer shape words es (suc n) = let before = longer shape words es n in omega (arith, before)

pub ends_in_time : EndsInTime
ends_in_time shape is words es n late =
    let all = left (begun shape) + length es in
    let spent = along shape (Spent shape all) (spent_on shape all) words es (inl (omega arith)) n in
    elim spent [
      | inl fits ↦ let count = most shape is in let made = longer shape words es n in
          none_left shape (close_after shape words es n).op.step (omega (arith, fits, count, made, late))
      | inr done ↦ done
    ]

-- ---- how many lines wait
abbrev Waits : CloseStep → ℕ → Type 0
Waits (Flush line waiting) n = (n ≡ waiting) × (waiting < 8)
Waits (Fence line) n = n ≤ 8
Waits Load n = n ≡ 0
Waits (Store state) n = n ≡ 0
Waits FlushState n = n ≡ 0
Waits FenceState n = n ≤ 1
Waits Ended n = n ≡ 0

abbrev Waiting : CloseStep → Words → Trace → Type 0
Waiting s words es = Waits s (length (pending 0 es))

flushed_waits : (shape : Shape) (line waiting n : ℕ) (a b : Bool) → nat_lt waiting 7 ≡ b → n ≡ waiting → waiting < 8
    → Waits (if a then (if b then Flush (line + 1) (waiting + 1) else Fence (line + 1)) else Fence (lines_of shape)) (suc n)
flushed_waits shape line waiting n true true q is few = let more = ltb-true waiting 7 q in (omega (arith, is), omega (arith, more))
flushed_waits shape line waiting n true false q is few = omega (arith, is, few)
flushed_waits shape line waiting n false b q is few = omega (arith, is, few)

fenced_waits : (line : ℕ) (a : Bool) → Waits (if a then Flush line 0 else Load) 0
fenced_waits line true = (refl, omega arith)
fenced_waits line false = refl

waiting_on : (shape : Shape) → IsKeptBy shape Waiting
waiting_on shape (Flush line waiting) words es w = flushed_waits shape line waiting _ _ _ refl w.0 w.1
waiting_on shape (Fence line) words es w = fenced_waits line _
waiting_on shape Load words es w = w
waiting_on shape (Store state) words es w = w
waiting_on shape FlushState words es w = omega (arith, w)
waiting_on shape FenceState words es w = refl
waiting_on shape Ended words es w = w

at_most_eight : (s : CloseStep) (n : ℕ) → Waits s n → n ≤ 8
at_most_eight (Flush line waiting) n w = omega (arith, w.0, w.1)
at_most_eight (Fence line) n w = w
at_most_eight Load n w = omega (arith, w)
at_most_eight (Store state) n w = omega (arith, w)
at_most_eight FlushState n w = omega (arith, w)
at_most_eight FenceState n w = omega (arith, w)
at_most_eight Ended n w = omega (arith, w)

pub few_wait : FewWait
few_wait shape words es none n =
    at_most_eight (close_after shape words es n).op.step _
    (along shape Waiting (waiting_on shape) words es (ap length none, omega arith) n)
