-- Each event of a restart leaves fewer to do; and on an image one fewer, to the end.
use Rattle.std.proofs.Common.{◌≡◌, ◌≢◌, ℕ, suc, ◌+◌, ◌-◌, ◌*◌, ◌/◌, ◌<◌, ◌≤◌, inl, inr, Bool, true, false, [], length, refl, sym, ap, ◌∙◌, arith}
use Rattle.std.specs.Prelude.{if◌then◌else◌, nat_lt, slice_index}
use Rattle.std.proofs.lemmas.Bool.{ltb-true, ltb-false}
use Rattle.op_core.specs.declared.want.Want.TheVariants as want
use Rattle.op_core.specs.declared.want.Ans.{Ans}
use Rattle.op_core.specs.declared.want.Ans.TheVariants.{Value, Won, Lost, Drawn, Passed}
use Rattle.op_core.specs.Answers.{IsAnswer}
use Rattle.trace.specs.Events.{Words, Trace}
use Rattle.image_layout.specs.Places.{Shape, state_word}
use Rattle.world.specs.areas.Areas.{header_word}
use Rattle.restart_op.specs.declared.restart.RestartStep.{RestartStep}
use Rattle.restart_op.specs.declared.restart.RestartStep.TheVariants.{Load, LoadHead, StoreHead, FlushHead, FenceHeads, Store, Flush, Fence, Ended}
use Rattle.restart_op.specs.declared.restart.RestartOp.{RestartOp}
use Rattle.restart_op.specs.Restart.{started_for, swept_through, head_or_state, wanted_in, next_in, wanted}
use Rattle.restart_op.specs.Budget.{events_of_sweep, events_of_restart, left_in_round, left_in, BeginsWithASweep, Falls, EndsAtNone, IsStateOrHead, IsOnStateOrHead}
use Rattle.restart_op.specs.Restarted.{restarted, left_at, RestartCounts}
use Rattle.restart_op.proofs.restarts.Along.{IsKeptBy, along, longer}

-- ---- fewer, whatever is answered
seen_lowers : (shape : Shape) (b : Bool) (state : ℕ) → left_in shape (if b then LoadHead 0 0 else Store (started_for state)) < left_in shape Load
seen_lowers shape true state = omega arith
seen_lowers shape false state = omega arith

stored_lowers : (shape : Shape) (first slot : ℕ) (a b : Bool) → nat_lt slot (shape.segments - 1) ≡ a → nat_lt (slot - first) 7 ≡ b
    → left_in shape (if a then (if b then LoadHead first (slot + 1) else FlushHead first (slot + 1)) else FlushHead first shape.segments) < left_in_round shape.segments first slot - 1
stored_lowers shape first slot true true p q = let more = ltb-true slot (shape.segments - 1) p in one_more shape.segments more
  where
    one_more : (slots : ℕ) → slot < slots - 1 → left_in_round slots first (slot + 1) < left_in_round slots first slot - 1
    one_more slots more = omega (arith, more)
stored_lowers shape first slot true false p q =
    let more = ltb-true slot (shape.segments - 1) p in let full = ltb-false (slot - first) 7 q in round_full shape.segments more full
  where
    round_full : (slots : ℕ) → slot < slots - 1 → 7 ≤ slot - first
        → suc ((slot + 1) - first - 1) + (1 + 3 * (slots - (slot + 1)) + (slots - (slot + 1) + 7) / 8 + 3) < left_in_round slots first slot - 1
    round_full slots more full = omega (arith, more, full)
stored_lowers shape first slot false b p q = last_one shape.segments
  where
    last_one : (slots : ℕ) → suc (slots - first - 1) + (1 + 3 * (slots - slots) + (slots - slots + 7) / 8 + 3) < left_in_round slots first slot - 1
    last_one slots = omega arith

flushed_lowers : (shape : Shape) (slot end : ℕ) (a : Bool) → nat_lt slot (end - 1) ≡ a
    → left_in shape (if a then FlushHead (slot + 1) end else FenceHeads end) < left_in shape (FlushHead slot end)
flushed_lowers shape slot end true p = let more = ltb-true slot (end - 1) p in omega (arith, more)
flushed_lowers shape slot end false p = omega arith

fenced_lowers : (shape : Shape) (end : ℕ) (a : Bool) → nat_lt end shape.segments ≡ a
    → left_in shape (if a then LoadHead end end else Store swept_through) < left_in shape (FenceHeads end)
fenced_lowers shape end true p = let more = ltb-true end shape.segments p in next_round shape.segments more
  where
    next_round : (slots : ℕ) → end < slots → left_in_round slots end end < 1 + 3 * (slots - end) + (slots - end + 7) / 8 + 3
    next_round slots more = omega (arith, more)
fenced_lowers shape end false p = omega arith

lowers : (shape : Shape) (s : RestartStep) (a : Ans) → IsAnswer (wanted_in shape s) a → left_in shape (next_in shape s a) < left_in shape s
lowers shape Load (Value state) is = seen_lowers shape (started_for state).swept state
lowers shape (LoadHead first slot) (Value head) is = omega arith
lowers shape (StoreHead first slot head) Passed is = stored_lowers shape first slot _ _ refl refl
lowers shape (FlushHead slot end) Passed is = flushed_lowers shape slot end _ refl
lowers shape (FenceHeads end) Passed is = fenced_lowers shape end _ refl
lowers shape (Store started) Passed is = omega arith
lowers shape (Flush started) Passed is = omega arith
lowers shape (Fence started) Passed is = omega arith
lowers shape Load Won is = absurd is
lowers shape Load (Lost n) is = absurd is
lowers shape Load (Drawn n) is = absurd is
lowers shape Load Passed is = absurd is
lowers shape (LoadHead first slot) Won is = absurd is
lowers shape (LoadHead first slot) (Lost n) is = absurd is
lowers shape (LoadHead first slot) (Drawn n) is = absurd is
lowers shape (LoadHead first slot) Passed is = absurd is
lowers shape (StoreHead first slot head) (Value n) is = absurd is
lowers shape (StoreHead first slot head) Won is = absurd is
lowers shape (StoreHead first slot head) (Lost n) is = absurd is
lowers shape (StoreHead first slot head) (Drawn n) is = absurd is
lowers shape (FlushHead slot end) (Value n) is = absurd is
lowers shape (FlushHead slot end) Won is = absurd is
lowers shape (FlushHead slot end) (Lost n) is = absurd is
lowers shape (FlushHead slot end) (Drawn n) is = absurd is
lowers shape (FenceHeads end) (Value n) is = absurd is
lowers shape (FenceHeads end) Won is = absurd is
lowers shape (FenceHeads end) (Lost n) is = absurd is
lowers shape (FenceHeads end) (Drawn n) is = absurd is
lowers shape (Store started) (Value n) is = absurd is
lowers shape (Store started) Won is = absurd is
lowers shape (Store started) (Lost n) is = absurd is
lowers shape (Store started) (Drawn n) is = absurd is
lowers shape (Flush started) (Value n) is = absurd is
lowers shape (Flush started) Won is = absurd is
lowers shape (Flush started) (Lost n) is = absurd is
lowers shape (Flush started) (Drawn n) is = absurd is
lowers shape (Fence started) (Value n) is = absurd is
lowers shape (Fence started) Won is = absurd is
lowers shape (Fence started) (Lost n) is = absurd is
lowers shape (Fence started) (Drawn n) is = absurd is
lowers shape (Ended started) a is = absurd is

pub falls : Falls
falls op a is = lowers op.geometry op.step a is

pub begins_with_a_sweep : BeginsWithASweep
begins_with_a_sweep shape is = let some = is.some in counted shape.segments some
  where
    counted : (slots : ℕ) → 1 ≤ slots → suc (left_in_round slots 0 0) ≡ 3 * slots + (slots + 7) / 8 + 4
    counted slots some = omega (arith, some)

none_at : (shape : Shape) (s : RestartStep) → (left_in shape s ≡ 0 → wanted_in shape s ≡ want.Done) × (left_in shape s ≢ 0 → wanted_in shape s ≢ want.Done)
none_at shape Load = (λ e. absurd (omega (arith, e)), λ _ e. cc)
none_at shape (LoadHead first slot) = (λ e. absurd (omega (arith, e)), λ _ e. cc)
none_at shape (StoreHead first slot head) = (λ e. absurd (omega (arith, e)), λ _ e. cc)
none_at shape (FlushHead slot end) = (λ e. absurd (omega (arith, e)), λ _ e. cc)
none_at shape (FenceHeads end) = (λ e. absurd (omega (arith, e)), λ _ e. cc)
none_at shape (Store started) = (λ e. absurd (omega (arith, e)), λ _ e. cc)
none_at shape (Flush started) = (λ e. absurd (omega (arith, e)), λ _ e. cc)
none_at shape (Fence started) = (λ e. absurd (omega (arith, e)), λ _ e. cc)
none_at shape (Ended started) = (λ _. refl, λ some _. some refl)

pub ends_at_none : EndsAtNone
ends_at_none op = none_at op.geometry op.step

-- ---- which words
head_is : (shape : Shape) (slot : ℕ) (b : Bool) → nat_lt slot shape.segments ≡ b → IsStateOrHead shape (head_or_state shape slot)
head_is shape slot b p = go b p
  where
    go : (b : Bool) → nat_lt slot shape.segments ≡ b → IsStateOrHead shape (head_or_state shape slot)
    go true p = inr (slot, ltb-true slot shape.segments p, ap (λ (c : Bool). if c then header_word shape slot else state_word) p)
    go false p = inl (ap (λ (c : Bool). if c then header_word shape slot else state_word) p)

on_word : (shape : Shape) (s : RestartStep) → IsOnStateOrHead shape (wanted_in shape s)
on_word shape Load = inl refl
on_word shape (LoadHead first slot) = head_is shape slot _ refl
on_word shape (StoreHead first slot head) = head_is shape slot _ refl
on_word shape (FlushHead slot end) = (head_or_state shape slot, head_is shape slot _ refl, refl)
on_word shape (FenceHeads end) = tt
on_word shape (Store started) = inl refl
on_word shape (Flush started) = (state_word, inl refl, refl)
on_word shape (Fence started) = tt
on_word shape (Ended started) = tt

pub on_words : (op : RestartOp) → IsOnStateOrHead op.geometry (wanted op)
on_words op = on_word op.geometry op.step

-- ---- one fewer on an image
module _ (shape : Shape) (start : Words) (some : 1 ≤ shape.segments) where
  abbrev all : ℕ
  all = events_of_restart shape start

  -- a round is within the image, and not longer than eight
  abbrev InRound : ℕ → ℕ → Type 0
  InRound first slot = (first ≤ slot) × (slot < shape.segments) × (slot - first ≤ 7)

  abbrev Counted : RestartStep → Words → Trace → Type 0
  Counted Load words es = (words state_word ≡ start state_word) × (length es ≡ 0)
  Counted (LoadHead first slot) words es = InRound first slot × (left_in_round shape.segments first slot + length es ≡ all)
  Counted (StoreHead first slot head) words es = InRound first slot × (left_in_round shape.segments first slot - 1 + length es ≡ all)
  Counted (FlushHead slot end) words es = (slot < end) × (left_in shape (FlushHead slot end) + length es ≡ all)
  Counted (FenceHeads end) words es = left_in shape (FenceHeads end) + length es ≡ all
  Counted (Store started) words es = 3 + length es ≡ all
  Counted (Flush started) words es = 2 + length es ≡ all
  Counted (Fence started) words es = 1 + length es ≡ all
  Counted (Ended started) words es = all ≤ length es

  seen_counts : (words : Words) (es es' : Trace) (b : Bool) → words state_word ≡ start state_word → (started_for (words state_word)).swept ≡ b → length es ≡ 0
      → length es' ≡ 1 → Counted (if b then LoadHead 0 0 else Store (started_for (words state_word))) words es'
  seen_counts words es es' true same p none one = (
    (omega arith, omega (arith, some), omega arith),
    swept shape.segments some ∙ sym (ap (λ (c : Bool). if c then events_of_sweep shape else 4) (sym (ap (λ n. (started_for n).swept) same) ∙ p)),
  )
    where
      swept : (slots : ℕ) → 1 ≤ slots → left_in_round slots 0 0 + length es' ≡ 3 * slots + (slots + 7) / 8 + 4
      swept slots some = omega (arith, some, one)
  seen_counts words es es' false same p none one =
      let four : all ≡ 4 = ap (λ (c : Bool). if c then events_of_sweep shape else 4) (sym (ap (λ n. (started_for n).swept) same) ∙ p) in omega (arith, four, one)

  stored_counts : (first slot : ℕ) (words : Words) (es es' : Trace) (a b : Bool) → nat_lt slot (shape.segments - 1) ≡ a → nat_lt (slot - first) 7 ≡ b → InRound first slot
      → left_in_round shape.segments first slot - 1 + length es ≡ all → length es' ≡ suc (length es)
      → Counted (if a then (if b then LoadHead first (slot + 1) else FlushHead first (slot + 1)) else FlushHead first shape.segments) words es'
  stored_counts first slot words es es' true true p q in_round count long =
      let more = ltb-true slot (shape.segments - 1) p in let room = ltb-true (slot - first) 7 q in
      ((omega (arith, in_round.0), omega (arith, more), omega (arith, room)), one_more shape.segments all more count)
    where
      one_more : (slots n : ℕ) → slot < slots - 1 → left_in_round slots first slot - 1 + length es ≡ n → left_in_round slots first (slot + 1) + length es' ≡ n
      one_more slots n more count = omega (arith, more, count, long)
  stored_counts first slot words es es' true false p q in_round count long =
      let more = ltb-true slot (shape.segments - 1) p in let full = ltb-false (slot - first) 7 q in
      (omega (arith, in_round.0), round_full shape.segments all more full in_round.2 in_round.0 count)
    where
      round_full : (slots n : ℕ) → slot < slots - 1 → 7 ≤ slot - first → slot - first ≤ 7 → first ≤ slot → left_in_round slots first slot - 1 + length es ≡ n
          → suc ((slot + 1) - first - 1) + (1 + 3 * (slots - (slot + 1)) + (slots - (slot + 1) + 7) / 8 + 3) + length es' ≡ n
      round_full slots n more full most low count = omega (arith, more, full, most, low, count, long)
  stored_counts first slot words es es' false b p q in_round count long =
      let last = ltb-false slot (shape.segments - 1) p in
      (omega (arith, in_round.0, in_round.1), last_one shape.segments all last in_round.1 in_round.2 in_round.0 count)
    where
      last_one : (slots n : ℕ) → slots - 1 ≤ slot → slot < slots → slot - first ≤ 7 → first ≤ slot → left_in_round slots first slot - 1 + length es ≡ n
          → suc (slots - first - 1) + (1 + 3 * (slots - slots) + (slots - slots + 7) / 8 + 3) + length es' ≡ n
      last_one slots n last within most low count = omega (arith, last, within, most, low, count, long)

  flushed_counts : (slot end : ℕ) (words : Words) (es es' : Trace) (a : Bool) → nat_lt slot (end - 1) ≡ a → slot < end → left_in shape (FlushHead slot end) + length es ≡ all
      → length es' ≡ suc (length es) → Counted (if a then FlushHead (slot + 1) end else FenceHeads end) words es'
  flushed_counts slot end words es es' true p before count long = let more = ltb-true slot (end - 1) p in (omega (arith, more), omega (arith, more, count, long))
  flushed_counts slot end words es es' false p before count long = let last = ltb-false slot (end - 1) p in omega (arith, last, before, count, long)

  fenced_counts : (end : ℕ) (words : Words) (es es' : Trace) (a : Bool) → nat_lt end shape.segments ≡ a → left_in shape (FenceHeads end) + length es ≡ all
      → length es' ≡ suc (length es) → Counted (if a then LoadHead end end else Store swept_through) words es'
  fenced_counts end words es es' true p count long =
      let more = ltb-true end shape.segments p in ((omega arith, more, omega arith), next_round shape.segments all more count)
    where
      next_round : (slots n : ℕ) → end < slots → 1 + 3 * (slots - end) + (slots - end + 7) / 8 + 3 + length es ≡ n → left_in_round slots end end + length es' ≡ n
      next_round slots n more count = omega (arith, more, count, long)
  fenced_counts end words es es' false p count long = let last = ltb-false end shape.segments p in last_round shape.segments all last count
    where
      last_round : (slots n : ℕ) → slots ≤ end → 1 + 3 * (slots - end) + (slots - end + 7) / 8 + 3 + length es ≡ n → 3 + length es' ≡ n
      last_round slots n last count = omega (arith, last, count, long)

  counted_on : IsKeptBy shape Counted
  counted_on Load words es c = seen_counts words es _ _ c.0 refl c.1 (ap suc c.1)
  counted_on (LoadHead first slot) words es c = (c.0, (let n = c.1 in omega (arith, n)))
  counted_on (StoreHead first slot head) words es c = stored_counts first slot _ es _ _ _ refl refl c.0 c.1 refl
  counted_on (FlushHead slot end) words es c = flushed_counts slot end words es _ _ refl c.0 c.1 refl
  counted_on (FenceHeads end) words es c = fenced_counts end words es _ _ refl c refl
  counted_on (Store started) words es c = omega (arith, c)
  counted_on (Flush started) words es c = omega (arith, c)
  counted_on (Fence started) words es c = omega (arith, c)
  counted_on (Ended started) words es c = omega (arith, c)

  -- the count of a step, after so many events
  count_at : (s : RestartStep) (words : Words) (es : Trace) (n : ℕ) → length es ≡ n → n ≤ all → Counted s words es → left_at shape start s + n ≡ all
  count_at Load words es n is few c = let none = c.1 in omega (arith, is, none)
  count_at (LoadHead first slot) words es n is few c = let count = c.1 in omega (arith, is, count)
  count_at (StoreHead first slot head) words es n is few c = let count = c.1 in omega (arith, is, count)
  count_at (FlushHead slot end) words es n is few c = let count = c.1 in omega (arith, is, count)
  count_at (FenceHeads end) words es n is few c = omega (arith, is, c)
  count_at (Store started) words es n is few c = omega (arith, is, c)
  count_at (Flush started) words es n is few c = omega (arith, is, c)
  count_at (Fence started) words es n is few c = omega (arith, is, c)
  count_at (Ended started) words es n is few c = omega (arith, is, c, few)

pub restart_counts : RestartCounts
restart_counts shape words n is few =
    let c = restarted shape words n in
    let long = longer shape (slice_index words) [] n in
    count_at shape (slice_index words) is.some c.op.step c.words c.trace n (omega (arith, long)) few
    (along shape (Counted shape (slice_index words) is.some) (counted_on shape (slice_index words) is.some) (slice_index words) [] (refl, refl) n)
