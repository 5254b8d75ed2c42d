-- Each event leaves fewer, and lines that are flushed are counted until the fence.
use Rattle.std.proofs.Common.{◌≡◌, ◌≢◌, ℕ, suc, ◌+◌, ◌-◌, ◌*◌, ◌%◌, ◌<◌, ◌≤◌, ◌⊎◌, Bool, true, false, Option, None, Some, List, length, slice_index, inl, inr, refl, sym, ap, ◌∙◌, subst, arith}
use Rattle.std.specs.Prelude.{nat_lt, ◌==◌, ◌&&◌, not, min, if◌then◌else◌}
use Rattle.whole_segment.specs.Rounds.{most_lines}
use Rattle.image_layout.specs.Places.{Shape, segment_words, bucket_behind, buckets, most_segments}
use Rattle.std.proofs.lemmas.Bool.{ltb-true, cond_both}
use Rattle.std.proofs.lemmas.Option.{none-some}
use Rattle.op_core.specs.declared.want.Want.{Want}
use Rattle.op_core.specs.declared.want.Want.TheVariants as want
use Rattle.op_core.specs.declared.want.Ans.{Ans}
use Rattle.op_core.specs.declared.want.Ans.TheVariants.{Value, Won, Lost, Passed}
use Rattle.op_core.specs.Answers.{IsAnswer}
use Rattle.segment_head.specs.HeadWord.{state_in, free}
use Rattle.rounds.specs.declared.rounds.Rounds.{Rounds}
use Rattle.rounds.specs.Steps.{rounds_stores, rounds_wanted, rounds_taken, at_step, flushed_to}
use Rattle.rounds.specs.Steps as round
use Rattle.rounds.specs.Left.{rounds_left}
use Rattle.rounds.specs.Waiting.{rounds_waiting}
use Rattle.rounds.proofs.Wanted.{IsAsked, asked, asked_some}
use Rattle.rounds.proofs.Falling.{step_most, few_is, few_below, few_most, rounds_fall}
use Rattle.rounds.proofs.Waiting.{most_wait, none_waits, event_ends, event_flushes, event_keeps}
use Rattle.enclose_op.specs.declared.give.Give.{Give}
use Rattle.enclose_op.specs.Giving.{given}
use Rattle.enclose_op.specs.Fits.{give_left}
use Rattle.enclose_op.proofs.Backing.{give_falls, give_few, give_most}
use Rattle.enclose_op.proofs.Giving.{give_answered, give_flushes}
use Rattle.split_op.specs.declared.copied.Copied.{Copied}
use Rattle.split_op.specs.declared.batch.Batch.{Batch}
use Rattle.split_op.specs.declared.batch.Batch.TheVariants.{Empty, Link, Mark, New, Copy}
use Rattle.split_op.specs.declared.step.SplitEnd.{SplitEnd}
use Rattle.split_op.specs.declared.step.SplitStep.{SplitStep}
use Rattle.split_op.specs.declared.step.SplitStep.TheVariants.{Take, Search, Count, Return, Look, Put, Release, Back, Ended}
use Rattle.split_op.specs.declared.op.SplitOp.{SplitOp}
use Rattle.split_op.specs.Batches.{first_of, after_empty, copied_from, due, after}
use Rattle.split_op.specs.Steps.{finished, put_by, put_to, batch_after, stored, copying, last_slot, searched, given_to, wanted_in, next_in}
use Rattle.split_op.specs.SplitPart.{stores_left, left_behind, put_left, events_in, left_at, left_of, IsWithinImage, waiting_at}
use Rattle.split_op.proofs.Cases.{came}
use Rattle.split_op.proofs.sides.Seeking.{copied_behind}

-- ---- a batch goes on
-- the word that is emptied behind one is a later one
first_behind : (locks : List ℕ) (b : ℕ) → 32 + 32 * b ≤ first_of locks b ⊎ (first_of locks b ≡ segment_words)
first_behind locks b = cond_both (nat_lt b buckets) _ segment_words (λ (n : ℕ). (32 + 32 * b ≤ n) ⊎ (n ≡ segment_words))
    (λ _. cond_both (slice_index locks b % 2 == 0) (32 + 32 * b + 1) (32 + 32 * b) (λ (n : ℕ). (32 + 32 * b ≤ n) ⊎ (n ≡ segment_words)) (λ _. inl (omega arith)) (λ _. inl (omega arith)))
    (λ _. inr refl)

pub empty_behind : (locks : List ℕ) (i : ℕ) → i < segment_words → i < after_empty locks i
empty_behind locks i low = cond_both (not (nat_lt i 32) && nat_lt (i % 32) 3) (i + 1) (first_of locks (bucket_behind i)) (λ (n : ℕ). i < n) (λ _. omega arith)
    (λ _. elim (first_behind locks (bucket_behind i)) [ inl far ↦ omega (arith, far) | inr all ↦ omega (arith, all, low) ])

-- a store of a batch leaves one less, and as much behind it
record IsLess (batch next : Batch) : Type 0 where
  stores : suc (stores_left next) ≤ stores_left batch
  behind : left_behind next ≡ left_behind batch

module _ (c : Copied) (locks : List ℕ) where
  empty_less : (i : ℕ) (b : Bool) (w : ℕ × ℕ) (x : ℕ × ℕ) → nat_lt i segment_words ≡ b → (if b then Some x else None) ≡ Some w → IsLess (Empty i) (if b then Empty (after_empty locks i) else Empty i)
  empty_less i true w x is e = let low = ltb-true i segment_words is in let far = empty_behind locks i low in record { stores = omega (arith, low, far); behind = refl }
  empty_less i false w x is e = absurd (none-some _ e)

  copy_less : (i : ℕ) (b : Bool) (w : ℕ × ℕ) (x : ℕ × ℕ) → nat_lt i segment_words ≡ b → (if b then Some x else None) ≡ Some w → IsLess (Copy i) (if b then Copy (copied_from c.words (i + 1)) else Copy i)
  copy_less i true w x is e = let low = ltb-true i segment_words is in let far = copied_behind c.words (i + 1) (omega (arith, low)) in record { stores = omega (arith, low, far); behind = refl }
  copy_less i false w x is e = absurd (none-some _ e)

  less : (batch : Batch) (w : ℕ × ℕ) → due c locks batch ≡ Some w → IsLess batch (after c locks batch)
  less (Empty i) w e = empty_less i (nat_lt i segment_words) w _ refl e
  less (Link false) w e = record { stores = omega arith; behind = refl }
  less (Link true) w e = absurd (none-some _ e)
  less (Mark false) w e = record { stores = omega arith; behind = refl }
  less (Mark true) w e = absurd (none-some _ e)
  less (New false) w e = record { stores = omega arith; behind = refl }
  less (New true) w e = absurd (none-some _ e)
  less (Copy i) w e = copy_less i (nat_lt i segment_words) w _ refl e

-- so many at the most
stores_most : (batch : Batch) → stores_left batch ≤ 2144
stores_most (Empty i) = omega arith
stores_most (Link false) = omega arith
stores_most (Link true) = omega arith
stores_most (Mark false) = omega arith
stores_most (Mark true) = omega arith
stores_most (New false) = omega arith
stores_most (New true) = omega arith
stores_most (Copy i) = omega arith

behind_most : (batch : Batch) → left_behind batch ≤ 6442
behind_most (Empty i) = omega arith
behind_most (Link stored) = omega arith
behind_most (Mark stored) = omega arith
behind_most (New stored) = omega arith
behind_most (Copy i) = omega arith

-- ---- where a batch is stored
-- all that a round has left, if it is one
abbrev pub all_left : Batch → Rounds → ℕ
all_left batch rounds = rounds_left rounds (stores_left batch) + left_behind batch

module _ (shape : Shape) where
  finished_left : (batch : Batch) → left_at shape (finished batch) ≤ left_behind batch
  finished_left (Empty i) = omega arith
  finished_left (Link stored) = omega arith
  finished_left (Mark stored) = omega arith
  finished_left (New stored) = omega arith
  finished_left (Copy i) = omega arith

  by_left : (want : Option Want) (batch : Batch) (rounds : Rounds) → left_at shape (put_by want batch rounds) ≤ all_left batch rounds
  by_left (Some w) batch rounds = few_below rounds (all_left batch rounds)
  by_left None batch rounds = let few = finished_left batch in omega (arith, few)

  to_left : (op : SplitOp) (batch : Batch) (rounds : Rounds) → left_at shape (put_to op batch rounds) ≤ all_left batch rounds
  to_left op batch rounds = by_left (rounds_wanted rounds (due op.copied op.locks batch)) batch rounds

  -- an event of the rounds leaves less
  module _ (op : SplitOp) (batch : Batch) (rounds : Rounds) where
    abbrev next : Option (ℕ × ℕ)
    next = due op.copied op.locks batch

    -- of the store that was to come
    store_less : rounds_stores rounds next ≡ true → all_left (after op.copied op.locks batch) (rounds_taken rounds next) < all_left batch rounds
    store_less is =
        let some = came rounds next is in
        let one = less op.copied op.locks batch (some.0, some.1) some.2 in
        let fewer = rounds_fall.stores rounds next (stores_left (after op.copied op.locks batch)) is in
        let stores = one.stores in
        let behind = one.behind in
        omega (arith, fewer, stores, behind)

    other_less : rounds_wanted rounds next ≢ None → rounds_stores rounds next ≡ false → all_left batch (rounds_taken rounds next) < all_left batch rounds
    other_less wants is = let fewer = rounds_fall.others rounds next (stores_left batch) wants is in omega (arith, fewer)

    event_less : rounds_wanted rounds next ≢ None → all_left (batch_after op batch rounds) (rounds_taken rounds next) < all_left batch rounds
    event_less wants = cond_both (rounds_stores rounds next) (after op.copied op.locks batch) batch (λ (t : Batch). all_left t (rounds_taken rounds next) < all_left batch rounds) store_less (other_less wants)

    pub stored_left : length rounds.round ≤ most_lines → rounds_wanted rounds next ≢ None → left_at shape (stored op batch rounds) < put_left batch rounds
    stored_left few wants =
        let low = to_left op (batch_after op batch rounds) (rounds_taken rounds next) in
        let fewer = event_less wants in
        let is = few_is rounds (all_left batch rounds) few in
        omega (arith, low, fewer, is)

-- ---- each event
abbrev left_give : Option Give → ℕ
left_give (Some give) = give_left give
left_give None = 0

module _ where
  begun_left : (i : ℕ) → all_left (Copy i) round.begun ≤ 6432
  begun_left i = omega arith

  all_most : (batch : Batch) (rounds : Rounds) → length rounds.round ≤ most_lines → all_left batch rounds ≤ 12936
  all_most batch rounds few =
      let stores = stores_most batch in
      let behind = behind_most batch in
      let round = step_most rounds.round few rounds.step in
      omega (arith, stores, behind, round)

  next_slot : (slot last : ℕ) → slot < last → 12935 + (last - (slot + 1)) < 12935 + (last - slot)
  next_slot slot last low = omega (arith, low)

module _ (op : SplitOp) where
  abbrev shape : Shape
  shape = op.copied.whole.site.geometry

  searched_left : (slot head : ℕ) → left_of (searched op slot head) < left_at shape (Search slot)
  searched_left slot head =
      cond_both (state_in head == free) _ _ (λ (o : SplitOp). left_of o < left_at shape (Search slot)) (λ _. omega arith)
      (λ _. cond_both (nat_lt slot (last_slot shape)) _ _ (λ (o : SplitOp). left_of o < left_at shape (Search slot))
      (λ is. next_slot slot (last_slot shape) (ltb-true slot (last_slot shape) is))
      (λ _. omega arith))

  looked_by : (b : ℕ) → left_at shape (if nat_lt b (buckets - 1) then Look (b + 1) else Put (Empty 2) round.begun) < left_at shape (Look b)
  looked_by b = cond_both (nat_lt b (buckets - 1)) _ _ (λ (s : SplitStep). left_at shape s < left_at shape (Look b)) (λ is. let low = ltb-true b (buckets - 1) is in omega (arith, low)) (λ _. omega arith)

  given_left : (next : Option Give) (end : SplitEnd) (n : ℕ) → left_give next < n → left_at shape (given_to next end) < n
  given_left (Some give) end n low = low
  given_left None end n low = low

  pub falls : (s : SplitStep) (a : Ans) → IsAnswer (wanted_in op s) a → left_of (next_in op s a) < left_at shape s
  falls Take Won i = omega arith
  falls Take (Lost n) i = let few = give_few 0 66 in omega (arith, few)
  falls Take a i = absurd i
  falls (Search slot) (Value n) i = searched_left slot n
  falls (Search slot) a i = absurd i
  falls Count (Value n) i = omega arith
  falls Count a i = absurd i
  falls (Return count) Passed i = let few = give_few 0 66 in omega (arith, few)
  falls (Return count) a i = absurd i
  falls (Look b) (Value n) i = looked_by b
  falls (Look b) a i = absurd i
  falls (Put batch rounds) a i =
      let q = asked rounds (due op.copied op.locks batch) a i in
      subst (λ (x : Ans). left_of (next_in op (Put batch rounds) x) < put_left batch rounds) (sym q.passed)
      (stored_left shape op batch rounds q.few (asked_some rounds (due op.copied op.locks batch) a q))
  falls Release Passed i = copying_left
    where
      copying_left : left_at shape (copying op) < 6433
      copying_left = let low = to_left shape op (Copy (copied_from op.copied.words 32)) round.begun in let most = begun_left (copied_from op.copied.words 32) in omega (arith, low, most)
  falls Release a i = absurd i
  falls (Back give end) a i = subst (λ (x : Ans). left_of (next_in op (Back give end) x) < give_left give) (sym (give_answered op.copied.whole give a i)) (given_left (given give) end (give_left give) (give_falls give))
  falls (Ended end) a i = absurd i

-- ---- at most so many
module _ (shape : Shape) where
  most_at : (s : SplitStep) → left_at shape s ≤ events_in shape
  most_at Take = omega arith
  most_at (Search slot) = omega arith
  most_at Count = omega arith
  most_at (Return count) = omega arith
  most_at (Look b) = omega arith
  most_at (Put batch rounds) = few_most rounds (all_left batch rounds) (12936 + last_slot shape) (λ few. let low = all_most batch rounds few in omega (arith, low))
  most_at Release = omega arith
  most_at (Back give end) = let few = give_most give in omega (arith, few)
  most_at (Ended end) = omega arith

  most_in : events_in shape ≤ 29319
  most_in = by shape.segments
    where
      by : (n : ℕ) → 12936 + (min n most_segments - 1) ≤ 29319
      by n = omega arith

pub is_within_image : IsWithinImage
is_within_image op = most_at op.copied.whole.site.geometry op.step

pub most : (op : SplitOp) → left_of op ≤ 29319
most op = let low = is_within_image op in let all = most_in op.copied.whole.site.geometry in omega (arith, low, all)

-- ---- lines that wait
pub waiting_most : (s : SplitStep) → waiting_at s ≤ most_lines
waiting_most Take = omega arith
waiting_most (Search slot) = omega arith
waiting_most Count = omega arith
waiting_most (Return count) = omega arith
waiting_most (Look b) = omega arith
waiting_most (Put batch rounds) = most_wait rounds
waiting_most Release = omega arith
waiting_most (Back give end) = omega arith
waiting_most (Ended end) = omega arith

-- behind a batch none waits, and else those of the rounds
waits_by : (want : Option Want) (batch : Batch) (rounds : Rounds) → (want ≡ None → rounds_waiting rounds ≡ 0) → waiting_at (put_by want batch rounds) ≡ rounds_waiting rounds
waits_by (Some w) batch rounds none = refl
waits_by None (Empty i) rounds none = sym (none refl)
waits_by None (Link stored) rounds none = sym (none refl)
waits_by None (Mark stored) rounds none = sym (none refl)
waits_by None (New stored) rounds none = sym (none refl)
waits_by None (Copy i) rounds none = sym (none refl)

to_waits : (op : SplitOp) (batch : Batch) (rounds : Rounds) → waiting_at (put_to op batch rounds) ≡ rounds_waiting rounds
to_waits op batch rounds = waits_by (rounds_wanted rounds (due op.copied op.locks batch)) batch rounds (none_waits rounds (due op.copied op.locks batch))

-- ---- of the machine
module _ (op : SplitOp) (batch : Batch) (rounds : Rounds) (a : Ans) (i : IsAnswer (wanted_in op (Put batch rounds)) a) where
  abbrev coming : Option (ℕ × ℕ)
  coming = due op.copied op.locks batch

  q : IsAsked rounds coming a
  q = asked rounds coming a i

  leaves_waiting : waiting_at (next_in op (Put batch rounds) a).step ≡ rounds_waiting (rounds_taken rounds coming)
  leaves_waiting = ap (λ (x : Ans). waiting_at (next_in op (Put batch rounds) x).step) q.passed ∙ to_waits op (batch_after op batch rounds) (rounds_taken rounds coming)

  put_flushes : (l : ℕ) → wanted_in op (Put batch rounds) ≡ want.Flush l → rounds_waiting rounds + 1 ≤ waiting_at (next_in op (Put batch rounds) a).step
  put_flushes l f = event_flushes rounds coming q.few (waiting_at (next_in op (Put batch rounds) a).step) (λ w is. leaves_waiting) l f

  put_keeps : wanted_in op (Put batch rounds) ≢ want.Fence → rounds_waiting rounds ≤ waiting_at (next_in op (Put batch rounds) a).step
  put_keeps f = event_keeps rounds coming q.few (waiting_at (next_in op (Put batch rounds) a).step) (λ w is. leaves_waiting) f

module _ (op : SplitOp) where
  pub flushes : (s : SplitStep) (a : Ans) (l : ℕ) → IsAnswer (wanted_in op s) a → wanted_in op s ≡ want.Flush l → waiting_at s + 1 ≤ waiting_at (next_in op s a).step
  flushes (Put batch rounds) a l i f = put_flushes op batch rounds a i l f
  flushes Take a l i f = absurd (cc)
  flushes (Search slot) a l i f = absurd (cc)
  flushes Count a l i f = absurd (cc)
  flushes (Return count) a l i f = absurd (cc)
  flushes (Look b) a l i f = absurd (cc)
  flushes Release a l i f = absurd (cc)
  flushes (Back give end) a l i f = absurd (give_flushes op.copied.whole give l f)
  flushes (Ended end) a l i f = absurd (cc)

  pub keeps : (s : SplitStep) (a : Ans) → IsAnswer (wanted_in op s) a → wanted_in op s ≢ want.Fence → waiting_at s ≤ waiting_at (next_in op s a).step
  keeps (Put batch rounds) a i f = put_keeps op batch rounds a i f
  keeps Take a i f = omega arith
  keeps (Search slot) a i f = omega arith
  keeps Count a i f = omega arith
  keeps (Return count) a i f = omega arith
  keeps (Look b) a i f = omega arith
  keeps Release a i f = omega arith
  keeps (Back give end) a i f = omega arith
  keeps (Ended end) a i f = omega arith

-- where nothing is wanted none waits
pub ends_none : (op : SplitOp) (s : SplitStep) → wanted_in op s ≡ want.Done → waiting_at s ≡ 0
ends_none op (Put batch rounds) e = event_ends rounds (due op.copied op.locks batch) e
ends_none op Take e = refl
ends_none op (Search slot) e = refl
ends_none op Count e = refl
ends_none op (Return count) e = refl
ends_none op (Look b) e = refl
ends_none op Release e = refl
ends_none op (Back give end) e = refl
ends_none op (Ended end) e = refl
