-- Each answer of the kind that was asked for leaves a displacement fewer events.
use Rattle.std.proofs.Common.{◌≡◌, ℕ, ◌+◌, ◌%◌, ◌<◌, ◌≤◌, Option, Some, None, sym, subst, arith}
use Rattle.op_core.specs.declared.want.Ans.{Ans}
use Rattle.op_core.specs.declared.want.Ans.TheVariants.{Value, Drawn, Passed}
use Rattle.op_core.specs.Answers.{IsAnswer}
use Rattle.op_core.specs.declared.why.Why.TheVariants.{Busy, Moved}
use Rattle.image_layout.specs.Volatile.{counter_word}
use Rattle.map_model.specs.declared.entry.Reply.TheVariants as reply
use Rattle.phase.specs.declared.take.Take.{Take}
use Rattle.phase.specs.declared.take.Take.TheVariants.{Look, Try}
use Rattle.phase.specs.declared.take.Taken.{Taken}
use Rattle.phase.specs.declared.take.Taken.TheVariants as taking
use Rattle.phase.specs.declared.load.Load.{Load}
use Rattle.phase.specs.declared.load.Loaded.{Loaded}
use Rattle.phase.specs.declared.load.Loaded.TheVariants as loaded
use Rattle.phase.specs.declared.make.Made.{Made}
use Rattle.phase.specs.declared.make.Made.TheVariants as made
use Rattle.phase.specs.declared.held.Held.{Held}
use Rattle.phase.specs.declared.kept.Kept.{Kept}
use Rattle.phase.specs.Helds.{give_next, given}
use Rattle.phase.specs.Buckets.{with_words}
use Rattle.phase.specs.Takes.{take_taken}
use Rattle.phase.specs.Loads.{load_taken}
use Rattle.phase.specs.Makes.{make_taken}
use Rattle.phase.specs.Stands.{load_left, loaded_left}
use Rattle.phase.specs.Taking.{take_left, taken_left}
use Rattle.phase.specs.Making.{made_left}
use Rattle.phase.specs.Giving.{give_left}
use Rattle.phase.proofs.Loading.{load_falls}
use Rattle.phase.proofs.locks.Taking.{take_falls}
use Rattle.phase.proofs.locks.Making.{make_falls}
use Rattle.phase.proofs.locks.Giving.{give_falls}
use Rattle.phase.proofs.locks.Choosing.{by_step}
use Rattle.phase.proofs.Handing.{give_few}
use Rattle.phase.proofs.Wanting.{load_answered, make_answered, give_answered, make_bound}
use Rattle.phase.specs.declared.ending.Ending.{Ending}
use Rattle.phase.specs.declared.ending.Ending.TheVariants as ending
use Rattle.move_op.specs.declared.step.Direction.{Direction}
use Rattle.move_op.specs.declared.step.Direction.TheVariants.{Forward, Backward}
use Rattle.move_op.specs.declared.step.Shift.{Shift}
use Rattle.move_op.specs.declared.step.Leg.{Leg}
use Rattle.move_op.specs.declared.step.Leg.TheVariants.{Copy, Clear, Insert}
use Rattle.move_op.specs.declared.step.MoveStep.{MoveStep}
use Rattle.move_op.specs.declared.step.MoveStep.TheVariants.{Lock, Fill, CountSpent, Draw, Give, Ended}
use Rattle.move_op.specs.declared.step.MoveStep.TheVariants as step
use Rattle.move_op.specs.declared.op.MoveOp.{MoveOp}
use Rattle.move_op.specs.Shifts.{target_of, shift_in, record_of}
use Rattle.move_op.specs.Steps.{end_of, giving, give, locked_to, chosen, filled_with, filled_to, made_to, lock_of, lock_at, wanted_in, next_in, wanted, taken}
use Rattle.move_op.specs.Left.{left_at, left_behind, left_behind_lock, left_behind_leg, most_events}

abbrev left_of : MoveOp → ℕ
left_of op = left_at op.step

-- ---- locks back
giving_most : (held : Held) (end : Ending) → left_at (giving held end) ≤ give_left held
giving_most held end = by_step (λ (s : MoveStep). left_at s ≤ give_left held) held (Give held end) (Ended (end_of end)) (omega arith) (omega arith)

give_most : (kept : Kept) (end : Ending) → left_of (give kept end) ≤ 6
give_most kept end = let most = giving_most kept.held end in let few = give_few kept.held in omega (arith, most, few)

-- ---- a lock
some_left : (direction : Direction) → (7 ≤ left_behind_lock direction) × (left_behind direction + 31 ≤ left_behind_lock direction)
some_left Forward = (omega arith, omega arith)
some_left Backward = (omega arith, omega arith)

taken_most : (kept : Kept) (direction : Direction) (lock : ℕ) (x : Taken) → left_of (locked_to kept direction lock x) ≤ left_behind_lock direction + taken_left x
taken_most kept direction lock (taking.On take) = omega arith
taken_most kept direction lock (taking.Held free) = let some = (some_left direction).1 in omega (arith, some)
taken_most kept direction lock (taking.Busy value) = let few = give_most kept (ending.Again (Busy lock value)) in let some = (some_left direction).0 in omega (arith, few, some)
taken_most kept direction lock (taking.Moved before after) = let few = give_most kept (ending.Again (Moved lock before after)) in let some = (some_left direction).0 in omega (arith, few, some)
taken_most kept direction lock taking.Spent = let some = (some_left direction).0 in omega (arith, some)

-- ---- a bucket
chosen_most : (direction : Direction) (shift : Option Shift) → left_at (chosen direction shift) ≤ left_behind direction
chosen_most Forward (Some shift) = omega arith
chosen_most Backward (Some shift) = omega arith
chosen_most Forward None = omega arith
chosen_most Backward None = omega arith

loaded_most : (kept : Kept) (direction : Direction) (x : Loaded) → left_of (filled_to kept direction x) ≤ left_behind direction + loaded_left x
loaded_most kept direction (loaded.On load) = omega arith
loaded_most kept direction (loaded.All words) =
    let put : Kept = record kept { buckets = with_words (target_of direction) words kept.buckets } in
    let most : left_of (filled_with kept direction words) ≤ left_behind direction = chosen_most direction (shift_in put direction) in omega (arith, most)

-- ---- stores
made_most : (shift : Shift) (leg : Leg) (x : Made) → left_at (made_to shift leg x) ≤ left_behind_leg leg + made_left x
made_most shift leg (made.On make) = omega arith
made_most shift Copy made.Settled = omega arith
made_most shift Clear made.Settled = omega arith
made_most shift Insert made.Settled = omega arith

-- ---- each event
module _ (kept : Kept) where
  -- for an answer that is known
  for_value : (s : MoveStep) → ((n : ℕ) → left_of (next_in kept s (Value n)) < left_at s) → (a : Ans) → (n : ℕ) × (a ≡ Value n) → left_of (next_in kept s a) < left_at s
  for_value s f a is = subst (λ b. left_of (next_in kept s b) < left_at s) (sym is.1) (f is.0)

  for_passed : (s : MoveStep) → left_of (next_in kept s Passed) < left_at s → (a : Ans) → a ≡ Passed → left_of (next_in kept s a) < left_at s
  for_passed s f a is = subst (λ b. left_of (next_in kept s b) < left_at s) (sym is) f

  falls_in : (s : MoveStep) (a : Ans) → IsAnswer (wanted_in kept s) a → left_of (next_in kept s a) < left_at s
  falls_in (Lock direction take) a is =
      let most = taken_most kept direction (lock_of kept (target_of direction)) (take_taken take a) in let low = take_falls (lock_of kept (target_of direction)) take a is in omega (arith, most, low)
  falls_in (Fill direction load) a is = for_value (Fill direction load)
      (λ n. let most = loaded_most kept direction (load_taken load n) in let low = load_falls load n in omega (arith, most, low))
      a (load_answered (lock_of kept (target_of direction) + load.next % 32) a is)
  falls_in CountSpent a is = for_value CountSpent (λ n. let few = give_most kept (ending.Replied reply.Spent n) in omega (arith, few)) a (load_answered (counter_word kept.site.geometry) a is)
  falls_in (step.Make shift leg m) a is = for_passed (step.Make shift leg m)
      (let most = made_most shift leg (make_taken (record_of shift leg).slot m) in let low = make_falls (record_of shift leg).slot m in omega (arith, most, low))
      a (make_answered (lock_at kept shift leg) (record_of shift leg) m a is)
  falls_in (Draw shift) (Drawn n) is = let few = give_most kept (ending.Replied reply.Done n) in omega (arith, few)
  falls_in (Draw shift) a is = absurd is
  falls_in (Give held end) a is = for_passed (Give held end)
      (let most = giving_most (given held) end in
      let low = give_falls kept.site kept.hash kept.segment held (λ e. absurd (subst (λ w. IsAnswer w a) e is)) in omega (arith, most, low))
      a (give_answered kept.site kept.hash kept.segment (give_next held) a is)
  falls_in (Ended end) a is = absurd is

pub move_falls : (op : MoveOp) (a : Ans) → IsAnswer (wanted op) a → left_at (taken op a).step < left_at op.step
move_falls op a is = falls_in op.kept op.step a is

-- ---- and never more than so many are left
take_bound : (direction : Direction) (t : Take) → left_behind_lock direction + take_left t ≤ 94
take_bound Forward Look = omega arith
take_bound Forward (Try free) = omega arith
take_bound Backward Look = omega arith
take_bound Backward (Try free) = omega arith

fill_bound : (direction : Direction) (load : Load) → left_behind direction + load_left load ≤ 93
fill_bound Forward load = omega arith
fill_bound Backward load = omega arith

leg_bound : (leg : Leg) → left_behind_leg leg ≤ 19
leg_bound Copy = omega arith
leg_bound Clear = omega arith
leg_bound Insert = omega arith

pub most_at : (s : MoveStep) → left_at s ≤ most_events
most_at (Lock direction t) = let b = take_bound direction t in omega (arith, b)
most_at (Fill direction load) = let b = fill_bound direction load in omega (arith, b)
most_at CountSpent = omega arith
most_at (step.Make shift leg m) = let b = make_bound m in let c = leg_bound leg in omega (arith, b, c)
most_at (Draw shift) = omega arith
most_at (Give held end) = let few = give_few held in omega (arith, few)
most_at (Ended end) = omega arith
