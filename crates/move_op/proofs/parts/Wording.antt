-- What a displacement keeps are words, at each step; and its insert stays the same.
use Rattle.std.proofs.Common.{◌≡◌, ℕ, Option, Some, None, refl}
use Rattle.op_core.specs.declared.want.Ans.{Ans}
use Rattle.op_core.specs.declared.want.Ans.TheVariants.{Value, Passed, Drawn}
use Rattle.op_core.specs.Answers.{IsWord}
use Rattle.phase.specs.declared.role.Role.{Role}
use Rattle.phase.specs.declared.take.Taken.{Taken}
use Rattle.phase.specs.declared.take.Taken.TheVariants as taking
use Rattle.phase.specs.declared.load.Loaded.{Loaded}
use Rattle.phase.specs.declared.load.Loaded.TheVariants as loaded
use Rattle.phase.specs.declared.make.Made.{Made}
use Rattle.phase.specs.declared.make.Made.TheVariants as made
use Rattle.phase.specs.declared.held.Held.{Held}
use Rattle.phase.specs.declared.kept.Kept.{Kept}
use Rattle.phase.specs.AreWords.{AreWords}
use Rattle.phase.specs.Helds.{given}
use Rattle.phase.specs.Takes.{take_taken}
use Rattle.phase.specs.Loads.{load_taken}
use Rattle.phase.specs.Makes.{make_taken}
use Rattle.phase.specs.Buckets.{with_words, words_in}
use Rattle.phase.proofs.Wording.{none_words, AreLoaded, load_words, put_words}
use Rattle.phase.proofs.locks.Choosing.{by_step}
use Rattle.phase.specs.declared.ending.Ending.{Ending}
use Rattle.move_op.specs.declared.step.Direction.{Direction}
use Rattle.move_op.specs.declared.step.Direction.TheVariants.{Forward, Backward}
use Rattle.move_op.specs.declared.step.Shift.{Shift}
use Rattle.move_op.specs.declared.step.Leg.{Leg}
use Rattle.move_op.specs.declared.step.Leg.TheVariants.{Copy, Clear, Insert}
use Rattle.move_op.specs.declared.step.MoveStep.{MoveStep}
use Rattle.move_op.specs.declared.step.MoveStep.TheVariants.{Lock, Fill, CountSpent, Draw, Give, Ended}
use Rattle.move_op.specs.declared.step.MoveStep.TheVariants as step
use Rattle.move_op.specs.declared.op.MoveOp.{MoveOp}
use Rattle.move_op.specs.Shifts.{target_of, shift_in, record_of}
use Rattle.move_op.specs.Steps.{end_of, giving, give, locked_to, chosen, filled_to, made_to, lock_of, next_in}
use Rattle.move_op.specs.Fits.{HasWordsAt}

abbrev Words : MoveOp → Type 0
Words op = ((p : Role) → AreWords (words_in op.kept.buckets p)) × HasWordsAt op.step

giving_words : (held : Held) (end : Ending) → HasWordsAt (giving held end)
giving_words held end = by_step HasWordsAt held (Give held end) (Ended (end_of end)) tt tt

chosen_words : (d : Direction) (o : Option Shift) → HasWordsAt (chosen d o)
chosen_words d (Some shift) = tt
chosen_words Forward None = tt
chosen_words Backward None = tt

made_words : (shift : Shift) (leg : Leg) (x : Made) → HasWordsAt (made_to shift leg x)
made_words shift leg (made.On m) = tt
made_words shift Copy made.Settled = tt
made_words shift Clear made.Settled = tt
made_words shift Insert made.Settled = tt

module _ (kept : Kept) (all : (p : Role) → AreWords (words_in kept.buckets p)) where
  give_words : (end : Ending) → Words (give kept end)
  give_words end = (all, giving_words kept.held end)

  taken_words : (d : Direction) (lock : ℕ) (x : Taken) → Words (locked_to kept d lock x)
  taken_words d lock (taking.On take) = (all, tt)
  taken_words d lock (taking.Held free) = (all, none_words)
  taken_words d lock (taking.Busy value) = give_words _
  taken_words d lock (taking.Moved before after) = give_words _
  taken_words d lock taking.Spent = (all, tt)

  filled_words : (d : Direction) (x : Loaded) → AreLoaded x → Words (filled_to kept d x)
  filled_words d (loaded.On load) a = (all, a)
  filled_words d (loaded.All words) a = (put_words kept.buckets (target_of d) words a all, chosen_words d (shift_in (record kept { buckets = with_words (target_of d) words kept.buckets }) d))

  -- an answer that is a word leaves words
  pub words_after : (s : MoveStep) (a : Ans) → IsWord a → HasWordsAt s → Words (next_in kept s a)
  words_after (Lock d take) a small has = taken_words d (lock_of kept (target_of d)) (take_taken take a)
  words_after (Fill d load) (Value n) small has = filled_words d (load_taken load n) (load_words load n small has)
  words_after CountSpent (Value n) small has = give_words _
  words_after (step.Make shift leg m) Passed small has = (all, made_words shift leg (make_taken (record_of shift leg).slot m))
  words_after (Draw shift) (Drawn n) small has = give_words _
  words_after (Give held end) Passed small has = (all, giving_words (given held) end)
  words_after s a small has = (all, has)

-- ---- the insert, and where it runs
module _ (kept : Kept) where
  abbrev pub Same : MoveOp → Type 0
  Same op = (op.kept.change ≡ kept.change) × (op.kept.site ≡ kept.site)

  taken_same : (d : Direction) (lock : ℕ) (x : Taken) → Same (locked_to kept d lock x)
  taken_same d lock (taking.On take) = (refl, refl)
  taken_same d lock (taking.Held free) = (refl, refl)
  taken_same d lock (taking.Busy value) = (refl, refl)
  taken_same d lock (taking.Moved before after) = (refl, refl)
  taken_same d lock taking.Spent = (refl, refl)

  filled_same : (d : Direction) (x : Loaded) → Same (filled_to kept d x)
  filled_same d (loaded.On load) = (refl, refl)
  filled_same d (loaded.All words) = (refl, refl)

  pub same_after : (s : MoveStep) (a : Ans) → Same (next_in kept s a)
  same_after (Lock d take) a = taken_same d (lock_of kept (target_of d)) (take_taken take a)
  same_after (Fill d load) (Value n) = filled_same d (load_taken load n)
  same_after CountSpent (Value n) = (refl, refl)
  same_after (step.Make shift leg m) Passed = (refl, refl)
  same_after (Draw shift) (Drawn n) = (refl, refl)
  same_after (Give held end) Passed = (refl, refl)
  same_after s a = (refl, refl)
