-- What is kept and loaded are words.
use Rattle.std.proofs.Common.{ℕ, ◌+◌, Bool, true, false, Option, Some, None, List, slice_set}
use Rattle.std.specs.Prelude.{nat_lt, if◌then◌else◌}
use Rattle.op_core.specs.declared.want.Ans.{Ans}
use Rattle.op_core.specs.declared.want.Ans.TheVariants.{Value, Passed, Drawn}
use Rattle.op_core.specs.Answers.{IsWord}
use Rattle.phase.specs.declared.role.Role.{Role}
use Rattle.phase.specs.declared.take.Taken.{Taken}
use Rattle.phase.specs.declared.take.Taken.TheVariants as taking
use Rattle.phase.specs.declared.load.Load.{Load}
use Rattle.phase.specs.declared.load.Loaded.TheVariants as loaded
use Rattle.phase.specs.declared.make.Made.{Made}
use Rattle.phase.specs.declared.make.Made.TheVariants as made
use Rattle.phase.specs.declared.held.Held.{Held}
use Rattle.phase.specs.declared.kept.Kept.{Kept}
use Rattle.phase.specs.Helds.{given}
use Rattle.phase.specs.Takes.{take_taken}
use Rattle.phase.specs.Makes.{make_taken}
use Rattle.phase.specs.Buckets.{words_in}
use Rattle.phase.specs.AreWords.{AreWords}
use Rattle.phase.proofs.Wording.{none_words, set_words, put_words}
use Rattle.stash_op.specs.declared.step.StashBucket.{StashBucket}
use Rattle.stash_op.specs.declared.step.StashBucket.TheVariants.{First, Second}
use Rattle.stash_op.specs.declared.step.Seen.{Seen}
use Rattle.phase.specs.declared.ending.Ending.{Ending}
use Rattle.phase.specs.declared.note.NoteWord.{NoteWord}
use Rattle.phase.specs.declared.note.NoteWord.TheVariants.{Mark, Fingers}
use Rattle.phase.proofs.locks.Choosing.{by_both, by_step}
use Rattle.stash_op.specs.declared.step.StashStep.{StashStep}
use Rattle.stash_op.specs.declared.step.StashStep.TheVariants.{Lock, Fill, Note, Draw, CountSpent, Give, Ended}
use Rattle.stash_op.specs.declared.step.StashStep.TheVariants as step
use Rattle.stash_op.specs.declared.step.Stage.{Stage}
use Rattle.stash_op.specs.Search.{place_of, free_slot, noted, has_finger}
use Rattle.stash_op.specs.Steps.{go, end_of, giving, give, in_second, at_second, in_first, at_first, searched, put_in, filled_with, filled_to, locked_to, lock_of, made_to, noted_to, next_in}
use Rattle.stash_op.specs.Fits.{HasWordsAt}

abbrev pub Words : Stage → Type 0
Words st = ((p : Role) → AreWords (words_in st.seen.buckets p)) × HasWordsAt st.step

giving_words : (held : Held) (end : Ending) → HasWordsAt (giving held end)
giving_words held end = by_step HasWordsAt held (Give held end) (Ended (end_of end)) tt tt

module _ (kept : Kept) (seen : Seen) (all : (p : Role) → AreWords (words_in seen.buckets p)) where
  give_words : (end : Ending) → Words (give seen end)
  give_words end = (all, giving_words seen.held end)

  second_words : (slot : Option ℕ) → Words (in_second kept seen slot)
  second_words (Some slot) = (all, tt)
  second_words None = (all, tt)

  at_second_words : (lock : Option ℕ) → Words (at_second kept seen lock)
  at_second_words (Some free) = second_words (free_slot seen.buckets Second)
  at_second_words None = (all, tt)

  first_words : (slot : Option ℕ) → Words (in_first kept seen slot)
  first_words (Some slot) = (all, tt)
  first_words None = at_second_words seen.held.second

  pub at_first_words : (lock : Option ℕ) → Words (at_first kept seen lock)
  at_first_words (Some free) = first_words (free_slot seen.buckets First)
  at_first_words None = (all, tt)

  searched_words : (b : StashBucket) → Words (searched kept seen b)
  searched_words First = first_words (free_slot seen.buckets First)
  searched_words Second = second_words (free_slot seen.buckets Second)

  taken_words : (b : StashBucket) (lock : ℕ) (x : Taken) → Words (locked_to seen b lock x)
  taken_words b lock (taking.On take) = (all, tt)
  taken_words b lock (taking.Held free) = (all, none_words)
  taken_words b lock (taking.Busy value) = give_words _
  taken_words b lock (taking.Moved before after) = give_words _
  taken_words b lock taking.Spent = (all, tt)

module _ (kept : Kept) (seen : Seen) (all : (p : Role) → AreWords (words_in seen.buckets p)) where
  filled_words : (b : StashBucket) (words : List ℕ) → AreWords words → Words (filled_with kept seen b words)
  filled_words b words a = searched_words kept (put_in seen b words) (put_words seen.buckets (place_of b) words a all) b

  load_by : (b : StashBucket) (load : Load) (n : ℕ) → AreWords (slice_set load.words load.next n) → (more : Bool)
      → Words (filled_to kept seen b (if more then loaded.On (record { words = slice_set load.words load.next n; next = load.next + 1 }) else loaded.All (slice_set load.words load.next n)))
  load_by b load n a true = (all, a)
  load_by b load n a false = filled_words b (slice_set load.words load.next n) a

  made_words : (x : Made) → Words (made_to seen x)
  made_words (made.On m) = (all, tt)
  made_words made.Settled = (all, tt)

  noted_words : (part : NoteWord) → Words (noted_to kept.hash seen part)
  noted_words Mark = by_both Words (has_finger seen (noted kept.hash seen)) (go seen (Note Fingers)) (go seen Draw) (all, tt) (all, tt)
  noted_words Fingers = (all, tt)

  -- an answer that is a word leaves words
  pub words_after : (s : StashStep) (a : Ans) → IsWord a → HasWordsAt s → Words (next_in kept seen s a)
  words_after (Lock b take) a small has = taken_words kept seen all b (lock_of kept (place_of b)) (take_taken take a)
  words_after (Fill b load) (Value n) small has = load_by b load n (set_words load.words load.next n small has) (nat_lt load.next 31)
  words_after (step.Make m) Passed small has = made_words (make_taken seen.written.slot m)
  words_after (Note part) Passed small has = noted_words part
  words_after Draw (Drawn n) small has = give_words kept seen all _
  words_after CountSpent (Value n) small has = give_words kept seen all _
  words_after (Give held end) Passed small has = (all, giving_words (given held) end)
  words_after s a small has = (all, has)
