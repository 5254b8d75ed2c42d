-- Each answer of the kind that was asked for leaves fewer events.
use Rattle.std.proofs.Common.{◌≡◌, ℕ, ◌+◌, ◌%◌, ◌<◌, ◌≤◌, Option, Some, None, sym, subst, arith}
use Rattle.op_core.specs.declared.want.Ans.{Ans}
use Rattle.op_core.specs.declared.want.Ans.TheVariants.{Value, Drawn, Passed}
use Rattle.op_core.specs.Answers.{IsAnswer}
use Rattle.op_core.specs.declared.why.Why.TheVariants.{Busy, Moved}
use Rattle.image_layout.specs.Volatile.{counter_word}
use Rattle.map_model.specs.declared.entry.Reply.{Reply}
use Rattle.map_model.specs.declared.entry.Reply.TheVariants as reply
use Rattle.phase.specs.declared.take.Take.{Take}
use Rattle.phase.specs.declared.take.Take.TheVariants.{Look, Try}
use Rattle.phase.specs.declared.take.Taken.{Taken}
use Rattle.phase.specs.declared.take.Taken.TheVariants as taking
use Rattle.phase.specs.declared.load.Load.{Load}
use Rattle.phase.specs.declared.load.Loaded.{Loaded}
use Rattle.phase.specs.declared.load.Loaded.TheVariants as loaded
use Rattle.phase.specs.declared.make.Made.{Made}
use Rattle.phase.specs.declared.make.Made.TheVariants as made
use Rattle.phase.specs.declared.held.Held.{Held}
use Rattle.phase.specs.declared.kept.Kept.{Kept}
use Rattle.phase.specs.Helds.{give_next, given}
use Rattle.phase.specs.Takes.{take_taken}
use Rattle.phase.specs.Loads.{load_taken}
use Rattle.phase.specs.Makes.{make_taken}
use Rattle.phase.specs.Stands.{load_left, loaded_left}
use Rattle.phase.specs.Taking.{take_left, taken_left}
use Rattle.phase.specs.Making.{made_left}
use Rattle.phase.specs.Giving.{give_left}
use Rattle.phase.proofs.Handing.{give_few}
use Rattle.phase.proofs.Loading.{load_falls}
use Rattle.phase.proofs.locks.Taking.{take_falls}
use Rattle.phase.proofs.locks.Making.{make_falls}
use Rattle.phase.proofs.locks.Giving.{give_falls}
use Rattle.phase.proofs.Wanting.{load_answered, store_answered, make_answered, give_answered, make_bound}
use Rattle.stash_op.specs.declared.step.StashBucket.{StashBucket}
use Rattle.stash_op.specs.declared.step.StashBucket.TheVariants.{First, Second}
use Rattle.stash_op.specs.declared.step.Seen.{Seen}
use Rattle.phase.specs.declared.ending.Ending.{Ending}
use Rattle.phase.specs.declared.ending.Ending.TheVariants as ending
use Rattle.stash_op.specs.declared.step.NoteWords.{NoteWords}
use Rattle.phase.specs.declared.note.NoteWord.{NoteWord}
use Rattle.phase.specs.declared.note.NoteWord.TheVariants.{Mark, Fingers}
use Rattle.phase.proofs.locks.Choosing.{by_both, by_step}
use Rattle.stash_op.specs.declared.step.StashStep.{StashStep}
use Rattle.stash_op.specs.declared.step.StashStep.TheVariants.{Lock, Fill, Note, Draw, CountSpent, Give, Ended}
use Rattle.stash_op.specs.declared.step.StashStep.TheVariants as step
use Rattle.stash_op.specs.declared.step.Stage.{Stage}
use Rattle.stash_op.specs.declared.op.StashOp.{StashOp}
use Rattle.stash_op.specs.Search.{place_of, note_place, free_slot, noted, has_finger}
use Rattle.stash_op.specs.Steps.{go, end_of, giving, give, answered, in_second, at_second, in_first, searched, put_in, filled_with, filled_to, locked_to, made_to, noted_to, lock_of, note_wanted, wanted_in, next_in, wanted, taken}
use Rattle.stash_op.specs.Left.{left_at, left_behind, left_behind_lock, left_of_note, most_events}

abbrev left_of : Stage → ℕ
left_of s = left_at s.step

-- ---- locks back
giving_most : (held : Held) (end : Ending) → left_at (giving held end) ≤ give_left held
giving_most held end = by_step (λ (s : StashStep). left_at s ≤ give_left held) held (Give held end) (Ended (end_of end)) (omega arith) (omega arith)

give_most : (seen : Seen) (end : Ending) → left_of (give seen end) ≤ 6
give_most seen end = let most = giving_most seen.held end in let few = give_few seen.held in omega (arith, most, few)

answered_most : (seen : Seen) (place : ℕ) (answer : Reply) → left_of (answered seen place answer) ≤ 6
answered_most seen place answer = give_most seen (ending.Replied answer place)

-- ---- a free slot
second_most : (kept : Kept) (seen : Seen) (slot : Option ℕ) → left_of (in_second kept seen slot) ≤ 18
second_most kept seen (Some slot) = omega arith
second_most kept seen None = omega arith

at_second_most : (kept : Kept) (seen : Seen) (lock : Option ℕ) → left_of (at_second kept seen lock) ≤ 51
at_second_most kept seen (Some free) = let most = second_most kept seen (free_slot seen.buckets Second) in omega (arith, most)
at_second_most kept seen None = omega arith

first_most : (kept : Kept) (seen : Seen) (slot : Option ℕ) → left_of (in_first kept seen slot) ≤ 51
first_most kept seen (Some slot) = omega arith
first_most kept seen None = at_second_most kept seen seen.held.second

searched_most : (kept : Kept) (seen : Seen) (bucket : StashBucket) → left_of (searched kept seen bucket) ≤ left_behind bucket
searched_most kept seen First = first_most kept seen (free_slot seen.buckets First)
searched_most kept seen Second = second_most kept seen (free_slot seen.buckets Second)

loaded_most : (kept : Kept) (seen : Seen) (bucket : StashBucket) (x : Loaded) → left_of (filled_to kept seen bucket x) ≤ left_behind bucket + loaded_left x
loaded_most kept seen bucket (loaded.On load) = omega arith
loaded_most kept seen bucket (loaded.All words) = let most : left_of (filled_with kept seen bucket words) ≤ left_behind bucket = searched_most kept (put_in seen bucket words) bucket in omega (arith, most)

-- ---- locks
locked_most : (bucket : StashBucket) → left_behind bucket + 31 ≤ left_behind_lock bucket
locked_most First = omega arith
locked_most Second = omega arith

some_left : (bucket : StashBucket) → 7 ≤ left_behind_lock bucket
some_left First = omega arith
some_left Second = omega arith

taken_most : (seen : Seen) (bucket : StashBucket) (lock : ℕ) (x : Taken) → left_of (locked_to seen bucket lock x) ≤ left_behind_lock bucket + taken_left x
taken_most seen bucket lock (taking.On take) = omega arith
taken_most seen bucket lock (taking.Held free) = let most = locked_most bucket in omega (arith, most)
taken_most seen bucket lock (taking.Busy value) = let few = give_most seen (ending.Again (Busy lock value)) in let some = some_left bucket in omega (arith, few, some)
taken_most seen bucket lock (taking.Moved before after) = let few = give_most seen (ending.Again (Moved lock before after)) in let some = some_left bucket in omega (arith, few, some)
taken_most seen bucket lock taking.Spent = let some = some_left bucket in omega (arith, some)

-- ---- stores, and the note
made_most : (seen : Seen) (x : Made) → left_of (made_to seen x) ≤ 9 + made_left x
made_most seen (made.On make) = omega arith
made_most seen made.Settled = omega arith

noted_most : (hash : ℕ) (seen : Seen) → left_of (noted_to hash seen Mark) ≤ 8
noted_most hash seen = by_both (λ (s : Stage). left_of s ≤ 8) (has_finger seen (noted hash seen)) (go seen (Note Fingers)) (go seen Draw) (omega arith) (omega arith)

-- ---- each event
note_answer : (kept : Kept) (part : NoteWord) (note : NoteWords) (a : Ans) → IsAnswer (note_wanted kept part note) a → a ≡ Passed
note_answer kept Mark note a is = store_answered (lock_of kept (note_place note.bucket) + 1) note.mark a is
note_answer kept Fingers note a is = store_answered (lock_of kept (note_place note.bucket) + 3) note.fingers a is

module _ (kept : Kept) (seen : Seen) where
  -- for an answer that is known
  for_value : (s : StashStep) → ((n : ℕ) → left_of (next_in kept seen s (Value n)) < left_at s) → (a : Ans) → (n : ℕ) × (a ≡ Value n) → left_of (next_in kept seen s a) < left_at s
  for_value s f a is = subst (λ b. left_of (next_in kept seen s b) < left_at s) (sym is.1) (f is.0)

  for_passed : (s : StashStep) → left_of (next_in kept seen s Passed) < left_at s → (a : Ans) → a ≡ Passed → left_of (next_in kept seen s a) < left_at s
  for_passed s f a is = subst (λ b. left_of (next_in kept seen s b) < left_at s) (sym is) f

  note_falls : (part : NoteWord) → left_of (next_in kept seen (Note part) Passed) < left_at (Note part)
  note_falls Mark = let most = noted_most kept.hash seen in omega (arith, most)
  note_falls Fingers = omega arith

  falls_in : (s : StashStep) (a : Ans) → IsAnswer (wanted_in kept seen s) a → left_of (next_in kept seen s a) < left_at s
  falls_in (Lock bucket take) a is =
      let most = taken_most seen bucket (lock_of kept (place_of bucket)) (take_taken take a) in let low = take_falls (lock_of kept (place_of bucket)) take a is in omega (arith, most, low)
  falls_in (Fill bucket load) a is = for_value (Fill bucket load)
      (λ n. let most = loaded_most kept seen bucket (load_taken load n) in let low = load_falls load n in omega (arith, most, low))
      a (load_answered (lock_of kept (place_of bucket) + load.next % 32) a is)
  falls_in (step.Make m) a is = for_passed (step.Make m)
      (let most = made_most seen (make_taken seen.written.slot m) in let low = make_falls seen.written.slot m in omega (arith, most, low))
      a (make_answered (lock_of kept (place_of seen.bucket)) seen.written m a is)
  falls_in (Note part) a is = for_passed (Note part) (note_falls part) a (note_answer kept part (noted kept.hash seen) a is)
  falls_in Draw (Drawn n) is = let few = answered_most seen n reply.Done in omega (arith, few)
  falls_in Draw a is = absurd is
  falls_in CountSpent a is = for_value CountSpent (λ n. let few = answered_most seen n reply.Spent in omega (arith, few)) a (load_answered (counter_word kept.site.geometry) a is)
  falls_in (Give held end) a is = for_passed (Give held end)
      (let most = giving_most (given held) end in
      let low = give_falls kept.site kept.hash kept.segment held (λ e. absurd (subst (λ w. IsAnswer w a) e is)) in omega (arith, most, low))
      a (give_answered kept.site kept.hash kept.segment (give_next held) a is)
  falls_in (Ended end) a is = absurd is

pub stash_falls : (op : StashOp) (a : Ans) → IsAnswer (wanted op) a → left_at (taken op a).stage.step < left_at op.stage.step
stash_falls op a is = falls_in op.kept op.stage.seen op.stage.step a is

-- ---- and never more than so many are left
take_bound : (bucket : StashBucket) (t : Take) → left_behind_lock bucket + take_left t ≤ 84
take_bound First Look = omega arith
take_bound First (Try free) = omega arith
take_bound Second Look = omega arith
take_bound Second (Try free) = omega arith

fill_bound : (bucket : StashBucket) (load : Load) → left_behind bucket + load_left load ≤ 83
fill_bound First load = omega arith
fill_bound Second load = omega arith

note_bound : (part : NoteWord) → left_of_note part ≤ 9
note_bound Mark = omega arith
note_bound Fingers = omega arith

pub most_at : (s : StashStep) → left_at s ≤ most_events
most_at (Lock bucket t) = let b = take_bound bucket t in omega (arith, b)
most_at (Fill bucket load) = let b = fill_bound bucket load in omega (arith, b)
most_at (step.Make m) = let b = make_bound m in omega (arith, b)
most_at (Note part) = let b = note_bound part in omega (arith, b)
most_at Draw = omega arith
most_at CountSpent = omega arith
most_at (Give held end) = let few = give_few held in omega (arith, few)
most_at (Ended end) = omega arith
