-- THE STEPS, one by one: what an answer makes of each is suited, and each may be taken.
use Rattle.std.proofs.Common.{◌≡◌, ◌≢◌, ℕ, ◌^◌, ◌<◌, List, inl, refl, sym, subst, arith}
use Rattle.op_core.specs.declared.want.Want.TheVariants as want
use Rattle.op_core.specs.declared.want.Ans.{Ans}
use Rattle.op_core.specs.declared.want.Ans.TheVariants.{Passed}
use Rattle.hash_word.specs.Hash.{home_of}
use Rattle.trace.specs.Events.{Words}
use Rattle.image_layout.specs.Places.{bucket_at}
use Rattle.map_model.specs.declared.entry.Reply.TheVariants as reply
use Rattle.map_model.specs.Changes.{call_of}
use Rattle.world.specs.Ground.{Ground}
use Rattle.world.specs.Views.{Owed, View, At, Has, HasLock}
use Rattle.world.specs.Wants.{answer_to, word_of}
use Rattle.world.specs.Kinds.{pins, view_after}
use Rattle.world.specs.Conditions.{May}
use Rattle.world.specs.Invariant.{Holds}
use Rattle.world.specs.Attempts.{EntersReply}
use Rattle.phase.specs.declared.role.Role.{Role}
use Rattle.phase.specs.declared.role.Role.TheVariants.{Home}
use Rattle.phase.specs.declared.make.Make.{Make}
use Rattle.phase.specs.declared.make.Make.TheVariants.{Key, Value as ValueOf, Fingers as FingersOf, FlushFingers, FlushRecord, FenceRecord, Publish, FlushPublished, FencePublished}
use Rattle.phase.specs.Helds.{give_next}
use Rattle.phase.specs.Buckets.{words_in}
use Rattle.phase.specs.Making.{make_kind}
use Rattle.phase.proofs.Walking.{walk_may}
use Rattle.phase.proofs.Backing.{back_may}
use Rattle.phase.proofs.Wanting.{make_answer}
use Rattle.phase.proofs.locks.Taking.{take_fits}
use Rattle.phase.proofs.locks.Giving.{bucket_near, lock_at, known_lock, held_has, give_stands}
use Rattle.write_op.specs.declared.search.NoteWords.{NoteWords}
use Rattle.write_op.specs.declared.step.Task.{Task}
use Rattle.write_op.specs.declared.step.Seen.{Seen}
use Rattle.phase.specs.declared.note.NoteWord.{NoteWord}
use Rattle.phase.specs.declared.note.NoteWord.TheVariants.{Mark, Fingers}
use Rattle.write_op.specs.declared.step.WriteStep.{WriteStep}
use Rattle.write_op.specs.declared.step.WriteStep.TheVariants.{Way, Lock, Check, Fill, Count, Draw, Unnote, CountSpent, Give, Ended}
use Rattle.write_op.specs.declared.step.WriteStep.TheVariants as step
use Rattle.write_op.specs.Search.{unnoted}
use Rattle.write_op.specs.Steps.{lock_of, note_wanted, wanted_in, next_in}
use Rattle.phase.specs.AreWords.{AreWords}
use Rattle.write_op.specs.Fits.{owed, publish_kind, kind_at, HasLoaded, IsChanging, SuitsStep, IsIn}
use Rattle.write_op.proofs.keeping.Going.{located}
use Rattle.write_op.proofs.keeping.Entering.{reply_at}
use Rattle.write_op.proofs.keeping.Counting.{Goes, refused, count_goes}
use Rattle.write_op.proofs.keeping.Storing.{make_goes}
use Rattle.write_op.proofs.keeping.Drawing.{draw_goes}
use Rattle.write_op.proofs.keeping.Repaying.{unnote_goes}
use Rattle.write_op.proofs.permitting.Permitting.{spent_may, count_may}
use Rattle.write_op.proofs.permitting.Publishing.{other_may, publish_may}
use Rattle.write_op.proofs.permitting.Drawn.{draw_may}
use Rattle.write_op.proofs.permitting.Unnoting.{unnote_may}
use Rattle.phase.proofs.Handing.{give_answer}
use Rattle.write_op.proofs.keeping.Stepping.{walk_answer, way_goes, back_goes, fill_guard, fill_goes, lock_goes, give_goes}

note_answer : (task : Task) (seen : Seen) (part : NoteWord) (note : NoteWords) (n : ℕ) → answer_to (note_wanted task seen part note) n ≡ Passed
note_answer task seen Mark note n = refl
note_answer task seen Fingers note n = refl

module _ (site : Ground) (task : Task) (is : IsIn site task) (words : Words) (views : List View) (j : ℕ) (before v : View) (h : Holds site words views) (at : At views j v) (some : 0 < v.callers) (seen : Seen)
    (small : (place : Role) → AreWords (words_in seen.buckets place)) where
  pub step_in : (s : WriteStep) (n : ℕ) → n < 2 ^ 64 → n ≡ words (word_of site.shape (wanted_in task seen s)) → SuitsStep site task seen s v
      → EntersReply (call_of task.change) (reply_at s) before v → wanted_in task seen s ≢ want.Done
      → Goes site task before (next_in task seen s (answer_to (wanted_in task seen s) n)) (view_after site.shape (kind_at task seen s n) n v)
  step_in (Way w) n low found suits enters asks = subst (λ (a : Ans). Goes site task before (next_in task seen (Way w) a) (view_after site.shape (kind_at task seen (Way w) n) n v)) (sym (walk_answer task.site task.hash w n))
      (way_goes site task is words views j before v h at some seen w n found suits enters)
  step_in (Lock place t) n low found suits enters asks = lock_goes site task is words views j before v h at some seen place t n low suits enters
  step_in (Check back) n low found suits enters asks = back_goes site task is words views j before v h at some seen back n suits enters
  step_in (Fill place load) n low found suits enters asks = fill_goes site task is words views j before v h at some seen place load n suits enters
  step_in Count n low found suits enters asks = count_goes site task is seen before v enters some suits.0 suits.1 suits.2 suits.3 n
  step_in (step.Make m) n low found suits enters asks =
      subst (λ (a : Ans). Goes site task before (next_in task seen (step.Make m) a) (view_after site.shape (kind_at task seen (step.Make m) n) n v)) (sym (make_answer (lock_of task seen seen.place) seen.written m n))
      (make_goes site task is seen before v enters n m suits)
  step_in Draw n low found suits enters asks = draw_goes site task is seen before v enters suits n
  step_in (Unnote part place) n low found suits enters asks =
      subst (λ (a : Ans). Goes site task before (next_in task seen (Unnote part place) a) (view_after site.shape (kind_at task seen (Unnote part place) n) n v)) (sym (note_answer task seen part (unnoted task.hash seen) n))
      (unnote_goes site task is seen before v words views j h at small part suits place n found enters)
  step_in CountSpent n low found suits enters asks = refused site task is seen before v enters suits.0 reply.Spent n refl
  step_in (Give held end) n low found suits enters asks =
      subst (λ (a : Ans). Goes site task before (next_in task seen (Give held end) a) (view_after site.shape (kind_at task seen (Give held end) n) n v)) (sym (give_answer task.site task.hash seen.path.segment (give_next held) n))
      (give_goes site task is words views j before v h at some seen held end n suits enters)
  step_in (Ended end) n low found suits enters asks = absurd (asks refl)

  make_may : (m : Make) → IsChanging site task seen m v → May site (make_kind (publish_kind task seen) (lock_of task seen seen.place) seen.written m) v
  make_may Key c = other_may site task is seen v Key c (λ e. cc)
  make_may ValueOf c = other_may site task is seen v ValueOf c (λ e. cc)
  make_may FingersOf c = other_may site task is seen v FingersOf c (λ e. cc)
  make_may FlushFingers c = other_may site task is seen v FlushFingers c (λ e. cc)
  make_may FlushRecord c = other_may site task is seen v FlushRecord c (λ e. cc)
  make_may FenceRecord c = other_may site task is seen v FenceRecord c (λ e. cc)
  make_may Publish c = publish_may site task is seen v c small
  make_may FlushPublished c = other_may site task is seen v FlushPublished c (λ e. cc)
  make_may FencePublished c = other_may site task is seen v FencePublished c (λ e. cc)

  -- the header is pinned under the lock of the home bucket
  home_locked : HasLoaded site task seen 2 0 v → HasLock v.held (bucket_at site.shape seen.path.segment (home_of task.hash))
  home_locked l = subst (HasLock v.held) (lock_at site task.site task.hash seen.path.segment (located site task is seen v.facts l.there) Home)
      (held_has task.site task.hash seen.path.segment seen.held Home v l.locks (l.upto.these Home (record { low = omega arith; asked = refl })))

  pub may_in : (s : WriteStep) (n : ℕ) → SuitsStep site task seen s v → wanted_in task seen s ≢ want.Done → May site (kind_at task seen s n) v
  may_in (Way w) n suits asks = walk_may site task.site task.hash w v h.site_is.shape is.shape is.version is.fits suits.1
  may_in (Lock place t) n suits asks = take_fits.may site (lock_of task seen place) t v (known_lock site task.site task.hash seen.path.segment place v is.shape suits.0.there) suits.3
  may_in (Check back) n suits asks = back_may site task.site task.hash seen.path (pins seen.path.segment (home_of task.hash)) back v
      (bucket_near task.hash Home, home_locked suits.0)
  may_in (Fill place load) n suits asks = fill_guard site task is words views j before v h at some seen place load suits
  may_in Count n suits asks = count_may site task is seen v some suits.0 suits.1 suits.2 suits.3 n
  may_in (step.Make m) n suits asks = make_may m suits
  may_in Draw n suits asks = draw_may site task is seen v suits small
  may_in (Unnote part place) n suits asks = unnote_may site task is seen v part suits small words
      (h.notes_of_homes.owes j v (owed task seen) at (subst (λ (l : List Owed). Has (owed task seen) l) (sym suits.owes) (inl refl)))
  may_in CountSpent n suits asks = spent_may site task seen v suits.1
  may_in (Give held end) n suits asks = give_stands.may site task.site task.hash seen.path.segment held v suits.locks suits.quiet
  may_in (Ended end) n suits asks = absurd (asks refl)
