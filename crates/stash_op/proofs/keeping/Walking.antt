-- THE STEPS, one by one: what an answer makes of each is suited, and each may be taken.
use Rattle.std.proofs.Common.{◌≡◌, ◌≢◌, ℕ, ◌+◌, ◌%◌, ◌^◌, ◌<◌, List, inl, refl, sym, subst}
use Rattle.op_core.specs.declared.want.Want.TheVariants as want
use Rattle.op_core.specs.declared.want.Ans.{Ans}
use Rattle.op_core.specs.declared.want.Ans.TheVariants.{Passed}
use Rattle.trace.specs.Events.{Words}
use Rattle.map_model.specs.declared.change.Effect.{Effect}
use Rattle.map_model.specs.declared.change.Effect.TheVariants.{Insert, Update, Remove}
use Rattle.map_model.specs.declared.entry.Reply.TheVariants as reply
use Rattle.map_model.specs.Legal.{IsInsert, IsChange}
use Rattle.map_model.specs.Changes.{doing, call_of}
use Rattle.world.specs.Ground.{Ground}
use Rattle.world.specs.Views.{View, At}
use Rattle.world.specs.Wants.{answer_to, word_of}
use Rattle.world.specs.Kinds.{refuses, view_after}
use Rattle.world.specs.Conditions.{May, FoundSpent}
use Rattle.world.specs.Invariant.{Holds}
use Rattle.world.specs.Attempts.{EntersReply}
use Rattle.phase.specs.declared.role.Role.{Role}
use Rattle.phase.specs.declared.make.Make.{Make}
use Rattle.phase.specs.declared.make.Make.TheVariants as make
use Rattle.phase.specs.declared.kept.Kept.{Kept}
use Rattle.phase.specs.Helds.{give_next}
use Rattle.phase.specs.Buckets.{words_in}
use Rattle.phase.specs.Making.{make_kind}
use Rattle.phase.specs.AreWords.{AreWords}
use Rattle.phase.proofs.Handing.{give_answer}
use Rattle.phase.proofs.Wanting.{make_answer}
use Rattle.phase.proofs.locks.Taking.{take_fits}
use Rattle.phase.proofs.locks.Giving.{known_lock, give_stands}
use Rattle.stash_op.specs.declared.step.NoteWords.{NoteWords}
use Rattle.stash_op.specs.declared.step.Seen.{Seen}
use Rattle.phase.specs.declared.note.NoteWord.{NoteWord}
use Rattle.phase.specs.declared.note.NoteWord.TheVariants.{Mark, Fingers}
use Rattle.stash_op.specs.declared.step.StashStep.{StashStep}
use Rattle.stash_op.specs.declared.step.StashStep.TheVariants.{Lock, Fill, Note, Draw, CountSpent, Give, Ended}
use Rattle.stash_op.specs.declared.step.StashStep.TheVariants as step
use Rattle.stash_op.specs.Search.{place_of, noted}
use Rattle.stash_op.specs.Steps.{lock_of, note_wanted, wanted_in, next_in}
use Rattle.stash_op.specs.Fits.{publish_kind, kind_at, IsChanging, SuitsStep, IsIn}
use Rattle.stash_op.proofs.finding.Standing.{newest_after}
use Rattle.stash_op.proofs.keeping.Going.{reply_at, Goes}
use Rattle.stash_op.proofs.keeping.Storing.{make_goes}
use Rattle.stash_op.proofs.keeping.Noting.{owed_now, note_goes}
use Rattle.stash_op.proofs.keeping.Stepping.{lock_goes, fill_guard, fill_goes, spent_goes, draw_goes, give_goes}
use Rattle.stash_op.proofs.permitting.Publishing.{other_may, publish_may}
use Rattle.stash_op.proofs.permitting.Noting.{note_may}
use Rattle.stash_op.proofs.permitting.Drawn.{draw_may}

-- ---- answers
note_answer : (kept : Kept) (part : NoteWord) (note : NoteWords) (n : ℕ) → answer_to (note_wanted kept part note) n ≡ Passed
note_answer kept Mark note n = refl
note_answer kept Fingers note n = refl

-- ---- a lock word of the last version was found
change_by : (key : ℕ) (d : Effect) → IsInsert (doing key d) → IsChange (doing key d)
change_by key (Insert value) i = tt
change_by key (Update value) i = absurd i
change_by key Remove i = absurd i

spent_may : (site : Ground) (kept : Kept) (is : IsIn site kept) (seen : Seen) (v : View) → FoundSpent v → May site (refuses (call_of kept.change) reply.Spent) v
spent_may site kept is seen v spent = (refl, inl (λ a. change_by kept.change.key kept.change.effect is.insert), (λ m words newest map. tt), (λ spends. spent), (λ full. absurd (let e : reply.Spent ≡ reply.Full = full in cc)))

module _ (site : Ground) (kept : Kept) (is : IsIn site kept) (words : Words) (views : List View) (j : ℕ) (before v : View) (h : Holds site words views) (at : At views j v) (seen : Seen)
    (small : (place : Role) → AreWords (words_in seen.buckets place)) where
  pub step_in : (s : StashStep) (n : ℕ) → n < 2 ^ 64 → n ≡ words (word_of site.shape (wanted_in kept seen s)) → SuitsStep site kept seen s v
      → EntersReply (call_of kept.change) (reply_at s) before v → wanted_in kept seen s ≢ want.Done
      → Goes site kept before (next_in kept seen s (answer_to (wanted_in kept seen s) n)) (view_after site.shape (kind_at kept seen s) n v)
  step_in (Lock b t) n low found suits enters asks = lock_goes site kept is seen before v b t n low suits enters
  step_in (Fill b load) n low found suits enters asks =
      fill_goes site kept is seen before v b load n words (newest_after site words views j v h at suits.has.locks.areas (lock_of kept (place_of b) + load.next % 32) n found) suits enters
  step_in (step.Make m) n low found suits enters asks =
      subst (λ (a : Ans). Goes site kept before (next_in kept seen (step.Make m) a) (view_after site.shape (kind_at kept seen (step.Make m)) n v)) (sym (make_answer (lock_of kept (place_of seen.bucket)) seen.written m n))
      (make_goes site kept is seen before v enters n m suits)
  step_in (Note part) n low found suits enters asks =
      subst (λ (a : Ans). Goes site kept before (next_in kept seen (Note part) a) (view_after site.shape (kind_at kept seen (Note part)) n v)) (sym (note_answer kept part (noted kept.hash seen) n))
      (note_goes site kept is seen before v enters words views j h at small part suits n found)
  step_in Draw n low found suits enters asks = draw_goes site kept is seen before v suits n enters
  step_in CountSpent n low found suits enters asks = spent_goes site kept is seen before v suits.0 n enters
  step_in (Give held end) n low found suits enters asks =
      subst (λ (a : Ans). Goes site kept before (next_in kept seen (Give held end) a) (view_after site.shape (kind_at kept seen (Give held end)) n v)) (sym (give_answer kept.site kept.hash kept.segment (give_next held) n))
      (give_goes site kept is seen before v held end n suits enters)
  step_in (Ended end) n low found suits enters asks = absurd (asks refl)

  make_may : (m : Make) → IsChanging site kept seen m v → May site (make_kind (publish_kind kept seen) (lock_of kept (place_of seen.bucket)) seen.written m) v
  make_may make.Key c = other_may site kept is seen v make.Key c (λ e. cc)
  make_may make.Value c = other_may site kept is seen v make.Value c (λ e. cc)
  make_may make.Fingers c = other_may site kept is seen v make.Fingers c (λ e. cc)
  make_may make.FlushFingers c = other_may site kept is seen v make.FlushFingers c (λ e. cc)
  make_may make.FlushRecord c = other_may site kept is seen v make.FlushRecord c (λ e. cc)
  make_may make.FenceRecord c = other_may site kept is seen v make.FenceRecord c (λ e. cc)
  make_may make.Publish c = publish_may site kept is seen v c small
  make_may make.FlushPublished c = other_may site kept is seen v make.FlushPublished c (λ e. cc)
  make_may make.FencePublished c = other_may site kept is seen v make.FencePublished c (λ e. cc)

  pub may_in : (s : StashStep) → SuitsStep site kept seen s v → wanted_in kept seen s ≢ want.Done → May site (kind_at kept seen s) v
  may_in (Lock b t) suits asks = take_fits.may site (lock_of kept (place_of b)) t v (known_lock site kept.site kept.hash kept.segment (place_of b) v is.shape suits.0.there) suits.3
  may_in (Fill b load) suits asks = fill_guard site kept is seen before v b load suits
  may_in (step.Make m) suits asks = make_may m suits
  may_in (Note part) suits asks = note_may site kept is seen v part suits small words (owed_now site kept seen v words views j h at part suits)
  may_in Draw suits asks = draw_may site kept is seen v suits
  may_in CountSpent suits asks = spent_may site kept is seen v suits.1
  may_in (Give held end) suits asks = give_stands.may site kept.site kept.hash kept.segment held v suits.locks suits.quiet
  may_in (Ended end) suits asks = absurd (asks refl)
