-- Each outcome has its cause, beside any other callers; and who is told that a lock is taken does not hold it.
use Rattle.std.proofs.Common.{◌≡◌, ◌≢◌, ℕ, ◌+◌, ◌<◌, false, None, Some, IsTrue, inl, inr, refl, sym, ap, ◌∙◌, subst, slice_index}
use Rattle.std.specs.Prelude.{⊤, if◌then◌else◌}
use Rattle.std.proofs.lemmas.Bool.{lt-ltb}
use Rattle.std.proofs.lemmas.Option.{none-some, same_Some}
use Rattle.op_core.specs.declared.want.Want.{Want}
use Rattle.op_core.specs.declared.want.Want.TheVariants as want
use Rattle.op_core.specs.declared.want.Ans.{Ans}
use Rattle.op_core.specs.declared.want.Ans.TheVariants.{Passed}
use Rattle.op_core.specs.declared.why.Why.{Why}
use Rattle.op_core.specs.declared.why.Why.TheVariants.{Busy, Moved}
use Rattle.trace.specs.Events.{Words}
use Rattle.image_layout.specs.Places.{Shape, root_word, bucket_at, homes}
use Rattle.sound_image.specs.Records.{key_hash}
use Rattle.map_model.specs.declared.call.Call.{Call}
use Rattle.map_model.specs.declared.entry.Reply.{Reply}
use Rattle.map_model.specs.declared.entry.Reply.TheVariants as reply
use Rattle.map_model.specs.Map.{key_of}
use Rattle.map_model.specs.Legal.{IsInsert}
use Rattle.world.specs.declared.site.Site.{Site}
use Rattle.world.specs.Ground.{Ground}
use Rattle.world.specs.Views.{View, HasLock}
use Rattle.world.specs.Wants.{answer_to, word_of}
use Rattle.part.specs.Doings.{Doings, with_event_of}
use Rattle.part.specs.Outcomes.{Outcome, replied, again, off}
use Rattle.part.specs.Causes.{WereFullBefore, NeedsBucket, IsNamed, IsOwnLock, HasReplyCause, HasCause, EndsByCause}
use Rattle.phase.specs.declared.role.Role.TheVariants as place
use Rattle.phase.specs.declared.take.Take.{Take}
use Rattle.phase.specs.declared.take.Take.TheVariants.{Look, Try}
use Rattle.phase.specs.declared.take.Taken.{Taken}
use Rattle.phase.specs.declared.take.Taken.TheVariants as taking
use Rattle.phase.specs.declared.make.Make.{Make}
use Rattle.phase.specs.declared.make.Made.{Made}
use Rattle.phase.specs.declared.make.Made.TheVariants as made
use Rattle.phase.specs.declared.held.Held.{Held}
use Rattle.phase.specs.declared.kept.Kept.{Kept}
use Rattle.phase.specs.Places.{bucket_of_role}
use Rattle.phase.specs.Helds.{free_of, given}
use Rattle.phase.specs.Takes.{take_wanted, take_taken}
use Rattle.phase.specs.Loads.{load_taken}
use Rattle.phase.specs.Makes.{make_taken}
use Rattle.phase.specs.Taking.{HasTakeCause}
use Rattle.phase.proofs.asking.Needing.{first_before, second_before, was_full, stash_needed}
use Rattle.phase.proofs.asking.Causing.{found_named}
use Rattle.phase.proofs.Handing.{key_called}
use Rattle.phase.proofs.locks.Taking.{take_caused}
use Rattle.phase.proofs.locks.Giving.{locks_apart, has_not}
use Rattle.phase.proofs.Wanting.{no}
use Rattle.stash_op.specs.declared.step.StashBucket.{StashBucket}
use Rattle.stash_op.specs.declared.step.StashBucket.TheVariants.{First, Second}
use Rattle.stash_op.specs.declared.step.Seen.{Seen}
use Rattle.phase.specs.declared.ending.Ending.TheVariants as ending
use Rattle.phase.specs.declared.note.NoteWord.{NoteWord}
use Rattle.phase.specs.declared.note.NoteWord.TheVariants.{Mark, Fingers}
use Rattle.phase.specs.Endings.{outcome_then}
use Rattle.phase.proofs.locks.Choosing.{by_both}
use Rattle.stash_op.specs.declared.step.StashEnd.{StashEnd}
use Rattle.stash_op.specs.declared.step.StashEnd.TheVariants as ends
use Rattle.stash_op.specs.declared.step.StashStep.{StashStep}
use Rattle.stash_op.specs.declared.step.StashStep.TheVariants.{Lock, Fill, Note, Draw, CountSpent, Give, Ended}
use Rattle.stash_op.specs.declared.step.StashStep.TheVariants as step
use Rattle.stash_op.specs.declared.step.Stage.{Stage}
use Rattle.stash_op.specs.Search.{place_of, index_of, noted, has_finger}
use Rattle.stash_op.specs.Steps.{go, giving, locked_to, made_to, noted_to, lock_of, wanted_in, next_in, wanted, taken, is_over, needs_split, kept_in}
use Rattle.stash_op.specs.Fits.{SuitsStep, IsIn, outcome_of, outcome_at}
use Rattle.stash_op.specs.StashPart.{RemembersKept, HasPassed, RemembersIn, stash_part}
use Rattle.stash_op.proofs.Over.{over_done, full}
use Rattle.stash_op.proofs.parts.Parted.{never_finished}
use Rattle.stash_op.proofs.finding.Standing.{located}
use Rattle.stash_op.proofs.keeping.Going.{giving_outcome, filled_quiet}
use Rattle.stash_op.proofs.permitting.Publishing.{bucket_is, index_low}
use Rattle.stash_op.proofs.causing.Recalling.{recalls_next}

-- ---- in a world, for the caller with this view
module _ (site : Ground) (kept : Kept) (is : IsIn site kept) (words : Words) (seen : Seen) (v : View) (did : Doings) (call : Call) (hash_is : kept.hash ≡ key_hash kept.site.geometry (key_of call)) (insert : IsInsert call) where
  abbrev g : Shape
  g = kept.site.geometry

  abbrev Finds : StashStep → ℕ
  Finds s = words (word_of site.shape (wanted_in kept seen s))

  -- WHAT IS REMEMBERED
  recalled : (s : StashStep) → SuitsStep site kept seen s v → RemembersIn site kept seen did s → wanted_in kept seen s ≢ want.Done
      → RemembersIn site kept (next_in kept seen s (answer_to (wanted_in kept seen s) (Finds s))).seen (with_event_of (wanted_in kept seen s) (answer_to (wanted_in kept seen s) (Finds s)) did)
      (next_in kept seen s (answer_to (wanted_in kept seen s) (Finds s))).step
  recalled s suits r asks = recalls_next site kept seen s (Finds s) did r asks (λ b take e. (subst (λ z. SuitsStep site kept seen z v) e suits).1)

  -- a lock that is told busy is not held
  abbrev Frees : Outcome → Type 0
  Frees (again (Busy word value)) = HasLock v.held word → ⊥
  Frees outcome = ⊤

  abbrev Caused : Want → Outcome → Type 0
  Caused event outcome = HasCause g words did call event kept.site outcome × Frees outcome

  -- if an outcome is decided there, it has its cause
  abbrev CausedIf : Want → StashStep → Type 0
  CausedIf event s = (outcome : Outcome) → outcome_at s ≡ Some outcome → Caused event outcome

  so : (event : Want) (s : StashStep) (outcome : Outcome) → outcome_at s ≡ Some outcome → Caused event outcome → CausedIf event s
  so event s outcome at cause told some = subst (Caused event) (same_Some outcome told (sym at ∙ some)) cause

  opens : (event : Want) (s : StashStep) → outcome_at s ≡ None → CausedIf event s
  opens event s none outcome some = absurd (none-some outcome (sym none ∙ some))

  gives_again : (event : Want) (held : Held) (why : Why) → Caused event (again why) → CausedIf event (giving held (ending.Again why))
  gives_again event held why cause = so event (giving held (ending.Again why)) (again why) (giving_outcome held (ending.Again why)) cause

  gives_reply : (event : Want) (held : Held) (r : Reply) (place : ℕ) → HasReplyCause g words did call r → CausedIf event (giving held (ending.Replied r place))
  gives_reply event held r place cause = so event (giving held (ending.Replied r place)) (replied r place) (giving_outcome held (ending.Replied r place)) (cause, tt)

  -- ---- a stash bucket is needed where its lock is taken
  module _ (r : RemembersKept site kept seen did seen.held) (within : kept.segment < g.segments) where
    before : (b : StashBucket) → HasPassed site kept seen did b → WereFullBefore g kept.hash did.loads kept.segment (index_of b)
    before First passed = first_before g kept.hash did.loads kept.segment within
    before Second passed =
        second_before g kept.hash did.loads kept.segment within (slice_index seen.buckets.first 1) (was_full (kept_in kept seen) did.loads within place.First passed)

    needed : (b : StashBucket) → HasPassed site kept seen did b → NeedsBucket g kept.hash did.loads kept.segment call (homes + index_of b)
    needed b passed = stash_needed (kept_in kept seen) did.loads within r.room.home r.room.probing call insert (index_of b) (index_low b) r.nothing (before b passed)

    own_lock : (b : StashBucket) → HasPassed site kept seen did b → IsOwnLock g words did call (lock_of kept (place_of b))
    own_lock b passed = (
      kept.segment,
      subst (λ m. IsNamed g m did.loads kept.segment) hash_is (subst (λ s. IsNamed g kept.hash did.loads s) r.room.there (found_named kept.site kept.hash did.loads r.room.path r.room.found)),
      within,
      homes + index_of b,
      subst (λ m. NeedsBucket g m did.loads kept.segment call (homes + index_of b)) hash_is (needed b passed),
      ap (λ t. if t then bucket_at g kept.segment (bucket_of_role kept.hash (place_of b)) else root_word) (lt-ltb kept.segment g.segments within)
          ∙ ap (λ n. bucket_at g kept.segment n) (bucket_is kept.hash b),
    )

  locked_caused : (b : StashBucket) (take : Take) (x : Taken) → (HasLock v.held (lock_of kept (place_of b)) → ⊥) → HasTakeCause g words did call (lock_of kept (place_of b)) take x
      → CausedIf (take_wanted (lock_of kept (place_of b)) take) (locked_to seen b (lock_of kept (place_of b)) x).step
  locked_caused b take (taking.On next) free cause = opens (take_wanted (lock_of kept (place_of b)) take) (Lock b next) refl
  locked_caused b take (taking.Held value) free cause = λ outcome some. absurd (none-some outcome some)
  locked_caused b take (taking.Busy value) free cause = gives_again (take_wanted (lock_of kept (place_of b)) take) seen.held (Busy (lock_of kept (place_of b)) value) (cause, free)
  locked_caused b take (taking.Moved before after) free cause = gives_again (take_wanted (lock_of kept (place_of b)) take) seen.held (Moved (lock_of kept (place_of b)) before after) ((cause.0, inl cause.1), tt)
  locked_caused b take taking.Spent free cause = opens (take_wanted (lock_of kept (place_of b)) take) CountSpent refl

  lock_caused : (b : StashBucket) (take : Take) → SuitsStep site kept seen (Lock b take) v → RemembersIn site kept seen did (Lock b take)
      → CausedIf (take_wanted (lock_of kept (place_of b)) take)
      (locked_to seen b (lock_of kept (place_of b)) (take_taken take (answer_to (take_wanted (lock_of kept (place_of b)) take) (words (lock_of kept (place_of b)))))).step
  lock_caused b take suits r =
      let lock : ℕ = lock_of kept (place_of b) in
      let at = located site kept is suits.0.there.within in
      locked_caused b take (take_taken take (answer_to (take_wanted lock take) (words lock)))
      (has_not site kept.site kept.hash kept.segment seen.held (place_of b) v at suits.0.locks suits.1)
      (take_caused g words did call lock (own_lock r.0 (subst (λ (z : Shape). kept.segment < z.segments) (sym is.shape) suits.0.there.within) b r.2)
      (λ changed.
      let own = r.0.changed lock changed in
      locks_apart site kept.site kept.hash kept.segment at (place_of b) own.0 (λ e. none-some _ (sym suits.1 ∙ ap (free_of seen.held) e ∙ own.1.1)) own.2) take suits.3 r.1)

  -- ---- stores, and the note
  made_open : (x : Made) → outcome_at (made_to seen x).step ≡ None
  made_open (made.On m) = refl
  made_open made.Settled = refl

  make_open : (m : Make) (a : Ans) → outcome_at (next_in kept seen (step.Make m) a).step ≡ None
  make_open m Passed = made_open (make_taken seen.written.slot m)
  make_open m a = refl

  noted_open : (part : NoteWord) → outcome_at (noted_to kept.hash seen part).step ≡ None
  noted_open Mark = by_both (λ (s : Stage). outcome_at s.step ≡ None) (has_finger seen (noted kept.hash seen)) (go seen (Note Fingers)) (go seen Draw) refl refl
  noted_open Fingers = refl

  note_open : (part : NoteWord) (a : Ans) → outcome_at (next_in kept seen (Note part) a).step ≡ None
  note_open part Passed = noted_open part
  note_open part a = refl

  step_caused : (s : StashStep) → SuitsStep site kept seen s v → RemembersIn site kept seen did s → outcome_at s ≡ None → wanted_in kept seen s ≢ want.Done
      → CausedIf (wanted_in kept seen s) (next_in kept seen s (answer_to (wanted_in kept seen s) (Finds s))).step
  step_caused (Lock b Look) suits r none asks = lock_caused b Look suits r
  step_caused (Lock b (Try free)) suits r none asks = lock_caused b (Try free) suits r
  step_caused (Fill b load) suits r none asks = opens (wanted_in kept seen (Fill b load)) _ (filled_quiet kept seen b (load_taken load (Finds (Fill b load))))
  step_caused (step.Make m) suits r none asks = opens (wanted_in kept seen (step.Make m)) _ (make_open m _)
  step_caused (Note part) suits r none asks = opens (wanted_in kept seen (Note part)) _ (note_open part _)
  step_caused Draw suits r none asks = gives_reply want.Draw seen.held reply.Done (Finds Draw) tt
  step_caused CountSpent suits r none asks = gives_reply (wanted_in kept seen CountSpent) seen.held reply.Spent (Finds CountSpent)
      (inr (lock_of kept (place_of r.1.0), own_lock r.0 (subst (λ (z : Shape). kept.segment < z.segments) (sym is.shape) suits.0.located.within) r.1.0 r.1.1, r.1.2))
  step_caused (Give held end) suits r none asks = absurd (none-some (outcome_then end) (sym none))
  step_caused (Ended end) suits r none asks = absurd (asks refl)

-- ---- what is decided stays so
stays_at : (kept : Kept) (seen : Seen) (s : StashStep) (a : Ans) (outcome : Outcome) → outcome_at s ≡ Some outcome → outcome_at (next_in kept seen s a).step ≡ Some outcome
stays_at kept seen (Give held end) Passed outcome some = giving_outcome (given held) end ∙ some
stays_at kept seen (Give held end) a outcome some = some
stays_at kept seen (Ended end) a outcome some = some
stays_at kept seen s a outcome some = absurd (none-some outcome some)

ended_outcome : (end : StashEnd) → needs_split (Ended end) ≡ false → (outcome : Outcome) × (outcome_of end ≡ Some outcome)
ended_outcome (ends.NeedSplit segment) closed = absurd (let z = closed in cc)
ended_outcome (ends.Replied answer place) closed = (replied answer place, refl)
ended_outcome (ends.Again why) closed = (again why, refl)
ended_outcome ends.Off closed = (off, refl)

over_decided : (s : StashStep) → IsTrue (is_over s) → needs_split s ≡ false → (outcome : Outcome) × (outcome_at s ≡ Some outcome)
over_decided (Give held end) over closed = (outcome_then end, refl)
over_decided (Ended end) over closed = ended_outcome end closed
over_decided s over closed = absurd (no over)

-- EACH OUTCOME has its cause
pub stash_ends_by_cause : EndsByCause stash_part
stash_ends_by_cause = record {
  steps = λ site here call words views j op before v did h at s asks small r.
      let st = s.stands in
      let kept : Kept = op.kept in
      let seen : Seen = op.stage.seen in
      let hash_is : kept.hash ≡ key_hash kept.site.geometry (key_of call) =
      st.is_in.hash ∙ ap (λ (g : Shape). key_hash g kept.change.key) (sym st.is_in.shape) ∙ ap (key_hash kept.site.geometry) (sym (key_called kept.change) ∙ ap key_of st.same) in
      let caused = λ (none : outcome_at op.stage.step ≡ None). step_caused site kept st.is_in words seen v did call hash_is (subst IsInsert st.same st.is_in.insert) op.stage.step st.view r none asks in
      record {
        remembers = recalled site kept st.is_in words seen v did call hash_is (subst IsInsert st.same st.is_in.insert) op.stage.step st.view r asks;
        caused = λ outcome none some.
            subst (λ (g : Shape). HasCause g words did call (wanted op) here outcome) st.is_in.shape
            (subst (λ (z : Site). HasCause kept.site.geometry words did call (wanted op) z outcome) st.at (caused none outcome some).0);
        worked = λ none some. never_finished (taken op (answer_to (wanted op) (words (word_of site.shape (wanted op))))) some;
        not_own = λ word value none some. (caused none (again (Busy word value)) some).1;
      };
  stays = λ op a outcome some. stays_at op.kept op.stage.seen op.stage.step a outcome some;
  decided = λ site here call op v st over closed. over_decided op.stage.step ((over_done op.kept op.stage.seen op.stage.step).1 over) closed;
  undecided = λ op is. let e = full op.stage.step is in ap outcome_at e.1;
}
