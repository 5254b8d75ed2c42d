-- A displacement ends by its causes, beside any other callers.
use Rattle.std.proofs.Common.{◌≡◌, ◌≢◌, ℕ, ◌<◌, true, false, Option, None, Some, IsTrue, inl, inr, refl, sym, ap, ◌∙◌, subst}
use Rattle.std.specs.Prelude.{⊤}
use Rattle.std.proofs.lemmas.Option.{none-some, same_Some}
use Rattle.op_core.specs.declared.want.Want.{Want}
use Rattle.op_core.specs.declared.want.Want.TheVariants as want
use Rattle.op_core.specs.declared.want.Ans.{Ans}
use Rattle.op_core.specs.declared.want.Ans.TheVariants.{Passed}
use Rattle.op_core.specs.declared.why.Why.{Why}
use Rattle.op_core.specs.declared.why.Why.TheVariants.{Busy, Moved}
use Rattle.trace.specs.Events.{Words}
use Rattle.image_layout.specs.Places.{Shape}
use Rattle.sound_image.specs.Records.{key_hash}
use Rattle.map_model.specs.declared.call.Call.{Call}
use Rattle.map_model.specs.declared.entry.Reply.{Reply}
use Rattle.map_model.specs.declared.entry.Reply.TheVariants as reply
use Rattle.map_model.specs.Map.{key_of}
use Rattle.map_model.specs.Legal.{IsInsert}
use Rattle.world.specs.declared.site.Site.{Site}
use Rattle.world.specs.Ground.{Ground}
use Rattle.world.specs.Views.{View, HasLock}
use Rattle.world.specs.Wants.{answer_to, word_of}
use Rattle.part.specs.Doings.{Doings}
use Rattle.part.specs.Outcomes.{Outcome, replied, again, off}
use Rattle.part.specs.Causes.{NeedsBucket, IsNamed, IsOwnLock, hash_for, HasReplyCause, HasCause, EndsByCause}
use Rattle.phase.specs.declared.take.Take.{Take}
use Rattle.phase.specs.declared.take.Take.TheVariants.{Look, Try}
use Rattle.phase.specs.declared.take.Taken.{Taken}
use Rattle.phase.specs.declared.take.Taken.TheVariants as taking
use Rattle.phase.specs.declared.load.Loaded.{Loaded}
use Rattle.phase.specs.declared.load.Loaded.TheVariants as loaded
use Rattle.phase.specs.declared.make.Make.{Make}
use Rattle.phase.specs.declared.make.Made.{Made}
use Rattle.phase.specs.declared.make.Made.TheVariants as made
use Rattle.phase.specs.declared.held.Held.{Held}
use Rattle.phase.specs.declared.kept.Kept.{Kept}
use Rattle.phase.specs.Places.{bucket_of_role}
use Rattle.phase.specs.Takes.{take_wanted, take_taken}
use Rattle.phase.specs.Loads.{load_taken}
use Rattle.phase.specs.Makes.{make_taken}
use Rattle.phase.specs.Helds.{free_of, given}
use Rattle.phase.specs.Buckets.{with_words}
use Rattle.phase.specs.Taking.{HasTakeCause}
use Rattle.phase.specs.Keeps.{IsOfCall, KeepsAll, RemembersRoom}
use Rattle.phase.proofs.asking.Needing.{next_needed, previous_needed}
use Rattle.phase.proofs.asking.Causing.{found_named}
use Rattle.phase.proofs.Handing.{key_called}
use Rattle.phase.proofs.locks.Taking.{take_caused}
use Rattle.phase.proofs.locks.Giving.{lock_at as lock_stands, locks_apart, has_not}
use Rattle.move_op.specs.declared.step.MoveEnd.{MoveEnd}
use Rattle.move_op.specs.declared.step.MoveEnd.TheVariants as ends
use Rattle.phase.specs.declared.ending.Ending.TheVariants as ending
use Rattle.move_op.specs.declared.step.Direction.{Direction}
use Rattle.move_op.specs.declared.step.Direction.TheVariants.{Forward, Backward}
use Rattle.move_op.specs.declared.step.Shift.{Shift}
use Rattle.move_op.specs.declared.step.Leg.{Leg}
use Rattle.move_op.specs.declared.step.Leg.TheVariants.{Copy, Clear, Insert}
use Rattle.phase.proofs.Wanting.{no}
use Rattle.phase.specs.Endings.{outcome_then}
use Rattle.move_op.specs.declared.step.MoveStep.{MoveStep}
use Rattle.move_op.specs.declared.step.MoveStep.TheVariants.{Lock, Fill, CountSpent, Draw, Give, Ended}
use Rattle.move_op.specs.declared.step.MoveStep.TheVariants as step
use Rattle.move_op.specs.Shifts.{target_of, shift_in, record_of}
use Rattle.move_op.specs.Steps.{giving, locked_to, chosen, filled_to, made_to, lock_of, wanted_in, next_in, wanted, taken, is_over, is_without_move}
use Rattle.move_op.specs.Fits.{SuitsStep, outcome_of, outcome_at}
use Rattle.move_op.specs.MovePart.{HasTried, RemembersAt, move_part, MoveBeginsRemembering, MoveHandsOnAll}
use Rattle.move_op.proofs.Over.{over_done}
use Rattle.move_op.proofs.keeping.Going.{none_at}
use Rattle.move_op.proofs.keeping.Entering.{giving_outcome}
use Rattle.move_op.proofs.causing.Recalling.{recalls_next}
use Rattle.move_op.proofs.parts.Parted.{never_finished, end_keeps}

-- ---- by the step
module _ (site : Ground) (here : Site) (call : Call) (kept : Kept) (whose : IsOfCall here call kept) (words : Words) (did : Doings) (v : View) where
  abbrev Finds : MoveStep → ℕ
  Finds s = words (word_of site.shape (wanted_in kept s))

  -- a lock that is told busy is not held
  abbrev Frees : Outcome → Type 0
  Frees (again (Busy word value)) = HasLock v.held word → ⊥
  Frees outcome = ⊤

  abbrev Caused : Want → Outcome → Type 0
  Caused event outcome = HasCause site.shape words did call event here outcome × Frees outcome

  -- if an outcome is decided there, it has its cause
  abbrev CausedIf : Want → MoveStep → Type 0
  CausedIf event s = (outcome : Outcome) → outcome_at s ≡ Some outcome → Caused event outcome

  so : (event : Want) (s : MoveStep) (outcome : Outcome) → outcome_at s ≡ Some outcome → Caused event outcome → CausedIf event s
  so event s outcome is cause told some = subst (Caused event) (same_Some outcome told (sym is ∙ some)) cause

  gives_again : (event : Want) (held : Held) (why : Why) → Caused event (again why) → CausedIf event (giving held (ending.Again why))
  gives_again event held why cause = so event (giving held (ending.Again why)) (again why) (giving_outcome held (ending.Again why)) cause

  gives_reply : (event : Want) (held : Held) (r : Reply) (place : ℕ) → HasReplyCause site.shape words did call r → CausedIf event (giving held (ending.Replied r place))
  gives_reply event held r place cause = so event (giving held (ending.Replied r place)) (replied r place) (giving_outcome held (ending.Replied r place)) (cause, tt)

  -- ---- the locks are those of the call
  module _ (k : KeepsAll site kept v) (r : RemembersRoom site kept did.loads) where
    hash_is : kept.hash ≡ hash_for site.shape words did call
    hash_is = k.holds.hashed ∙ ap (key_hash site.shape) (sym (key_called kept.change) ∙ ap key_of whose.same)

    named : IsNamed site.shape (hash_for site.shape words did call) did.loads kept.segment
    named =
        subst (λ h. IsNamed site.shape h did.loads kept.segment) hash_is
        (subst (λ g. IsNamed g kept.hash did.loads kept.segment) k.holds.located.shape
        (subst (λ s. IsNamed kept.site.geometry kept.hash did.loads s) r.there (found_named kept.site kept.hash did.loads r.path r.found)))

    -- a third bucket is needed where its lock is taken
    within : kept.segment < kept.site.geometry.segments
    within = subst (λ (g : Shape). kept.segment < g.segments) (sym k.holds.located.shape) k.holds.located.within

    needed : (d : Direction) → HasTried site kept did d → NeedsBucket kept.site.geometry kept.hash did.loads kept.segment call (bucket_of_role kept.hash (target_of d))
    needed Forward tried = next_needed kept did.loads within r.home r.probing call (subst IsInsert whose.same k.insert)
    needed Backward tried = previous_needed kept did.loads within r.home r.probing call (subst IsInsert whose.same k.insert) tried.0 tried.1

    own_lock : (d : Direction) → HasTried site kept did d → IsOwnLock site.shape words did call (lock_of kept (target_of d))
    own_lock d tried = (
      kept.segment,
      named,
      k.holds.located.within,
      bucket_of_role kept.hash (target_of d),
      subst (λ h. NeedsBucket site.shape h did.loads kept.segment call (bucket_of_role kept.hash (target_of d))) hash_is
          (subst (λ g. NeedsBucket g kept.hash did.loads kept.segment call (bucket_of_role kept.hash (target_of d))) k.holds.located.shape (needed d tried)),
      lock_stands site kept.site kept.hash kept.segment k.holds.located (target_of d),
    )

    -- a lock
    locked_caused : (d : Direction) (take : Take) (x : Taken) → (HasLock v.held (lock_of kept (target_of d)) → ⊥) → HasTakeCause site.shape words did call (lock_of kept (target_of d)) take x
        → CausedIf (take_wanted (lock_of kept (target_of d)) take) (locked_to kept d (lock_of kept (target_of d)) x).step
    locked_caused d take (taking.On next) free cause = λ outcome some. absurd (none-some outcome some)
    locked_caused d take (taking.Held value) free cause = λ outcome some. absurd (none-some outcome some)
    locked_caused d take (taking.Busy value) free cause = gives_again (take_wanted (lock_of kept (target_of d)) take) kept.held (Busy (lock_of kept (target_of d)) value) (cause, free)
    locked_caused d take (taking.Moved before after) free cause = gives_again (take_wanted (lock_of kept (target_of d)) take) kept.held (Moved (lock_of kept (target_of d)) before after) ((cause.0, inl cause.1), tt)
    locked_caused d take taking.Spent free cause = λ outcome some. absurd (none-some outcome some)

    lock_caused : (d : Direction) (take : Take) → SuitsStep site kept (Lock d take) v → RemembersAt site kept did (Lock d take)
        → CausedIf (take_wanted (lock_of kept (target_of d)) take) (next_in kept (Lock d take) (answer_to (take_wanted (lock_of kept (target_of d)) take) (words (lock_of kept (target_of d))))).step
    lock_caused d take suits remembers =
        let lock : ℕ = lock_of kept (target_of d) in
        let none = none_at d kept suits.1 in
        locked_caused d take (take_taken take (answer_to (take_wanted lock take) (words lock)))
        (has_not site kept.site kept.hash kept.segment kept.held (target_of d) v k.holds.located k.holds.locks none)
        (take_caused site.shape words did call lock (own_lock d remembers.3)
        (λ changed.
        let own = remembers.1 lock changed in
        locks_apart site kept.site kept.hash kept.segment k.holds.located (target_of d) own.0 (λ e. none-some _ (sym none ∙ ap (free_of kept.held) e ∙ own.1.1)) own.2) take suits.2 remembers.2)

  -- ---- nothing is decided while a bucket is loaded, and while a shift is stored
  chosen_open : (event : Want) (d : Direction) (o : Option Shift) → CausedIf event (chosen d o)
  chosen_open event d (Some shift) = λ outcome some. absurd (none-some outcome some)
  chosen_open event Forward None = λ outcome some. absurd (none-some outcome some)
  chosen_open event Backward None = λ outcome some. absurd (none-some outcome some)

  filled_open : (event : Want) (d : Direction) (x : Loaded) → CausedIf event (filled_to kept d x).step
  filled_open event d (loaded.On load) = λ outcome some. absurd (none-some outcome some)
  filled_open event d (loaded.All ws) = let put : Kept = record kept { buckets = with_words (target_of d) ws kept.buckets } in chosen_open event d (shift_in put d)

  made_open : (event : Want) (shift : Shift) (leg : Leg) (x : Made) → CausedIf event (made_to shift leg x)
  made_open event shift leg (made.On m) = λ outcome some. absurd (none-some outcome some)
  made_open event shift Copy made.Settled = λ outcome some. absurd (none-some outcome some)
  made_open event shift Clear made.Settled = λ outcome some. absurd (none-some outcome some)
  made_open event shift Insert made.Settled = λ outcome some. absurd (none-some outcome some)

  make_open : (event : Want) (shift : Shift) (leg : Leg) (m : Make) (a : Ans) → CausedIf event (next_in kept (step.Make shift leg m) a).step
  make_open event shift leg m Passed = made_open event shift leg (make_taken (record_of shift leg).slot m)
  make_open event shift leg m a = λ outcome some. absurd (none-some outcome some)

  abbrev Decides : MoveStep → Type 0
  Decides s = CausedIf (wanted_in kept s) (next_in kept s (answer_to (wanted_in kept s) (Finds s))).step

  step_caused : (s : MoveStep) → SuitsStep site kept s v → RemembersAt site kept did s → outcome_at s ≡ None → wanted_in kept s ≢ want.Done → Decides s
  step_caused (Lock d Look) suits r none asks = lock_caused suits.0 r.0 d Look suits r
  step_caused (Lock d (Try free)) suits r none asks = lock_caused suits.0 r.0 d (Try free) suits r
  step_caused (Fill d load) suits r none asks = filled_open (wanted_in kept (Fill d load)) d (load_taken load (Finds (Fill d load)))
  step_caused CountSpent suits r none asks = gives_reply (wanted_in kept CountSpent) kept.held reply.Spent (Finds CountSpent) (inr (lock_of kept (target_of r.1.0), own_lock suits.0 r.0 r.1.0 r.1.1, r.1.2))
  step_caused (step.Make shift leg m) suits r none asks = make_open (wanted_in kept (step.Make shift leg m)) shift leg m _
  step_caused (Draw shift) suits r none asks = gives_reply want.Draw kept.held reply.Done (Finds (Draw shift)) tt
  step_caused (Give held end) suits r none asks = absurd (none-some (outcome_then end) (sym none))
  step_caused (Ended end) suits r none asks = absurd (asks refl)

-- the lock that is taken is not held
out : (site : Ground) (kept : Kept) (v : View) (s : MoveStep) → SuitsStep site kept s v → (d : Direction) (take : Take) → s ≡ Lock d take → free_of kept.held (target_of d) ≡ None
out site kept v s suits d take e = none_at d kept (subst (λ (z : MoveStep). SuitsStep site kept z v) e suits).1

-- ---- what is decided stays so
stays_at : (kept : Kept) (s : MoveStep) (a : Ans) (outcome : Outcome) → outcome_at s ≡ Some outcome → outcome_at (next_in kept s a).step ≡ Some outcome
stays_at kept (Give held end) Passed outcome some = giving_outcome (given held) end ∙ some
stays_at kept (Give held end) a outcome some = some
stays_at kept (Ended end) a outcome some = some
stays_at kept s a outcome some = absurd (none-some outcome some)

ended_outcome : (end : MoveEnd) → is_without_move (Ended end) ≡ false → (outcome : Outcome) × (outcome_of end ≡ Some outcome)
ended_outcome ends.NoMove closed = absurd (let z = closed in cc)
ended_outcome (ends.Replied answer place) closed = (replied answer place, refl)
ended_outcome (ends.Again why) closed = (again why, refl)
ended_outcome ends.Off closed = (off, refl)

over_decided : (s : MoveStep) → IsTrue (is_over s) → is_without_move s ≡ false → (outcome : Outcome) × (outcome_at s ≡ Some outcome)
over_decided (Give held end) over closed = (outcome_then end, refl)
over_decided (Ended end) over closed = ended_outcome end closed
over_decided s over closed = absurd (no over)

open_at : (s : MoveStep) → is_without_move s ≡ true → outcome_at s ≡ None
open_at (Ended ends.NoMove) is = refl
open_at s is = absurd (let f : false ≡ true = is in cc)

-- EACH OUTCOME of a displacement has its cause
pub move_ends_by_cause : EndsByCause move_part
move_ends_by_cause = record {
  steps = λ site here call words views j op before v did h at s asks small r.
      let st = s.stands in
      let kept : Kept = op.kept in
      let n : ℕ = words (word_of site.shape (wanted op)) in
      let caused = λ (none : outcome_at op.step ≡ None). step_caused site here call kept st.whose words did v op.step st.view r none asks in
      record {
        remembers = recalls_next site kept op.step n did r asks (out site kept v op.step st.view);
        caused = λ outcome none some. (caused none outcome some).0;
        worked = λ none some. never_finished (taken op (answer_to (wanted op) n)) some;
        not_own = λ word value none some. (caused none (again (Busy word value)) some).1;
      };
  stays = λ op a outcome some. stays_at op.kept op.step a outcome some;
  decided = λ site here call op v s done closed. over_decided op.step ((over_done op.kept op.step).1 done) closed;
  undecided = λ op h. open_at op.step h;
}

-- ---- where it begins, and where it hands on
pub begins_remembering : MoveBeginsRemembering
begins_remembering site kept did room changed = (room, changed, tt, tt)

end_remembers : (site : Ground) (kept : Kept) (did : Doings) (s : MoveStep) → RemembersAt site kept did s → is_without_move s ≡ true → RemembersAt site kept did (Ended ends.NoMove)
end_remembers site kept did (Ended ends.NoMove) r is = r
end_remembers site kept did s r is = absurd (let f : false ≡ true = is in cc)

pub hands_on_all : MoveHandsOnAll
hands_on_all = record {
  keeps = λ site here call op v st is. let all = end_keeps site op.kept v op.step st.view is in (st.whose, all.0, all.1);
  remembers = λ site op did r is. end_remembers site op.kept did op.step r is;
}
