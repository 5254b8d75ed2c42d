-- A change ends by its causes, beside any other callers.
use Rattle.std.proofs.Common.{◌≡◌, ◌≢◌, ℕ, ◌<◌, ◌≤◌, Bool, true, false, None, Some, IsTrue, List, refl, sym, ap, ◌∙◌, subst, arith}
use Rattle.std.specs.Prelude.{if◌then◌else◌}
use Rattle.std.proofs.lemmas.Option.{none-some}
use Rattle.op_core.specs.declared.want.Want.TheVariants as want
use Rattle.op_core.specs.declared.want.Ans.{Ans}
use Rattle.op_core.specs.declared.want.Ans.TheVariants.{Passed}
use Rattle.op_core.specs.declared.why.Why.TheVariants.{Busy}
use Rattle.trace.specs.Events.{Words}
use Rattle.image_layout.specs.Places.{Shape}
use Rattle.frame_facts.specs.Facts.{Fact}
use Rattle.sound_image.specs.Records.{key_hash}
use Rattle.map_model.specs.declared.call.Call.{Call}
use Rattle.map_model.specs.declared.entry.Reply.TheVariants as reply
use Rattle.map_model.specs.Map.{key_of}
use Rattle.world.specs.declared.site.Site.{Site}
use Rattle.world.specs.Ground.{Ground, IsGround}
use Rattle.world.specs.Views.{View}
use Rattle.world.specs.Wants.{answer_to, word_of}
use Rattle.world.specs.Kinds.{view_after}
use Rattle.world.specs.Conditions.{IsNewest}
use Rattle.world.proofs.calls.deeds.Calls.{newest_without}
use Rattle.part.specs.Doings.{Doings, with_event_of}
use Rattle.part.specs.Outcomes.{Outcome, replied, again, stale, off}
use Rattle.part.specs.Causes.{HasCause, EndsByCause}
use Rattle.phase.specs.declared.role.Role.{Role}
use Rattle.phase.specs.declared.walk.Walk.{Walk}
use Rattle.phase.specs.declared.walk.Walked.TheVariants as walked
use Rattle.phase.specs.declared.take.Take.{Take}
use Rattle.phase.specs.declared.take.Take.TheVariants.{Look, Try}
use Rattle.phase.specs.Walks.{walk_wanted, walk_taken}
use Rattle.phase.specs.Takes.{take_wanted, take_taken}
use Rattle.phase.specs.Backs.{back_word, back_taken}
use Rattle.phase.specs.Loads.{load_taken}
use Rattle.phase.specs.Helds.{free_of, given}
use Rattle.phase.specs.Stands.{walk_kind, HasWalked}
use Rattle.phase.proofs.Walking.{walk_stands}
use Rattle.phase.proofs.asking.Causing.{walk_caused, back_caused}
use Rattle.phase.proofs.locks.Taking.{take_caused}
use Rattle.phase.proofs.Wanting.{no}
use Rattle.phase.proofs.locks.Giving.{has_not}
use Rattle.write_op.specs.declared.step.Task.{Task}
use Rattle.write_op.specs.declared.step.Seen.{Seen}
use Rattle.phase.specs.declared.ending.Ending.TheVariants as ending
use Rattle.write_op.specs.declared.step.WriteEnd.{WriteEnd}
use Rattle.write_op.specs.declared.step.WriteEnd.TheVariants as ends
use Rattle.phase.specs.declared.note.NoteWord.{NoteWord}
use Rattle.phase.specs.declared.note.NoteWord.TheVariants.{Mark, Fingers}
use Rattle.write_op.specs.declared.step.WriteStep.{WriteStep}
use Rattle.write_op.specs.declared.step.WriteStep.TheVariants.{Way, Lock, Check, Fill, Count, Draw, Unnote, CountSpent, Give, Ended}
use Rattle.write_op.specs.declared.step.WriteStep.TheVariants as step
use Rattle.write_op.specs.Search.{unnoted, has_finger}
use Rattle.write_op.specs.Steps.{go, answered, unnoted_to, lock_of, wanted_in, next_in, wanted, taken, is_over, is_without_slot}
use Rattle.phase.specs.Asked.{index, loaded_by}
use Rattle.write_op.specs.Fits.{HasLoaded, SuitsStep, outcome_of, outcome_at, IsIn}
use Rattle.write_op.specs.ChangePart.{RemembersIn, change_part}
use Rattle.write_op.proofs.keeping.Areas.{no_areas}
use Rattle.write_op.proofs.keeping.Going.{located}
use Rattle.write_op.proofs.keeping.Stepping.{walk_answer}
use Rattle.write_op.proofs.keeping.Entering.{giving_outcome}
use Rattle.write_op.proofs.Over.{over_done, without}
use Rattle.write_op.proofs.parts.Parted.{never_finished}
use Rattle.phase.proofs.Handing.{key_called}
use Rattle.phase.specs.Endings.{outcome_then}
use Rattle.write_op.proofs.finding.Places.{held_asked}
use Rattle.write_op.proofs.causing.Recalling.{recalls_next}
use Rattle.write_op.proofs.causing.Deciding.{CausedIf, walked_caused, locked_caused, backed_caused, filled_open, counted_caused, make_open, drawn_caused, own_lock, spent_caused}
use Rattle.write_op.proofs.causing.Unchanged.{back_unchanged, lock_unchanged}

-- ---- in a world, for the caller with this view
module _ (site : Ground) (good : IsGround site) (task : Task) (is : IsIn site task) (words : Words) (seen : Seen) (v : View) (new : IsNewest site v words) where
  abbrev Finds : WriteStep → ℕ
  Finds s = words (word_of site.shape (wanted_in task seen s))

  -- the lock that is taken is not held
  out : (place : Role) (m : ℕ) → HasLoaded site task seen (index place) m v → free_of seen.held place ≡ None
  out place m h = h.upto.others place (λ u. let low = u.low in omega (arith, low))

  -- what the way finds is never amiss
  module _ (w : Walk) (suits : SuitsStep site task seen (Way w) v) where
    abbrev found : ℕ
    found = words (word_of site.shape (walk_wanted task.site task.hash w))

    abbrev facts : List Fact
    facts = (view_after site.shape (walk_kind task.site task.hash w) found v).facts

    has : HasWalked site (walk_taken task.site task.hash w found) facts
    has = walk_stands site task.site task.hash words v good.shape is.shape is.fits new w suits.1 found refl

    never_amiss : (word value : ℕ) → walk_taken task.site task.hash w found ≡ walked.Amiss word value → ⊥
    never_amiss word value e = subst (λ x. HasWalked site x facts) e has

  -- WHAT IS REMEMBERED
  recalled : (s : WriteStep) (did : Doings) → SuitsStep site task seen s v → RemembersIn task seen did s
      → RemembersIn task (next_in task seen s (answer_to (wanted_in task seen s) (Finds s))).seen (with_event_of (wanted_in task seen s) (answer_to (wanted_in task seen s) (Finds s)) did)
      (next_in task seen s (answer_to (wanted_in task seen s) (Finds s))).step
  recalled s did suits r = recalls_next task seen s (Finds s) did r
      (λ place take e. out place (loaded_by place) (subst (λ z. SuitsStep site task seen z v) e suits).0)
      (λ e place held. held_asked seen (subst (λ z. SuitsStep site task seen z v) e suits).0.upto place held)

  -- ---- causes
  module _ (did : Doings) (call : Call) (hash_is : task.hash ≡ key_hash task.site.geometry (key_of call)) where
    abbrev Decides : WriteStep → Type 0
    Decides s = CausedIf task words did call hash_is v (wanted_in task seen s) (next_in task seen s (answer_to (wanted_in task seen s) (Finds s))).step

    within_here : (segment : ℕ) → segment < site.shape.segments → segment < task.site.geometry.segments
    within_here segment within = subst (λ (g : Shape). segment < g.segments) (sym is.shape) within

    lock_caused : (place : Role) (take : Take) → SuitsStep site task seen (Lock place take) v → RemembersIn task seen did (Lock place take)
        → CausedIf task words did call hash_is v (take_wanted (lock_of task seen place) take)
        (next_in task seen (Lock place take) (answer_to (take_wanted (lock_of task seen place) take) (words (lock_of task seen place)))).step
    lock_caused place take suits r =
        let lock : ℕ = lock_of task seen place in
        let at = located site task is seen v.facts suits.0.there in
        let none = out place (loaded_by place) suits.0 in
        locked_caused task words did call hash_is v seen place take (take_taken take (answer_to (take_wanted lock take) (words lock)))
        (has_not site task.site task.hash seen.path.segment seen.held place v at suits.0.locks none)
        (take_caused task.site.geometry words did call lock (own_lock task words did call hash_is v seen r.0 (within_here seen.path.segment at.within) place r.3)
        (lock_unchanged task seen did.loads r.0 did.changed place none r.1) take suits.3 r.2)

    step_caused : (s : WriteStep) → SuitsStep site task seen s v → RemembersIn task seen did s → outcome_at s ≡ None → wanted_in task seen s ≢ want.Done → Decides s
    step_caused (Way w) suits r none asks =
        let n : ℕ = Finds (Way w) in
        subst (λ (a : Ans). CausedIf task words did call hash_is v (walk_wanted task.site task.hash w) (next_in task seen (Way w) a).step) (sym (walk_answer task.site task.hash w n))
        (walked_caused task words did call hash_is v seen w (walk_taken task.site task.hash w n) (never_amiss w suits)
        (walk_caused task.site task.hash words did call hash_is w r.0 n (ap (λ (g : Shape). words (word_of g (walk_wanted task.site task.hash w))) (sym is.shape))))
    step_caused (Lock place Look) suits r none asks = lock_caused place Look suits r
    step_caused (Lock place (Try free)) suits r none asks = lock_caused place (Try free) suits r
    step_caused (Check back) suits r none asks =
        let n : ℕ = words (back_word task.site task.hash seen.path back) in
        backed_caused task words did call hash_is v seen back (back_taken task.site task.hash seen.path back n)
        (back_caused task.site task.hash words did call hash_is seen.path r.0
        (λ at. back_unchanged task seen did.loads r.0 did.changed (subst (λ (g : Shape). g.depth ≤ 16) (sym is.shape) good.shape.depth) is.fits at r.1) back n refl)
    step_caused (Fill place load) suits r none asks = filled_open task words did call hash_is v (wanted_in task seen (Fill place load)) seen place (load_taken load (Finds (Fill place load)))
    step_caused Count suits r none asks = counted_caused task words did call hash_is v (wanted_in task seen Count) seen (Finds Count) refl
    step_caused (step.Make m) suits r none asks = make_open task words did call hash_is v (wanted_in task seen (step.Make m)) seen m _
    step_caused Draw suits r none asks = drawn_caused task words did call hash_is v want.Draw seen (Finds Draw)
    step_caused (Unnote part place) suits r none asks = absurd (none-some (replied reply.Done place) (sym none))
    step_caused CountSpent suits r none asks =
        spent_caused task words did call hash_is v seen r.0 (within_here seen.path.segment suits.0.located.within) (wanted_in task seen CountSpent) (Finds CountSpent) r.1.0 r.1.1 r.1.2
    step_caused (Give held end) suits r none asks = absurd (none-some (outcome_then end) (sym none))
    step_caused (Ended end) suits r none asks = absurd (asks refl)

-- ---- what is decided stays so
module _ (task : Task) (seen : Seen) where
  unnoted_stays : (part : NoteWord) (place : ℕ) → outcome_at (unnoted_to task seen part place).step ≡ Some (replied reply.Done place)
  unnoted_stays Mark place = by (has_finger seen (unnoted task.hash seen))
    where
      by : (b : Bool) → outcome_at (if b then go seen (Unnote Fingers place) else answered seen place reply.Done).step ≡ Some (replied reply.Done place)
      by true = refl
      by false = giving_outcome seen.held (ending.Replied reply.Done place)
  unnoted_stays Fingers place = giving_outcome seen.held (ending.Replied reply.Done place)

  stays_at : (s : WriteStep) (a : Ans) (outcome : Outcome) → outcome_at s ≡ Some outcome → outcome_at (next_in task seen s a).step ≡ Some outcome
  stays_at (Unnote part place) Passed outcome some = unnoted_stays part place ∙ some
  stays_at (Unnote part place) a outcome some = some
  stays_at (Give held end) Passed outcome some = giving_outcome (given held) end ∙ some
  stays_at (Give held end) a outcome some = some
  stays_at (Ended end) a outcome some = some
  stays_at s a outcome some = absurd (none-some outcome some)

ended_outcome : (end : WriteEnd) → is_without_slot (Ended end) ≡ false → (outcome : Outcome) × (outcome_of end ≡ Some outcome)
ended_outcome ends.NoSlot closed = absurd (let z = closed in cc)
ended_outcome (ends.Replied answer place) closed = (replied answer place, refl)
ended_outcome (ends.Again why) closed = (again why, refl)
ended_outcome (ends.Stale segment byte) closed = (stale segment byte, refl)
ended_outcome ends.Off closed = (off, refl)

over_decided : (s : WriteStep) → IsTrue (is_over s) → is_without_slot s ≡ false → (outcome : Outcome) × (outcome_at s ≡ Some outcome)
over_decided (Give held end) over closed = (outcome_then end, refl)
over_decided (Ended end) over closed = ended_outcome end closed
over_decided s over closed = absurd (no over)

-- EACH OUTCOME of a change has its cause
pub change_ends_by_cause : EndsByCause change_part
change_ends_by_cause = record {
  steps = λ site here call words views j op before v did h at s asks small r.
      let st = s.stands in
      let task : Task = op.task in
      let seen : Seen = op.stage.seen in
      let new : IsNewest site v words = newest_without site words views j v h at (no_areas site task seen v op.stage.step st.view) in
      let hash_is : task.hash ≡ key_hash task.site.geometry (key_of call) =
      st.is_in.hash ∙ ap (λ (g : Shape). key_hash g task.change.key) (sym st.is_in.shape) ∙ ap (key_hash task.site.geometry) (sym (key_called task.change) ∙ ap key_of st.same) in
      let caused = λ (none : outcome_at op.stage.step ≡ None).
      step_caused site h.site_is task st.is_in words seen v new did call hash_is op.stage.step st.view r none asks in
      record {
        remembers = recalled site h.site_is task st.is_in words seen v new op.stage.step did st.view r;
        caused = λ outcome none some.
            subst (λ (g : Shape). HasCause g words did call (wanted op) here outcome) st.is_in.shape
            (subst (λ (z : Site). HasCause task.site.geometry words did call (wanted op) z outcome) st.at (caused none outcome some).0);
        worked = λ none some. never_finished (taken op (answer_to (wanted op) (words (word_of site.shape (wanted op))))) some;
        not_own = λ word value none some. (caused none (again (Busy word value)) some).1;
      };
  stays = λ op a outcome some. stays_at op.task op.stage.seen op.stage.step a outcome some;
  decided = λ site here call op v s done closed. over_decided op.stage.step ((over_done op.task op.stage.seen op.stage.step).1 done) closed;
  undecided = λ op is. ap outcome_at (without op.stage.step is);
}
