-- A DISPLACEMENT IS A PART of a call.
use Rattle.std.proofs.Common.{◌≡◌, ◌≢◌, ℕ, ◌^◌, ◌<◌, arith, inl, true, false, Some, List, refl, sym, ap, ◌∙◌, subst}
use Rattle.std.proofs.lemmas.Option.{none-some}
use Rattle.op_core.specs.declared.want.Want.{Want}
use Rattle.op_core.specs.declared.want.Want.TheVariants as want
use Rattle.op_core.specs.declared.want.Ans.{Ans}
use Rattle.image_layout.specs.Places.{Shape, IsShape}
use Rattle.map_model.specs.declared.call.Call.{Call}
use Rattle.map_model.specs.declared.change.Change.{Change}
use Rattle.map_model.specs.Changes.{call_of}
use Rattle.world.specs.declared.site.Site.{Site}
use Rattle.frame_facts.specs.Facts.{Fact}
use Rattle.world.specs.Ground.{Ground, IsGround}
use Rattle.world.specs.Views.{View}
use Rattle.world.specs.Wants.{answer_to, word_of}
use Rattle.world.specs.Kinds.{wanted as wanted_by, view_after}
use Rattle.world.specs.Attempts.{EntersReply}
use Rattle.world.proofs.stepping.Answers.{is_word}
use Rattle.world.proofs.calls.deeds.Calls.{calls_may}
use Rattle.image_layout.specs.Volatile.{counter_word}
use Rattle.part.specs.Asks.{IsWithin}
use Rattle.part.specs.Outcomes.{need_split, finished, reply_of}
use Rattle.part.specs.Part.{KeepsSuits, PlansItsCall, LeavesKnown, IsPart, NeverFinished, NeverSplits}
use Rattle.phase.specs.declared.role.Role.{Role}
use Rattle.phase.specs.declared.kept.Kept.{Kept}
use Rattle.phase.specs.AreWords.{AreWords}
use Rattle.phase.specs.Keeps.{IsOfCall, KeepsAll, HoldsThirds}
use Rattle.phase.specs.Buckets.{words_in}
use Rattle.phase.proofs.Wanting.{HasFlush, is_fence, cuts_call}
use Rattle.phase.proofs.locks.Taking.{take_fits}
use Rattle.phase.proofs.locks.Giving.{give_stands}
use Rattle.phase.proofs.locks.Making.{make_fits}
use Rattle.move_op.specs.declared.step.MoveEnd.{MoveEnd}
use Rattle.move_op.specs.declared.step.MoveEnd.TheVariants as ends
use Rattle.phase.specs.Makes.{brought}
use Rattle.phase.proofs.Handing.{ending_known, not_finished, not_split}
use Rattle.move_op.specs.declared.step.MoveStep.{MoveStep}
use Rattle.move_op.specs.declared.step.MoveStep.TheVariants.{Lock, Fill, CountSpent, Draw, Give, Ended}
use Rattle.move_op.specs.declared.step.MoveStep.TheVariants as step
use Rattle.move_op.specs.Shifts.{target_of, record_of}
use Rattle.move_op.specs.Steps.{lock_of, lock_at, wanted, taken, wanted_in, next_in, is_without_move}
use Rattle.move_op.specs.Fits.{leg_kind, kind_at, SuitsStep, MoveStands, outcome_of, outcome_at}
use Rattle.move_op.specs.MovePart.{move_part, MoveBeginsAsPart, MoveBeginsUndecided}
use Rattle.move_op.proofs.Falling.{move_falls, most_at}
use Rattle.move_op.proofs.Permitting.{may_in}
use Rattle.move_op.proofs.keeping.Storing.{storing}
use Rattle.move_op.proofs.keeping.Areas.{no_areas}
use Rattle.move_op.proofs.keeping.Stepping.{step_in}
use Rattle.move_op.proofs.parts.Wording.{words_after, same_after}
use Rattle.move_op.proofs.parts.Putting.{puts_in, asks_in}
use Rattle.move_op.proofs.parts.Parting.{makes_in, stays_in, done_in, bare_in, few_in, flush_in, keeps_in, none_waits, on_in, planned_in}

-- ---- EACH STEP
-- the event is that of its kind
wants_in : (site : Ground) (kept : Kept) (shape : kept.site.geometry ≡ site.shape) (v : View) (s : MoveStep) → SuitsStep site kept s v → wanted_in kept s ≢ want.Done → wanted_in kept s ≡ wanted_by site.shape (kind_at kept s)
wants_in site kept shape v (Lock d t) suits asks = take_fits.wants site.shape (lock_of kept (target_of d)) t suits.2
wants_in site kept shape v (Fill d load) suits asks = refl
wants_in site kept shape v CountSpent suits asks = ap (λ g. want.Load (counter_word g)) shape
wants_in site kept shape v (step.Make shift leg m) suits asks = make_fits.wants site.shape (leg_kind kept shift leg) (storing kept shift leg) (lock_at kept shift leg) (record_of shift leg) m
wants_in site kept shape v (Draw shift) suits asks = refl
wants_in site kept shape v (Give held end) suits asks = give_stands.wants site.shape kept.site kept.hash kept.segment held v suits.locks asks
wants_in site kept shape v (Ended end) suits asks = absurd (asks refl)

-- where it is located, whatever it does
shape_of : (site : Ground) (kept : Kept) (v : View) (s : MoveStep) → SuitsStep site kept s v → wanted_in kept s ≢ want.Done → kept.site.geometry ≡ site.shape
shape_of site kept v (Lock d t) suits asks = suits.0.holds.located.shape
shape_of site kept v (Fill d load) suits asks = suits.0.located.shape
shape_of site kept v CountSpent suits asks = suits.0.holds.located.shape
shape_of site kept v (step.Make shift leg m) suits asks = suits.all.located.shape
shape_of site kept v (Draw shift) suits asks = suits.all.located.shape
shape_of site kept v (Give held end) suits asks = suits.located.shape
shape_of site kept v (Ended end) suits asks = absurd (asks refl)

-- what may run goes on so
goes_on : (site : Ground) (here : Site) (call : Call) (kept next : Kept) → IsOfCall here call kept → next.change ≡ kept.change → next.site ≡ kept.site → ((p : Role) → AreWords (words_in next.buckets p))
    → IsOfCall here call next
goes_on site here call kept next whose change at all = record {
  same = ap call_of change ∙ whose.same;
  at = at ∙ whose.at;
  key = subst (λ (c : Change). c.key < 2 ^ 64) (sym change) whose.key;
  value = subst (λ (c : Change). brought c.effect < 2 ^ 64) (sym change) whose.value;
  buckets = all;
}

steps : KeepsSuits move_part
steps site here call words views j op before v h at s asks =
    let kept : Kept = op.kept in
    let st : MoveStands site here call op v = s.stands in
    let n : ℕ = words (word_of site.shape (wanted op)) in
    let a : Ans = answer_to (wanted op) n in
    let u : View = view_after site.shape (kind_at kept op.step) n v in
    let enters = subst (λ c. EntersReply c (reply_of (outcome_at op.step)) before v) (sym st.whose.same) s.enters in
    let same = same_after kept op.step a in
    let goes = λ (small : n < 2 ^ 64). step_in site kept words views j before v h at op.step n small refl st.view enters asks in
    record {
      wants = wants_in site kept (shape_of site kept v op.step st.view asks) v op.step st.view asks;
      may = calls_may site (kind_at kept op.step) v (no_areas site kept v op.step st.view) (may_in site here call kept st.whose v op.step st.view asks);
      stands = λ small. let all = words_after kept st.whose.buckets op.step a (is_word (wanted op) n small) st.load in record {
        whose = goes_on site here call kept (taken op a).kept st.whose same.0 same.1 all.0;
        load = all.1;
        view = (goes small).0;
      };
      enters = λ small. subst (λ c. EntersReply c (reply_of (outcome_at (next_in kept op.step a).step)) before u) (ap call_of same.0 ∙ st.whose.same) (goes small).1;
      makes = makes_in kept op.step n;
    }

plans : PlansItsCall move_part
plans site here call op before v planned s h =
    let st : MoveStands site here call op v = s.stands in
    let enters = subst (λ c. EntersReply c (reply_of (outcome_at op.step)) before v) (sym st.whose.same) s.enters in
    let got = planned_in site op.kept before v planned op.step st.view enters h in
    (got.0 ∙ st.whose.same, got.1)

-- it asks for words of the image
module _ (site : Ground) (good : IsGround site) (kept : Kept) (v : View) where
  located_within : (s : MoveStep) → kept.site.geometry ≡ site.shape → SuitsStep site kept s v → IsWithin site.shape (wanted_in kept s)
  located_within s shape suits = subst (λ (g : Shape). IsWithin g (wanted_in kept s)) shape (asks_in site kept (subst (λ (g : Shape). IsShape g) (sym shape) good.shape) v s suits)

  within_at : (s : MoveStep) → SuitsStep site kept s v → IsWithin site.shape (wanted_in kept s)
  within_at (Lock d t) suits = located_within (Lock d t) suits.0.holds.located.shape suits
  within_at (Fill d load) suits = located_within (Fill d load) suits.0.located.shape suits
  within_at CountSpent suits = located_within CountSpent suits.0.holds.located.shape suits
  within_at (step.Make shift leg m) suits = located_within (step.Make shift leg m) suits.all.located.shape suits
  within_at (Draw shift) suits = located_within (Draw shift) suits.all.located.shape suits
  within_at (Give held end) suits = located_within (Give held end) suits.located.shape suits
  within_at (Ended end) suits = record { word = (let some = good.shape.some in omega (arith, some)); line = λ l e. absurd (let z : want.Done ≡ want.Flush l = e in cc) }

hands_at : (kept : Kept) (s : MoveStep) → is_without_move s ≡ true → wanted_in kept s ≡ want.Done
hands_at kept (Ended end) is = refl
hands_at kept s is = absurd (let f : false ≡ true = is in cc)

-- it never ends since a segment is stale
known_end : (site : Ground) (end : MoveEnd) (facts : List Fact) → LeavesKnown site (outcome_of end) facts
known_end site (ends.Replied answer place) facts = tt
known_end site ends.NoMove facts = tt
known_end site (ends.Again why) facts = tt
known_end site ends.Off facts = tt

known_at : (site : Ground) (s : MoveStep) (facts : List Fact) → LeavesKnown site (outcome_at s) facts
known_at site (Give held end) facts = ending_known site end facts
known_at site (Ended end) facts = known_end site end facts
known_at site s facts = tt

pub move_is_part : IsPart move_part
move_is_part = record {
  steps = steps;
  ends = λ site here call op v st over closed on. bare_in site op.kept v op.step st.view over closed;
  time = record { falls = λ op a i. inl (move_falls op a i); most = λ op. most_at op.step };
  within = λ site here call op before v good s. within_at site good op.kept v op.step s.stands.view;
  words = λ site here call op before v s. puts_in site here call op.kept s.stands.whose v op.step s.stands.view;
  flushes = record {
    most = λ op. few_in op.step;
    flushes = λ op a l is e. flush_in op.kept op.step a is (subst (λ (w : Want). HasFlush w) (sym e) tt);
    keeps = λ op a is no_fence. keeps_in op.kept op.step a is (λ f. no_fence (is_fence (wanted op) f));
    ends = λ op over. none_waits op.kept op.step over;
  };
  made = record {
    stays = λ op a is made. stays_in op.kept op.step a made;
    done = λ op made over. done_in op.kept op.step made over;
  };
  plans = plans;
  relies = λ site here call op v s. known_at site op.step v.facts;
  hands = λ op h. hands_at op.kept op.step h;
  power = λ op n e. on_in op.kept op.step (cuts_call (kind_at op.kept op.step) e);
}

-- ---- where it begins, and how it never ends
pub begins_as_part : MoveBeginsAsPart
begins_as_part site here call kept v whose keeps none = record { whose = whose; load = tt; view = (keeps, none, tt) }

pub begins_undecided : MoveBeginsUndecided
begins_undecided kept = refl

finishes : (end : MoveEnd) → outcome_of end ≡ Some finished → ⊥
finishes (ends.Replied answer place) is = absurd (cc)
finishes ends.NoMove is = absurd (cc)
finishes (ends.Again why) is = absurd (cc)
finishes ends.Off is = absurd (cc)

never_in : (s : MoveStep) → outcome_at s ≡ Some finished → ⊥
never_in (Give held end) some = not_finished end some
never_in (Ended end) some = finishes end some
never_in s some = none-some finished some

pub never_finished : NeverFinished move_part
never_finished op some = never_in op.step some

splits : (end : MoveEnd) (segment : ℕ) → outcome_of end ≡ Some (need_split segment) → ⊥
splits (ends.Replied answer place) segment is = absurd (cc)
splits ends.NoMove segment is = absurd (cc)
splits (ends.Again why) segment is = absurd (cc)
splits ends.Off segment is = absurd (cc)

unsplit_in : (s : MoveStep) (segment : ℕ) → outcome_at s ≡ Some (need_split segment) → ⊥
unsplit_in (Give held end) segment some = not_split end segment some
unsplit_in (Ended end) segment some = splits end segment some
unsplit_in s segment some = none-some (need_split segment) some

pub never_splits : NeverSplits move_part
never_splits op segment some = unsplit_in op.step segment some

-- where it hands on
pub end_keeps : (site : Ground) (kept : Kept) (v : View) (s : MoveStep) → SuitsStep site kept s v → is_without_move s ≡ true → KeepsAll site kept v × HoldsThirds kept.held
end_keeps site kept v (Ended ends.NoMove) suits is = suits
end_keeps site kept v s suits is = absurd (let f : false ≡ true = is in cc)
