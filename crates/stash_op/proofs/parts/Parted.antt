-- A RECORD THAT COMES TO THE STASH IS A PART of a call: its laws one by one.
use Rattle.std.proofs.Common.{◌≡◌, ◌≢◌, ℕ, ◌+◌, ◌^◌, ◌<◌, inl, Bool, true, false, Some, List, refl, sym, ap, ◌∙◌, subst}
use Rattle.std.proofs.lemmas.Option.{none-some}
use Rattle.op_core.specs.declared.want.Want.{Want}
use Rattle.op_core.specs.declared.want.Want.TheVariants as want
use Rattle.op_core.specs.declared.want.Ans.{Ans}
use Rattle.image_layout.specs.Places.{Shape, IsShape}
use Rattle.image_layout.specs.Volatile.{counter_word}
use Rattle.map_model.specs.declared.call.Call.{Call}
use Rattle.map_model.specs.Changes.{call_of}
use Rattle.world.specs.declared.site.Site.{Site}
use Rattle.frame_facts.specs.Facts.{Fact}
use Rattle.world.specs.Ground.{Ground, IsGround}
use Rattle.world.specs.Views.{View, Has}
use Rattle.world.specs.Wants.{answer_to, word_of}
use Rattle.world.specs.Kinds.{wanted as wanted_by, view_after}
use Rattle.world.specs.Attempts.{EntersReply}
use Rattle.world.proofs.stepping.Answers.{is_word}
use Rattle.world.proofs.calls.deeds.Calls.{calls_may}
use Rattle.part.specs.Asks.{IsWithin}
use Rattle.part.specs.Outcomes.{need_split, finished, reply_of}
use Rattle.part.specs.Part.{KeepsSuits, PlansItsCall, LeavesKnown, IsPart, NeverFinished, NeverSplits}
use Rattle.phase.specs.declared.make.Make.{Make}
use Rattle.phase.specs.declared.make.Make.TheVariants as make
use Rattle.phase.specs.declared.kept.Kept.{Kept}
use Rattle.phase.specs.Helds.{give_next}
use Rattle.phase.proofs.locks.Taking.{take_fits}
use Rattle.phase.proofs.locks.Giving.{give_stands}
use Rattle.phase.proofs.locks.Making.{make_fits}
use Rattle.phase.proofs.Handing.{ending_known, none_has, one_has, not_finished, not_split}
use Rattle.phase.proofs.Wanting.{HasFlush, is_fence, Cuts, cuts_call, take_on, give_on}
use Rattle.stash_op.specs.declared.step.NoteWords.{NoteWords}
use Rattle.stash_op.specs.declared.step.Seen.{Seen}
use Rattle.phase.specs.declared.note.NoteWord.{NoteWord}
use Rattle.phase.specs.declared.note.NoteWord.TheVariants.{Mark, Fingers}
use Rattle.stash_op.specs.declared.step.StashEnd.{StashEnd}
use Rattle.stash_op.specs.declared.step.StashEnd.TheVariants as ends
use Rattle.stash_op.specs.declared.step.StashStep.{StashStep}
use Rattle.stash_op.specs.declared.step.StashStep.TheVariants.{Lock, Fill, Note, Draw, CountSpent, Give, Ended}
use Rattle.stash_op.specs.declared.step.StashStep.TheVariants as step
use Rattle.stash_op.specs.declared.op.StashOp.{StashOp}
use Rattle.stash_op.specs.Search.{place_of, note_place, noted, has_finger}
use Rattle.stash_op.specs.Steps.{lock_of, note_wanted, wanted, wanted_in, next_in, end_at, nothing}
use Rattle.stash_op.specs.Fits.{publish_kind, mark_kind, note_kind, kind_at, planned_at, SuitsStep, IsIn, StashStands, outcome_of, outcome_at}
use Rattle.stash_op.specs.StashPart.{stash_part, BeginsAsPart, BeginsUndecided, HandsOnAll}
use Rattle.stash_op.proofs.Over.{full}
use Rattle.stash_op.proofs.Falling.{stash_falls, most_at}
use Rattle.stash_op.proofs.keeping.Areas.{no_areas}
use Rattle.stash_op.proofs.keeping.Going.{at_first_quiet, begin_suits}
use Rattle.stash_op.proofs.keeping.Storing.{publishing}
use Rattle.stash_op.proofs.keeping.Walking.{step_in, may_in}
use Rattle.stash_op.proofs.parts.Wording.{at_first_words, words_after}
use Rattle.stash_op.proofs.parts.Putting.{puts_in, asks_in}
use Rattle.stash_op.proofs.parts.Parting.{makes_in, stays_in, done_in, bare_in, few_in, flush_in, keeps_in, none_waits}

-- ---- each event is that of its kind
module _ (site : Ground) (kept : Kept) (is : IsIn site kept) (seen : Seen) (v : View) where
  mark_wants : (b : Bool) (i x : ℕ) → want.Store i x ≡ wanted_by site.shape (mark_kind kept seen b i x)
  mark_wants true i x = refl
  mark_wants false i x = refl

  note_wants : (part : NoteWord) (note : NoteWords) → note_wanted kept part note ≡ wanted_by site.shape (note_kind kept seen part note)
  note_wants Mark note = mark_wants (has_finger seen note) (lock_of kept (note_place note.bucket) + 1) note.mark
  note_wants Fingers note = refl

  wants_in : (s : StashStep) → SuitsStep site kept seen s v → wanted_in kept seen s ≢ want.Done → wanted_in kept seen s ≡ wanted_by site.shape (kind_at kept seen s)
  wants_in (Lock b take) suits asks = take_fits.wants site.shape (lock_of kept (place_of b)) take suits.3
  wants_in (Fill b load) suits asks = refl
  wants_in (step.Make m) suits asks = make_fits.wants site.shape (publish_kind kept seen) (publishing kept seen) (lock_of kept (place_of seen.bucket)) seen.written m
  wants_in (Note part) suits asks = note_wants part (noted kept.hash seen)
  wants_in Draw suits asks = refl
  wants_in CountSpent suits asks = ap (λ g. want.Load (counter_word g)) is.shape
  wants_in (Give held end) suits asks = give_stands.wants site.shape kept.site kept.hash kept.segment held v suits.locks asks
  wants_in (Ended end) suits asks = absurd (asks refl)

-- ---- EACH STEP
steps : KeepsSuits stash_part
steps site here call words views j op before v h at s asks =
    let kept : Kept = op.kept in
    let seen : Seen = op.stage.seen in
    let st : StashStands site here call op v = s.stands in
    let n : ℕ = words (word_of site.shape (wanted op)) in
    let a : Ans = answer_to (wanted op) n in
    let u : View = view_after site.shape (kind_at kept seen op.stage.step) n v in
    let enters = subst (λ c. EntersReply c (reply_of (outcome_at op.stage.step)) before v) (sym st.same) s.enters in
    let goes = λ (small : n < 2 ^ 64). step_in site kept st.is_in words views j before v h at seen st.has.buckets op.stage.step n small refl st.view enters asks in
    record {
      wants = wants_in site kept st.is_in seen v op.stage.step st.view asks;
      may = calls_may site (kind_at kept seen op.stage.step) v (no_areas site kept seen v op.stage.step st.view)
          (may_in site kept st.is_in words views j before v h at seen st.has.buckets op.stage.step st.view asks);
      stands = λ small. let all = words_after kept seen st.has.buckets op.stage.step a (is_word (wanted op) n small) st.has.load in record {
        same = st.same;
        at = st.at;
        is_in = st.is_in;
        has = record { key = st.has.key; value = st.has.value; buckets = all.0; load = all.1 };
        view = (goes small).0;
      };
      enters = λ small. subst (λ c. EntersReply c (reply_of (outcome_at (next_in kept seen op.stage.step a).step)) before u) st.same (goes small).1;
      makes = makes_in kept seen op.stage.step n;
    }

-- ---- what is planned
module _ (site : Ground) (kept : Kept) (seen : Seen) (before v : View) (x : Call) where
  abbrev Plans : Type 0
  Plans = (x ≡ call_of kept.change) × (v.own ≡ before.own)

  make_planned : (m : Make) → Has x (planned_at site kept seen m) → x ≡ call_of kept.change
  make_planned make.FlushPublished h = one_has (call_of kept.change) x h
  make_planned make.FencePublished h = one_has (call_of kept.change) x h
  make_planned m h = absurd h

  end_planned : (end : StashEnd) → SuitsStep site kept seen (Ended end) v → Has x v.planned → ⊥
  end_planned (ends.NeedSplit segment) suits h = none_has v.planned x suits.0.keeps.quiet.planned h
  end_planned (ends.Replied answer place) suits h = none_has v.planned x suits.planned h
  end_planned (ends.Again why) suits h = none_has v.planned x suits.planned h
  end_planned ends.Off suits h = none_has v.planned x suits.planned h

  planned_in : (s : StashStep) → SuitsStep site kept seen s v → EntersReply (call_of kept.change) (reply_of (outcome_at s)) before v → Has x v.planned → Plans
  planned_in (Lock b t) suits enters h = absurd (none_has v.planned x suits.0.quiet.planned h)
  planned_in (Fill b load) suits enters h = absurd (none_has v.planned x suits.has.quiet.planned h)
  planned_in (step.Make m) suits enters h = (make_planned m (subst (λ calls. Has x calls) suits.planned h), enters.own)
  planned_in (Note part) suits enters h = (one_has (call_of kept.change) x (subst (λ calls. Has x calls) suits.planned h), enters.own)
  planned_in Draw suits enters h = (one_has (call_of kept.change) x (subst (λ calls. Has x calls) suits.planned h), enters.own)
  planned_in CountSpent suits enters h = absurd (none_has v.planned x suits.0.quiet.planned h)
  planned_in (Give held end) suits enters h = absurd (none_has v.planned x suits.quiet.planned h)
  planned_in (Ended end) suits enters h = absurd (end_planned end suits h)

plans : PlansItsCall stash_part
plans site here call op before v planned s h =
    let st : StashStands site here call op v = s.stands in
    let enters = subst (λ c. EntersReply c (reply_of (outcome_at op.stage.step)) before v) (sym st.same) s.enters in
    let got = planned_in site op.kept op.stage.seen before v planned op.stage.step st.view enters h in
    (got.0 ∙ st.same, got.1)

-- ---- the power
module _ (kept : Kept) (seen : Seen) where
  mark_on : (b : Bool) (i x : ℕ) → Cuts (mark_kind kept seen b i x) → ⊥
  mark_on true i x p = p
  mark_on false i x p = p

  note_on : (part : NoteWord) (n : NoteWords) → Cuts (note_kind kept seen part n) → ⊥
  note_on Mark n p = mark_on (has_finger seen n) (lock_of kept (note_place n.bucket) + 1) n.mark p
  note_on Fingers n p = p

  make_on : (m : Make) → Cuts (kind_at kept seen (step.Make m)) → ⊥
  make_on make.Key p = p
  make_on make.Value p = p
  make_on make.Fingers p = p
  make_on make.FlushFingers p = p
  make_on make.FlushRecord p = p
  make_on make.FenceRecord p = p
  make_on make.Publish p = p
  make_on make.FlushPublished p = p
  make_on make.FencePublished p = p

  on_in : (s : StashStep) → Cuts (kind_at kept seen s) → ⊥
  on_in (Lock b t) p = take_on (lock_of kept (place_of b)) t p
  on_in (Fill b load) p = p
  on_in (step.Make m) p = make_on m p
  on_in (Note part) p = note_on part (noted kept.hash seen) p
  on_in Draw p = p
  on_in CountSpent p = p
  on_in (Give held end) p = give_on kept.site kept.hash kept.segment (give_next held) p
  on_in (Ended end) p = p

-- ---- IT IS A PART
within : (site : Ground) (here : Site) (call : Call) (op : StashOp) (v : View) → IsGround site → StashStands site here call op v → IsWithin site.shape (wanted op)
within site here call op v good st =
    subst (λ (g : Shape). IsWithin g (wanted op)) st.is_in.shape (asks_in site op.kept st.is_in op.stage.seen (subst (λ (g : Shape). IsShape g) (sym st.is_in.shape) good.shape) v op.stage.step st.view)

-- it never ends since a segment is stale
known_end : (site : Ground) (end : StashEnd) (facts : List Fact) → LeavesKnown site (outcome_of end) facts
known_end site (ends.Replied answer place) facts = tt
known_end site (ends.NeedSplit segment) facts = tt
known_end site (ends.Again why) facts = tt
known_end site ends.Off facts = tt

known_at : (site : Ground) (s : StashStep) (facts : List Fact) → LeavesKnown site (outcome_at s) facts
known_at site (Give held end) facts = ending_known site end facts
known_at site (Ended end) facts = known_end site end facts
known_at site s facts = tt

pub stash_is_part : IsPart stash_part
stash_is_part = record {
  steps = steps;
  ends = λ site here call op v st over closed on. bare_in site op.kept op.stage.seen v op.stage.step st.view over closed;
  time = record { falls = λ op a i. inl (stash_falls op a i); most = λ op. most_at op.stage.step };
  within = λ site here call op before v good s. within site here call op v good s.stands;
  words = λ site here call op before v s.
      puts_in site op.kept s.stands.is_in op.stage.seen v s.stands.has.buckets s.stands.has.key s.stands.has.value op.stage.step s.stands.view;
  flushes = record {
    most = λ op. few_in op.stage.step;
    flushes = λ op a l is e. flush_in op.kept op.stage.seen op.stage.step a is (subst (λ (w : Want). HasFlush w) (sym e) tt);
    keeps = λ op a is no_fence. keeps_in op.kept op.stage.seen op.stage.step a is (λ f. no_fence (is_fence (wanted op) f));
    ends = λ op over. none_waits op.kept op.stage.seen op.stage.step over;
  };
  made = record {
    stays = λ op a is made. stays_in op.kept op.stage.seen op.stage.step a made;
    done = λ op made over. done_in op.kept op.stage.seen op.stage.step made over;
  };
  plans = plans;
  relies = λ site here call op v s. known_at site op.stage.step v.facts;
  hands = λ op is. let e = full op.stage.step is in ap (wanted_in op.kept op.stage.seen) e.1;
  power = λ op n e. on_in op.kept op.stage.seen op.stage.step (cuts_call (kind_at op.kept op.stage.seen op.stage.step) e);
}

-- ---- where it begins
pub begins_as_part : BeginsAsPart
begins_as_part site here call kept v m k =
    let is : IsIn site kept = record { shape = k.holds.located.shape; hash = k.holds.hashed; leading = k.leads; insert = k.insert } in
    let all = at_first_words kept (nothing kept) m.whose.buckets kept.held.first in record {
      same = m.whose.same;
      at = m.whose.at;
      is_in = is;
      has = record { key = m.whose.key; value = m.whose.value; buckets = all.0; load = all.1 };
      view = begin_suits site kept v k m.thirds is;
    }

pub begins_undecided : BeginsUndecided
begins_undecided kept = at_first_quiet kept (nothing kept) kept.held.first

-- ---- where it hands on
pub hands_on_all : HandsOnAll
hands_on_all site here call op v st is =
    let e = full op.stage.step is in
    let all : SuitsStep site op.kept op.stage.seen (Ended (ends.NeedSplit e.0)) v = subst (λ z. SuitsStep site op.kept op.stage.seen z v) e.1 st.view in
    record {
      may = record { whose = record { same = st.same; at = st.at; key = st.has.key; value = st.has.value; buckets = st.has.buckets }; thirds = all.0.thirds };
      full = all.0;
      told = ap end_at e.1 ∙ ap (λ s. ends.NeedSplit s) all.1;
    }

-- ---- and how it never ends
finishes : (end : StashEnd) → outcome_of end ≡ Some finished → ⊥
finishes (ends.Replied answer place) is = absurd (cc)
finishes (ends.NeedSplit segment) is = absurd (cc)
finishes (ends.Again why) is = absurd (cc)
finishes ends.Off is = absurd (cc)

never_in : (s : StashStep) → outcome_at s ≡ Some finished → ⊥
never_in (Give held end) some = not_finished end some
never_in (Ended end) some = finishes end some
never_in s some = none-some finished some

pub never_finished : NeverFinished stash_part
never_finished op some = never_in op.stage.step some

splits : (end : StashEnd) (segment : ℕ) → outcome_of end ≡ Some (need_split segment) → ⊥
splits (ends.Replied answer place) segment is = absurd (cc)
splits (ends.NeedSplit slot) segment is = absurd (cc)
splits (ends.Again why) segment is = absurd (cc)
splits ends.Off segment is = absurd (cc)

unsplit_in : (s : StashStep) (segment : ℕ) → outcome_at s ≡ Some (need_split segment) → ⊥
unsplit_in (Give held end) segment some = not_split end segment some
unsplit_in (Ended end) segment some = splits end segment some
unsplit_in s segment some = none-some (need_split segment) some

pub never_splits : NeverSplits stash_part
never_splits op segment some = unsplit_in op.stage.step segment some
