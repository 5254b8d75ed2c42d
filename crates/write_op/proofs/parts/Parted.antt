-- A CHANGE IS A PART of a call: its laws one by one.
use Rattle.std.proofs.Common.{◌≡◌, ℕ, ◌+◌, ◌^◌, ◌<◌, inl, Bool, true, false, Option, None, Some, refl, sym, ap, ◌∙◌, subst}
use Rattle.std.specs.Prelude.{nat_le, nat_lt, if◌then◌else◌}
use Rattle.std.proofs.lemmas.Option.{none-some}
use Rattle.op_core.specs.declared.want.Want.{Want}
use Rattle.op_core.specs.declared.want.Ans.{Ans}
use Rattle.hash_word.specs.Hash.{home_of, index_of}
use Rattle.image_layout.specs.Places.{Shape, IsShape, root_word}
use Rattle.map_model.specs.declared.call.Call.{Call}
use Rattle.map_model.specs.declared.change.Effect.{Effect}
use Rattle.map_model.specs.declared.change.Effect.TheVariants.{Insert, Update, Remove}
use Rattle.map_model.specs.Changes.{call_of}
use Rattle.sound_image.specs.Records.{key_hash}
use Rattle.sound_image.proofs.Hashes.{key_hash-fits}
use Rattle.world.specs.declared.site.Site.{Site}
use Rattle.world.specs.Ground.{Ground, IsGround}
use Rattle.world.specs.Views.{View, Has}
use Rattle.world.specs.Wants.{answer_to, word_of}
use Rattle.world.specs.Kinds.{Kind, peeks, meets_entry, meets_head, pins, finds_room, view_after}
use Rattle.world.specs.Attempts.{EntersReply}
use Rattle.world.proofs.stepping.Answers.{is_word}
use Rattle.world.proofs.calls.deeds.Calls.{calls_may}
use Rattle.part.specs.Asks.{IsWithin}
use Rattle.part.specs.Outcomes.{need_split, finished, reply_of}
use Rattle.part.specs.Part.{KeepsSuits, PlansItsCall, LeavesKnown, IsPart, NeverFinished, NeverSplits}
use Rattle.phase.specs.declared.role.Role.{Role}
use Rattle.phase.specs.declared.role.Role.TheVariants as place
use Rattle.phase.specs.declared.walk.Walk.{Walk}
use Rattle.phase.specs.declared.walk.Walk.TheVariants as walk
use Rattle.phase.specs.declared.back.Back.{Back}
use Rattle.phase.specs.declared.back.Back.TheVariants as back
use Rattle.phase.specs.declared.make.Make.{Make}
use Rattle.phase.specs.declared.make.Make.TheVariants as make
use Rattle.phase.specs.Helds.{give_next}
use Rattle.phase.specs.Buckets.{words_in, no_words}
use Rattle.phase.specs.AreWords.{AreWords}
use Rattle.phase.specs.Keeps.{KeepsAll, HasNoThird}
use Rattle.phase.specs.Stands.{walk_kind, back_kind}
use Rattle.write_op.specs.declared.search.NoteWords.{NoteWords}
use Rattle.write_op.specs.declared.step.Task.{Task}
use Rattle.write_op.specs.declared.step.Spot.{Spot}
use Rattle.write_op.specs.declared.step.Seen.{Seen}
use Rattle.phase.specs.declared.note.NoteWord.{NoteWord}
use Rattle.phase.specs.declared.note.NoteWord.TheVariants.{Mark, Fingers}
use Rattle.write_op.specs.declared.step.WriteEnd.{WriteEnd}
use Rattle.write_op.specs.declared.step.WriteEnd.TheVariants as ends
use Rattle.write_op.specs.declared.step.WriteStep.{WriteStep}
use Rattle.write_op.specs.declared.step.WriteStep.TheVariants.{Way, Lock, Check, Fill, Count, Draw, Unnote, CountSpent, Give, Ended}
use Rattle.write_op.specs.declared.step.WriteStep.TheVariants as step
use Rattle.write_op.specs.declared.op.WriteOp.{WriteOp}
use Rattle.write_op.specs.Search.{found, leaves_note, unnoted, has_finger}
use Rattle.write_op.specs.Steps.{lock_of, wanted, wanted_in, next_in, kept_of}
use Rattle.write_op.specs.Fits.{publish_by, inserting_kind, changing_kind, deciding_kind, mark_kind, note_kind, kind_at, kind_of, planned_at, SuitsEnd, SuitsStep, ChangeStands, outcome_of, outcome_at}
use Rattle.write_op.specs.ChangePart.{RemembersIn, change_part, BeginsAsPart, BeginsBare, BeginsUndecided, BeginsRemembering, HandsOnAll, HandsOnRemembering}
use Rattle.phase.proofs.Wanting.{HasFlush, is_fence, Cuts, cuts_call, take_on, give_on}
use Rattle.phase.proofs.Wording.{none_words}
use Rattle.phase.proofs.Handing.{ending_known, none_has, one_has, not_finished, not_split}
use Rattle.write_op.proofs.Over.{without}
use Rattle.write_op.proofs.Falling.{change_falls, most_at}
use Rattle.write_op.proofs.parts.Fitting.{wants_in}
use Rattle.write_op.proofs.keeping.Areas.{no_areas}
use Rattle.write_op.proofs.keeping.Walking.{step_in, may_in}
use Rattle.write_op.proofs.parts.Wording.{words_after}
use Rattle.write_op.proofs.parts.Putting.{puts_in, asks_in}
use Rattle.write_op.proofs.parts.Parting.{makes_in, stays_in, done_in, bare_in, few_in, flush_in, keeps_in, none_waits}

-- ---- EACH STEP
steps : KeepsSuits change_part
steps site here call words views j op before v h at s asks =
    let task : Task = op.task in
    let seen : Seen = op.stage.seen in
    let st : ChangeStands site here call op v = s.stands in
    let n : ℕ = words (word_of site.shape (wanted op)) in
    let a : Ans = answer_to (wanted op) n in
    let u : View = view_after site.shape (kind_of op n) n v in
    let enters = subst (λ c. EntersReply c (reply_of (outcome_at op.stage.step)) before v) (sym st.same) s.enters in
    let goes = λ (small : n < 2 ^ 64). step_in site task st.is_in words views j before v h at s.callers seen st.has.buckets op.stage.step n small refl st.view enters asks in
    record {
      wants = wants_in site task seen st.is_in v op.stage.step n st.view asks;
      may = calls_may site (kind_of op n) v (no_areas site task seen v op.stage.step st.view)
          (may_in site task st.is_in words views j before v h at s.callers seen st.has.buckets op.stage.step n st.view asks);
      stands = λ small. let all = words_after task seen st.has.buckets op.stage.step a (is_word (wanted op) n small) st.has.load in record {
        same = st.same;
        at = st.at;
        is_in = st.is_in;
        has = record { key = st.has.key; value = st.has.value; buckets = all.0; load = all.1 };
        view = (goes small).0;
      };
      enters = λ small. subst (λ c. EntersReply c (reply_of (outcome_at (next_in task seen op.stage.step a).step)) before u) st.same (goes small).1;
      makes = makes_in task seen op.stage.step n;
    }

-- ---- what is planned
module _ (site : Ground) (task : Task) (seen : Seen) (before v : View) (x : Call) where
  abbrev Plans : Type 0
  Plans = (x ≡ call_of task.change) × (v.own ≡ before.own)

  make_planned : (m : Make) → Has x (planned_at site task seen m) → x ≡ call_of task.change
  make_planned make.FlushPublished h = one_has (call_of task.change) x h
  make_planned make.FencePublished h = one_has (call_of task.change) x h
  make_planned m h = absurd h

  end_planned : (end : WriteEnd) → SuitsStep site task seen (Ended end) v → Has x v.planned → ⊥
  end_planned ends.NoSlot suits h = none_has v.planned x suits.0.quiet.planned h
  end_planned (ends.Replied answer place) suits h = none_has v.planned x suits.planned h
  end_planned (ends.Again why) suits h = none_has v.planned x suits.planned h
  end_planned (ends.Stale segment version) suits h = none_has v.planned x suits.0.planned h
  end_planned ends.Off suits h = none_has v.planned x suits.planned h

  planned_in : (s : WriteStep) → SuitsStep site task seen s v → EntersReply (call_of task.change) (reply_of (outcome_at s)) before v → Has x v.planned → Plans
  planned_in (Way w) suits enters h = absurd (none_has v.planned x suits.0.planned h)
  planned_in (Lock place t) suits enters h = absurd (none_has v.planned x suits.1.planned h)
  planned_in (Check at) suits enters h = absurd (none_has v.planned x suits.1.planned h)
  planned_in (Fill place load) suits enters h = absurd (none_has v.planned x suits.1.planned h)
  planned_in Count suits enters h = absurd (none_has v.planned x suits.1.planned h)
  planned_in (step.Make m) suits enters h = (make_planned m (subst (λ calls. Has x calls) suits.planned h), enters.own)
  planned_in Draw suits enters h = (one_has (call_of task.change) x (subst (λ calls. Has x calls) suits.planned h), enters.own)
  planned_in (Unnote part place) suits enters h = absurd (none_has v.planned x suits.planned h)
  planned_in CountSpent suits enters h = absurd (none_has v.planned x suits.0.quiet.planned h)
  planned_in (Give held end) suits enters h = absurd (none_has v.planned x suits.quiet.planned h)
  planned_in (Ended end) suits enters h = absurd (end_planned end suits h)

plans : PlansItsCall change_part
plans site here call op before v planned s h =
    let st : ChangeStands site here call op v = s.stands in
    let enters = subst (λ c. EntersReply c (reply_of (outcome_at op.stage.step)) before v) (sym st.same) s.enters in
    let got = planned_in site op.task op.stage.seen before v planned op.stage.step st.view enters h in
    (got.0 ∙ st.same, got.1)

-- ---- the power
module _ (task : Task) (seen : Seen) where
  either_on : (b : Bool) (k l : Kind) → (Cuts k → ⊥) → (Cuts l → ⊥) → Cuts (if b then k else l) → ⊥
  either_on true k l p q = p
  either_on false k l p q = q

  walk_on : (w : Walk) → Cuts (walk_kind task.site task.hash w) → ⊥
  walk_on walk.Power p = p
  walk_on walk.Root p = p
  walk_on (walk.Entry root) p = either_on (nat_le root task.site.geometry.depth) (meets_entry root (index_of root task.hash)) (peeks root_word) (λ q. q) (λ q. q) p
  walk_on (walk.Head root segment) p = either_on (nat_lt segment task.site.geometry.segments) (meets_head segment task.site.version) (peeks root_word) (λ q. q) (λ q. q) p

  back_on : (at : Back) → Cuts (back_kind task.site task.hash seen.path (pins seen.path.segment (home_of task.hash)) at) → ⊥
  back_on back.Root p = p
  back_on back.Entry p = p
  back_on back.Head p = p

  inserting_on : (there : Option Spot) → Cuts (inserting_kind task seen there) → ⊥
  inserting_on (Some spot) p = p
  inserting_on None p = p

  changing_on : (there : Option Spot) → Cuts (changing_kind task seen there) → ⊥
  changing_on (Some spot) p = p
  changing_on None p = p

  deciding_on : (d : Effect) → Cuts (deciding_kind task seen d) → ⊥
  deciding_on (Insert value) p = inserting_on (found seen task.change.key) p
  deciding_on (Update value) p = changing_on (found seen task.change.key) p
  deciding_on Remove p = changing_on (found seen task.change.key) p

  count_on : (b : Bool) → Cuts (if b then finds_room (call_of task.change) else deciding_kind task seen task.change.effect) → ⊥
  count_on true p = p
  count_on false p = deciding_on task.change.effect p

  mark_on : (b : Bool) (i x : ℕ) → Cuts (mark_kind task seen b i x) → ⊥
  mark_on true i x p = p
  mark_on false i x p = p

  note_on : (part : NoteWord) (n : NoteWords) → Cuts (note_kind task seen part n) → ⊥
  note_on Mark n p = mark_on (has_finger seen n) (lock_of task seen n.place + 1) n.mark p
  note_on Fingers n p = p

  publish_on : (b : Bool) (i x : ℕ) → Cuts (publish_by task seen b i x) → ⊥
  publish_on true i x p = p
  publish_on false i x p = p

  make_on : (m : Make) (n : ℕ) → Cuts (kind_at task seen (step.Make m) n) → ⊥
  make_on make.Publish n p = publish_on (leaves_note task.change.effect seen.place) (lock_of task seen seen.place + seen.written.published) seen.written.mark p
  make_on make.Key n p = p
  make_on make.Value n p = p
  make_on make.Fingers n p = p
  make_on make.FlushFingers n p = p
  make_on make.FlushRecord n p = p
  make_on make.FenceRecord n p = p
  make_on make.FlushPublished n p = p
  make_on make.FencePublished n p = p

  on_in : (s : WriteStep) (n : ℕ) → Cuts (kind_at task seen s n) → ⊥
  on_in (Way w) n p = walk_on w p
  on_in (Lock place t) n p = take_on (lock_of task seen place) t p
  on_in (Check at) n p = back_on at p
  on_in (Fill place load) n p = p
  on_in Count n p = count_on (nat_le (2 ^ 63) n) p
  on_in (step.Make m) n p = make_on m n p
  on_in Draw n p = p
  on_in (Unnote part place) n p = note_on part (unnoted task.hash seen) p
  on_in CountSpent n p = p
  on_in (Give held end) n p = give_on task.site task.hash seen.path.segment (give_next held) p
  on_in (Ended end) n p = p

-- ---- A CHANGE IS A PART
within : (site : Ground) (here : Site) (call : Call) (op : WriteOp) (v : View) → IsGround site → ChangeStands site here call op v → IsWithin site.shape (wanted op)
within site here call op v good st =
    subst (λ (g : Shape). IsWithin g (wanted op)) st.is_in.shape (asks_in site op.task st.is_in op.stage.seen (subst (λ (g : Shape). IsShape g) (sym st.is_in.shape) good.shape) v op.stage.step st.view)

-- a segment that it found stale is known to be live
known_end : (site : Ground) (task : Task) (seen : Seen) (v : View) (end : WriteEnd) → SuitsEnd site task seen end v → LeavesKnown site (outcome_of end) v.facts
known_end site task seen v (ends.Replied answer place) suits = tt
known_end site task seen v ends.NoSlot suits = tt
known_end site task seen v (ends.Again why) suits = tt
known_end site task seen v (ends.Stale segment version) suits = suits.1
known_end site task seen v ends.Off suits = tt

known_at : (site : Ground) (task : Task) (seen : Seen) (v : View) (s : WriteStep) → SuitsStep site task seen s v → LeavesKnown site (outcome_at s) v.facts
known_at site task seen v (Give held end) suits = ending_known site end v.facts
known_at site task seen v (Ended end) suits = known_end site task seen v end suits
known_at site task seen v s suits = tt

pub change_is_part : IsPart change_part
change_is_part = record {
  steps = steps;
  ends = λ site here call op v st over closed on. bare_in site op.task op.stage.seen v op.stage.step st.view over closed;
  time = record { falls = λ op a i. inl (change_falls op a i); most = λ op. most_at op.stage.step };
  within = λ site here call op before v good s. within site here call op v good s.stands;
  words = λ site here call op before v s.
      puts_in site op.task s.stands.is_in op.stage.seen v s.stands.has.buckets s.stands.has.key s.stands.has.value op.stage.step s.stands.view;
  flushes = record {
    most = λ op. few_in op.stage.step;
    flushes = λ op a l is e. flush_in op.task op.stage.seen op.stage.step a is (subst (λ (w : Want). HasFlush w) (sym e) tt);
    keeps = λ op a is no_fence. keeps_in op.task op.stage.seen op.stage.step a is (λ f. no_fence (is_fence (wanted op) f));
    ends = λ op over. none_waits op.task op.stage.seen op.stage.step over;
  };
  made = record {
    stays = λ op a is made. stays_in op.task op.stage.seen op.stage.step a made;
    done = λ op made over. done_in op.task op.stage.seen op.stage.step made over;
  };
  plans = plans;
  relies = λ site here call op v s. known_at site op.task op.stage.seen v op.stage.step s.view;
  hands = λ op is. ap (wanted_in op.task op.stage.seen) (without op.stage.step is);
  power = λ op n e. on_in op.task op.stage.seen op.stage.step n (cuts_call (kind_of op n) e);
}

-- ---- where it begins, and how it never ends
buckets_none : (place : Role) → AreWords (words_in no_words place)
buckets_none place.Home = none_words
buckets_none place.Probing = none_words
buckets_none place.First = none_words
buckets_none place.Second = none_words
buckets_none place.Next = none_words
buckets_none place.Previous = none_words

pub begins_as_part : BeginsAsPart
begins_as_part site here change v good same version key value nothing = record {
  same = refl;
  at = refl;
  is_in = record { shape = same; version = version; hash = ap (λ (g : Shape). key_hash g change.key) same; fits = key_hash-fits here.geometry change.key key };
  has = record { key = key; value = value; buckets = buckets_none; load = tt };
  view = (nothing, tt, refl);
}

pub begins_bare : BeginsBare
begins_bare site here call change v stands = stands.view.0.held

pub begins_remembering : BeginsRemembering
begins_remembering site here change = (tt, refl)

pub begins_undecided : BeginsUndecided
begins_undecided here change = refl

-- where it hands on
pub hands_on_all : HandsOnAll
hands_on_all site here call op v st is =
    let all : KeepsAll site (kept_of op) v × HasNoThird op.stage.seen.held = subst (λ s. SuitsStep site op.task op.stage.seen s v) (without op.stage.step is) st.view in
    record {
      whose = record { same = st.same; at = st.at; key = st.has.key; value = st.has.value; buckets = st.has.buckets };
      keeps = all.0;
      thirds = all.1;
    }

pub hands_on_remembering : HandsOnRemembering
hands_on_remembering site op did r is =
    let kept : RemembersIn op.task op.stage.seen did (Ended ends.NoSlot) = subst (λ s. RemembersIn op.task op.stage.seen did s) (without op.stage.step is) r in (
      record {
        path = op.stage.seen.path;
        there = refl;
        found = kept.0;
        head = refl;
        buckets = λ place held own. kept.2 place held;
        home = kept.3;
        probing = kept.4;
      },
      kept.1,
    )

-- and never
finishes : (end : WriteEnd) → outcome_of end ≡ Some finished → ⊥
finishes (ends.Replied answer place) is = absurd (cc)
finishes ends.NoSlot is = absurd (cc)
finishes (ends.Again why) is = absurd (cc)
finishes (ends.Stale segment version) is = absurd (cc)
finishes ends.Off is = absurd (cc)

never_in : (s : WriteStep) → outcome_at s ≡ Some finished → ⊥
never_in (Unnote part place) some = absurd (cc)
never_in (Give held end) some = not_finished end some
never_in (Ended end) some = finishes end some
never_in s some = none-some finished some

pub never_finished : NeverFinished change_part
never_finished op some = never_in op.stage.step some

splits : (end : WriteEnd) (segment : ℕ) → outcome_of end ≡ Some (need_split segment) → ⊥
splits (ends.Replied answer place) segment is = absurd (cc)
splits ends.NoSlot segment is = absurd (cc)
splits (ends.Again why) segment is = absurd (cc)
splits (ends.Stale slot version) segment is = absurd (cc)
splits ends.Off segment is = absurd (cc)

unsplit_in : (s : WriteStep) (segment : ℕ) → outcome_at s ≡ Some (need_split segment) → ⊥
unsplit_in (Unnote part place) segment some = absurd (cc)
unsplit_in (Give held end) segment some = not_split end segment some
unsplit_in (Ended end) segment some = splits end segment some
unsplit_in s segment some = none-some (need_split segment) some

pub never_splits : NeverSplits change_part
never_splits op segment some = unsplit_in op.stage.step segment some
