-- A mending is a part of a call.
use Rattle.std.proofs.Common.{◌≡◌, ◌≢◌, ℕ, ◌^◌, ◌<◌, true, false, Option, None, Some, List, [], slice_index, inl, inr, refl, sym, ap, ◌∙◌, subst, arith}
use Rattle.std.specs.Prelude.{if◌then◌else◌}
use Rattle.std.proofs.lemmas.Bool.{lt-ltb}
use Rattle.std.proofs.lemmas.List.{length-replicate}
use Rattle.trace.specs.Events.{Words, line_of}
use Rattle.segment_head.specs.SplitHeads.{finished_head}
use Rattle.op_core.specs.declared.want.Want.{Want}
use Rattle.op_core.specs.declared.want.Want.TheVariants as wants
use Rattle.image_layout.specs.Places.{Shape}
use Rattle.frame_facts.specs.DeadSlots.{IsInSlot}
use Rattle.frame_facts.specs.Facts.{Fact}
use Rattle.map_model.specs.declared.call.Call.{Call}
use Rattle.world.specs.declared.site.Site.{Site}
use Rattle.world.specs.Ground.{Ground, IsGround}
use Rattle.world.specs.Views.{View, Has}
use Rattle.world.specs.Wants.{answer_to, word_of}
use Rattle.world.specs.Kinds.{cuts_power}
use Rattle.world.specs.Attempts.{HoldsOnly, EntersReply}
use Rattle.world.specs.areas.Kinds.{sets}
use Rattle.world.specs.areas.Asking.{MayBeNewest, MayAt}
use Rattle.world.specs.StepKinds.{of_call, wanted_of, view_by, MayTake}
use Rattle.world.specs.StepLaws.{IsPublishingStep}
use Rattle.world.proofs.moving.Known.{newest_is}
use Rattle.part.specs.Outcomes.{reply_of}
use Rattle.part.specs.Part.{IsPart, LeavesKnown}
use Rattle.repair_op.proofs.Handing.{same_more}
use Rattle.whole_segment.proofs.Zeros.{zeros_small}
use Rattle.rounds.specs.declared.rounds.Rounds.{Rounds}
use Rattle.rounds.specs.Steps.{rounds_wanted, event_wanted}
use Rattle.rounds.specs.Stands.{rounds_kind}
use Rattle.rounds.proofs.Wanted.{event_of, event_none}
use Rattle.rounds.proofs.Silent.{round_makes, round_still, round_power}
use Rattle.rounds.proofs.Settling.{rounds_settle}
use Rattle.repair_op.specs.declared.guarded.Guarded.{Guarded}
use Rattle.repair_op.specs.Guarded.{guard_of, HasState, HasDeepEntries}
use Rattle.mend_op.specs.declared.stage.Stage.{Stage}
use Rattle.mend_op.specs.declared.stage.Stage.TheVariants as stage
use Rattle.mend_op.specs.declared.op.MendStep.{MendStep}
use Rattle.mend_op.specs.declared.op.MendStep.TheVariants.{Fill, Round, Finish, FinishFlush, FinishFence, Note, Renew, RenewFlush, RenewFence, Give, Ended}
use Rattle.mend_op.specs.declared.op.MendOp.{MendOp}
use Rattle.mend_op.specs.Words.{renewed_head}
use Rattle.mend_op.specs.Stages.{most, place}
use Rattle.mend_op.specs.Steps.{own_head_word, word_at, due, store_wanted, wanted_in, next_in, wanted, end_at}
use Rattle.mend_op.specs.Stands.{kind_at, place_of, IsBefore, IsRounding, IsInStage, SuitsStep}
use Rattle.mend_op.specs.MendPart.{outcome_at, IsOf, MendStands, mend_part, BeginsAsPart, EndsRepaired}
use Rattle.mend_op.proofs.Counting.{falls_at, most_at}
use Rattle.mend_op.proofs.Waiting.{waits_few, flushes_at, keeps_at, ends_waiting}
use Rattle.mend_op.proofs.stages.Clearing.{clear_may}
use Rattle.mend_op.proofs.stages.Mending.{stage_may}
use Rattle.mend_op.proofs.whole.Words.{head_in_slot, link_in_slot}
use Rattle.mend_op.proofs.whole.Newest.{in_range}
use Rattle.mend_op.proofs.whole.Located.{head_is, guard_is}
use Rattle.mend_op.proofs.rounds.Beginning.{same_shape}
use Rattle.mend_op.proofs.rounds.Rounding.{round_may, round_stands}
use Rattle.mend_op.proofs.steps.Loading.{fill_may, fill_stands}
use Rattle.mend_op.proofs.steps.Finishing.{finish_may, finish_stands, finish_flushed, finish_fence_may, finish_fenced}
use Rattle.mend_op.proofs.steps.Storing.{store_may, store_stands}
use Rattle.mend_op.proofs.steps.Renewing.{renew_may, renew_stands, renew_flushed}
use Rattle.mend_op.proofs.steps.Giving.{last_fence_may, last_fenced, give_may, give_stands}
use Rattle.mend_op.proofs.part.Within.{within_at, puts_at}

-- the store of a word of the notes is that of its kind
note_wants : (op : MendOp) (n : ℕ) → n < most stage.Note → store_wanted (due op stage.Note n) ≡ wants.Store (word_at op (place stage.Note n)) (slice_index op.next (place stage.Note n))
note_wants op n low = ap (λ t. store_wanted (if t then Some (word_at op (place stage.Note n), slice_index op.next (place stage.Note n)) else None)) (lt-ltb n (most stage.Note) low)

-- ---- one step
module _ (site : Ground) (ground : IsGround site) (here : Site) (call : Call) (op : MendOp) (is : IsOf site here op) (v : View) where
  abbrev Suited : MendStep → Type 0
  Suited s = SuitsStep site op s v

  layout : op.guarded.site.geometry ≡ site.shape
  layout = same_shape site here call op is

  -- what the rounds want, where there is anything
  round_wants_by : (t : Stage) (n : ℕ) (rounds : Rounds) → Suited (Round t n rounds) → (o : Option Want) → rounds_wanted rounds (due op t n) ≡ o
      → event_wanted rounds (due op t n) ≡ wanted_of site.shape (rounds_kind rounds (due op t n) [])
  round_wants_by t n rounds c (Some want) wants = event_of rounds (due op t n) want c.1.stands.few wants ∙ rounds_settle.wants site.shape [] rounds (due op t n) want wants
  round_wants_by t n rounds c None wants = absurd (c.3 wants)

  wants_at : (s : MendStep) → Suited s → wanted_in op s ≢ wants.Done → wanted_in op s ≡ wanted_of site.shape (kind_at op s)
  wants_at (Fill i) c asks = refl
  wants_at (Round t n rounds) c asks = round_wants_by t n rounds c (rounds_wanted rounds (due op t n)) refl
  wants_at Finish c asks = ap (λ i. wants.Store i (finished_head op.guarded.head)) (head_is site op layout is.old.within)
  wants_at FinishFlush c asks = refl
  wants_at FinishFence c asks = refl
  wants_at (Note n) c asks = note_wants op n c.0
  wants_at Renew c asks = ap (λ i. wants.Store i (renewed_head op.guarded.site.version op.guarded.head)) (head_is site op layout is.old.within)
  wants_at RenewFlush c asks = refl
  wants_at RenewFence c asks = refl
  wants_at Give c asks = ap (λ i. wants.Store i 0) (guard_is site op layout is.old.within)
  wants_at Ended c asks = absurd (asks refl)

  -- the store of a stage may be made
  stage_store : (words : Words) → MayBeNewest site v words → (t : Stage) (base : List ℕ) (n : ℕ) (rounds : Rounds) → IsRounding site op.guarded op.words op.next t base n rounds v
      → IsInStage site op.guarded t base v → n < most t → MayAt site (sets (place_of site op.guarded (place t n)) (slice_index op.next (place t n))) v
  stage_store words new stage.Clear base n rounds c known low =
      clear_may site ground op layout is.old (in_range site ground op.guarded is.old v words new c.all.header (inr known.splits)) base n low rounds v c known
  stage_store words new stage.Mend base n rounds c known low = stage_may site ground op layout is.old known.1 base n low rounds v c
  stage_store words new stage.Note base n rounds c known low = absurd known

  may_at : (words : Words) → MayBeNewest site v words → (s : MendStep) → Suited s → MayTake site (kind_at op s) v
  may_at words new (Fill i) c = fill_may site ground here call op is v i c
  may_at words new (Round t n rounds) c = round_may site ground here call op is t c.0 n rounds v c.1 c.2 (λ low. stage_store words new t c.0 n rounds c.1 c.2 low)
  may_at words new Finish c = finish_may site ground here call op is v c (in_range site ground op.guarded is.old v words new c.0.header (inr c.1.splits))
  may_at words new FinishFlush c = (tt, tt)
  may_at words new FinishFence c = finish_fence_may site ground here call op is v c
  may_at words new (Note n) c = store_may site ground here call op is v n c
  may_at words new Renew c = renew_may site ground here call op is v c
  may_at words new RenewFlush c = (tt, tt)
  may_at words new RenewFence c = last_fence_may site ground here call op is v c
  may_at words new Give c = give_may site ground here call op is v c
  may_at words new Ended c = (tt, tt)

  abbrev next_view : MendStep → ℕ → View
  next_view s n = view_by site.shape (kind_at op s) n v

  abbrev Stood : MendStep → ℕ → Type 0
  Stood s n = MendStands site here call (next_in op s (answer_to (wanted_in op s) n)) (next_view s n)

  round_stands_by : (words : Words) (m : ℕ) (knows : (i x : ℕ) → Has (i, x) v.known → words i ≡ x) (t : Stage) (n : ℕ) (rounds : Rounds) → Suited (Round t n rounds)
      → words (word_of site.shape (event_wanted rounds (due op t n))) ≡ m → (o : Option Want) → rounds_wanted rounds (due op t n) ≡ o → Stood (Round t n rounds) m
  round_stands_by words m knows t n rounds c found (Some want) wanted =
      round_stands site ground here call op is t c.0 n rounds v c.1 c.2 words m knows want wanted
      (ap (λ (w : Want). words (word_of site.shape w)) (sym (event_of rounds (due op t n) want c.1.stands.few wanted)) ∙ found)
  round_stands_by words m knows t n rounds c found None wanted = absurd (c.3 wanted)

  note_stands : (words : Words) (m : ℕ) (knows : (i x : ℕ) → Has (i, x) v.known → words i ≡ x) (n : ℕ) (c : Suited (Note n)) → words (word_of site.shape (store_wanted (due op stage.Note n))) ≡ m
      → Stood (Note n) m
  note_stands words m knows n c found =
      subst (λ (w : Want). MendStands site here call (next_in op (Note n) (answer_to w m)) (next_view (Note n) m)) (sym (note_wants op n c.0))
      (store_stands site ground here call op is v n c m words (ap (λ (w : Want). words (word_of site.shape w)) (sym (note_wants op n c.0)) ∙ found) knows)

  -- THE VIEW AFTER stands for the next step, where what is known is the newest
  stands_at : (words : Words) → MayBeNewest site v words → (s : MendStep) (n : ℕ) → n < 2 ^ 64 → Suited s → wanted_in op s ≢ wants.Done → words (word_of site.shape (wanted_in op s)) ≡ n → Stood s n
  stands_at words new (Fill i) n small c asks found = fill_stands site ground here call op is v i c n small words found new
  stands_at words new (Round t k rounds) n small c asks found = round_stands_by words n new.knows t k rounds c found (rounds_wanted rounds (due op t k)) refl
  stands_at words new Finish n small c asks found = finish_stands site ground here call op is v c n
  stands_at words new FinishFlush n small c asks found = finish_flushed site ground here call op is v c n
  stands_at words new FinishFence n small c asks found = finish_fenced site ground here call op is v c words new n
  stands_at words new (Note k) n small c asks found = note_stands words n new.knows k c found
  stands_at words new Renew n small c asks found = renew_stands site ground here call op is v c n
  stands_at words new RenewFlush n small c asks found = renew_flushed site ground here call op is v c n
  stands_at words new RenewFence n small c asks found = last_fenced site ground here call op is v c n
  stands_at words new Give n small c asks found = give_stands site ground here call op is v c n
  stands_at words new Ended n small c asks found = absurd (asks refl)

-- ---- replies: it has none, and enters none
none_replied : (s : MendStep) → reply_of (outcome_at s) ≡ None
none_replied Ended = refl
none_replied s = refl

same_own : (shape : Shape) (op : MendOp) (s : MendStep) (n : ℕ) (v : View) → (view_by shape (kind_at op s) n v).own ≡ v.own
same_own shape op (Round t k rounds) n v = (round_still shape n v [] (rounds_wanted rounds (due op t k))).own
same_own shape op (Fill i) n v = refl
same_own shape op Finish n v = refl
same_own shape op FinishFlush n v = refl
same_own shape op FinishFence n v = refl
same_own shape op (Note k) n v = refl
same_own shape op Renew n v = refl
same_own shape op RenewFlush n v = refl
same_own shape op RenewFence n v = refl
same_own shape op Give n v = refl
same_own shape op Ended n v = refl

same_seen : (shape : Shape) (op : MendOp) (s : MendStep) (n : ℕ) (v : View) → (view_by shape (kind_at op s) n v).seen ≡ v.seen
same_seen shape op (Round t k rounds) n v = (round_still shape n v [] (rounds_wanted rounds (due op t k))).seen
same_seen shape op (Fill i) n v = refl
same_seen shape op Finish n v = refl
same_seen shape op FinishFlush n v = refl
same_seen shape op FinishFence n v = refl
same_seen shape op (Note k) n v = refl
same_seen shape op Renew n v = refl
same_seen shape op RenewFlush n v = refl
same_seen shape op RenewFence n v = refl
same_seen shape op Give n v = refl
same_seen shape op Ended n v = refl

enters_at : (shape : Shape) (call : Call) (op : MendOp) (before v : View) (s t : MendStep) (n : ℕ) → EntersReply call (reply_of (outcome_at s)) before v
    → EntersReply call (reply_of (outcome_at t)) before (view_by shape (kind_at op s) n v)
enters_at shape call op before v s t n enters =
    subst (λ o. EntersReply call o before (view_by shape (kind_at op s) n v)) (sym (none_replied t))
    (same_more call before v None (view_by shape (kind_at op s) n v) (subst (λ o. EntersReply call o before v) (none_replied s) enters) (same_own shape op s n v) (same_seen shape op s n v))

-- ---- it makes no change, and cuts no power
makes_none : (op : MendOp) (s : MendStep) → IsPublishingStep (kind_at op s) → ⊥
makes_none op (Round t n rounds) p = round_makes [] (rounds_wanted rounds (due op t n)) p
makes_none op (Fill i) p = p
makes_none op Finish p = p
makes_none op FinishFlush p = p
makes_none op FinishFence p = p
makes_none op (Note n) p = p
makes_none op Renew p = p
makes_none op RenewFlush p = p
makes_none op RenewFence p = p
makes_none op Give p = p
makes_none op Ended p = p

power_at : (op : MendOp) (s : MendStep) → kind_at op s ≢ of_call cuts_power
power_at op (Round t n rounds) same = round_power [] (rounds_wanted rounds (due op t n)) same
power_at op (Fill i) same = absurd (cc)
power_at op Finish same = absurd (cc)
power_at op FinishFlush same = absurd (cc)
power_at op FinishFence same = absurd (cc)
power_at op (Note n) same = absurd (cc)
power_at op Renew same = absurd (cc)
power_at op RenewFlush same = absurd (cc)
power_at op RenewFence same = absurd (cc)
power_at op Give same = absurd (cc)
power_at op Ended same = absurd (cc)

-- ---- nothing is planned, and nothing held at the end
no_plan : (site : Ground) (op : MendOp) (s : MendStep) (v : View) → SuitsStep site op s v → v.planned ≡ []
no_plan site op (Fill i) v c = c.1.idle.planned
no_plan site op (Round t n rounds) v c = c.1.all.idle.planned
no_plan site op Finish v c = c.0.idle.planned
no_plan site op FinishFlush v c = c.all.idle.planned
no_plan site op FinishFence v c = c.all.idle.planned
no_plan site op (Note n) v c = c.1.all.idle.planned
no_plan site op Renew v c = c.all.idle.planned
no_plan site op RenewFlush v c = c.0.idle.planned
no_plan site op RenewFence v c = c.0.idle.planned
no_plan site op Give v c = c.0.idle.planned
no_plan site op Ended v c = c.planned

-- while words are stored in rounds something is wanted
round_some : (site : Ground) (op : MendOp) (t : Stage) (n : ℕ) (rounds : Rounds) (v : View) → SuitsStep site op (Round t n rounds) v → event_wanted rounds (due op t n) ≡ wants.Done → ⊥
round_some site op t n rounds v c done = c.3 (event_none rounds (due op t n) c.1.stands.few done)

ended_at : (site : Ground) (op : MendOp) (s : MendStep) (v : View) → SuitsStep site op s v → wanted_in op s ≡ wants.Done → s ≡ Ended
ended_at site op (Fill i) v c done = absurd (let no : wants.Load (word_at op i) ≡ wants.Done = done in cc)
ended_at site op (Round t n rounds) v c done = absurd (round_some site op t n rounds v c done)
ended_at site op Finish v c done = absurd (let no : wants.Store (own_head_word op) (finished_head op.guarded.head) ≡ wants.Done = done in cc)
ended_at site op FinishFlush v c done = absurd (let no : wants.Flush (line_of (own_head_word op)) ≡ wants.Done = done in cc)
ended_at site op FinishFence v c done = absurd (let no : wants.Fence ≡ wants.Done = done in cc)
ended_at site op (Note n) v c done = absurd (let no : wants.Store (word_at op (place stage.Note n)) (slice_index op.next (place stage.Note n)) ≡ wants.Done = sym (note_wants op n c.0) ∙ done in cc)
ended_at site op Renew v c done = absurd (let no : wants.Store (own_head_word op) (renewed_head op.guarded.site.version op.guarded.head) ≡ wants.Done = done in cc)
ended_at site op RenewFlush v c done = absurd (let no : wants.Flush (line_of (own_head_word op)) ≡ wants.Done = done in cc)
ended_at site op RenewFence v c done = absurd (let no : wants.Fence ≡ wants.Done = done in cc)
ended_at site op Give v c done = absurd (let no : wants.Store (guard_of op.guarded) 0 ≡ wants.Done = done in cc)
ended_at site op Ended v c done = refl

bare_at : (site : Ground) (op : MendOp) (s : MendStep) (v : View) → SuitsStep site op s v → wanted_in op s ≡ wants.Done → HoldsOnly [] v
bare_at site op s v suits done = subst (λ (t : MendStep). SuitsStep site op t v) (ended_at site op s v suits done) suits

-- it ends at no stale segment
relies_at : (site : Ground) (s : MendStep) (facts : List Fact) → LeavesKnown site (outcome_at s) facts
relies_at site Ended facts = tt
relies_at site s facts = tt

-- A MENDING IS A PART of a call
pub mend_is_part : IsPart mend_part
mend_is_part = record {
  steps = λ site here call words views j op before v h at s asks.
      let n : ℕ = words (word_of site.shape (wanted op)) in
      let st = s.stands in
      let new = newest_is site words views h j v at in
      record {
        wants = wants_at site h.site_is here call op st.is v op.step st.view asks;
        may = may_at site h.site_is here call op st.is v words new op.step st.view;
        stands = λ small. stands_at site h.site_is here call op st.is v words new op.step n small st.view asks refl;
        enters = λ small. enters_at site.shape call op before v op.step (next_in op op.step (answer_to (wanted op) n)).step n s.enters;
        makes = λ p. absurd (makes_none op op.step p);
      };
  ends = λ site here call op v s done closed on. bare_at site op op.step v s.view done;
  time = record { falls = λ op a i. inl (falls_at op op.step a i); most = λ op. most_at op.step };
  within = λ site here call op before v good s. within_at site good here op s.stands.is v op.step s.stands.view;
  words = λ site here call op before v s. puts_at site here op s.stands.is (version_small_of site here op s.stands.is) op.step;
  flushes = record {
    most = λ op. waits_few op.step;
    flushes = λ op a line i flush. flushes_at op op.step a line i flush;
    keeps = λ op a i no_fence. keeps_at op op.step a i no_fence;
    ends = λ op done. ends_waiting op op.step done;
  };
  made = record { stays = λ op a i made. absurd made; done = λ op made done. absurd made };
  plans = λ site here call op before v planned s has. absurd (subst (λ (l : List Call). Has planned l) (no_plan site op op.step v s.stands.view) has);
  relies = λ site here call op v s. relies_at site op.step v.facts;
  hands = λ op hands. absurd (let no : false ≡ true = hands in cc);
  power = λ op n. power_at op op.step;
}
  where
    version_small_of : (site : Ground) (here : Site) (op : MendOp) → IsOf site here op → op.guarded.site.version < 2 ^ 8
    version_small_of site here op is = let same = is.here_is.version in omega (arith, same)

-- ---- where it begins
begins_before : (site : Ground) (guarded : Guarded) (v : View) (side : Option ℕ) → HasState site guarded side v → HasDeepEntries site guarded side v → IsBefore site guarded side v
begins_before site guarded v (Some side) state deep = record { splits = state.splits; lacks = state.lacks; deep = deep }
begins_before site guarded v None state deep = state

pub begins_as_part : BeginsAsPart
begins_as_part site here call guarded v k = record {
  is = record { here_is = k.guarded.here_is; old = k.guarded.old; each_word = length-replicate {A = ℕ} 2112 0; small = zeros_small 2112; next_small = zeros_small 2112 };
  view = (
    omega arith,
    record {
      areas = k.guarded.areas;
      no_locks = k.guarded.no_locks;
      header = k.guarded.header;
      words_are = λ i none. absurd (omega (arith, none));
      known = λ p has. elim (k.guarded.known p has) [
        | inl head ↦ subst (λ i. IsInSlot site.shape guarded.segment i) (sym head) (head_in_slot site.shape guarded.segment)
        | inr link ↦ subst (λ i. IsInSlot site.shape guarded.segment i) (sym link) (link_in_slot site.shape guarded.segment)
      ];
      idle = record { planned = k.guarded.quiet.planned; moving = k.guarded.quiet.moving; owed = k.guarded.quiet.owed };
    },
    begins_before site guarded v guarded.side k.guarded.state k.deep,
    record { dirty = k.guarded.quiet.dirty; flushed = k.guarded.quiet.flushed },
  );
}

-- ---- how it ends
pub ends_repaired : EndsRepaired
ends_repaired site here call op v s done = let last = ended_at site op op.step v s.view done in (ap outcome_at last, ap end_at last)
