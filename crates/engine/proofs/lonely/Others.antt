-- Who finds a lock or a guard taken is told so of another caller's, that is in the midst of an attempt.
use Rattle.std.proofs.Common.{◌≡◌, ◌≢◌, ℕ, zero, suc, ◌%◌, inl, inr, Bool, true, false, Option, None, Some, List, [], ◌∷◌, slice_get, slice_index, refl, sym, ◌∙◌, ap, subst}
use Rattle.std.proofs.lemmas.Option.{none-some, same_Some}
use mathlib.Core.Option.{some-injective}
use Rattle.op_core.specs.declared.want.Want.{Want}
use Rattle.op_core.specs.declared.why.Why.{Why}
use Rattle.op_core.specs.declared.why.Why.TheVariants.{Busy}
use Rattle.op_core.specs.Answers.{Finds}
use Rattle.trace.specs.Events.{Words}
use Rattle.image_layout.specs.Places.{Shape}
use Rattle.map_model.specs.declared.call.Call.{Call}
use Rattle.world.specs.declared.site.Site.{Site}
use Rattle.world.specs.Ground.{Ground, IsLockWord}
use Rattle.world.specs.Views.{View, Has, At, HasLock}
use Rattle.world.specs.Wants.{answer_to, word_of}
use Rattle.world.specs.World.{fresh_view}
use Rattle.world.specs.Kinds.{wanted as kind_wanted}
use Rattle.world.specs.StepKinds.{of_call, wanted_of, MayTake}
use Rattle.world.specs.Attempts.{HoldsOnly}
use Rattle.world.specs.Invariant.{Holds}
use Rattle.world.specs.areas.Areas.{Area}
use Rattle.world.specs.areas.Kinds.{area_of}
use Rattle.world.proofs.stepping.Answers.{finds_newest}
use Rattle.part.specs.Doings.{Doings}
use Rattle.part.specs.Outcomes.{again, off, finished}
use Rattle.part.specs.Part.{next, finds}
use Rattle.part.specs.Causes.{hash_for, IsTaken, HasAgainCause}
use Rattle.part.specs.Splits.{HasSplitCause}
use Rattle.part.specs.Repairs.{HasRepairCause}
use Rattle.part.specs.Either.{one, other}
use Rattle.part.specs.Then.{Then, first, second, passed}
use Rattle.part.proofs.Still.{bucket_near}
use Rattle.split_op.specs.declared.op.SplitOp.{SplitOp}
use Rattle.split_op.specs.declared.step.SplitStep.{SplitStep}
use Rattle.split_op.specs.SplitPart.{split_part}
use Rattle.split_op.specs.Steps.{wanted_in as split_wanted_in}
use Rattle.split_op.specs.Fits.{SuitsStep as SplitSuits, outcome_at as split_outcome_at}
use Rattle.directory_op.specs.declared.op.DirectoryEnd.TheVariants.{Off}
use Rattle.directory_op.specs.declared.op.DirectoryOp.{DirectoryOp}
use Rattle.directory_op.specs.declared.op.DirectoryStep.{DirectoryStep}
use Rattle.directory_op.specs.declared.op.DirectoryStep.TheVariants as publish
use Rattle.directory_op.specs.DirectoryPart.{outcome_at as publish_outcome_at}
use Rattle.rest_op.specs.declared.op.RestOp.{RestOp}
use Rattle.rest_op.specs.declared.op.RestStep.{RestStep}
use Rattle.rest_op.specs.declared.op.RestStep.TheVariants as rest
use Rattle.rest_op.specs.RestPart.{outcome_at as rest_outcome_at}
use Rattle.repair_op.specs.declared.op.RepairOp.{RepairOp}
use Rattle.repair_op.specs.RepairPart.{repair_part, outcome_at as repair_outcome_at}
use Rattle.redirect_op.specs.declared.op.RedirectOp.{RedirectOp}
use Rattle.redirect_op.specs.declared.step.RedirectStep.{RedirectStep}
use Rattle.redirect_op.specs.Steps.{begun_at, wanted_in as redirect_wanted_in}
use Rattle.redirect_op.specs.Stands.{SuitsStep as RedirectSuits}
use Rattle.redirect_op.specs.Ends.{outcome_at as redirect_outcome_at}
use Rattle.redirect_op.specs.RedirectPart.{redirect_part}
use Rattle.mend_op.specs.declared.op.MendStep.{MendStep}
use Rattle.mend_op.specs.declared.op.MendStep.TheVariants as mend
use Rattle.mend_op.specs.MendPart.{mend_part, outcome_at as mend_outcome_at}
use Rattle.engine.specs.declared.engine.Engine.{Engine}
use Rattle.engine.specs.Engine.{wanted}
use Rattle.engine.specs.OpPart.{CallState, SplitState, RepairState, OpState, state_of, whole_split, split_and_more, publish_and_rest, publish_of, whole_repair, redirect_and_mend, after_guard, redirect_of, mend_of, op_part, Work, calls as of_calls, splits, repairs, work_of, split_segment_in, repaired_segment_in}
use Rattle.engine.specs.Core.{Caller, Core, current}
use Rattle.engine.specs.Holding.{IsCalling, DoesCall, CallerFits, CoreHolds, TurnKeeps}
use Rattle.engine.specs.Laws.{IsServedImage, OpenedHolds, AreScripts}
use Rattle.engine.specs.Causes.{Watched, BeginsBare, Decides, HasCauseBy, HasCause, EndsHaveCauses, CallCauses}
use Rattle.engine.specs.Alone.{IsBetween, HasTaken, has_lock, has_guard, IsOthers, BusyIsOthers}
use Rattle.engine.proofs.machines.Ops.{either_ops, each_named}
use Rattle.engine.proofs.sessions.Goodness.{caller_at}
use Rattle.engine.proofs.attempts.Stepping.{work_in, work_is, op_not_own}
use Rattle.engine.proofs.attempts.Seats.{IsSeated, seat_steps, site_there, there, holds_there, seat_there}
use Rattle.engine.proofs.lonely.Looking.{IsAbout, finds_about, by_kind, call_looks}
use Rattle.engine.proofs.lonely.Guarding.{IsFoundTaken, a_lock, a_guard, enclose_found, split_told, split_found, IsTrying, repair_told, repair_found, redirect_told, redirect_found}

-- ---- a caller between two attempts holds nothing
pub between_bare : BeginsBare → (site : Ground) (c : Caller) (v : View) → CallerFits site c v → IsBetween c → HoldsOnly [] v
between_bare bare site c v fits (inl none) = (subst (λ o. DoesCall site c o v) none fits.does).nothing
between_bare bare site c v fits (inr p) =
    let calling : IsCalling site c p.0 v = subst (λ o. DoesCall site c o v) p.1 fits.does in
    bare site c.site calling.call p.0 v p.2 calling.suits.suits.stands

pub fresh_bare : HoldsOnly [] (fresh_view 0)
fresh_bare = record { held = refl; known = refl; dirty = refl; flushed = refl; planned = refl; moving = refl; owed = refl; areas = refl }

-- where all others stand there, no view but that of one seat holds anything
pub others_bare : BeginsBare → (site : Ground) (start : Words) (core : Core) (h : CoreHolds site start core) (j : ℕ) → ((i : ℕ) (c : Caller) → i ≢ j → slice_get core.callers i ≡ Some c → IsBetween c)
    → (i : ℕ) (u : View) → i ≢ suc j → At (fresh_view 0 ∷ h.views) i u → HoldsOnly [] u
others_bare bare site start core h j others zero u apart seat = subst (HoldsOnly []) (some-injective (fresh_view 0) u seat) fresh_bare
others_bare bare site start core h j others (suc i) u apart seat =
    let z = caller_at site core.callers h.views i u h.each seat in between_bare bare site z.0 u z.2 (others i z.0 (λ same. apart (ap suc same)) z.1)

-- ---- neither the publishing nor the rest is to be made again
publish_calm : (s : DirectoryStep) (why : Why) → publish_outcome_at s ≡ Some (again why) → ⊥
publish_calm (publish.Ended Off) why some = absurd (let same = same_Some off (again why) some in cc)
publish_calm s why some = none-some (again why) some

rest_calm : (s : RestStep) (why : Why) → rest_outcome_at s ≡ Some (again why) → ⊥
rest_calm rest.Ended why some = absurd (let same = same_Some finished (again why) some in cc)
rest_calm s why some = none-some (again why) some

later_calm : (m : Then DirectoryOp RestOp) (why : Why) → publish_and_rest.outcome m ≡ Some (again why) → ⊥
later_calm (first op) why some = publish_calm op.step why some
later_calm (second op) why some = rest_calm op.step why some

-- nor a side that is handed on
made_again : (op : SplitOp) (why : Why) (t : Bool) → split_and_more.outcome (passed split_part publish_and_rest (λ x. first (publish_of x)) t op) ≡ Some (again why) → split_outcome_at op.step ≡ Some (again why)
made_again op why true some = absurd (none-some (again why) some)
made_again op why false some = some

-- nor a mending, nor what goes on from the beginning of a repair
mend_calm : (s : MendStep) (why : Why) → mend_outcome_at s ≡ Some (again why) → ⊥
mend_calm mend.Ended why some = absurd (let same = same_Some finished (again why) some in cc)
mend_calm s why some = none-some (again why) some

begun_calm : (side : Option ℕ) (why : Why) → redirect_outcome_at (begun_at side) ≡ Some (again why) → ⊥
begun_calm (Some side) why some = none-some (again why) some
begun_calm None why some = none-some (again why) some

directed_again : (op : RedirectOp) (why : Why) (t : Bool) → redirect_and_mend.outcome (passed redirect_part mend_part mend_of t op) ≡ Some (again why) → redirect_outcome_at op.step ≡ Some (again why)
directed_again op why true some = absurd (none-some (again why) some)
directed_again op why false some = some

guarded_again : (op : RepairOp) (why : Why) (t : Bool) → whole_repair.outcome (passed repair_part redirect_and_mend after_guard t op) ≡ Some (again why) → repair_outcome_at op.step ≡ Some (again why)
guarded_again op why true some = absurd (begun_calm op.guarded.side why (directed_again (redirect_of op) why (redirect_part.hands_on (redirect_of op)) some))
guarded_again op why false some = some

-- ---- in the world, for who sits there
module _ (laws : CallCauses) (site : Ground) (words : Words) (views : List View) (h : Holds site words views) (j : ℕ) (here : Site) (call : Call) (e : Engine) (did : Doings)
    (seat : IsSeated site words views j here call e did) (word value : ℕ) (decides : Decides site.shape words e (again (Busy word value))) where
  abbrev Found : Type 0
  Found = IsFoundTaken site words seat.view word value

  -- the event is about the word
  about_of : (event : Want) → Finds event (answer_to event (words (word_of site.shape event))) word value → IsAbout event word
  about_of event f = finds_about event (answer_to event (words (word_of site.shape event))) word value f

  -- ---- a machine of the call itself
  lock_taken : IsTaken site.shape words did call word value → IsLockWord site.shape word
  lock_taken t = (t.own.0, t.own.3, t.own.2, bucket_near site.shape (hash_for site.shape words did call) did.loads t.own.0 call t.own.3 t.own.4, t.own.5)

  call_found : (m : CallState) → state_of e.op ≡ one m → HasAgainCause site.shape words did call (wanted e) here.version (Busy word value) → Found
  call_found m is (looked, t) =
      let step = seat_steps laws.part site words views h j here call e did seat in
      let n : ℕ = finds op_part site words e.op in
      let k = call_looks site words views h j seat.view seat.at here call m n (subst (λ (x : OpState). either_ops.Stands site here call x seat.view) is seat.suits.stands) in
      let kind_is : op_part.kind e.op n ≡ of_call k.0 = ap (λ (x : OpState). either_ops.kind x n) is ∙ k.1 in
      let may : MayTake site (of_call k.0) seat.view = subst (λ kind. MayTake site kind seat.view) kind_is step.may in
      let about : IsAbout (kind_wanted site.shape k.0) word =
      subst (λ event. IsAbout event word) (step.wants ∙ ap (wanted_of site.shape) kind_is) (about_of (wanted e) looked) in
      a_lock (by_kind site words views h j seat.view seat.at k.0 may.0 k.2 word (lock_taken t) about) t.odd

  -- ---- one of a split
  split_busy : (m : SplitState) → whole_split.Stands site here call m seat.view → whole_split.outcome m ≡ None → whole_split.outcome (next whole_split site words m) ≡ Some (again (Busy word value))
      → HasSplitCause site.shape words did call (split_segment_in m) (whole_split.wanted m) (again (Busy word value)) → Found
  split_busy (first op) s none some (looked, t) =
      enclose_found site words views h j seat.view seat.at here call did op.enclosed s.stands.is word value t op.step s.stands.view none (about_of (whole_split.wanted (first op)) looked)
  split_busy (second (first op)) s none some (looked, t) =
      let y : SplitOp = next split_part site words op in
      let take = split_told op (Busy word value) op.step (finds split_part site words op) none (made_again y (Busy word value) (split_part.hands_on y) some) in
      split_found site words views h j seat.view seat.at here call did op s.stands.is word value t
      (subst (λ (x : SplitStep). SplitSuits site here call op.copied op.locks x seat.view) take s.stands.view)
      (subst (λ (x : SplitStep). IsAbout (split_wanted_in op x) word) take (about_of (whole_split.wanted (second (first op))) looked))
  split_busy (second (second (first op))) s none some c =
      absurd (later_calm (next publish_and_rest site words (first op)) (Busy word value) some)
  split_busy (second (second (second op))) s none some c = absurd (later_calm (next publish_and_rest site words (second op)) (Busy word value) some)

  -- ---- one of a repair
  repair_busy : (m : RepairState) → whole_repair.Stands site here call m seat.view → whole_repair.outcome m ≡ None → whole_repair.outcome (next whole_repair site words m) ≡ Some (again (Busy word value))
      → HasRepairCause site.shape words did call (repaired_segment_in m) (whole_repair.wanted m) (again (Busy word value)) → Found
  repair_busy (first op) s none some (looked, t) =
      let y : RepairOp = next repair_part site words op in
      let tries : IsTrying op word value op.step = repair_told op word value op.step (finds repair_part site words op) none (guarded_again y (Busy word value) (repair_part.hands_on y) some) in
      repair_found site words views h j seat.view seat.at here call did word value op s.stands.here_is t op.step tries s.stands.view (about_of (whole_repair.wanted (first op)) looked)
  repair_busy (second (first op)) s none some (looked, t) =
      let y : RedirectOp = next redirect_part site words op in
      let takes = redirect_told op (Busy word value) op.step (finds redirect_part site words op) refl none (directed_again y (Busy word value) (redirect_part.hands_on y) some) in
      redirect_found site words views h j seat.view seat.at here call did word value op t
      (subst (λ (x : RedirectStep). RedirectSuits site here call op x seat.view) takes s.stands)
      (subst (λ (x : RedirectStep). IsAbout (redirect_wanted_in op x) word) takes (about_of (whole_repair.wanted (second (first op))) looked))
  repair_busy (second (second op)) s none some c = absurd (mend_calm (next mend_part site words op).step (Busy word value) some)

  -- ---- whichever
  -- its outcome behind the event is that of its state
  decided_in : (m : OpState) → state_of e.op ≡ m → either_ops.outcome (next either_ops site words m) ≡ Some (again (Busy word value))
  decided_in m is =
      ap (λ (x : OpState). either_ops.outcome (next either_ops site words x)) (sym is) ∙ (ap either_ops.outcome (sym (each_named (next either_ops site words (state_of e.op)))) ∙ decides.decides)

  by_state : (m : OpState) → state_of e.op ≡ m → HasCauseBy (work_in m) site.shape here.version words did call (wanted e) (again (Busy word value)) → Found
  by_state (one m) is c = call_found m is c
  by_state (other (one m)) is c =
      split_busy m (subst (λ (x : OpState). either_ops.Stands site here call x seat.view) is seat.suits.stands) (sym (ap either_ops.outcome is) ∙ decides.undecided) (decided_in (other (one m)) is)
      (subst (λ event. HasSplitCause site.shape words did call (split_segment_in m) event (again (Busy word value))) (ap either_ops.wanted is) c)
  by_state (other (other m)) is c =
      repair_busy m (subst (λ (x : OpState). either_ops.Stands site here call x seat.view) is seat.suits.stands) (sym (ap either_ops.outcome is) ∙ decides.undecided) (decided_in (other (other m)) is)
      (subst (λ event. HasRepairCause site.shape words did call (repaired_segment_in m) event (again (Busy word value))) (ap either_ops.wanted is) c)

  found_taken : HasCause site.shape here.version words did call e (again (Busy word value)) → Found
  found_taken c = by_state (state_of e.op) refl (subst (λ s. HasCauseBy s site.shape here.version words did call (wanted e) (again (Busy word value))) (work_is e.op) c)

  -- A VIEW OF ANOTHER SEAT holds something
  pub record IsHeldElsewhere : Type 0 where
    pub place : ℕ
    pub view : View
    pub at : At views place view
    pub elsewhere : place ≢ j
    pub holds : HoldsOnly [] view → ⊥
    pub has : HasTaken site.shape view word

  same_view : (i : ℕ) (u : View) → At views i u → i ≡ j → u ≡ seat.view
  same_view i u at same = some-injective u seat.view (sym (subst (λ k. At views k u) same at) ∙ seat.at)

  held_by : words word ≡ value → Found → IsHeldElsewhere
  held_by newest (a_lock lock odd) =
      let holder = h.locks.odd word lock (ap (λ x. x % 2) newest ∙ odd) in
      record {
        place = holder.0;
        view = holder.1;
        at = holder.2;
        elsewhere = λ same. op_not_own laws.causes site here call words views j seat.before seat.view h seat.at did e.op seat.suits seat.asks seat.small seat.remembers word value
            decides.undecided decides.decides (subst (λ (u : View). HasLock u.held word) (same_view holder.0 holder.1 holder.2 same) holder.3);
        holds = λ bare. (let none : HasLock [] word = subst (λ locks. HasLock locks word) bare.held holder.3 in none.1);
        has = has_lock holder.3;
      }
  held_by newest (a_guard guard has is some own) =
      let holder = h.structure.held_guards guard has (λ zero_there. some (sym newest ∙ (ap words is ∙ zero_there))) in
      record {
        place = holder.0;
        view = holder.1;
        at = holder.2;
        elsewhere = λ same. own (subst (λ (u : View). Has (area_of guard) u.areas) (same_view holder.0 holder.1 holder.2 same) holder.3);
        holds = λ bare. subst (λ (areas : List Area). Has (area_of guard) areas) bare.areas holder.3;
        has = has_guard guard is holder.3;
      }

  -- whichever machine it is, the event found the value there
  looked_at : (work : Work) → HasCauseBy work site.shape here.version words did call (wanted e) (again (Busy word value))
      → Finds (wanted e) (answer_to (wanted e) (words (word_of site.shape (wanted e)))) word value
  looked_at of_calls c = c.0
  looked_at (splits segment) c = c.0
  looked_at (repairs segment) c = c.0

  pub held_elsewhere : HasCause site.shape here.version words did call e (again (Busy word value)) → IsHeldElsewhere
  held_elsewhere c = held_by (finds_newest site.shape words (wanted e) word value (looked_at (work_of e.op) c)).1 (found_taken c)

-- ---- after any turns
module _ (laws : CallCauses) (bare : BeginsBare) (opens : OpenedHolds) (keeps : TurnKeeps) (causes : EndsHaveCauses)
    (shape : Shape) (words : List ℕ) (image : IsServedImage shape words) (scripts : List (List Call)) (are : AreScripts scripts) (turns : List ℕ)
    (j : ℕ) (c : Caller) (call : Call) (e : Engine) (word value : ℕ) where
  abbrev site : Ground
  site = site_there opens keeps shape words image scripts are turns

  abbrev w : Watched
  w = there opens keeps shape words image scripts are turns

  abbrev h : CoreHolds site (slice_index words) w.core
  h = holds_there opens keeps shape words image scripts are turns

  by_seat : (k : ℕ) (v : View) → At (fresh_view 0 ∷ h.views) k v → k ≢ suc j → (HoldsOnly [] v → ⊥) → HasTaken site.shape v word → IsOthers w.core j word
  by_seat zero v seat apart holds has = absurd (holds (subst (HoldsOnly []) (some-injective (fresh_view 0) v seat) fresh_bare))
  by_seat (suc k) v seat apart holds has =
      let z = caller_at site w.core.callers h.views k v h.each seat in
      record {
        place = k;
        elsewhere = λ same. apart (ap suc same);
        caller = z.0;
        there = z.1;
        midst = λ between. holds (between_bare bare site z.0 v z.2 between);
        site = site;
        start = slice_index words;
        holds = h;
        view = v;
        seated = seat;
        has = has;
      }

  others_hold : slice_get w.core.callers j ≡ Some c → current c ≡ Some call → c.engine ≡ Some e → Decides shape w.core.words e (again (Busy word value)) → IsOthers w.core j word
  others_hold at calls runs decides =
      let views : List View = fresh_view 0 ∷ h.views in
      let seated : IsSeated site w.core.words views (suc j) c.site call e (w.doings j) = seat_there opens keeps shape words image scripts are turns laws j c call e at calls runs in
      let held = held_elsewhere laws site w.core.words views h.well.holds (suc j) c.site call e (w.doings j) seated word value decides
      (causes shape words image scripts are turns j c call e (again (Busy word value)) at calls runs decides) in
      by_seat held.place held.view held.at held.elsewhere held.holds held.has

pub busy_others : CallCauses → BeginsBare → OpenedHolds → TurnKeeps → EndsHaveCauses → BusyIsOthers
busy_others laws bare opens keeps causes shape words image scripts are turns j c call e word value at calls runs decides =
    others_hold laws bare opens keeps causes shape words image scripts are turns j c call e word value at calls runs decides
