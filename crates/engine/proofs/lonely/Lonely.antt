-- A caller that steps while all others stand between two attempts is told no Again, and its own turns leave it so.
use Rattle.std.proofs.Common.{◌≡◌, ◌≢◌, ℕ, zero, suc, inl, inr, ◌⊎◌, cond, Option, None, Some, List, [], ◌∷◌, ◌++◌, length, slice_get, slice_index, refl, sym, ◌∙◌, ap, subst}
use Rattle.std.proofs.lemmas.Bool.{cases_eq, eq-eqb, ne_eqb}
use Rattle.std.proofs.lemmas.Option.{none-some, same_Some}
use Rattle.op_core.specs.declared.want.Want.{Want}
use Rattle.op_core.specs.declared.want.Want.TheVariants as want
use Rattle.op_core.specs.declared.want.Ans.{Ans}
use Rattle.op_core.specs.declared.why.Why.{Why}
use Rattle.op_core.specs.declared.why.Why.TheVariants.{Busy, Moved}
use Rattle.trace.specs.Events.{Words}
use Rattle.image_layout.specs.Places.{Shape, state_word}
use Rattle.map_model.specs.declared.call.Call.{Call}
use Rattle.map_model.specs.declared.entry.Reply.{Reply}
use Rattle.world.specs.declared.site.Site.{Site}
use Rattle.world.specs.Ground.{Ground}
use Rattle.world.specs.Views.{Has}
use Rattle.world.specs.Wants.{words_after}
use Rattle.world.specs.World.{fresh_view}
use Rattle.world.specs.areas.Areas.{Area, Whole}
use Rattle.world.proofs.stepping.Rests.{current_segments_rest}
use Rattle.part.specs.Doings.{Doings, nothing_done, with_event_of, IsStill}
use Rattle.part.specs.Outcomes.{Outcome, replied, again, stale, need_split, finished}
use Rattle.part.specs.Causes.{IsUnsplit}
use Rattle.part.specs.Splits.{HasMovedLock}
use Rattle.part.proofs.Still.{nothing_still, own_events_keep_still, alone_nothing_moves}
use Rattle.part.proofs.Leading.{alone_nothing_leads_away}
use Rattle.restart_op.specs.Restarted.{words_at_end}
use Rattle.engine.specs.declared.engine.Engine.{Engine}
use Rattle.engine.specs.declared.engine.End.{End}
use Rattle.engine.specs.Engine.{begun, wanted, end_of, reply_of_end, IsFresh, anew}
use Rattle.engine.specs.OpPart.{op_part, Work, calls as of_calls, splits, repairs, work_of}
use Rattle.engine.specs.Core.{Caller, call_at, current, engine_for, idle, callers_from, drawn_by, ended, ended_or_on, answered, with_event, turn_of_call, turn_of_caller}
use Rattle.engine.specs.Holding.{CoreHolds, TurnKeeps}
use Rattle.engine.specs.Laws.{IsServedImage, OpenedHolds, AreScripts}
use Rattle.engine.specs.Causes.{doings_by, with_doings, Watched, answer_now, engine_next, doings_of_call, doings_of_caller, watched_turn, Decides, BeginsBare, BeginsUndecided, DecidedStays, EndsAreDecided, HasCauseBy, EndsHaveCauses, watched_run, CallCauses}
use Rattle.engine.specs.Alone.{IsTold, told_reply, told_again, told_to_split, told_stale, told_finished, IsBetween, IsRestingBy, IsResting, IsAlone, IsNext, at_start, along, BusyIsOthers, AllRestAtStart, AloneAtStart, RestingIsAlone, OwnTurnsStayAlone, AloneNeverAgain, EndsAreTold, EndsTell, EndedRests, OthersStayResting}
use Rattle.engine.specs.Driven.{OwnTurnsStayStill}
use Rattle.engine.proofs.Places.{set_cases}
use Rattle.engine.proofs.machines.Ops.{never_hands_on}
use Rattle.engine.proofs.holding.Served.{sound_now}
use Rattle.engine.proofs.attempts.Stepping.{op_decided}
use Rattle.engine.proofs.attempts.Doing.{one_more_turn, set_there, anew_fresh}
use Rattle.engine.proofs.attempts.Seats.{IsSeated, seat_stands, site_there, holds_there, seat_there}
use Rattle.engine.proofs.lonely.Looking.{counter_apart, own_no_areas}
use Rattle.engine.proofs.lonely.Others.{others_bare}

-- ---- an outcome is decided or is not
decided_or_not : (o : Option Outcome) → ((outcome : Outcome) × (o ≡ Some outcome)) ⊎ (o ≡ None)
decided_or_not (Some outcome) = inl (outcome, refl)
decided_or_not None = inr refl

-- what holds of an outcome that is decided, and of each that the next event decides, holds of each that is decided after it
next_ends : DecidedStays → (P : Outcome → Type 0) (shape : Shape) (words : Words) (e : Engine) → ((outcome : Outcome) → op_part.outcome e.op ≡ Some outcome → P outcome)
    → ((outcome : Outcome) → Decides shape words e outcome → P outcome) → (outcome : Outcome) → op_part.outcome (engine_next shape words e).op ≡ Some outcome → P outcome
next_ends stays P shape words e before by outcome decided = elim (decided_or_not (op_part.outcome e.op)) [
  | inl old ↦ subst P (same_Some old.0 outcome (sym (stays e (answer_now shape words e) old.0 old.1) ∙ decided)) (before old.0 old.1)
  | inr none ↦ by outcome (record { undecided = none; decides = decided })
]

-- ---- what an attempt of its own loaded is still so after its turn
module _ (shape : Shape) (j : ℕ) (w : Watched) (still : IsStill shape w.core.words (w.doings j)) where
  -- whatever is wanted next
  by_next : (next event : Want) (ws : Words) (a : Ans) → IsStill shape ws (with_event_of event a (w.doings j)) → IsStill shape ws (doings_by next event a (w.doings j))
  by_next want.Done event ws a now = nothing_still shape ws
  by_next next event ws a now = now

  still_by_call : (c : Caller) (call : Option Call) (engine : Option Engine) → IsStill shape (turn_of_call shape j w.core c call engine).words (doings_of_call shape j w call engine j)
  still_by_call c None engine = still
  still_by_call c (Some call) None = still
  still_by_call c (Some call) (Some e) =
      let now = words_after shape (wanted e) (suc j) w.core.words in
      let new : Doings = doings_by (wanted (engine_next shape w.core.words e)) (wanted e) (answer_now shape w.core.words e) (w.doings j) in
      subst (λ b. IsStill shape now (cond b new (w.doings j))) (sym (eq-eqb j j refl))
      (by_next (wanted (engine_next shape w.core.words e)) (wanted e) now (answer_now shape w.core.words e) (own_events_keep_still shape w.core.words (w.doings j) (wanted e) (suc j) still))

  still_by_caller : (o : Option Caller) → IsStill shape (turn_of_caller shape j w.core o).words (doings_of_caller shape j w o j)
  still_by_caller None = still
  still_by_caller (Some c) = still_by_call c (current c) c.engine

  turn_still : IsStill shape (watched_turn shape (suc j) w).core.words ((watched_turn shape (suc j) w).doings j)
  turn_still = still_by_caller (slice_get w.core.callers j)

pub own_turns_stay_still : OwnTurnsStayStill
own_turns_stay_still shape w j still = turn_still shape j w still

-- ---- what holds of each decided outcome of the caller at a place holds after its turn
module _ (P : Outcome → Type 0) where
  abbrev EachHolds : Caller → Type 0
  EachHolds c = (e : Engine) (outcome : Outcome) → c.engine ≡ Some e → op_part.outcome e.op ≡ Some outcome → P outcome

  module _ (first : BeginsUndecided) where
    fresh_holds : (here : Site) (e : Engine) (outcome : Outcome) → IsFresh here e → op_part.outcome e.op ≡ Some outcome → P outcome
    fresh_holds here e outcome fresh decided = absurd (none-some outcome (sym (first here e fresh) ∙ decided))

    begun_holds : (here : Site) (o : Option Call) (e : Engine) (outcome : Outcome) → engine_for here o ≡ Some e → op_part.outcome e.op ≡ Some outcome → P outcome
    begun_holds here None e outcome is decided = absurd (none-some e is)
    begun_holds here (Some call) e outcome is decided = fresh_holds here e outcome (inl (call, sym (same_Some (begun here call) e is))) decided

    ended_holds : (c : Caller) (call : Call) (end : End) (o : Option (Reply × ℕ)) → EachHolds (ended c call end o)
    ended_holds c call end None e outcome is decided = fresh_holds c.site e outcome (subst (IsFresh c.site) (same_Some (anew c.site call end) e is) (anew_fresh c.site call end)) decided
    ended_holds c call end (Some r) e outcome is decided = begun_holds c.site (call_at c (suc (length c.entries))) e outcome is decided

    gone_on_holds : (c : Caller) (call : Call) (next : Engine) (asked : Want) → ((outcome : Outcome) → op_part.outcome next.op ≡ Some outcome → P outcome) → EachHolds (ended_or_on c call next asked)
    gone_on_holds c call next want.Done good e outcome is decided = ended_holds c call (end_of next) (reply_of_end (end_of next)) e outcome is decided
    gone_on_holds c call next asked good e outcome is decided = good outcome (subst (λ (x : Engine). op_part.outcome x.op ≡ Some outcome) (sym (same_Some next e is)) decided)

-- who stands at another place stands there as before
others_there : (shape : Shape) (w : Watched) (i j : ℕ) (d : Caller) → i ≢ j → slice_get (watched_turn shape (suc j) w).core.callers i ≡ Some d → slice_get w.core.callers i ≡ Some d
others_there shape w i j d other = by_caller (slice_get w.core.callers j)
  where
    by_call : (c : Caller) (call : Option Call) (engine : Option Engine) → slice_get (turn_of_call shape j w.core c call engine).callers i ≡ Some d → slice_get w.core.callers i ≡ Some d
    by_call c None engine is = is
    by_call c (Some call) None is = is
    by_call c (Some call) (Some e) is = elim (set_cases w.core.callers j i (answered c call e (answer_now shape w.core.words e)) d is) [
      | inl here ↦ absurd (other here.0)
      | inr old ↦ old
    ]

    by_caller : (o : Option Caller) → slice_get (turn_of_caller shape j w.core o).callers i ≡ Some d → slice_get w.core.callers i ≡ Some d
    by_caller None is = is
    by_caller (Some c) is = by_call c (current c) c.engine is

others_doings : (shape : Shape) (w : Watched) (i j : ℕ) → i ≢ j → (watched_turn shape (suc j) w).doings i ≡ w.doings i
others_doings shape w i j other = by_caller (slice_get w.core.callers j)
  where
    by_call : (call : Option Call) (engine : Option Engine) → doings_of_call shape j w call engine i ≡ w.doings i
    by_call None engine = refl
    by_call (Some call) None = refl
    by_call (Some call) (Some e) =
        let new : Doings = doings_by (wanted (engine_next shape w.core.words e)) (wanted e) (answer_now shape w.core.words e) (w.doings j) in
        ap (λ b. cond b new (w.doings i)) (ne_eqb i j other)

    by_caller : (o : Option Caller) → doings_of_caller shape j w o i ≡ w.doings i
    by_caller None = refl
    by_caller (Some c) = by_call (current c) c.engine

-- ---- rest
engine_rests : (c : Caller) (o : Option Call) → c.engine ≡ engine_for c.site o → IsRestingBy c nothing_done
engine_rests c None is = inl is
engine_rests c (Some call) is = inr (begun c.site call, is, inl (call, refl), refl)

ended_rested : (c : Caller) (call : Call) (end : End) (o : Option (Reply × ℕ)) → IsRestingBy (ended c call end o) nothing_done
ended_rested c call end None = inr (anew c.site call end, refl, anew_fresh c.site call end, refl)
ended_rested c call end (Some r) = engine_rests (ended c call end (Some r)) (call_at c (suc (length c.entries))) refl

fresh_rests : (shape : Shape) (version number : ℕ) (scripts : List (List Call)) (j : ℕ) (c : Caller) → slice_get (callers_from shape version number scripts) j ≡ Some c → IsRestingBy c nothing_done
fresh_rests shape version number [] j c at = absurd (none-some c at)
fresh_rests shape version number (calls ∷ scripts) zero c at =
    let here : Site = record { geometry = shape; version = version; caller = number } in
    subst (λ x. IsRestingBy x nothing_done) (same_Some (idle here calls) c at) (engine_rests (idle here calls) (slice_get calls 0) refl)
fresh_rests shape version number (calls ∷ scripts) (suc j) c at = fresh_rests shape version (suc number) scripts j c at

pub others_stay_resting : OthersStayResting
others_stay_resting shape w i j other rest c at = subst (λ did. IsRestingBy c did) (sym (others_doings shape w i j other)) (rest c (others_there shape w i j c other at))

-- what holds of each decided outcome there holds after its turn
module _ (P : Outcome → Type 0) (first : BeginsUndecided) (shape : Shape) (w : Watched) (j : ℕ) (before : (c : Caller) → slice_get w.core.callers j ≡ Some c → EachHolds P c)
    (next : (e : Engine) → IsNext w j e → (outcome : Outcome) → op_part.outcome (engine_next shape w.core.words e).op ≡ Some outcome → P outcome) where
  by_call : (d c : Caller) → slice_get w.core.callers j ≡ Some c → (call : Option Call) (engine : Option Engine) → current c ≡ call → c.engine ≡ engine
      → slice_get (turn_of_call shape j w.core c call engine).callers j ≡ Some d → EachHolds P d
  by_call d c there None engine calls runs is = before d is
  by_call d c there (Some call) None calls runs is = before d is
  by_call d c there (Some call) (Some e) calls runs is =
      let a : Ans = answer_now shape w.core.words e in
      let after : Engine = engine_next shape w.core.words e in
      subst (EachHolds P) (set_there w.core.callers j (answered c call e a) d c there is)
      (gone_on_holds P first (record c { drew = drawn_by c call a }) call after (wanted after) (next e (record { caller = c; there = there; call = call; calls = calls; runs = runs })))

  by_caller : (d : Caller) (o : Option Caller) → slice_get w.core.callers j ≡ o → slice_get (turn_of_caller shape j w.core o).callers j ≡ Some d → EachHolds P d
  by_caller d None there is = before d is
  by_caller d (Some c) there is = by_call d c there (current c) c.engine refl refl is

  holds_after : (d : Caller) → slice_get (watched_turn shape (suc j) w).core.callers j ≡ Some d → EachHolds P d
  holds_after d is = by_caller d (slice_get w.core.callers j) refl is

-- ---- an attempt ends with a reply or in Again, whoever has its turn
abbrev IsToldOne : Outcome → Type 0
IsToldOne outcome = IsTold (Some outcome)

abbrev AllTold : Watched → Type 0
AllTold w = (j : ℕ) (c : Caller) → slice_get w.core.callers j ≡ Some c → EachHolds IsToldOne c

told_by : (work : Work) (shape : Shape) (version : ℕ) (words : Words) (did : Doings) (call : Call) (event : Want) (outcome : Outcome) → HasCauseBy work shape version words did call event outcome
    → IsToldOne outcome
told_by work shape version words did call event (replied reply place) has = told_reply tt
told_by work shape version words did call event (again why) has = told_again why refl
told_by of_calls shape version words did call event (need_split slot) has = told_to_split slot refl
told_by of_calls shape version words did call event (stale slot byte) has = told_stale slot byte refl
told_by (splits segment) shape version words did call event finished has = told_finished refl
told_by (repairs segment) shape version words did call event finished has = told_finished refl
told_by of_calls shape version words did call event outcome has = absurd has
told_by (splits segment) shape version words did call event outcome has = absurd has
told_by (repairs segment) shape version words did call event outcome has = absurd has

module _ (causes : EndsHaveCauses) (first : BeginsUndecided) (stays : DecidedStays)
    (shape : Shape) (words : List ℕ) (image : IsServedImage shape words) (scripts : List (List Call)) (are : AreScripts scripts) where
  abbrev at : List ℕ → Watched
  at turns = along shape words scripts turns

  next_told : (turns : List ℕ) → AllTold (at turns) → (j : ℕ) (e : Engine) → IsNext (at turns) j e → (outcome : Outcome) → op_part.outcome (engine_next shape (at turns).core.words e).op ≡ Some outcome
      → IsToldOne outcome
  next_told turns all j e n = next_ends stays IsToldOne shape (at turns).core.words e
      (λ outcome is. all j n.caller n.there e outcome n.runs is)
      (λ outcome decides. told_by (work_of e.op) shape n.caller.site.version (at turns).core.words ((at turns).doings j) n.call (wanted e) outcome
      (causes shape words image scripts are turns j n.caller n.call e outcome n.there n.calls n.runs decides))

  turn_told : (turns : List ℕ) → AllTold (at turns) → (c : ℕ) → AllTold (watched_turn shape c (at turns))
  turn_told turns all zero i d is = all i d is
  turn_told turns all (suc j) i d is = elim (cases_eq i j) [
    | inl same ↦ holds_after IsToldOne first shape (at turns) j (all j) (next_told turns all j) d (subst (λ k. slice_get (watched_turn shape (suc j) (at turns)).core.callers k ≡ Some d) same is)
    | inr other ↦ all i d (others_there shape (at turns) i j d other is)
  ]

  run_told : (done turns : List ℕ) → AllTold (at done) → AllTold (watched_run shape turns (at done))
  run_told done [] all = all
  run_told done (c ∷ turns) all =
      let more = one_more_turn shape done c (at_start shape words scripts) in
      subst (λ w. AllTold (watched_run shape turns w)) more (run_told (done ++ c ∷ []) turns (subst AllTold (sym more) (turn_told done all c)))

  start_told : AllTold (at [])
  start_told j c is e outcome runs decided = elim (fresh_rests shape (words_at_end shape words state_word) 1 scripts j c is) [
    | inl none ↦ absurd (none-some e (sym none ∙ runs))
    | inr p ↦ fresh_holds IsToldOne first c.site e outcome (subst (IsFresh c.site) (same_Some p.0 e (sym p.1 ∙ runs)) p.2) decided
  ]

  all_told : (turns : List ℕ) → AllTold (at turns)
  all_told turns = run_told [] turns start_told

  ends_told : (turns : List ℕ) (j : ℕ) (e : Engine) → IsNext (at turns) j e → (outcome : Outcome) → op_part.outcome (engine_next shape (at turns).core.words e).op ≡ Some outcome → IsToldOne outcome
  ends_told turns = next_told turns (all_told turns)

  -- ---- after any turns, alone
  module _ (laws : CallCauses) (bare : BeginsBare) (opens : OpenedHolds) (keeps : TurnKeeps) (busy : BusyIsOthers) (turns : List ℕ) (j : ℕ) (alone : IsAlone shape j (at turns)) where
    abbrev w : Watched
    w = at turns

    abbrev IsCalm : Outcome → Type 0
    IsCalm outcome = (why : Why) → outcome ≡ again why → ⊥

    module _ (e : Engine) (n : IsNext w j e) where
      abbrev site : Ground
      site = site_there opens keeps shape words image scripts are turns

      abbrev h : CoreHolds site (slice_index words) w.core
      h = holds_there opens keeps shape words image scripts are turns

      abbrev seated : IsSeated site w.core.words (fresh_view 0 ∷ h.views) (suc j) n.caller.site n.call e (w.doings j)
      seated = seat_there opens keeps shape words image scripts are turns laws j n.caller n.call e n.there n.calls n.runs

      -- while the caller goes on in its call, no current segment is split by anyone
      nothing_splits : work_of e.op ≡ of_calls → IsUnsplit shape n.caller.site.version w.core.words
      nothing_splits own s slot version splitting =
          let whole = current_segments_rest.others site w.core.words (fresh_view 0 ∷ h.views) (suc j) seated.view h.well.holds seated.at
          (λ i u apart seat. (others_bare bare site (slice_index words) w.core h j alone.others i u apart seat).areas) s
          (record { live = record { slot = slot; live = inr splitting }; current = version ∙ seated.version }) splitting in
          subst (λ (areas : List Area). Has (Whole s) areas) (own_no_areas site n.caller.site n.call e.op seated.view own seated.suits.stands) whole.1

      lock_stays : (segment word before after : ℕ) → HasMovedLock shape w.core.words (w.doings j) n.call segment word before after → ⊥
      lock_stays segment word before after m =
          elim (alone.still word before m.loaded (λ counter. counter_apart shape segment m.needed.1.0 m.needed.1.1 (sym counter ∙ m.needed.1.2))) [
            | inl same ↦ m.differ (sym same ∙ m.newest)
            | inr own ↦ m.by_others own
          ]

      nothing_moves : (work : Work) → work_of e.op ≡ work → (word before after : ℕ) → HasCauseBy work shape n.caller.site.version w.core.words (w.doings j) n.call (wanted e) (again (Moved word before after)) → ⊥
      nothing_moves (splits segment) is word before after c = lock_stays segment word before after c.1
      nothing_moves (repairs segment) is word before after c = c
      nothing_moves of_calls is word before after c = elim c.1 [
        | inl moved ↦ alone_nothing_moves shape w.core.words (w.doings j) n.call word before after h.well.holds.site_is.shape seated.key alone.still moved
        | inr away ↦ alone_nothing_leads_away site n.caller.site.version w.core.words (w.doings j) n.call word before after h.well.holds.site_is
            (sound_now site w.core.words (fresh_view 0 ∷ h.views) h.well.holds) (nothing_splits is) seated.key alone.still away
      ]

      never_by : (why : Why) → Decides shape w.core.words e (again why) → ⊥
      never_by (Busy word value) decides =
          let o = busy shape words image scripts are turns j n.caller n.call e word value n.there n.calls n.runs decides in
          o.midst (alone.others o.place o.caller o.elsewhere o.there)
      never_by (Moved word before after) decides =
          nothing_moves (work_of e.op) refl word before after (causes shape words image scripts are turns j n.caller n.call e (again (Moved word before after)) n.there n.calls n.runs decides)

      next_calm : (outcome : Outcome) → op_part.outcome (engine_next shape w.core.words e).op ≡ Some outcome → IsCalm outcome
      next_calm = next_ends stays IsCalm shape w.core.words e
          (λ outcome is why says. alone.calm n.caller e why n.there n.runs (is ∙ ap Some says))
          (λ outcome decides why says. never_by why (subst (λ o. Decides shape w.core.words e o) says decides))

    stays_alone : IsAlone shape j (watched_turn shape (suc j) w)
    stays_alone = record {
      others = λ i c other is. alone.others i c other (others_there shape w i j c other is);
      still = turn_still shape j w alone.still;
      calm = λ c e why is runs decided.
          holds_after IsCalm first shape w j (λ d there x outcome run sure. λ y says. alone.calm d x y there run (sure ∙ ap Some says)) next_calm c is e (again why) runs decided why refl;
    }

pub own_turns_stay_alone : CallCauses → BeginsBare → OpenedHolds → TurnKeeps → BusyIsOthers → EndsHaveCauses → BeginsUndecided → DecidedStays → OwnTurnsStayAlone
own_turns_stay_alone laws bare opens keeps busy causes first stays shape words image scripts are turns j alone =
    stays_alone causes first stays shape words image scripts are laws bare opens keeps busy turns j alone

pub alone_never_again : CallCauses → BeginsBare → OpenedHolds → TurnKeeps → BusyIsOthers → EndsHaveCauses → BeginsUndecided → DecidedStays → AloneNeverAgain
alone_never_again laws bare opens keeps busy causes first stays shape words image scripts are turns j e alone n why decided =
    next_calm causes first stays shape words image scripts are laws bare opens keeps busy turns j alone e n (again why) decided why refl

pub ends_are_told : EndsHaveCauses → BeginsUndecided → DecidedStays → EndsAreTold
ends_are_told causes first stays shape words image scripts are turns j e n outcome decided = ends_told causes first stays shape words image scripts are turns j e n outcome decided

-- where nothing more is wanted an outcome is decided, and is that of the end
pub ends_tell : CallCauses → OpenedHolds → TurnKeeps → EndsAreDecided → EndsTell
ends_tell laws opens keeps says shape words image scripts are turns j e n done =
    let w = along shape words scripts turns in
    let site = site_there opens keeps shape words image scripts are turns in
    let h = holds_there opens keeps shape words image scripts are turns in
    let seated = seat_there opens keeps shape words image scripts are turns laws j n.caller n.call e n.there n.calls n.runs in
    let next : Engine = engine_next shape w.core.words e in
    let stands = seat_stands laws.part site w.core.words (fresh_view 0 ∷ h.views) h.well.holds (suc j) n.caller.site n.call e (w.doings j) seated in
    let d = op_decided laws.causes site n.caller.site n.call next.op _ stands done (never_hands_on next.op) in
    (d.0, d.1, sym (says site n.caller.site n.call next _ stands done) ∙ d.1)

pub all_rest_at_start : AllRestAtStart
all_rest_at_start shape words scripts j c is = fresh_rests shape (words_at_end shape words state_word) 1 scripts j c is

rests_between : (c : Caller) (did : Doings) → IsRestingBy c did → IsBetween c
rests_between c did (inl none) = inl none
rests_between c did (inr p) = inr (p.0, p.1, p.2)

rests_calm : BeginsUndecided → (c : Caller) (did : Doings) → IsRestingBy c did → (e : Engine) (outcome : Outcome) → c.engine ≡ Some e → op_part.outcome e.op ≡ Some outcome → ⊥
rests_calm first c did (inl none) e outcome runs decided = none-some e (sym none ∙ runs)
rests_calm first c did (inr p) e outcome runs decided = fresh_holds (λ outcome. ⊥) first c.site e outcome (subst (IsFresh c.site) (same_Some p.0 e (sym p.1 ∙ runs)) p.2) decided

pub alone_at_start : BeginsUndecided → AloneAtStart
alone_at_start first shape words scripts j = record {
  others = λ i c other is. rests_between c nothing_done (all_rest_at_start shape words scripts i c is);
  still = nothing_still shape (at_start shape words scripts).core.words;
  calm = λ c e why is runs decided. rests_calm first c nothing_done (all_rest_at_start shape words scripts j c is) e (again why) runs decided;
}

resting_still : (shape : Shape) (words : Words) (c : Caller) (e : Engine) (did : Doings) → c.engine ≡ Some e → IsRestingBy c did → IsStill shape words did
resting_still shape words c e did runs (inl none) = absurd (none-some e (sym none ∙ runs))
resting_still shape words c e did runs (inr p) = subst (λ d. IsStill shape words d) (sym p.3) (nothing_still shape words)

pub resting_is_alone : BeginsUndecided → RestingIsAlone
resting_is_alone first shape w j c e rest there runs = record {
  others = λ i d other is. rests_between d (w.doings i) (rest i d is);
  still = resting_still shape w.core.words c e (w.doings j) runs (rest j c there);
  calm = λ d x why is run decided. rests_calm first d (w.doings j) (rest j d is) x (again why) run decided;
}

module _ (shape : Shape) (w : Watched) (j : ℕ) (e : Engine) (n : IsNext w j e) where
  abbrev a : Ans
  a = answer_now shape w.core.words e

  abbrev next : Engine
  next = engine_next shape w.core.words e

  abbrev new : Doings
  new = doings_by (wanted next) (wanted e) a (w.doings j)

  abbrev by_event : Watched
  by_event = record { core = with_event shape j w.core n.caller n.call e; doings = with_doings j new w.doings }

  -- its turn is this event
  pub turn_is : watched_turn shape (suc j) w ≡ by_event
  turn_is =
      ap (λ o. record { core = turn_of_caller shape j w.core o; doings = doings_of_caller shape j w o }) n.there
      ∙ ap (λ o. record { core = turn_of_call shape j w.core n.caller o n.caller.engine; doings = doings_of_call shape j w o n.caller.engine }) n.calls
      ∙ ap (λ o. record { core = turn_of_call shape j w.core n.caller (Some n.call) o; doings = doings_of_call shape j w (Some n.call) o }) n.runs

  rests_by : wanted next ≡ want.Done → IsResting by_event j
  rests_by done d is =
      let drawn : Caller = record n.caller { drew = drawn_by n.caller n.call a } in
      subst (λ x. IsRestingBy x (by_event.doings j)) (set_there w.core.callers j (answered n.caller n.call e a) d n.caller n.there is)
      (subst (λ asked. IsRestingBy (ended_or_on drawn n.call next asked) (by_event.doings j)) (sym done)
      (subst (λ did. IsRestingBy (ended drawn n.call (end_of next) (reply_of_end (end_of next))) did) (sym (ap (λ b. cond b new (w.doings j)) (eq-eqb j j refl) ∙ ap (λ asked. doings_by asked (wanted e) a (w.doings j)) done))
      (ended_rested drawn n.call (end_of next) (reply_of_end (end_of next)))))

pub ended_rests : EndedRests
ended_rests shape w j e n done = subst (λ (x : Watched). IsResting x j) (sym (turn_is shape w j e n)) (rests_by shape w j e n done)
