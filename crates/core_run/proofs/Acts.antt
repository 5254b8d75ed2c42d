-- A run is one act after another, and each act keeps a state of the run.
use Rattle.std.proofs.Common.{inl, inr, slice_get, ◌≡◌, ℕ, zero, suc, ◌+◌, Bool, true, false, Option, Some, None, List, [], ◌∷◌, ◌++◌, length, take, drop, refl, sym, ◌∙◌, ap, subst, arith}
use Rattle.std.specs.Prelude.{nat_lt, is_some, if◌then◌else◌}
use Rattle.std.specs.List.{AllByRecursion, AllZip}
use Rattle.std.proofs.lemmas.List.{append_assoc, take-append-drop}
use Rattle.std.proofs.Math.Seq.{take-append_seam, take-append-add}
use Rattle.std.proofs.lemmas.Option.{none-some}
use Rattle.image_layout.specs.Places.{Shape, words_of}
use Rattle.map_model.specs.declared.call.Call.{Call}
use Rattle.script_text.specs.declared.line.Line.{Line}
use Rattle.script_text.specs.declared.line.Line.TheVariants as line
use Rattle.restart_op.specs.Close.{begun as close_begun}
use Rattle.restart_op.specs.Restart.{wanted as restart_wanted, taken as restart_taken}
use Rattle.restart_op.specs.declared.restart.RestartOp.{RestartOp}
use Rattle.op_core.specs.declared.want.Want.{Want}
use Rattle.op_core.specs.declared.want.Want.TheVariants as want
use Rattle.world.specs.Wants.{answer_to, word_of}
use Rattle.world.specs.Ground.{Ground}
use Rattle.world.specs.Views.{View}
use Rattle.engine.specs.declared.engine.Engine.{Engine}
use Rattle.engine.specs.Core.{Caller, current, Core}
use Rattle.engine.specs.Holding.{CallerFits, DoesCall}
use Rattle.core_run.specs.declared.keeper.Keeper.{Keeper}
use Rattle.core_run.specs.declared.keeper.Keeper.TheVariants.{Restarting, Open, Closing, Closed}
use Rattle.core_run.specs.declared.goal.Goal.{Goal}
use Rattle.core_run.specs.declared.goal.Goal.TheVariants.{AnyEvent, Kind, StoreTo, Turn}
use Rattle.core_run.specs.State.{State, Deed, by_keeper, restarting, keeper_deed, call_deed, caller_deed, open_deed, deed}
use Rattle.core_run.specs.Run.{counts, stops, by_deed, drive, restarted_by, restarted, round, has_calls, rounds, close_begins, run_out, ready_for, line_done, lines_done, closed, cut_of, state_at_end}
use Rattle.core_run.specs.Running.{Setup, IsSetup, site_in, IsRunning, IsRunningBy, DeedsAreWell}
use Rattle.core_run.specs.States.{RunBegins, CloseMayBegin, MomentsAreGood}
use Rattle.core_run.specs.Along.{BeginsAlong}
use Rattle.core_run.specs.Ends.{most_of, IsRun, RestartedStays, LineStays, LinesStay}
use Rattle.core_run.specs.Rounds.{RoundsEnd, RoundsAreEnough}
use Rattle.core_run.specs.Sessions.{end_state}
use Rattle.core_run.specs.Wells.{start_state}
use Rattle.core_run.specs.Moments.{ActsAreSingle, IsOneMore, Act, event_by, begins_close, after_event, after_beginning, after_act, after_acts, MomentsOfRuns, IsRunOf, EveryMomentIsGood}
use Rattle.core_run.proofs.ends.Choices.{either}
use Rattle.core_run.proofs.ends.Calls.{has_none}

-- ---- an act does one event at the most
restarting_trace : (shape : Shape) (op : RestartOp) (w : Want) (core : Core) → (restarting shape op w core).core.trace ≡ core.trace
restarting_trace shape op want.Done core = refl
restarting_trace shape op (want.Load i) core = refl
restarting_trace shape op (want.Store i x) core = refl
restarting_trace shape op (want.Exchange i a b) core = refl
restarting_trace shape op (want.Flush l) core = refl
restarting_trace shape op want.Fence core = refl
restarting_trace shape op want.Draw core = refl
restarting_trace shape op want.Power core = refl

module _ (shape : Shape) where
  -- from a state with this core
  abbrev IsSingle : State → Option Deed → Type 0
  IsSingle s o = IsOneMore s.core.trace (after_event o s).core.trace

  keeper_single : (k : Keeper) (s : State) → IsSingle s (keeper_deed shape k s.core)
  keeper_single (Restarting op) s =
      let w : Want = restart_wanted op in
      let next : RestartOp = restart_taken op (answer_to w (s.core.words (word_of shape w))) in
      inr (_, restarting_trace shape next (restart_wanted next) (by_keeper shape w s.core))
  keeper_single Open s = inl refl
  keeper_single (Closing op) s = inr (_, refl)
  keeper_single Closed s = inl refl

  call_single : (j : ℕ) (s : State) (caller : Caller) (call : Option Call) (e : Option Engine) → IsSingle s (call_deed shape j s.core caller call e)
  call_single j s caller None e = inl refl
  call_single j s caller (Some call) None = inl refl
  call_single j s caller (Some call) (Some e) = inr (_, refl)

  caller_single : (j : ℕ) (s : State) (o : Option Caller) → IsSingle s (caller_deed shape j s.core o)
  caller_single j s None = inl refl
  caller_single j s (Some caller) = call_single j s caller (current caller) caller.engine

  open_single : (j : ℕ) (k : Keeper) (s : State) → IsSingle s (open_deed shape j k s.core)
  open_single j Open s = caller_single j s (slice_get s.core.callers j)
  open_single j (Restarting op) s = inl refl
  open_single j (Closing op) s = inl refl
  open_single j Closed s = inl refl

  beginning_single : (k : Keeper) (s : State) → (after_beginning shape k s).core ≡ s.core
  beginning_single Open s = by (has_calls shape 0 s.core.callers)
    where
      by : (b : Bool) → (if b then s else record s { keeper = Closing (close_begun shape) }).core ≡ s.core
      by true = refl
      by false = refl
  beginning_single (Restarting op) s = refl
  beginning_single (Closing op) s = refl
  beginning_single Closed s = refl

pub acts_are_single : ActsAreSingle
acts_are_single shape (event_by zero) s = keeper_single shape s.keeper s
acts_are_single shape (event_by (suc j)) s = open_single shape j s.keeper s
acts_are_single shape begins_close s = inl (ap (λ (core : Core). core.trace) (beginning_single shape s.keeper s))

-- ---- each act keeps a state of the run
-- a caller without a call runs no engine
engine_rests : (site : Ground) (c : Caller) (v : View) (e : Option Engine) → c.engine ≡ e → DoesCall site c e v → current c ≡ None → c.engine ≡ None
engine_rests site c v None here does none = here
engine_rests site c v (Some e) here does none = absurd (none-some does.call (sym none ∙ does.is_current))

-- where no call is left, each caller has none
no_call_here : (shape : Shape) (n : ℕ) (c : Caller) (cs : List Caller) → has_calls shape n (c ∷ cs) ≡ false → (current c ≡ None) × (has_calls shape n cs ≡ false)
no_call_here shape n c cs none = by (current c) refl none
  where
    by : (o : Option Call) → current c ≡ o → (if is_some o then true else has_calls shape n cs) ≡ false → (current c ≡ None) × (has_calls shape n cs ≡ false)
    by None is none = (is, none)
    by (Some call) is none = absurd (let z : true ≡ false = none in cc)

pub all_rest : (shape : Shape) (n : ℕ) (site : Ground) (cs : List Caller) (vs : List View) → AllZip (CallerFits site) cs vs → has_calls shape n cs ≡ false
    → AllByRecursion (λ (c : Caller). c.engine ≡ None) cs
all_rest shape n site [] vs fits none = tt
all_rest shape n site (c ∷ cs) [] fits none = absurd fits
all_rest shape n site (c ∷ cs) (v ∷ vs) fits none =
    let left = no_call_here shape n c cs none in
    (engine_rests site c v c.engine refl fits.0.does left.0, all_rest shape n site cs vs fits.1 left.1)

module _ (wells : DeedsAreWell) (may : CloseMayBegin) (t : Setup) (is : IsSetup t) where
  event_keeps : (c : ℕ) (s : State) → IsRunning t s → (o : Option Deed) → deed t.shape c s ≡ o → IsRunning t (after_event o s)
  event_keeps c s run None e = run
  event_keeps c s run (Some d) e = (wells t c s d is run e).after

  beginning_keeps : (k : Keeper) (s : State) → s.keeper ≡ k → IsRunning t s → IsRunning t (after_beginning t.shape k s)
  beginning_keeps Open s here run = by (has_calls t.shape 0 s.core.callers) refl
    where
      by : (b : Bool) → has_calls t.shape 0 s.core.callers ≡ b → IsRunning t (if b then s else record s { keeper = Closing (close_begun t.shape) })
      by true some = run
      by false none =
          let o = subst (λ k. IsRunningBy t k s.core) here run in
          may t s.core is o (all_rest t.shape 0 (site_in t) s.core.callers o.holds.views o.holds.each none)
  beginning_keeps (Restarting op) s here run = run
  beginning_keeps (Closing op) s here run = run
  beginning_keeps Closed s here run = run

  pub act_keeps : (a : Act) (s : State) → IsRunning t s → IsRunning t (after_act t.shape a s)
  act_keeps (event_by c) s run = event_keeps c s run (deed t.shape c s) refl
  act_keeps begins_close s run = beginning_keeps s.keeper s refl run

  acts_keep : (acts : List Act) (s : State) → IsRunning t s → IsRunning t (after_acts t.shape acts s)
  acts_keep [] s run = run
  acts_keep (a ∷ acts) s run = acts_keep acts (after_act t.shape a s) (act_keeps a s run)

pub moments_of_runs : RunBegins → DeedsAreWell → CloseMayBegin → MomentsAreGood → MomentsOfRuns
moments_of_runs begins wells may good t opening acts is has =
    good t (after_acts t.shape acts (start_state t)) opening is (acts_keep wells may t is acts (start_state t) (begins t is)) has

-- ---- what comes by acts
module _ (shape : Shape) where
  after_append : (acts more : List Act) (s : State) → after_acts shape (acts ++ more) s ≡ after_acts shape more (after_acts shape acts s)
  after_append [] more s = refl
  after_append (a ∷ acts) more s = after_append acts more (after_act shape a s)

  -- some acts lead from the one state to the other
  record ComesBy (s u : State) : Type 0 where
    pub acts : List Act
    pub ends : u ≡ after_acts shape acts s

  comes_at_once : (s : State) → ComesBy s s
  comes_at_once s = record { acts = []; ends = refl }

  comes_on : (s u v : State) → ComesBy s u → ComesBy u v → ComesBy s v
  comes_on s u v a b = record {
    acts = a.acts ++ b.acts;
    ends = b.ends ∙ ap (after_acts shape b.acts) a.ends ∙ sym (after_append a.acts b.acts s);
  }

  comes_by_event : (c : ℕ) (s : State) (d : Deed) → deed shape c s ≡ Some d → ComesBy s d.state
  comes_by_event c s d e = record { acts = event_by c ∷ []; ends = sym (ap (λ (o : Option Deed). after_event o s) e) }

  drive_comes : (m c : ℕ) (goal : Goal) (n : ℕ) (s : State) → ComesBy s (drive shape m c goal n s)
  drive_comes zero c goal n s = comes_at_once s
  drive_comes (suc m) c goal zero s = comes_at_once s
  drive_comes (suc m) c goal (suc n) s = by (λ n' u. drive_comes m c goal n' u) (deed shape c s) refl
    where
      by : ((n' : ℕ) (u : State) → ComesBy u (drive shape m c goal n' u)) → (o : Option Deed) → deed shape c s ≡ o
          → ComesBy s (by_deed goal o s (λ d. drive shape m c goal (if counts goal d then n else suc n) d.state))
      by rest None e = comes_at_once s
      by rest (Some d) e =
          let one = comes_by_event c s d e in
          let more : State = drive shape m c goal (if counts goal d then n else suc n) d.state in
          either (ComesBy s) (stops goal d) d.state more one (comes_on s d.state more one (rest (if counts goal d then n else suc n) d.state))

  module _ (most : ℕ) where
    restarted_by_comes : (k : Keeper) (s : State) → ComesBy s (restarted_by shape most k s)
    restarted_by_comes (Restarting op) s = drive_comes most 0 AnyEvent most s
    restarted_by_comes Open s = comes_at_once s
    restarted_by_comes (Closing op) s = comes_at_once s
    restarted_by_comes Closed s = comes_at_once s

    restarted_comes : (s : State) → ComesBy s (restarted shape most s)
    restarted_comes s = restarted_by_comes s.keeper s

    ready_comes : (c : ℕ) (s : State) → ComesBy s (ready_for shape most c s)
    ready_comes zero s = comes_at_once s
    ready_comes (suc j) s = restarted_comes s

    round_comes : (c : ℕ) (callers : List Caller) (s : State) → ComesBy s (round shape most c callers s)
    round_comes c [] s = comes_at_once s
    round_comes c (caller ∷ callers) s =
        let one : State = drive shape most c Turn 1 s in
        comes_on s one (round shape most (suc c) callers one) (drive_comes most c Turn 1 s) (round_comes (suc c) callers one)

    rounds_comes : (n : ℕ) (s : State) → ComesBy s (rounds shape most n s)
    rounds_comes zero s = comes_at_once s
    rounds_comes (suc n) s =
        let one : State = round shape most 1 s.core.callers s in
        either (ComesBy s) (has_calls shape most s.core.callers) (rounds shape most n one) s
        (comes_on s one (rounds shape most n one) (round_comes 1 s.core.callers s) (rounds_comes n one)) (comes_at_once s)

    -- a caller that is ready goes on
    driven_comes : (c : ℕ) (goal : Goal) (n : ℕ) (s : State) → ComesBy s (drive shape most c goal n (ready_for shape most c s))
    driven_comes c goal n s =
        let ready : State = ready_for shape most c s in
        comes_on s ready (drive shape most c goal n ready) (ready_comes c s) (drive_comes most c goal n ready)

  -- where no call is left, the close begins
  close_comes : (s : State) → s.keeper ≡ Open → has_calls shape 0 s.core.callers ≡ false → ComesBy s (record s { keeper = Closing (close_begun shape) })
  close_comes s here none = record {
    acts = begins_close ∷ [];
    ends = sym (ap (λ k. after_beginning shape k s) here ∙ ap (λ (b : Bool). if b then s else record s { keeper = Closing (close_begun shape) }) none);
  }

-- ---- a run of a script
module _ (restarted_stays : RestartedStays) (line_stays : LineStays) (rounds_end : RoundsEnd) (few : RoundsAreEnough) (t : Setup) (is : IsSetup t) where
  begins_comes : (k : Keeper) (s : State) → s.keeper ≡ k → IsRun t s → ComesBy t.shape s (close_begins t.shape (most_of t) k s)
  begins_comes Open s here run =
      let low = few t s is run here in
      let end = rounds_end t (most_of t) (most_of t) s is (omega arith) run here low in
      let last : State = rounds t.shape (most_of t) (most_of t) s in
      comes_on t.shape s last (record last { keeper = Closing (close_begun t.shape) }) (rounds_comes t.shape (most_of t) (most_of t) s)
      (close_comes t.shape last end.still_open (has_none t.shape 0 last.core.callers end.none_behind))
  begins_comes (Restarting op) s here run = comes_at_once t.shape s
  begins_comes (Closing op) s here run = comes_at_once t.shape s
  begins_comes Closed s here run = comes_at_once t.shape s

  run_out_comes : (s : State) → IsRun t s → ComesBy t.shape s (run_out t.shape (most_of t) s)
  run_out_comes s run =
      let started : State = restarted t.shape (most_of t) s in
      comes_on t.shape s started (close_begins t.shape (most_of t) started.keeper started) (restarted_comes t.shape (most_of t) s)
      (begins_comes started.keeper started refl (restarted_stays t (most_of t) s is run))

  closed_comes : (s : State) → IsRun t s → ComesBy t.shape s (closed t.shape (most_of t) s)
  closed_comes s run =
      let out : State = run_out t.shape (most_of t) s in
      comes_on t.shape s out (drive t.shape (most_of t) 0 AnyEvent (most_of t) out) (run_out_comes s run) (drive_comes t.shape (most_of t) 0 AnyEvent (most_of t) out)

  line_comes : (l : Line) (s : State) → IsRun t s → ComesBy t.shape s (line_done t.shape (most_of t) l s)
  line_comes (line.Call c call) s run = comes_at_once t.shape s
  line_comes (line.Fuse c n) s run = comes_at_once t.shape s
  line_comes (line.Step c n) s run = driven_comes t.shape (most_of t) c AnyEvent n s
  line_comes (line.Until c e n) s run = driven_comes t.shape (most_of t) c (Kind e) n s
  line_comes (line.At c word) s run =
      let ready : State = ready_for t.shape (most_of t) c s in
      either (ComesBy t.shape s) (nat_lt word (words_of t.shape)) (drive t.shape (most_of t) c (StoreTo word) 1 ready) (drive t.shape (most_of t) c AnyEvent (most_of t) ready)
      (driven_comes t.shape (most_of t) c (StoreTo word) 1 s) (driven_comes t.shape (most_of t) c AnyEvent (most_of t) s)
  line_comes line.Close s run = run_out_comes s run
  line_comes (line.Cut choice) s run = comes_at_once t.shape s

  -- ---- the acts of lines, and after each line the first so many
  record AreLines (lines : List Line) (s : State) (acts : List Act) : Type 0 where
    pub ends : lines_done t.shape (most_of t) lines s ≡ after_acts t.shape acts s
    pub each : (k : ℕ) → (n : ℕ) × (lines_done t.shape (most_of t) (take k lines) s ≡ after_acts t.shape (take n acts) s)

  lines_come : (lines : List Line) (s : State) → IsRun t s → (acts : List Act) × AreLines lines s acts
  lines_come [] s run = ([], record { ends = refl; each = λ k. (0, none k) })
    where
      none : (k : ℕ) → lines_done t.shape (most_of t) (take k []) s ≡ s
      none zero = refl
      none (suc k) = refl
  lines_come (l ∷ lines) s run =
      let next : State = line_done t.shape (most_of t) l s in
      let one = line_comes l s run in
      let rest = lines_come lines next (line_stays t (most_of t) l s is (omega arith) run) in
      (one.acts ++ rest.0, more one rest.0 rest.1)
    where
      more : (one : ComesBy t.shape s (line_done t.shape (most_of t) l s)) (acts : List Act) → AreLines lines (line_done t.shape (most_of t) l s) acts → AreLines (l ∷ lines) s (one.acts ++ acts)
      more one acts rest = record {
        ends = rest.ends ∙ ap (after_acts t.shape acts) one.ends ∙ sym (after_append t.shape one.acts acts s);
        each = each;
      }
        where
          each : (k : ℕ) → (n : ℕ) × (lines_done t.shape (most_of t) (take k (l ∷ lines)) s ≡ after_acts t.shape (take n (one.acts ++ acts)) s)
          each zero = (0, refl)
          each (suc k) =
              let so_far = rest.each k in (
                length one.acts + so_far.0,
                so_far.1 ∙ ap (after_acts t.shape (take so_far.0 acts)) one.ends ∙ sym (after_append t.shape one.acts (take so_far.0 acts) s)
                    ∙ ap (λ (some : List Act). after_acts t.shape some s) (sym (take-append-add one.acts acts so_far.0)),
              )

  -- the first so many are those of more acts too
  still_first : (n : ℕ) (acts more : List Act) → take (length (take n acts)) (acts ++ more) ≡ take n acts
  still_first n acts more =
      ap (λ (some : List Act). take (length (take n acts)) (some ++ more)) (sym (take-append-drop n acts))
      ∙ ap (take (length (take n acts))) (append_assoc (take n acts) (drop n acts) more)
      ∙ take-append_seam (take n acts) (drop n acts ++ more)

  -- further acts after those of the lines
  and_on : (lines : List Line) (acts : List Act) (u : State) → AreLines lines (start_state t) acts → (last : ComesBy t.shape (lines_done t.shape (most_of t) lines (start_state t)) u)
      → (end_state t lines ≡ u) → IsRunOf t lines (acts ++ last.acts)
  and_on lines acts u are last here = record {
    ends = here ∙ last.ends ∙ ap (after_acts t.shape last.acts) are.ends ∙ sym (after_append t.shape acts last.acts (start_state t));
    between = λ k.
        let so_far = are.each k in
        (length (take so_far.0 acts), so_far.1 ∙ ap (λ (some : List Act). after_acts t.shape some (start_state t)) (sym (still_first so_far.0 acts last.acts)));
  }

  run_comes : RunBegins → BeginsAlong → LinesStay → (lines : List Line) → (acts : List Act) × IsRunOf t lines acts
  run_comes begins along lines_stay lines = by (cut_of lines) refl
    where
      at_lines : State
      at_lines = lines_done t.shape (most_of t) lines (start_state t)

      begun : IsRun t (start_state t)
      begun = record { running = begins t is; along = along t is }

      come : (acts : List Act) × AreLines lines (start_state t) acts
      come = lines_come lines (start_state t) begun

      by : (o : Option ℕ) → cut_of lines ≡ o → (acts : List Act) × IsRunOf t lines acts
      by None none =
          let last = closed_comes at_lines (lines_stay t (most_of t) lines (start_state t) is (omega arith) begun) in
          (come.0 ++ last.acts, and_on lines come.0 (closed t.shape (most_of t) at_lines) come.1 last (ap (λ o. state_at_end t.shape (most_of t) lines o (start_state t)) none))
      by (Some choice) cut =
          let last = comes_at_once t.shape at_lines in
          (come.0 ++ last.acts, and_on lines come.0 at_lines come.1 last (ap (λ o. state_at_end t.shape (most_of t) lines o (start_state t)) cut))

pub every_moment_is_good : RunBegins → DeedsAreWell → CloseMayBegin → MomentsAreGood → BeginsAlong → RestartedStays → LineStays → LinesStay → RoundsEnd → RoundsAreEnough
    → EveryMomentIsGood
every_moment_is_good begins wells may good along restarted_stays line_stays lines_stay rounds_end few t lines opening is has =
    let comes = run_comes restarted_stays line_stays rounds_end few t is begins along lines_stay lines in
    (comes.0, comes.1, λ n. moments_of_runs begins wells may good t opening (take n comes.0) is has)
