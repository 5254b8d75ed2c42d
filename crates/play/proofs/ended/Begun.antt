-- In every run a caller whose calls are all answered has begun no other.
use Rattle.std.proofs.Common.{◌≡◌, ℕ, zero, suc, refl, Bool, true, false, Option, None, Some, List, [], ◌∷◌, map}
use Rattle.std.specs.Prelude.{⊤, nat_lt, slice_get, slice_set, if◌then◌else◌}
use Rattle.std.specs.List.{AllByRecursion}
use Rattle.op_core.specs.declared.want.Want.{Want}
use Rattle.op_core.specs.declared.want.Want.TheVariants as want
use Rattle.op_core.specs.declared.want.Ans.{Ans}
use Rattle.trace.specs.Events.{Words}
use Rattle.image_layout.specs.Places.{Shape, words_of}
use Rattle.map_model.specs.declared.call.Call.{Call}
use Rattle.map_model.specs.declared.entry.Reply.{Reply}
use Rattle.restart_op.specs.declared.restart.RestartOp.{RestartOp}
use Rattle.script_text.specs.declared.line.Line.{Line}
use Rattle.script_text.specs.declared.line.Line.TheVariants as line
use Rattle.core_run.specs.Engines.{End, Engine, wanted, taken, end_of, reply_of_end, Caller, current, Core, drawn_by, ended, ended_or_on, answered}
use Rattle.core_run.specs.declared.keeper.Keeper.{Keeper}
use Rattle.core_run.specs.declared.keeper.Keeper.TheVariants.{Restarting, Open, Closing, Closed}
use Rattle.core_run.specs.declared.goal.Goal.{Goal}
use Rattle.core_run.specs.declared.goal.Goal.TheVariants.{AnyEvent, Kind, StoreTo, Turn}
use Rattle.core_run.specs.State.{State, Deed, waiting_from, awake, beginning, deed, restarting, keeper_deed, call_deed, caller_deed, open_deed}
use Rattle.core_run.specs.Run.{counts, stops, by_deed, drive, restarted_by, restarted, round, has_calls, rounds, close_begins, run_out, ready_for, line_done, lines_done, closed, state_at_end, core_run, cut_of, most_events}

-- a caller with no call left has begun none
abbrev pub HasNoneBegun : Caller → Type 0
HasNoneBegun c = current c ≡ None → c.begun ≡ false

abbrev pub HaveNoneBegun : List Caller → Type 0
HaveNoneBegun cs = AllByRecursion HasNoneBegun cs

-- all callers of a state do
abbrev pub NoneBegunIn : State → Type 0
NoneBegunIn s = HaveNoneBegun s.core.callers

-- ---- one caller
no_call : (o : Option Call) (call : Call) (b : Bool) → o ≡ Some call → o ≡ None → b ≡ false
no_call o call b is none = cc

begun_ended : (c : Caller) (call : Call) (end : End) (r : Option (Reply × ℕ)) → current c ≡ Some call → HasNoneBegun (ended c call end r)
begun_ended c call end (Some r) is = λ none. refl
begun_ended c call end None is = λ none. no_call (current c) call true is none

begun_gone_on : (c : Caller) (call : Call) (e : Engine) (w : Want) → current c ≡ Some call → HasNoneBegun (ended_or_on c call e w)
begun_gone_on c call e want.Done is = begun_ended c call (end_of e) (reply_of_end (end_of e)) is
begun_gone_on c call e (want.Load w) is = λ none. no_call (current c) call true is none
begun_gone_on c call e (want.Store w x) is = λ none. no_call (current c) call true is none
begun_gone_on c call e (want.Exchange w a b) is = λ none. no_call (current c) call true is none
begun_gone_on c call e (want.Flush l) is = λ none. no_call (current c) call true is none
begun_gone_on c call e want.Fence is = λ none. no_call (current c) call true is none
begun_gone_on c call e want.Draw is = λ none. no_call (current c) call true is none
begun_gone_on c call e want.Power is = λ none. no_call (current c) call true is none

begun_answered : (c : Caller) (call : Call) (e : Engine) (a : Ans) → current c ≡ Some call → HasNoneBegun (answered c call e a)
begun_answered c call e a is = begun_gone_on (record c { drew = drawn_by c call a }) call (taken e a) (wanted (taken e a)) is

-- ---- all callers
begun_set : (cs : List Caller) (j : ℕ) (c : Caller) → HaveNoneBegun cs → HasNoneBegun c → HaveNoneBegun (slice_set cs j c)
begun_set [] j c all it = tt
begun_set (d ∷ cs) zero c all it = (it, all.1)
begun_set (d ∷ cs) (suc j) c all it = (all.0, begun_set cs j c all.1 it)

begun_waiting : (shape : Shape) (number : ℕ) (scripts : List (List Call)) → HaveNoneBegun (waiting_from shape number scripts)
begun_waiting shape number [] = tt
begun_waiting shape number (calls ∷ scripts) = ((λ none. refl), begun_waiting shape (suc number) scripts)

begun_awake : (version : ℕ) (cs : List Caller) → HaveNoneBegun (map (awake version) cs)
begun_awake version [] = tt
begun_awake version (c ∷ cs) = ((λ none. refl), begun_awake version cs)

-- ---- one event
-- so do the callers after an event, if there is one
abbrev NoneBegunAfter : Option Deed → Type 0
NoneBegunAfter None = ⊤
NoneBegunAfter (Some d) = NoneBegunIn d.state

module _ (shape : Shape) where
  begun_restarting : (op : RestartOp) (w : Want) (core : Core) → HaveNoneBegun core.callers → NoneBegunIn (restarting shape op w core)
  begun_restarting op want.Done core all = begun_awake _ core.callers
  begun_restarting op (want.Load w) core all = all
  begun_restarting op (want.Store w x) core all = all
  begun_restarting op (want.Exchange w a b) core all = all
  begun_restarting op (want.Flush l) core all = all
  begun_restarting op want.Fence core all = all
  begun_restarting op want.Draw core all = all
  begun_restarting op want.Power core all = all

  begun_keeper : (keeper : Keeper) (core : Core) → HaveNoneBegun core.callers → NoneBegunAfter (keeper_deed shape keeper core)
  begun_keeper (Restarting op) core all = begun_restarting _ _ _ all
  begun_keeper Open core all = tt
  begun_keeper (Closing op) core all = all
  begun_keeper Closed core all = tt

  begun_call : (j : ℕ) (core : Core) (c : Caller) (call : Option Call) (e : Option Engine) → current c ≡ call → HaveNoneBegun core.callers
      → NoneBegunAfter (call_deed shape j core c call e)
  begun_call j core c None e is all = tt
  begun_call j core c (Some call) None is all = tt
  begun_call j core c (Some call) (Some e) is all = begun_set core.callers j _ all (begun_answered c call e _ is)

  begun_caller : (j : ℕ) (core : Core) (c : Option Caller) → HaveNoneBegun core.callers → NoneBegunAfter (caller_deed shape j core c)
  begun_caller j core None all = tt
  begun_caller j core (Some c) all = begun_call j core c (current c) c.engine refl all

  begun_open : (j : ℕ) (keeper : Keeper) (core : Core) → HaveNoneBegun core.callers → NoneBegunAfter (open_deed shape j keeper core)
  begun_open j Open core all = begun_caller j core (slice_get core.callers j) all
  begun_open j (Restarting op) core all = tt
  begun_open j (Closing op) core all = tt
  begun_open j Closed core all = tt

  begun_deed : (c : ℕ) (s : State) → NoneBegunIn s → NoneBegunAfter (deed shape c s)
  begun_deed zero s all = begun_keeper s.keeper s.core all
  begun_deed (suc j) s all = begun_open j s.keeper s.core all

  -- ---- a run
  begun_if : (b : Bool) (s t : State) → NoneBegunIn s → NoneBegunIn t → NoneBegunIn (if b then s else t)
  begun_if true s t x y = x
  begun_if false s t x y = y

  begun_by : (goal : Goal) (d : Option Deed) (s : State) (rest : Deed → State) → NoneBegunAfter d → NoneBegunIn s → ((d : Deed) → NoneBegunIn d.state → NoneBegunIn (rest d))
      → NoneBegunIn (by_deed goal d s rest)
  begun_by goal None s rest after all on = all
  begun_by goal (Some d) s rest after all on = begun_if (stops goal d) d.state (rest d) after (on d after)

  begun_drive : (most c : ℕ) (goal : Goal) (n : ℕ) (s : State) → NoneBegunIn s → NoneBegunIn (drive shape most c goal n s)
  begun_drive zero c goal n s all = all
  begun_drive (suc most) c goal zero s all = all
  begun_drive (suc most) c goal (suc n) s all =
      begun_by goal (deed shape c s) s _ (begun_deed c s all) all (λ d after. begun_drive most c goal (if counts goal d then n else suc n) d.state after)

  module _ (most : ℕ) where
    begun_restarted_by : (keeper : Keeper) (s : State) → NoneBegunIn s → NoneBegunIn (restarted_by shape most keeper s)
    begun_restarted_by (Restarting op) s all = begun_drive most 0 AnyEvent most s all
    begun_restarted_by Open s all = all
    begun_restarted_by (Closing op) s all = all
    begun_restarted_by Closed s all = all

    begun_restarted : (s : State) → NoneBegunIn s → NoneBegunIn (restarted shape most s)
    begun_restarted s all = begun_restarted_by s.keeper s all

    begun_round : (c : ℕ) (cs : List Caller) (s : State) → NoneBegunIn s → NoneBegunIn (round shape most c cs s)
    begun_round c [] s all = all
    begun_round c (caller ∷ cs) s all = begun_round (suc c) cs _ (begun_drive most c Turn 1 s all)

    begun_rounds : (n : ℕ) (s : State) → NoneBegunIn s → NoneBegunIn (rounds shape most n s)
    begun_rounds zero s all = all
    begun_rounds (suc n) s all = begun_if (has_calls shape most s.core.callers) _ s (begun_rounds n _ (begun_round 1 s.core.callers s all)) all

    begun_close_begins : (keeper : Keeper) (s : State) → NoneBegunIn s → NoneBegunIn (close_begins shape most keeper s)
    begun_close_begins (Restarting op) s all = all
    begun_close_begins Open s all = begun_rounds most s all
    begun_close_begins (Closing op) s all = all
    begun_close_begins Closed s all = all

    begun_run_out : (s : State) → NoneBegunIn s → NoneBegunIn (run_out shape most s)
    begun_run_out s all = begun_close_begins (restarted shape most s).keeper (restarted shape most s) (begun_restarted s all)

    begun_ready : (c : ℕ) (s : State) → NoneBegunIn s → NoneBegunIn (ready_for shape most c s)
    begun_ready zero s all = all
    begun_ready (suc j) s all = begun_restarted s all

    begun_line : (l : Line) (s : State) → NoneBegunIn s → NoneBegunIn (line_done shape most l s)
    begun_line (line.Call c call) s all = all
    begun_line (line.Fuse c n) s all = all
    begun_line (line.Step c n) s all = begun_drive most c AnyEvent n _ (begun_ready c s all)
    begun_line (line.Until c e n) s all = begun_drive most c (Kind e) n _ (begun_ready c s all)
    begun_line (line.At c word) s all =
        begun_if (nat_lt word (words_of shape)) _ _ (begun_drive most c (StoreTo word) 1 _ (begun_ready c s all)) (begun_drive most c AnyEvent most _ (begun_ready c s all))
    begun_line line.Close s all = begun_run_out s all
    begun_line (line.Cut choice) s all = all

    begun_lines : (lines : List Line) (s : State) → NoneBegunIn s → NoneBegunIn (lines_done shape most lines s)
    begun_lines [] s all = all
    begun_lines (l ∷ lines) s all = begun_lines lines (line_done shape most l s) (begun_line l s all)

    begun_closed : (s : State) → NoneBegunIn s → NoneBegunIn (closed shape most s)
    begun_closed s all = begun_drive most 0 AnyEvent most _ (begun_run_out s all)

  begun_at_end : (most : ℕ) (lines : List Line) (cut : Option ℕ) (s : State) → NoneBegunIn s → NoneBegunIn (state_at_end shape most lines cut s)
  begun_at_end most lines None s all = begun_closed most (lines_done shape most lines s) (begun_lines most lines s all)
  begun_at_end most lines (Some choice) s all = begun_lines most lines s all

  pub begun_in_run : (words : Words) (scripts : List (List Call)) (lines : List Line) → NoneBegunIn (core_run shape words scripts lines)
  begun_in_run words scripts lines = begun_at_end (most_events shape scripts) lines (cut_of lines) (beginning shape words scripts) (begun_waiting shape 1 scripts)
