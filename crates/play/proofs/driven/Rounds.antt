-- Rounds of a run state, the end of its calls, and the lines of a script.
use Rattle.std.proofs.Common.{◌≡◌, ℕ, zero, suc, ◌+◌, ◌-◌, ◌<◌, ◌≤◌, Bool, true, false, List, [], ◌∷◌, length, drop, refl, ap, sym, ◌∙◌, subst, arith}
use Rattle.std.specs.Prelude.{if◌then◌else◌, slice_get, slice_index_or, is_some}
use Rattle.std.proofs.lemmas.List.{drop_all}
use Rattle.map_model.specs.Roomed.{Roomed}
use Rattle.image_layout.specs.Places.{Shape}
use Rattle.script_text.specs.declared.line.Line.{Line}
use Rattle.restart_op.specs.declared.restart.RestartOp.{RestartOp}
use Rattle.restart_op.specs.Close.{begun as close_begun}
use Rattle.core_run.specs.Engines.{Caller}
use Rattle.core_run.specs.declared.goal.Goal.TheVariants.{AnyEvent, Turn}
use Rattle.core_run.specs.declared.keeper.Keeper.{Keeper}
use Rattle.core_run.specs.declared.keeper.Keeper.TheVariants.{Restarting, Open, Closing, Closed}
use Rattle.core_run.specs.State.{State}
use Rattle.core_run.specs.Run.{drive, has_calls, round, rounds, restarted, restarted_by, close_begins, ready_for, line_done, lines_done}
use Rattle.core_run.specs.Running.{Setup, IsRunning}
use Rattle.core_run.specs.Wells.{RunsThrough}
use Rattle.play.specs.declared.run_state.RunState.{RunState}
use Rattle.play.specs.declared.caller.Caller.{Caller as PlayCaller}
use Rattle.play.specs.Callers.{callers_of, calls_left, HaveRoom}
use Rattle.play.specs.RunStates.{IsOf, Stands}
use Rattle.play.proofs.driven.Listed.{callers_many}
use Rattle.play.proofs.driven.RunStateParts.{left_alone}

-- ---- a round
round_step : (shape : Shape) (most : ℕ) (callers : List Caller) (i c : ℕ) (s : State) → i < length callers
    → round shape most c (drop i callers) s ≡ round shape most (suc c) (drop (suc i) callers) (drive shape most c Turn 1 s)
round_step shape most [] i c s within = absurd (omega arith)
round_step shape most (x ∷ callers) zero c s within = refl
round_step shape most (x ∷ callers) (suc i) c s within = round_step shape most callers i c s (omega arith)

pub record IsInRound (t : Setup) (s : State) (most done : ℕ) (run_state : RunState) : Type 0 where
  pub now : State
  pub stands : Stands t now run_state
  pub rest : round t.shape most 1 s.core.callers s ≡ round t.shape most (suc done) (drop done s.core.callers) now

-- there are as many callers as callers
pub many : (t : Setup) (s : State) (run_state : RunState) → Stands t s run_state → length s.core.callers ≡ length run_state.callers.items
many t s run_state st = sym (ap length st.is_of.its_callers) ∙ callers_many run_state.callers.items run_state.lists st.is_of.room

pub round_begins : (t : Setup) (s : State) (most : ℕ) (run_state : RunState) → Stands t s run_state → IsInRound t s most 0 run_state
round_begins t s most run_state st = record { now = s; stands = st; rest = refl }

pub round_goes : (t : Setup) (s : State) (most done : ℕ) (old new : RunState) → done < length s.core.callers → (within : IsInRound t s most done old)
    → Stands t (drive t.shape most (done + 1) Turn 1 within.now) new → IsInRound t s most (done + 1) new
round_goes t s most done old new some within st =
    let next : done + 1 ≡ suc done = omega arith in
    record {
      now = drive t.shape most (done + 1) Turn 1 within.now;
      stands = st;
      rest = within.rest ∙ round_step t.shape most s.core.callers done (suc done) within.now some
          ∙ ap (λ (n : ℕ). round t.shape most (suc n) (drop n s.core.callers) (drive t.shape most n Turn 1 within.now)) (sym next);
    }

pub round_ends : (t : Setup) (s : State) (most done : ℕ) (run_state : RunState) → length s.core.callers ≤ done → IsInRound t s most done run_state
    → Stands t (round t.shape most 1 s.core.callers s) run_state
round_ends t s most done run_state over within =
    subst (λ (u : State). Stands t u run_state)
    (sym (within.rest ∙ ap (λ cs. round t.shape most (suc done) cs within.now) (drop_all done s.core.callers over))) within.stands

-- ---- rounds
calls_are : (shape : Shape) (most : ℕ) (callers : List PlayCaller) (lists : List Roomed) → HaveRoom callers lists
    → calls_left callers ≡ has_calls shape most (callers_of callers lists)
calls_are shape most [] [] room = refl
calls_are shape most [] (k ∷ lists) room = refl
calls_are shape most (r ∷ callers) [] room = absurd room
calls_are shape most (r ∷ callers) (k ∷ lists) room =
    ap (λ (n : ℕ). if is_some (slice_get r.calls.items n) then true else calls_left callers) room.0.counted
    ∙ ap (λ (b : Bool). if is_some (slice_get r.calls.items (length k.entries)) then true else b) (calls_are shape most callers lists room.1)

pub calls_said : (t : Setup) (s : State) (most : ℕ) (run_state : RunState) → IsOf t run_state s → calls_left run_state.callers.items ≡ has_calls t.shape most s.core.callers
calls_said t s most run_state is = calls_are t.shape most run_state.callers.items run_state.lists is.room ∙ ap (λ cs. has_calls t.shape most cs) is.its_callers

pub record IsInRounds (t : Setup) (s : State) (most done : ℕ) (run_state : RunState) : Type 0 where
  pub now : State
  pub stands : Stands t now run_state
  pub rest : rounds t.shape most most s ≡ rounds t.shape most (most - done) now

pub rounds_begin : (t : Setup) (s : State) (most : ℕ) (run_state : RunState) → Stands t s run_state → IsInRounds t s most 0 run_state
rounds_begin t s most run_state st =
    let all : most ≡ most - 0 = omega arith in
    record { now = s; stands = st; rest = ap (λ (m : ℕ). rounds t.shape most m s) all }

one_round : (t : Setup) (s : State) (most done : ℕ) (b : Bool) (run_state : RunState) → done < most → (within : IsInRounds t s most done run_state)
    → calls_left run_state.callers.items ≡ b
    → rounds t.shape most most s
    ≡ (if b then rounds t.shape most (most - suc done) (round t.shape most 1 within.now.core.callers within.now) else within.now)
one_round t s most done b run_state some within left =
    let one : most - done ≡ suc (most - suc done) = omega arith in
    within.rest ∙ ap (λ (m : ℕ). rounds t.shape most m within.now) one
    ∙ ap (λ (b : Bool). if b then rounds t.shape most (most - suc done) (round t.shape most 1 within.now.core.callers within.now) else within.now)
    (sym (calls_said t within.now most run_state within.stands.is_of) ∙ left)

pub rounds_go : (t : Setup) (s : State) (most done : ℕ) (old new : RunState) → done < most → (within : IsInRounds t s most done old)
    → calls_left old.callers.items ≡ true → Stands t (round t.shape most 1 within.now.core.callers within.now) new → IsInRounds t s most (done + 1) new
rounds_go t s most done old new some within left st =
    let fewer : most - suc done ≡ most - (done + 1) = omega arith in
    record {
      now = round t.shape most 1 within.now.core.callers within.now;
      stands = st;
      rest = one_round t s most done true old some within left
          ∙ ap (λ (m : ℕ). rounds t.shape most m (round t.shape most 1 within.now.core.callers within.now)) fewer;
    }

pub rounds_stop : (t : Setup) (s : State) (most done : ℕ) (run_state : RunState) → done < most → (within : IsInRounds t s most done run_state)
    → calls_left run_state.callers.items ≡ false → Stands t (rounds t.shape most most s) run_state
rounds_stop t s most done run_state some within left =
    subst (λ (u : State). Stands t u run_state) (sym (one_round t s most done false run_state some within left)) within.stands

pub rounds_end : (t : Setup) (s : State) (most done : ℕ) (run_state : RunState) → most ≤ done → IsInRounds t s most done run_state
    → Stands t (rounds t.shape most most s) run_state
rounds_end t s most done run_state over within =
    let none : most - done ≡ 0 = omega arith in
    subst (λ (u : State). Stands t u run_state) (sym (within.rest ∙ ap (λ (m : ℕ). rounds t.shape most m within.now) none)) within.stands

-- ---- the keeper
pub restarted_stands : (t : Setup) (s : State) (most : ℕ) (old new : RunState) (op : RestartOp) → IsOf t old s → old.keeper ≡ Restarting op
    → Stands t (drive t.shape most 0 AnyEvent most s) new → Stands t (restarted t.shape most s) new
restarted_stands t s most old new op is e st =
    subst (λ (u : State). Stands t u new) (sym (ap (λ (k : Keeper). restarted_by t.shape most k s) (sym is.keeper ∙ e))) st

not_restarting : (shape : Shape) (most : ℕ) (s : State) (k : Keeper) → ((op : RestartOp) → k ≡ Restarting op → ⊥) → restarted_by shape most k s ≡ s
not_restarting shape most s (Restarting op) none = absurd (none op refl)
not_restarting shape most s Open none = refl
not_restarting shape most s (Closing op) none = refl
not_restarting shape most s Closed none = refl

pub restarted_stays : (t : Setup) (s : State) (most : ℕ) (run_state : RunState) → ((op : RestartOp) → run_state.keeper ≡ Restarting op → ⊥) → Stands t s run_state
    → Stands t (restarted t.shape most s) run_state
restarted_stays t s most run_state none st =
    subst (λ (u : State). Stands t u run_state) (sym (not_restarting t.shape most s s.keeper (λ op e. none op (st.is_of.keeper ∙ e)))) st

pub ready_same : (t : Setup) (s : State) (most number : ℕ) (run_state : RunState) → number ≡ 0 → Stands t s run_state → Stands t (ready_for t.shape most number s) run_state
ready_same t s most zero run_state e st = st
ready_same t s most (suc number) run_state e st = absurd (omega arith)

pub ready_later : (t : Setup) (s : State) (most number : ℕ) (run_state : RunState) → 0 < number → Stands t (restarted t.shape most s) run_state
    → Stands t (ready_for t.shape most number s) run_state
ready_later t s most zero run_state some st = absurd (omega arith)
ready_later t s most (suc number) run_state some st = st

-- the close begins, where the image is open
pub close_stands : (t : Setup) (s : State) (most : ℕ) (before middle new : RunState) → Stands t s before → before.keeper ≡ Open
    → Stands t (rounds t.shape most most s) middle → new.device ≡ middle.device → new.keeper ≡ Closing (close_begun middle.device.shape)
    → new.callers.items ≡ middle.callers.items → new.lists ≡ middle.lists
    → IsRunning t (close_begins t.shape most s.keeper s) → Stands t (close_begins t.shape most s.keeper s) new
close_stands t s most before middle new st opened after device keeper callers lists running =
    let is_open : s.keeper ≡ Open = sym st.is_of.keeper ∙ opened in
    let closing : new.keeper ≡ Closing (close_begun t.shape) = keeper ∙ ap (λ (shape : Shape). Closing (close_begun shape)) after.is_of.shape in
    let left = left_alone t middle new (rounds t.shape most most s).keeper (Closing (close_begun t.shape))
    (rounds t.shape most most s).core after.is_of device closing callers lists in
    record {
      setup = st.setup;
      is_of = subst (λ (k : Keeper). IsOf t new (close_begins t.shape most k s)) (sym is_open) left;
      running = running;
    }

not_open : (shape : Shape) (most : ℕ) (s : State) (k : Keeper) → (k ≡ Open → ⊥) → close_begins shape most k s ≡ s
not_open shape most s (Restarting op) none = refl
not_open shape most s Open none = absurd (none refl)
not_open shape most s (Closing op) none = refl
not_open shape most s Closed none = refl

pub close_stays : (t : Setup) (s : State) (most : ℕ) (run_state : RunState) → (run_state.keeper ≡ Open → ⊥) → Stands t s run_state
    → Stands t (close_begins t.shape most s.keeper s) run_state
close_stays t s most run_state none st =
    subst (λ (u : State). Stands t u run_state) (sym (not_open t.shape most s s.keeper (λ e. none (st.is_of.keeper ∙ e)))) st

-- ---- the lines
pub record IsInLines (t : Setup) (s : State) (most : ℕ) (lines : List Line) (done : ℕ) (run_state : RunState) : Type 0 where
  pub now : State
  pub stands : Stands t now run_state
  pub well : RunsThrough t most (drop done lines) now
  pub rest : lines_done t.shape most lines s ≡ lines_done t.shape most (drop done lines) now

pub lines_begin : (t : Setup) (s : State) (most : ℕ) (lines : List Line) (run_state : RunState) → Stands t s run_state → RunsThrough t most lines s
    → IsInLines t s most lines 0 run_state
lines_begin t s most lines run_state st well = record { now = s; stands = st; well = well; rest = refl }

drop_step : (t : Setup) (most : ℕ) (lines : List Line) (i : ℕ) (d : Line) (s : State) → i < length lines
    → RunsThrough t most (drop i lines) s
    → IsRunning t (line_done t.shape most (slice_index_or lines i d) s)
    × RunsThrough t most (drop (suc i) lines) (line_done t.shape most (slice_index_or lines i d) s)
drop_step t most [] i d s within well = absurd (omega arith)
drop_step t most (x ∷ lines) zero d s within well = well
drop_step t most (x ∷ lines) (suc i) d s within well = drop_step t most lines i d s (omega arith) well

done_step : (shape : Shape) (most : ℕ) (lines : List Line) (i : ℕ) (d : Line) (s : State) → i < length lines
    → lines_done shape most (drop i lines) s ≡ lines_done shape most (drop (suc i) lines) (line_done shape most (slice_index_or lines i d) s)
done_step shape most [] i d s within = absurd (omega arith)
done_step shape most (x ∷ lines) zero d s within = refl
done_step shape most (x ∷ lines) (suc i) d s within = done_step shape most lines i d s (omega arith)

pub line_running : (t : Setup) (s : State) (most : ℕ) (lines : List Line) (done : ℕ) (d : Line) (run_state : RunState) → done < length lines
    → (within : IsInLines t s most lines done run_state) → IsRunning t (line_done t.shape most (slice_index_or lines done d) within.now)
line_running t s most lines done d run_state some within = (drop_step t most lines done d within.now some within.well).0

pub lines_go : (t : Setup) (s : State) (most : ℕ) (lines : List Line) (done : ℕ) (d : Line) (old new : RunState) → done < length lines
    → (within : IsInLines t s most lines done old) → Stands t (line_done t.shape most (slice_index_or lines done d) within.now) new
    → IsInLines t s most lines (done + 1) new
lines_go t s most lines done d old new some within st =
    let next : suc done ≡ done + 1 = omega arith in
    let l : Line = slice_index_or lines done d in
    record {
      now = line_done t.shape most l within.now;
      stands = st;
      well = subst (λ (n : ℕ). RunsThrough t most (drop n lines) (line_done t.shape most l within.now)) next
          (drop_step t most lines done d within.now some within.well).1;
      rest = within.rest ∙ done_step t.shape most lines done d within.now some
          ∙ ap (λ (n : ℕ). lines_done t.shape most (drop n lines) (line_done t.shape most l within.now)) next;
    }

pub lines_end : (t : Setup) (s : State) (most : ℕ) (lines : List Line) (done : ℕ) (run_state : RunState) → length lines ≤ done
    → IsInLines t s most lines done run_state → Stands t (lines_done t.shape most lines s) run_state
lines_end t s most lines done run_state over within =
    subst (λ (u : State). Stands t u run_state) (sym (within.rest ∙ ap (λ ls. lines_done t.shape most ls within.now) (drop_all done lines over))) within.stands
