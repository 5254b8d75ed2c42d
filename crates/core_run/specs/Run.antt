-- A run of a script: its schedule line by line, the end rule, and what is left.
use Rattle.std.specs.Prelude.{ℕ, zero, suc, ◌+◌, ◌*◌, ◌==◌, ◌||◌, nat_lt, Bool, true, false, Option, None, Some, is_some, List, [], ◌∷◌, length, map, if◌then◌else◌}
use Rattle.std.specs.List.{range_with_len}
use Rattle.op_core.specs.declared.want.Want.{Want}
use Rattle.op_core.specs.declared.want.Want.TheVariants as want
use Rattle.trace.specs.Events.{Words}
use Rattle.trace.specs.Steps.{settled_value}
use Rattle.image_layout.specs.Places.{Shape, words_of}
use Rattle.map_model.specs.declared.call.Call.{Call}
use Rattle.map_model.specs.Weave.{first_caller, keeper_number}
use Rattle.map_model.specs.declared.entry.Stop.{Stop}
use Rattle.script_text.specs.declared.line.Counted.{Counted}
use Rattle.script_text.specs.declared.line.Counted.TheVariants as counted
use Rattle.script_text.specs.declared.line.Line.{Line}
use Rattle.script_text.specs.declared.line.Line.TheVariants as line
use Rattle.restart_op.specs.Close.{begun as close_begun}
use Rattle.engine.specs.declared.engine.End.{End}
use Rattle.engine.specs.Engine.{reply_of_end, is_again}
use Rattle.engine.specs.Core.{Caller, current, Core}
use Rattle.engine.specs.Left.{events_of_call}
use Rattle.pm_trace.specs.Choice.{chosen}
use Rattle.core_run.specs.declared.keeper.Keeper.{Keeper}
use Rattle.core_run.specs.declared.keeper.Keeper.TheVariants.{Restarting, Open, Closing}
use Rattle.core_run.specs.declared.goal.Goal.{Goal}
use Rattle.core_run.specs.declared.goal.Goal.TheVariants.{AnyEvent, Kind, StoreTo, Turn}
use Rattle.core_run.specs.State.{State, Deed, deed, beginning}

-- ---- what a schedule counts
abbrev pub is_store : Want → Bool
is_store (want.Store w x) = true
is_store w = false

abbrev pub is_exchange : Want → Bool
is_exchange (want.Exchange w a b) = true
is_exchange w = false

abbrev pub is_flush : Want → Bool
is_flush (want.Flush l) = true
is_flush w = false

abbrev pub is_fence : Want → Bool
is_fence want.Fence = true
is_fence w = false

abbrev pub is_draw : Want → Bool
is_draw want.Draw = true
is_draw w = false

abbrev pub is_store_to : ℕ → Want → Bool
is_store_to word (want.Store w x) = w == word
is_store_to word w = false

-- an attempt ended with the reply to its call
abbrev pub ends_call : Option End → Bool
ends_call None = false
ends_call (Some end) = is_some (reply_of_end end)

abbrev pub is_of_kind : Counted → Deed → Bool
is_of_kind counted.Store d = is_store d.want
is_of_kind counted.Exchange d = is_exchange d.want
is_of_kind counted.Flush d = is_flush d.want
is_of_kind counted.Fence d = is_fence d.want
is_of_kind counted.Draw d = is_draw d.want
is_of_kind counted.End d = ends_call d.end

abbrev pub counts : Goal → Deed → Bool
counts AnyEvent d = true
counts (Kind e) d = is_of_kind e d
counts (StoreTo word) d = is_store_to word d.want
counts Turn d = ends_call d.end

-- an attempt ended in Again
abbrev pub ends_in_again : Option End → Bool
ends_in_again None = false
ends_in_again (Some end) = is_again end

-- a line pauses after a failed try for the guard of the directory, and a turn of the end rule only where the caller waits for it: who repairs a
-- segment gives all back then, and the turn goes on to the end of the attempt
abbrev pub pauses : Goal → Deed → Bool
pauses Turn d = d.waits
pauses goal d = d.tried

-- a caller stops where its attempt ends in Again, and where its line or its turn pauses
abbrev pub stops : Goal → Deed → Bool
stops goal d = ends_in_again d.end || pauses goal d

-- and where it has no event left; else the rest comes
abbrev pub by_deed : Goal → Option Deed → State → (Deed → State) → State
by_deed goal None s rest = s
by_deed goal (Some d) s rest = if stops goal d then d.state else rest d

module _ (shape : Shape) where
  -- CALLER c GOES ON until n more events are counted, or it stops. The first number is how many events there may be at
  -- most; it is always enough
  abbrev pub drive : ℕ → ℕ → Goal → ℕ → State → State
  drive zero c goal n s = s
  drive (suc most) c goal zero s = s
  drive (suc most) c goal (suc n) s = by_deed goal (deed shape c s) s (λ d. drive most c goal (if counts goal d then n else suc n) d.state)

  module _ (most : ℕ) where
    -- the restart is brought to its end, where one has begun
    abbrev pub restarted_by : Keeper → State → State
    restarted_by (Restarting op) s = drive most keeper_number AnyEvent most s
    restarted_by keeper s = s

    abbrev pub restarted : State → State
    restarted s = restarted_by s.keeper s

    -- one turn of each caller from c on, each till its call ends, or till it stops
    abbrev pub round : ℕ → List Caller → State → State
    round c [] s = s
    round c (caller ∷ callers) s = round (suc c) callers (drive most c Turn 1 s)

    abbrev pub has_calls : List Caller → Bool
    has_calls [] = false
    has_calls (c ∷ callers) = if is_some (current c) then true else has_calls callers

    -- THE END RULE: rounds until no call is left, at most so many
    abbrev pub rounds : ℕ → State → State
    rounds zero s = s
    rounds (suc n) s = if has_calls s.core.callers then rounds n (round first_caller s.core.callers s) else s

    -- the calls run out, and the close begins, where it has not
    abbrev pub close_begins : Keeper → State → State
    close_begins Open s = record (rounds most s) { keeper = Closing (close_begun shape) }
    close_begins keeper s = s

    abbrev pub run_out : State → State
    run_out s = close_begins (restarted s).keeper (restarted s)

    -- a line of a caller above 0 lets the restart end first
    abbrev pub ready_for : ℕ → State → State
    ready_for zero s = s
    ready_for (suc j) s = restarted s

    -- a caller goes on to its next store to this word of the image; behind the image there is no such word, and it goes on till it stops
    abbrev pub stored_at : ℕ → ℕ → State → State
    stored_at c word s = if nat_lt word (words_of shape) then drive most c (StoreTo word) 1 s else drive most c AnyEvent most s

    -- ONE LINE
    abbrev pub line_done : Line → State → State
    line_done (line.Call c call) s = s
    line_done (line.Fuse c n) s = s
    line_done (line.Step c n) s = drive most c AnyEvent n (ready_for c s)
    line_done (line.Until c e n) s = drive most c (Kind e) n (ready_for c s)
    line_done (line.At c word) s = stored_at c word (ready_for c s)
    line_done line.Close s = run_out s
    line_done (line.Cut choice) s = s

    abbrev pub lines_done : List Line → State → State
    lines_done [] s = s
    lines_done (l ∷ lines) s = lines_done lines (line_done l s)

    -- without a cut, the calls run out, and the close is brought to its end
    abbrev pub closed : State → State
    closed s = drive most keeper_number AnyEvent most (run_out s)

-- the choice of the power cut with which a script ends, if it does
abbrev pub cut_of : List Line → Option ℕ
cut_of [] = None
cut_of (line.Cut choice ∷ lines) = Some choice
cut_of (l ∷ lines) = cut_of lines

-- at most so many events does any line make: those of a close, and those of all calls
abbrev pub all_calls : List (List Call) → ℕ
all_calls [] = 0
all_calls (calls ∷ scripts) = length calls + all_calls scripts

-- for each call as many as its caller may make while it alone steps, whatever is split or repaired for it; and as many for an attempt that others have
-- interrupted; and for the restart and the close two for each word
abbrev pub most_with : Shape → ℕ → ℕ
most_with shape calls = 2 * words_of shape + events_of_call shape * (calls + 1)

abbrev pub most_events : Shape → List (List Call) → ℕ
most_events shape scripts = most_with shape (all_calls scripts)

abbrev pub state_at_end : Shape → ℕ → List Line → Option ℕ → State → State
state_at_end shape most lines None s = closed shape most (lines_done shape most lines s)
state_at_end shape most lines (Some choice) s = lines_done shape most lines s

-- THE RUN of a script from an image with these words
abbrev pub core_run : Shape → Words → List (List Call) → List Line → State
core_run shape words scripts lines = state_at_end shape (most_events shape scripts) lines (cut_of lines) (beginning shape words scripts)

-- ---- what it leaves
-- where a caller stopped
abbrev pub stop_for : Caller → Option Call → Option Stop
stop_for c None = None
stop_for c (Some call) = Some (record { begun = c.begun; drew = c.drew })

abbrev pub stop_of : Caller → Option Stop
stop_of c = stop_for c (current c)

-- the words of the medium: by the choice of the cut, or else the newest
abbrev pub medium_words : Shape → Words → Core → Option ℕ → List ℕ
medium_words shape start core None = map core.words (range_with_len 0 (words_of shape))
medium_words shape start core (Some choice) =
    chosen choice (map (settled_value start core.trace) (range_with_len 0 (words_of shape))) (map core.words (range_with_len 0 (words_of shape)))
