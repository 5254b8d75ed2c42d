-- The state of a run: a memory, the callers on it, and caller 0, who starts the image and closes it.
use Rattle.std.specs.Prelude.{ℕ, zero, suc, Option, None, Some, List, [], ◌∷◌, map, slice_get, Bool, false}
use Rattle.op_core.specs.declared.want.Want.{Want}
use Rattle.op_core.specs.declared.want.Want.TheVariants as want
use Rattle.op_core.specs.declared.want.Ans.{Ans}
use Rattle.trace.specs.Events.{Words}
use Rattle.image_layout.specs.Places.{Shape}
use Rattle.image_layout.specs.StateWord.{no_version}
use Rattle.map_model.specs.declared.call.Call.{Call}
use Rattle.map_model.specs.Weave.{first_caller, keeper_number}
use Rattle.world.specs.Wants.{answer_to, word_of, event_of, words_after}
use Rattle.restart_op.specs.declared.restart.RestartOp.{RestartOp}
use Rattle.restart_op.specs.declared.restart.Started.{Started}
use Rattle.restart_op.specs.declared.restart.RestartStep.{RestartStep}
use Rattle.restart_op.specs.declared.restart.RestartStep.TheVariants as restart_step
use Rattle.restart_op.specs.Restart.{begun as restart_begun, wanted as restart_wanted, taken as restart_taken, started_with}
use Rattle.restart_op.specs.declared.close.CloseOp.{CloseOp}
use Rattle.restart_op.specs.Close.{wanted as close_wanted, taken as close_taken}
use Rattle.engine.specs.declared.engine.End.{End}
use Rattle.engine.specs.declared.engine.Engine.{Engine}
use Rattle.engine.specs.Engine.{wanted, taken, end_of}
use Rattle.engine.specs.Core.{Caller, idle, current, Core, with_event}
use Rattle.engine.specs.Driven.{tries_in_vain, waits_after}
use Rattle.core_run.specs.declared.keeper.Keeper.{Keeper}
use Rattle.core_run.specs.declared.keeper.Keeper.TheVariants.{Restarting, Open, Closing, Closed}

-- the keeper is caller 0: it restarts the image, leaves it to the callers, and closes it
pub record State : Type 0 where
  pub keeper : Keeper
  pub core : Core

-- a caller before the end of the restart: the version of the image is not known yet
abbrev pub waiting : Shape → ℕ → List Call → Caller
waiting shape number calls = record {
  site = record { geometry = shape; version = no_version; caller = number };
  calls = calls;
  entries = [];
  engine = None;
  begun = false;
  drew = None;
}

abbrev pub waiting_from : Shape → ℕ → List (List Call) → List Caller
waiting_from shape number [] = []
waiting_from shape number (calls ∷ scripts) = waiting shape number calls ∷ waiting_from shape (suc number) scripts

-- the callers once it is
abbrev pub awake : ℕ → Caller → Caller
awake version c = idle (record c.site { version = version }) c.calls

-- THE BEGINNING, over an image with these words
abbrev pub beginning : Shape → Words → List (List Call) → State
beginning shape words scripts =
    record { keeper = Restarting (restart_begun shape); core = record { words = words; trace = []; callers = waiting_from shape first_caller scripts } }

-- what a restart ended with
abbrev pub started_at : RestartStep → Started
started_at (restart_step.Ended started) = started
started_at step = started_with no_version

abbrev pub started_by : RestartOp → Started
started_by op = started_at op.step

-- an event that was done: what was wanted, how its attempt ended if it did, whether it tried in vain for the guard of the directory and whether the
-- caller waits for that now, and the state after it
pub record Deed : Type 0 where
  pub want : Want
  pub end : Option End
  pub tried : Bool
  pub waits : Bool
  pub state : State

-- the keeper after an event of the close, by what it wants next: the close goes on, or is over
abbrev pub closing_keeper : CloseOp → Want → Keeper
closing_keeper op want.Done = Closed
closing_keeper op w = Closing op

module _ (shape : Shape) where
  -- the core after an event of caller 0
  abbrev pub by_keeper : Want → Core → Core
  by_keeper w core = record core {
    words = words_after shape w keeper_number core.words;
    trace = event_of shape w (core.words (word_of shape w)) keeper_number ∷ core.trace;
  }

  -- the restart goes on, or leaves the image to the callers
  abbrev pub restarting : RestartOp → Want → Core → State
  restarting op want.Done core = record { keeper = Open; core = record core { callers = map (awake (started_by op).version) core.callers } }
  restarting op w core = record { keeper = Restarting op; core = core }

  abbrev pub restart_deed : RestartOp → Core → Deed
  restart_deed op core =
      let w : Want = restart_wanted op in
      let next : RestartOp = restart_taken op (answer_to w (core.words (word_of shape w))) in
      record { want = w; end = None; tried = false; waits = false; state = restarting next (restart_wanted next) (by_keeper w core) }

  abbrev pub close_deed : CloseOp → Core → Deed
  close_deed op core =
      let w : Want = close_wanted op in
      let next : CloseOp = close_taken op (answer_to w (core.words (word_of shape w))) in
      record { want = w; end = None; tried = false; waits = false; state = record { keeper = closing_keeper next (close_wanted next); core = by_keeper w core } }

  abbrev pub keeper_deed : Keeper → Core → Option Deed
  keeper_deed (Restarting op) core = Some (restart_deed op core)
  keeper_deed Open core = None
  keeper_deed (Closing op) core = Some (close_deed op core)
  keeper_deed Closed core = None

  -- how an attempt ended, if it did
  abbrev pub end_by : Engine → Want → Option End
  end_by e want.Done = Some (end_of e)
  end_by e w = None

  abbrev pub engine_deed : ℕ → Core → Caller → Call → Engine → Deed
  engine_deed j core caller call e =
      let ans : Ans = answer_to (wanted e) (core.words (word_of shape (wanted e))) in
      let next : Engine = taken e ans in
      record {
        want = wanted e;
        end = end_by next (wanted next);
        tried = tries_in_vain shape (wanted e) ans;
        waits = waits_after shape (wanted e) ans next;
        state = record { keeper = Open; core = with_event shape j core caller call e };
      }

  abbrev pub call_deed : ℕ → Core → Caller → Option Call → Option Engine → Option Deed
  call_deed j core caller None engine = None
  call_deed j core caller (Some call) None = None
  call_deed j core caller (Some call) (Some e) = Some (engine_deed j core caller call e)

  abbrev pub caller_deed : ℕ → Core → Option Caller → Option Deed
  caller_deed j core None = None
  caller_deed j core (Some caller) = call_deed j core caller (current caller) caller.engine

  -- callers have events while the image is open
  abbrev pub open_deed : ℕ → Keeper → Core → Option Deed
  open_deed j Open core = caller_deed j core (slice_get core.callers j)
  open_deed j keeper core = None

  -- THE EVENT of caller c, where it has one left
  abbrev pub deed : ℕ → State → Option Deed
  deed zero s = keeper_deed s.keeper s.core
  deed (suc j) s = open_deed j s.keeper s.core
