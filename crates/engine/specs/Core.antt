-- The core: a memory, and callers that run their calls on it, an event at a turn.
use Rattle.std.specs.Prelude.{ℕ, zero, suc, Bool, true, false, Option, None, Some, List, [], ◌∷◌, ◌++◌, length, map, slice_get, slice_set}
use Rattle.op_core.specs.declared.want.Want.{Want}
use Rattle.op_core.specs.declared.want.Want.TheVariants as want
use Rattle.op_core.specs.declared.want.Ans.{Ans}
use Rattle.op_core.specs.declared.want.Ans.TheVariants.{Value, Won, Lost, Drawn, Passed}
use Rattle.trace.specs.Events.{Words, Trace}
use Rattle.image_layout.specs.Places.{Shape}
use Rattle.map_model.specs.declared.call.Call.{Call}
use Rattle.map_model.specs.declared.entry.Reply.{Reply}
use Rattle.map_model.specs.declared.entry.Reply.TheVariants as reply
use Rattle.map_model.specs.declared.entry.Entry.{Entry}
use Rattle.map_model.specs.Map.{is_done}
use Rattle.session.specs.Transcript.{Told}
use Rattle.session.specs.Callers.{history_of}
use Rattle.world.specs.declared.site.Site.{Site}
use Rattle.world.specs.Wants.{answer_to, word_of, event_of, words_after}
use Rattle.engine.specs.declared.engine.Engine.{Engine}
use Rattle.engine.specs.declared.engine.End.{End}
use Rattle.engine.specs.Engine.{begun, wanted, taken, end_of, reply_of_end, anew}

-- a caller: where it runs, its calls, its entries so far, and of the call behind these the engine, whether an event of it
-- was done, and its entry where it drew
pub record Caller : Type 0 where
  pub site : Site
  pub calls : List Call
  pub entries : List Entry
  pub engine : Option Engine
  pub begun : Bool
  pub drew : Option Entry

-- the call that is next, or runs
abbrev pub call_at : Caller → ℕ → Option Call
call_at c n = slice_get c.calls n

abbrev pub current : Caller → Option Call
current c = call_at c (length c.entries)

-- an engine for a call, where there is one
abbrev pub engine_for : Site → Option Call → Option Engine
engine_for site None = None
engine_for site (Some call) = Some (begun site call)

-- a caller that has done nothing yet
abbrev pub idle : Site → List Call → Caller
idle site calls = record { site = site; calls = calls; entries = []; engine = engine_for site (slice_get calls 0); begun = false; drew = None }

-- the entry of a call of the caller
abbrev pub entry_of : Caller → Call → Reply → ℕ → Entry
entry_of c call r place = record { serial = suc (length c.entries); call = call; reply = r; place = place; drew = is_done r }

-- after the event with this answer, the entry of its call where that has drawn
abbrev pub drawn_by : Caller → Call → Ans → Option Entry
drawn_by c call (Drawn n) = Some (entry_of c call reply.Done n)
drawn_by c call (Value v) = c.drew
drawn_by c call Won = c.drew
drawn_by c call (Lost v) = c.drew
drawn_by c call Passed = c.drew

-- a call that ended: its entry is the next, and the next call begins
abbrev pub with_entry : Caller → Entry → Caller
with_entry c e = record c {
  entries = c.entries ++ e ∷ [];
  engine = engine_for c.site (call_at c (suc (length c.entries)));
  begun = false;
  drew = None;
}

-- an attempt that ended so: its reply is entered, or the next attempt of the call begins
abbrev pub ended : Caller → Call → End → Option (Reply × ℕ) → Caller
ended c call end (Some r) = with_entry c (entry_of c call r.0 r.1)
ended c call end None = record c { engine = Some (anew c.site call end); begun = true; drew = None }

-- the caller goes on, or its attempt has ended
abbrev pub ended_or_on : Caller → Call → Engine → Want → Caller
ended_or_on c call e want.Done = ended c call (end_of e) (reply_of_end (end_of e))
ended_or_on c call e want = record c { engine = Some e; begun = true }

-- the caller after an event of its engine in this call was answered so
abbrev pub answered : Caller → Call → Engine → Ans → Caller
answered c call e ans = ended_or_on (record c { drew = drawn_by c call ans }) call (taken e ans) (wanted (taken e ans))

-- what the caller was told
abbrev pub open_of : Bool → Option Entry → Option (Option Entry)
open_of false drew = None
open_of true drew = Some drew

abbrev pub told_of : Caller → Told
told_of c = record { entries = c.entries; left_open = open_of c.begun c.drew }

-- the core: the newest words, the events since the power came on with the newest first, and the callers: caller c at
-- place c - 1
pub record Core : Type 0 where
  pub words : Words
  pub trace : Trace
  pub callers : List Caller

module _ (shape : Shape) where
  -- the event that an engine wants, done by the caller at place j, which is caller j + 1
  abbrev pub with_event : ℕ → Core → Caller → Call → Engine → Core
  with_event j core caller call e =
      let found : ℕ = core.words (word_of shape (wanted e)) in
      record {
        words = words_after shape (wanted e) (suc j) core.words;
        trace = event_of shape (wanted e) found (suc j) ∷ core.trace;
        callers = slice_set core.callers j (answered caller call e (answer_to (wanted e) found));
      }

  -- a turn of a caller that has a call left; else nothing comes of it
  abbrev pub turn_of_call : ℕ → Core → Caller → Option Call → Option Engine → Core
  turn_of_call j core caller None engine = core
  turn_of_call j core caller (Some call) None = core
  turn_of_call j core caller (Some call) (Some e) = with_event j core caller call e

  abbrev pub turn_of_caller : ℕ → Core → Option Caller → Core
  turn_of_caller j core None = core
  turn_of_caller j core (Some caller) = turn_of_call j core caller (current caller) caller.engine

  -- A TURN of a caller; of caller 0, who has no calls, nothing comes
  abbrev pub turn : ℕ → Core → Core
  turn zero core = core
  turn (suc j) core = turn_of_caller j core (slice_get core.callers j)

  -- turns, one after another
  abbrev pub run : List ℕ → Core → Core
  run [] core = core
  run (c ∷ turns) core = run turns (turn c core)

-- what all callers were told
abbrev pub tolds_of : Core → List Told
tolds_of core = map told_of core.callers

abbrev pub histories : Core → List (List Entry)
histories core = map history_of (tolds_of core)

-- callers of these calls, the first of whom has this number, on an image of a version: none has done anything
abbrev pub callers_from : Shape → ℕ → ℕ → List (List Call) → List Caller
callers_from shape version number [] = []
callers_from shape version number (calls ∷ scripts) =
    idle (record { geometry = shape; version = version; caller = number }) calls ∷ callers_from shape version (suc number) scripts
