-- One event of an engine, as a step of a seat.
use Rattle.std.specs.Prelude.{◌≡◌, ◌≢◌, ℕ, ◌^◌, ◌<◌, ◌∷◌, None, Some, ◌⊎◌}
use Rattle.op_core.specs.declared.want.Want.TheVariants.{Power, Done}
use Rattle.op_core.specs.declared.why.Why.TheVariants.{Busy}
use Rattle.image_layout.specs.Volatile.{power_on}
use Rattle.map_model.specs.declared.call.Call.{Call}
use Rattle.world.specs.declared.site.Site.{Site}
use Rattle.world.specs.Ground.{Ground}
use Rattle.world.specs.Views.{View, HasLock}
use Rattle.world.specs.Wants.{answer_to}
use Rattle.world.specs.Attempts.{HasNoMore}
use Rattle.world.specs.Later.{IsLater}
use Rattle.part.specs.Doings.{Doings, with_event_of}
use Rattle.part.specs.Outcomes.{Outcome, again, off}
use Rattle.part.specs.Part.{Suits as SuitsPart, IsWait}
use Rattle.part.specs.Turns.{HasEnded}
use Rattle.engine.specs.declared.engine.Engine.{Engine}
use Rattle.engine.specs.Engine.{wanted, taken, end_of, reply_of_end}
use Rattle.engine.specs.Left.{left}
use Rattle.engine.specs.OpPart.{op_part}
use Rattle.vlock.specs.declared.knows.Watch.{Watch}
use Rattle.shared_call.specs.declared.headway.Headway.{Headway}
use Rattle.shared_call.specs.Headway.{headway_with, HasDrawn}
use Rattle.shared_call.specs.Suited.{Suits, IsCaused}

-- THE POWER WAS FOUND OFF: the event was a look at it, which found a word that is not that of a power that is on; and no reply was entered in this attempt
pub record FoundOff (e : Engine) (found : ℕ) (before v : View) : Type 0 where
  pub looked : wanted e ≡ Power
  pub off : found ≢ power_on
  pub nothing : HasNoMore before v

-- what the attempt did, with the event of this engine, which found this
abbrev pub done_after : Engine → ℕ → Doings → Doings
done_after e found did = with_event_of (wanted e) (answer_to (wanted e) found) did

-- WHAT A TURN LEAVES of an attempt of this call that began with the view `before` and did this, where the view was v: the engine goes on, and the
-- view after suits it; or it wants nothing more, and has ended or found the power off; an outcome is decided by an event that has its cause, and
-- stays; and who is told that a lock is taken does not hold it. And where the view had the entry of the place that was drawn by then, or at the most one
-- more that drew none, it is so behind this event
pub record Leaves (site : Ground) (here : Site) (call : Call) (e : Engine) (did : Doings) (before v : View) (found : ℕ) (next : Engine) (w : View) : Type 0 where
  pub goes_on : wanted next ≢ Done → Suits site here call next (done_after e found did) before w
  pub ends : wanted next ≡ Done → op_part.outcome next.op ≢ Some off → HasEnded call (reply_of_end (end_of next)) before w
  pub off : op_part.outcome e.op ≢ Some off → op_part.outcome next.op ≡ Some off → FoundOff e found before w
  -- the machine that runs then stands on the view, wherever it is
  pub suits : SuitsPart op_part site here call next.op before w
  pub remembers : op_part.Remembers site next.op (done_after e found did)
  pub stays : (outcome : Outcome) → op_part.outcome e.op ≡ Some outcome → op_part.outcome next.op ≡ Some outcome
  pub caused : (outcome : Outcome) → op_part.outcome e.op ≡ None → op_part.outcome next.op ≡ Some outcome → IsCaused site here call e did v found outcome
  pub not_own : (word value : ℕ) → op_part.outcome e.op ≡ None → op_part.outcome next.op ≡ Some (again (Busy word value)) → HasLock v.held word → ⊥
  pub draws : (headway : Headway) → HasDrawn call before headway.drew v → HasDrawn call before (headway_with headway (answer_to (wanted e) found)).drew w

-- A TURN: the seat took the one event that the engine wanted, and the engine the answer; the view after is a later one; fewer events are left, or
-- the engine waits for a guard that another has; and so much is left of each attempt that the view suited
pub record Turns (site : Ground) (e : Engine) (p : Watch) (next : Engine) (q : Watch) : Type 0 where
  pub found : ℕ
  pub fits : found < 2 ^ 64
  pub took : q.took ≡ (wanted e, found) ∷ p.took
  pub past : q.past ≡ p.past
  pub later : IsLater p.view q.view
  pub callers : q.view.callers ≡ p.view.callers
  pub engine : next ≡ taken e (answer_to (wanted e) found)
  pub falls : (left next < left e) ⊎ IsWait op_part e.op (answer_to (wanted e) found)
  pub leaves : (here : Site) (call : Call) (did : Doings) (before : View) → Suits site here call e did before p.view → Leaves site here call e did before p.view found next q.view
