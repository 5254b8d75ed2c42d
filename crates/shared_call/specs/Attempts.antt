-- One attempt of a call: its events, its end, and what decided that.
use Rattle.std.specs.Prelude.{◌≡◌, ◌≢◌, ℕ, ⊤, ◌+◌, ◌<◌, ◌≤◌, Option, None, Some, List, [], ◌∷◌, ◌++◌, length}
use Rattle.op_core.specs.declared.want.Want.{Want}
use Rattle.op_core.specs.declared.want.Want.TheVariants.{Power, Done}
use Rattle.op_core.specs.declared.why.Why.TheVariants.{Busy}
use Rattle.image_layout.specs.Volatile.{power_on}
use Rattle.map_model.specs.declared.call.Call.{Call}
use Rattle.map_model.specs.declared.call.Call.TheVariants.{Get}
use Rattle.map_model.specs.declared.entry.Reply.{Reply}
use Rattle.world.specs.declared.site.Site.{Site}
use Rattle.world.specs.Ground.{Ground, IsGround, version_of}
use Rattle.world.specs.Views.{View, HasLock}
use Rattle.world.specs.Wants.{word_of, answer_to}
use Rattle.world.specs.Attempts.{HoldsOnly, EntersReply}
use Rattle.world.specs.Later.{IsLater}
use Rattle.part.specs.Doings.{Doings, nothing_done, with_event_of}
use Rattle.part.specs.Outcomes.{Outcome, again, off, finished}
use Rattle.part.specs.Part.{Suits as SuitsPart}
use Rattle.engine.specs.declared.engine.Engine.{Engine}
use Rattle.engine.specs.declared.engine.End.{End}
use Rattle.engine.specs.Engine.{begun, wanted, taken, end_of, outcome_of_end, reply_of_end, anew, IsFresh}
use Rattle.engine.specs.Fits.{HasNumber, IsWordCall}
use Rattle.engine.specs.Left.{most_of_attempt, most_of_get, left}
use Rattle.engine.specs.OpPart.{Work, calls, work_of, op_part}
use Rattle.vlock.specs.declared.knows.Watch.{Watch}
use Rattle.vlock.specs.Plays.{Moment}
use Rattle.shared_call.specs.Headway.{no_headway, headway_after, HasDrawn, PlansCall}
use Rattle.shared_call.specs.Suited.{Suits, HasCauseOf}

-- ---- events one after another, the newest first, each with the value that its word was found to have
-- the engine after them
abbrev pub after_events : Engine → List (Want × ℕ) → Engine
after_events e [] = e
after_events e (x ∷ xs) = taken (after_events e xs) (answer_to x.0 x.1)

-- each is the one that the engine wanted then
abbrev pub AreAsked : Engine → List (Want × ℕ) → Type 0
AreAsked e [] = ⊤
AreAsked e (x ∷ xs) = (wanted (after_events e xs) ≡ x.0) × AreAsked e xs

-- what an attempt of these events did
abbrev pub doings_of : List (Want × ℕ) → Doings
doings_of [] = nothing_done
doings_of (x ∷ xs) = with_event_of x.0 (answer_to x.0 x.1) (doings_of xs)

-- AN OUTCOME WAS DECIDED by one of these events of a seat that began the attempt, at this work, with the view `first`. Its cause is there, in what the
-- attempt did before that event, and in words and views that meet the invariant, with a later view of the seat there, where the word of the event has the
-- value that it found; and that view does not hold a lock which is told as taken. Which of its later views it is is not said; of one event `Leaves` does
pub record IsDecided (site : Ground) (here : Site) (call : Call) (work : Work) (first : View) (events : List (Want × ℕ)) (outcome : Outcome) : Type 0 where
  pub behind : List (Want × ℕ)
  pub event : Want
  pub found : ℕ
  pub before : List (Want × ℕ)
  pub among : events ≡ behind ++ (event, found) ∷ before
  pub view : View
  pub since : IsLater first view
  pub moment : Moment site view
  pub value : moment.words (word_of site.shape event) ≡ found
  pub cause : HasCauseOf work site moment.words (doings_of before) call event here outcome
  pub not_own : (word value : ℕ) → outcome ≡ again (Busy word value) → HasLock view.held word → ⊥

-- IN THE MIDST OF AN ATTEMPT of this call, at this work, which the seat began with p and the engine `start`: the seat took exactly the events that the
-- engine wanted, one after another, and the machine that runs stands on the view
pub record IsGoing (site : Ground) (here : Site) (call : Call) (work : Work) (start : Engine) (p : Watch) (e : Engine) (q : Watch) : Type 0 where
  pub events : List (Want × ℕ)
  pub took : q.took ≡ events ++ p.took
  pub asked : AreAsked start events
  pub engine : e ≡ after_events start events
  pub few : work ≡ calls → length events + left e ≤ left start
  pub work_is : work_of e.op ≡ work
  pub past : q.past ≡ p.past
  pub later : IsLater p.view q.view
  pub same_callers : q.view.callers ≡ p.view.callers
  pub suits : SuitsPart op_part site here call e.op p.view q.view
  pub remembers : op_part.Remembers site e.op (doings_of events)
  pub decided : (outcome : Outcome) → op_part.outcome e.op ≡ Some outcome → IsDecided site here call work p.view events outcome
  -- and the view has the entry of the place that the events drew; what it has planned is the change of this call, and then no reply is entered yet
  pub draws : HasDrawn call p.view (headway_after events no_headway).drew q.view
  pub plans : PlansCall call p.view q.view

-- THE SEAT HAS FOUND THE POWER OFF since it knew p: among the events that it took since then is a look at the power word, which found another one
-- than that of a power that is on
pub record HasFoundOff (p q : Watch) : Type 0 where
  pub behind : List (Want × ℕ)
  pub found : ℕ
  pub before : List (Want × ℕ)
  pub took : q.took ≡ behind ++ (Power, found) ∷ (before ++ p.took)
  pub off : found ≢ power_on

-- a reply is at a place that is not before this
abbrev pub IsPlaced : Option (Reply × ℕ) → ℕ → Type 0
IsPlaced None seen = ⊤
IsPlaced (Some r) seen = seen ≤ r.1

-- AN ATTEMPT THAT ENDED so, which the seat began with p and the engine `start`
pub record IsOver (site : Ground) (here : Site) (call : Call) (work : Work) (start : Engine) (p : Watch) (end : End) (q : Watch) : Type 0 where
  -- its events are those that the engine wanted, until that wanted nothing more: at least one; and of the call itself no more than were left then
  pub events : List (Want × ℕ)
  pub took : q.took ≡ events ++ p.took
  pub asked : AreAsked start events
  pub done : wanted (after_events start events) ≡ Done
  pub ends : end ≡ end_of (after_events start events)
  pub some : 0 < length events
  pub few : work ≡ calls → length events ≤ left start
  -- the view has the reply of the end as its next entry, at a place that is not before what it had seen, or else the replies that it had, and has seen
  -- as much; and it stands for a caller, and for as many as before
  pub enters : EntersReply call (reply_of_end end) p.view q.view
  pub placed : IsPlaced (reply_of_end end) p.view.seen
  pub past : q.past ≡ p.past
  pub callers : 0 < q.view.callers
  pub same_callers : q.view.callers ≡ p.view.callers
  -- it has the entry of the place that the events drew; where they drew none, at the most one entry more, which drew none
  pub draws : HasDrawn call p.view (headway_after events no_headway).drew q.view
  -- it holds and owes nothing, unless the power was found off
  pub nothing : outcome_of_end end ≢ Some off → HoldsOnly [] q.view
  -- the end tells what one of the events decided, which has its cause
  pub outcome : Outcome
  pub told : outcome_of_end end ≡ Some outcome
  pub decided : IsDecided site here call work p.view events outcome
  -- where there is no reply, and the power was not found off, the view suits the next attempt of the call, for a caller that has a number; and the
  -- engine of that has done nothing yet
  pub fresh : IsFresh here (anew here call end)
  pub anew : reply_of_end end ≡ None → outcome ≢ off → HasNumber here → Suits site here call (anew here call end) nothing_done q.view q.view

-- AN ATTEMPT OF THE CALL ITSELF: at most `most_of_attempt` events, and of a get `most_of_get`; it never ends as one that has done other work
pub record IsAttempted (site : Ground) (here : Site) (call : Call) (p : Watch) (end : End) (q : Watch) : Type 0 where
  pub over : IsOver site here call calls (begun here call) p end q
  pub few : length over.events ≤ most_of_attempt
  pub few_of_get : (key : ℕ) → call ≡ Get key → length over.events ≤ most_of_get
  pub worked : over.outcome ≢ finished

-- ---- an attempt at whatever work
-- some attempt is under way
pub record IsUnderWay (site : Ground) (e : Engine) (q : Watch) : Type 0 where
  pub here : Site
  pub call : Call
  pub work : Work
  pub start : Engine
  pub first : Watch
  pub going : IsGoing site here call work start first e q

-- IT BEGINS with an engine that has done nothing yet, and a view that suits it
abbrev pub BeginsGoing : Type 0
BeginsGoing = (site : Ground) (here : Site) (call : Call) (start : Engine) (p : Watch) → IsFresh here start → Suits site here call start nothing_done p.view p.view
    → IsGoing site here call (work_of start.op) start p start p

-- AND ENDS where its engine wants nothing more, of a call of words, in an image of this shape and version
abbrev pub EndsOver : Type 0
EndsOver = (site : Ground) (here : Site) (call : Call) (work : Work) (start : Engine) (p : Watch) (e : Engine) (q : Watch) → IsGround site → here.geometry ≡ site.shape
    → here.version ≡ version_of site → IsWordCall call → wanted start ≢ Done → IsGoing site here call work start p e q → wanted e ≡ Done → IsOver site here call work start p (end_of e) q
