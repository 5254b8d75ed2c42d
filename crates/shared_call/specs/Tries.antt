-- What a try of a call tells, and the next one.
use Rattle.std.specs.Prelude.{◌≡◌, ◌≢◌, ℕ, ◌<◌, ◌≤◌, Option, None, Some, List, [], ◌++◌, length, ◌⊎◌}
use Rattle.op_core.specs.declared.want.Want.{Want}
use Rattle.op_core.specs.declared.want.Want.TheVariants.{Done}
use Rattle.map_model.specs.declared.call.Call.{Call}
use Rattle.world.specs.declared.site.Site.{Site}
use Rattle.world.specs.Ground.{Ground, version_of}
use Rattle.world.specs.Facts.{Lives}
use Rattle.world.specs.Views.{Has}
use Rattle.world.specs.Attempts.{HoldsOnly, HasNoMore, HasOneMore}
use Rattle.world.specs.Later.{IsLater}
use Rattle.part.specs.Outcomes.{Outcome, replied, again, stale, need_split, off, finished}
use Rattle.engine.specs.declared.engine.Engine.{Engine}
use Rattle.engine.specs.declared.engine.End.{End}
use Rattle.engine.specs.Engine.{repairing, wanted, outcome_of_end, anew}
use Rattle.engine.specs.Fits.{HasNumber}
use Rattle.engine.specs.OpPart.{Work, work_of, op_part}
use Rattle.vlock.specs.declared.knows.Watch.{Watch}
use Rattle.shared_call.specs.declared.tries.Answer.{Answer}
use Rattle.shared_call.specs.declared.tries.Answer.TheVariants as answers
use Rattle.shared_call.specs.Attempts.{after_events, AreAsked, IsGoing, IsOver}
use Rattle.shared_call.specs.Gated.{IsLowered, HasNoneLeft}

-- what is told of an outcome
abbrev pub answer_for : Option Outcome → Answer
answer_for (Some (replied reply place)) = answers.Replied reply place
answer_for (Some (again why)) = answers.Again why
answer_for (Some (stale segment version)) = answers.Stale segment version
answer_for (Some (need_split segment)) = answers.NeedSplit segment
answer_for (Some off) = answers.Off
answer_for (Some finished) = answers.Worked
answer_for None = answers.Off

-- some attempt of this call is under way, which began with an engine that wanted an event
pub record IsTrying (site : Ground) (here : Site) (call : Call) (e : Engine) (q : Watch) : Type 0 where
  pub work : Work
  pub start : Engine
  pub first : Watch
  pub going : IsGoing site here call work start first e q
  pub asks : wanted start ≢ Done

-- an attempt of this call is under way with this engine, and has done nothing yet
pub record IsReady (site : Ground) (here : Site) (call : Call) (e : Engine) (q : Watch) : Type 0 where
  pub going : IsGoing site here call (work_of e.op) e q e q
  pub asks : wanted e ≢ Done

-- THE ATTEMPT IS OVER, and this was told of it; the view holds and owes nothing, and the engine is that of the next attempt
pub record IsAnswered (site : Ground) (here : Site) (call : Call) (work : Work) (start : Engine) (first : Watch) (answer : Answer) (next : Engine) (q : Watch) : Type 0 where
  pub end : End
  pub over : IsOver site here call work start first end q
  pub told : answer ≡ answer_for (outcome_of_end end)
  pub nothing : HoldsOnly [] q.view
  pub next_is : next ≡ anew here call end

-- WHAT IS TOLD of an attempt of this call that began with `first`: with a reply the view has that entry more, at a place not before what it had seen; without
-- one it has the entries that it had, and the next attempt is ready, for a caller that has a number; it may be left in the midst; and where the
-- power is off, it is left wherever it was
abbrev pub Tells : Ground → Site → Call → Work → Engine → Watch → Answer → Engine → Watch → Type 0
Tells site here call work start first (answers.Replied reply place) next q =
    IsAnswered site here call work start first (answers.Replied reply place) next q × HasOneMore call reply place first.view q.view × (first.view.seen ≤ place)
Tells site here call work start first answers.Left next q = IsGoing site here call work start first next q × (wanted next ≢ Done)
Tells site here call work start first answers.Off next q = (e : Engine) × IsGoing site here call work start first e q
Tells site here call work start first answer next q =
    IsAnswered site here call work start first answer next q × HasNoMore first.view q.view × (HasNumber here → IsReady site here call next q)

-- A TRY took some of the events that the engine wanted, no more than were allowed, by which the passes of its gate are lowered; and it tells of whatever
-- attempt of the call was under way. By then the gate has cut the power so often
pub record HasTried (site : Ground) (here : Site) (call : Call) (most : ℕ) (e : Engine) (p : Watch) (left : Option (Option ℕ)) (answer : Answer) (next : Engine) (q : Watch) (now : Option (Option ℕ))
    (cuts : ℕ) : Type 0 where
  pub events : List (Want × ℕ)
  pub took : q.took ≡ events ++ p.took
  pub asked : AreAsked e events
  pub few : length events ≤ most
  pub all : answer ≡ answers.Left → length events ≡ most
  pub past : q.past ≡ p.past
  pub later : IsLater p.view q.view
  pub callers : q.view.callers ≡ p.view.callers
  pub lowered : IsLowered left (length events) now
  -- where it took none the seat knows what it knew
  pub idle : events ≡ [] → q ≡ p
  -- the power is told off where the gate has cut it, and has no pass left where it told of them, or where the engine found it off
  pub off_by : answer ≡ answers.Off → (HasNoneLeft left now × (0 < cuts)) ⊎ (op_part.outcome (after_events e events).op ≡ Some off)
  -- a gate that let an event through has not cut, unless the power is told off
  pub uncut : answer ≢ answers.Off → 0 < length events → cuts ≡ 0
  -- whatever attempt of the call was under way was so still behind these events
  pub going : (work : Work) (start : Engine) (first : Watch) → IsGoing site here call work start first e p → IsGoing site here call work start first (after_events e events) q
  pub tells : (work : Work) (start : Engine) (first : Watch) → wanted start ≢ Done → IsGoing site here call work start first e p → Tells site here call work start first answer next q

-- A REPAIR BEGINS of a segment, behind whatever call, with a view that holds and owes nothing and knows the segment to be live
abbrev pub BeginsRepairing : Type 0
BeginsRepairing = (site : Ground) (here : Site) (call : Call) (segment : ℕ) (p : Watch) → here.geometry ≡ site.shape → here.version ≡ version_of site → HasNumber here → HoldsOnly [] p.view
    → 0 < p.view.callers → Has (Lives segment) p.view.facts → IsTrying site here call (repairing here segment) p
