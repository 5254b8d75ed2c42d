-- A call that is tried until it has a reply.
use Rattle.std.specs.Prelude.{◌≡◌, ◌≢◌, ℕ, ⊤, ◌<◌, ◌≤◌, ◌⊎◌, Bool, true, Option, None, Some, List, ◌++◌, length, []}
use Rattle.op_core.specs.declared.want.Want.{Want}
use Rattle.op_core.specs.declared.want.Want.TheVariants.{Done}
use Rattle.map_model.specs.declared.call.Call.{Call}
use Rattle.map_model.specs.declared.entry.Reply.{Reply}
use Rattle.world.specs.declared.site.Site.{Site}
use Rattle.world.specs.Ground.{Ground}
use Rattle.world.specs.Attempts.{HoldsOnly, HasNoMore, HasOneMore}
use Rattle.shared_call.specs.Engines.{Engine, wanted, Work}
use Rattle.vlock.specs.declared.knows.Watch.{Watch}
use Rattle.shared_call.specs.declared.tries.Answer.{Answer}
use Rattle.shared_call.specs.declared.tries.Answer.TheVariants as answers
use Rattle.shared_call.specs.Attempts.{IsGoing}
pub use Rattle.shared_call.specs.Attempts.{HasFoundOff}
use Rattle.shared_call.specs.Gated.{IsLowered, HasNoneLeft}

-- the seat took some events, by which the passes of its gate are lowered; it took in no other, and stands for as many callers
pub record HasTaken (p : Watch) (left : Option (Option ℕ)) (q : Watch) (now : Option (Option ℕ)) : Type 0 where
  pub events : List (Want × ℕ)
  pub took : q.took ≡ events ++ p.took
  pub past : q.past ≡ p.past
  pub callers : q.view.callers ≡ p.view.callers
  pub lowered : IsLowered left (length events) now

-- the view has this reply more than p had, at a place not before what that had seen, and rests
pub record HasReplied (call : Call) (p : Watch) (reply : Reply) (place : ℕ) (q : Watch) : Type 0 where
  pub entry : HasOneMore call reply place p.view q.view
  pub placed : p.view.seen ≤ place
  pub nothing : HoldsOnly [] q.view
  pub callers : 0 < q.view.callers

-- WHAT A CALL CAME TO: a reply with its place, or the power is off
abbrev pub CameToReply : Call → Watch → Option (Reply × ℕ) → Watch → Type 0
CameToReply call p None q = ⊤
CameToReply call p (Some r) q = HasReplied call p r.0 r.1 q

-- WHY A CALL GAVE UP: the power of its caller was off before, and it took no event; or the gate has cut the power, and has no pass left where it told of them;
-- or among the events that it took is a look at the power word, which found another one than that of a power that is on
abbrev pub GaveUpFor : Bool → Watch → Option (Option ℕ) → Watch → Option (Option ℕ) → ℕ → Type 0
GaveUpFor off p left q now cuts = ((off ≡ true) × (q ≡ p)) ⊎ ((HasNoneLeft left now × (0 < cuts)) ⊎ HasFoundOff p q)

-- an attempt of the call is under way, which began with the entries of p, and p had seen as much; its events are among those that were taken since p
pub record IsTryingSince (site : Ground) (here : Site) (call : Call) (p : Watch) (e : Engine) (q : Watch) : Type 0 where
  pub work : Work
  pub start : Engine
  pub first : Watch
  pub going : IsGoing site here call work start first e q
  pub asks : wanted start ≢ Done
  pub same : HasNoMore p.view first.view
  pub events : List (Want × ℕ)
  pub since : first.took ≡ events ++ p.took

-- where a call stands that was told this
abbrev pub StandsAt : Ground → Site → Call → Watch → Answer → Engine → Watch → Type 0
StandsAt site here call p (answers.Replied reply place) e q = HasReplied call p reply place q
StandsAt site here call p answers.Off e q = ⊤
StandsAt site here call p answer e q = IsTryingSince site here call p e q
