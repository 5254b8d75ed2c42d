-- An attempt behind a gate, which is asked before each event.
use Rattle.std.specs.Prelude.{◌≡◌, ◌≢◌, ℕ, ⊤, ◌+◌, ◌<◌, ◌≤◌, Option, None, Some, List, [], ◌++◌, length}
use Rattle.op_core.specs.declared.want.Want.{Want}
use Rattle.op_core.specs.declared.want.Want.TheVariants.{Done}
use Rattle.map_model.specs.declared.call.Call.{Call}
use Rattle.world.specs.declared.site.Site.{Site}
use Rattle.world.specs.Ground.{Ground}
use Rattle.engine.specs.declared.engine.Engine.{Engine}
use Rattle.engine.specs.declared.engine.End.{End}
use Rattle.world.specs.Later.{IsLater}
use Rattle.engine.specs.Engine.{begun, wanted}
use Rattle.engine.specs.OpPart.{Work, calls}
use Rattle.vlock.specs.declared.knows.Watch.{Watch}
use Rattle.shared_call.specs.declared.gated.Gated.{Gated}
use Rattle.shared_call.specs.declared.gated.Gated.TheVariants.{Ended, Cut}
use Rattle.shared_call.specs.declared.going.Stop.{Stop}
use Rattle.shared_call.specs.declared.going.Stop.TheVariants as stops_at
use Rattle.shared_call.specs.Attempts.{after_events, AreAsked, IsGoing, IsAttempted}

-- where the gate tells how many passes are left, it is lowered by so many
abbrev pub IsLowered : Option (Option ℕ) → ℕ → Option (Option ℕ) → Type 0
IsLowered None n now = ⊤
IsLowered (Some None) n now = now ≡ Some None
IsLowered (Some (Some l)) n now = (m : ℕ) × (now ≡ Some (Some m)) × (m + n ≡ l)

-- and where it told that before, none is left now
abbrev pub HasNoneLeft : Option (Option ℕ) → Option (Option ℕ) → Type 0
HasNoneLeft None now = ⊤
HasNoneLeft (Some None) now = ⊥
HasNoneLeft (Some (Some l)) now = now ≡ Some (Some 0)

-- IN THE MIDST of an attempt of a call itself: the passes are lowered by the events that were taken, and the gate has not cut, where there was one
pub record IsLetting (site : Ground) (here : Site) (call : Call) (p : Watch) (left : Option (Option ℕ)) (e : Engine) (q : Watch) (now : Option (Option ℕ)) (cuts : ℕ) : Type 0 where
  pub going : IsGoing site here call calls (begun here call) p e q
  pub lowered : IsLowered left (length going.events) now
  pub uncut : 0 < length going.events → cuts ≡ 0

-- THE ATTEMPT ENDED: the passes are lowered by exactly its events, and the gate has not cut
pub record IsLetThrough (site : Ground) (here : Site) (call : Call) (p : Watch) (left : Option (Option ℕ)) (end : End) (q : Watch) (now : Option (Option ℕ)) (cuts : ℕ) : Type 0 where
  pub attempted : IsAttempted site here call p end q
  pub lowered : IsLowered left (length attempted.over.events) now
  pub uncut : cuts ≡ 0

-- THE GATE CUT THE POWER: the attempt is left in the midst, where its engine wants an event more. The passes are lowered by exactly the events that were
-- taken, and none is left
pub record IsCutOff (site : Ground) (here : Site) (call : Call) (p : Watch) (left : Option (Option ℕ)) (q : Watch) (now : Option (Option ℕ)) (cuts : ℕ) : Type 0 where
  pub engine : Engine
  pub going : IsGoing site here call calls (begun here call) p engine q
  pub asks : wanted engine ≢ Done
  pub lowered : IsLowered left (length going.events) now
  pub none : HasNoneLeft left now
  pub cut : 0 < cuts

-- WHAT CAME OF AN ATTEMPT behind a gate
abbrev pub CameTo : Ground → Site → Call → Watch → Option (Option ℕ) → Gated → Watch → Option (Option ℕ) → ℕ → Type 0
CameTo site here call p left (Ended end) q now cuts = IsLetThrough site here call p left end q now cuts
CameTo site here call p left Cut q now cuts = IsCutOff site here call p left q now cuts

-- ---- an attempt at whatever work
-- THE SEAT TOOK exactly the events that the engine wanted, one after another, by which the passes are lowered; and whatever attempt was under way is so
-- still
pub record IsTaking (site : Ground) (e : Engine) (p : Watch) (left : Option (Option ℕ)) (next : Engine) (q : Watch) (now : Option (Option ℕ)) : Type 0 where
  pub events : List (Want × ℕ)
  pub took : q.took ≡ events ++ p.took
  pub asked : AreAsked e events
  pub engine : next ≡ after_events e events
  pub past : q.past ≡ p.past
  pub later : IsLater p.view q.view
  pub callers : q.view.callers ≡ p.view.callers
  pub lowered : IsLowered left (length events) now
  -- where it took none it knows what it knew
  pub idle : events ≡ [] → q ≡ p
  pub going : (here : Site) (call : Call) (work : Work) (start : Engine) (first : Watch) → IsGoing site here call work start first e p → IsGoing site here call work start first next q

-- WHERE IT STOPPED, after so many events of so many at most: the engine wants nothing more; or it wants an event more, and as many were taken as might be,
-- or the gate cut the power
abbrev pub Stops : Stop → Engine → ℕ → ℕ → Option (Option ℕ) → Option (Option ℕ) → ℕ → Type 0
Stops stops_at.Over next n most left now cuts = (wanted next ≡ Done) × (0 < n → cuts ≡ 0)
Stops stops_at.Left next n most left now cuts = (wanted next ≢ Done) × (n ≡ most) × (0 < n → cuts ≡ 0)
Stops stops_at.Cut next n most left now cuts = (wanted next ≢ Done) × HasNoneLeft left now × (0 < cuts)

-- AN ATTEMPT THAT WENT ON by at most so many events
pub record HasGoneOn (site : Ground) (most : ℕ) (e : Engine) (p : Watch) (left : Option (Option ℕ)) (stop : Stop) (next : Engine) (q : Watch) (now : Option (Option ℕ)) (cuts : ℕ) : Type 0 where
  pub taking : IsTaking site e p left next q now
  pub few : length taking.events ≤ most
  pub stops : Stops stop next (length taking.events) most left now cuts
