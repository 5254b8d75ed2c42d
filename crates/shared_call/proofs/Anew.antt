-- Where a call begins, and where an attempt of it ended without a reply, the view suits the attempt that comes next; and it suits the repair of a segment that
-- it knows to be live.
use Rattle.std.proofs.Common.{◌≡◌, ◌<◌, ℕ, Option, [], inl, inr, refl}
use Rattle.map_model.specs.declared.call.Call.{Call}
use Rattle.map_model.specs.Changes.{change_of}
use Rattle.world.specs.declared.site.Site.{Site}
use Rattle.world.specs.Ground.{Ground, IsGround, version_of}
use Rattle.world.specs.Facts.{Lives}
use Rattle.world.specs.Views.{View, Has}
use Rattle.world.specs.Attempts.{HoldsOnly}
use Rattle.part.specs.Doings.{nothing_done}
use Rattle.part.specs.Outcomes.{Outcome}
use Rattle.engine.specs.declared.engine.Op.{Op}
use Rattle.engine.specs.Engine.{begun, repairing, anew_by}
use Rattle.engine.specs.OpPart.{op_part}
use Rattle.engine.specs.Fits.{HasNumber, IsWordCall}
use Rattle.engine.proofs.attempts.Doing.{anew_by_fresh}
use Rattle.shared_call.specs.Laws.{AttemptLaws}
use Rattle.shared_call.specs.Suited.{Suits}

module _ (laws : AttemptLaws) (site : Ground) (here : Site) (call : Call) (v : View) (ground : IsGround site) (shape : here.geometry ≡ site.shape) (version : here.version ≡ version_of site)
    (small : IsWordCall call) (bare : HoldsOnly [] v) (some : 0 < v.callers) where
  pub begun_suits : Suits site here call (begun here call) nothing_done v v
  begun_suits =
      let s = laws.begins site here call v ground shape version small bare some in
      record { asks = s.asks; suits = s.suits; remembers = laws.remembers site here (begun here call) (inl (call, refl)) }

  pub anew_suits : HasNumber here → (op : Op) → op_part.Stands site here call op v → (outcome : Option Outcome) → op_part.outcome op ≡ outcome
      → Suits site here call (anew_by here call (change_of call) outcome) nothing_done v v
  anew_suits number op stands outcome is =
      let s = laws.next site here call v ground shape version number small bare some op stands outcome is in
      record { asks = s.asks; suits = s.suits; remembers = laws.remembers site here (anew_by here call (change_of call) outcome) (anew_by_fresh here call (change_of call) outcome) }

pub repair_suits : AttemptLaws → (site : Ground) (here : Site) (call : Call) (segment : ℕ) (v : View) → here.geometry ≡ site.shape → here.version ≡ version_of site → HasNumber here → HoldsOnly [] v
    → 0 < v.callers → Has (Lives segment) v.facts → Suits site here call (repairing here segment) nothing_done v v
repair_suits laws site here call segment v shape version number bare some lives =
    let s = laws.repairs site here call segment v shape version number bare lives some in
    record { asks = s.asks; suits = s.suits; remembers = laws.remembers site here (repairing here segment) (inr (inr (segment, refl))) }
