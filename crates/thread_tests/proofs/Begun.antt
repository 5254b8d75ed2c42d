-- For how many callers a pass stands behind a call.
use Rattle.std.proofs.Common.{◌≡◌, ℕ, Bool, true, false, Option, ap}
use Rattle.map_model.specs.declared.call.Call.{Call}
use Rattle.world.specs.declared.site.Site.{Site}
use Rattle.world.specs.Ground.{Ground}
use Rattle.vlock.specs.declared.knows.Watch.{Watch}
use Rattle.shared_image.specs.Answer.{Answer}
use Rattle.shared_image.specs.Calling.{HasCalled}
use Rattle.shared_image.specs.Engines.{Engine}

pub callers_stay : (site : Ground) (here : Site) (call : Call) (off : Bool) (p : Watch) (left : Option (Option ℕ)) (before : ℕ) (answer : Answer) (next : Engine) (q : Watch) (now : Option (Option ℕ)) (cuts : ℕ)
    → HasCalled site here call off p left before answer next q now cuts → q.view.callers ≡ p.view.callers
callers_stay site here call true p left before answer next q now cuts c = ap (λ (w : Watch). w.view.callers) c.1
callers_stay site here call false p left before answer next q now cuts c = c.0.callers
