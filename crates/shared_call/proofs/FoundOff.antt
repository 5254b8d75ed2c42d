-- An attempt whose outcome is that the power is off has found it so.
use Rattle.std.proofs.Common.{◌≡◌, ℕ, Some, List, ◌∷◌, ◌++◌, sym, ap, ◌∙◌, append_assoc}
use Rattle.std.proofs.lemmas.List.{append_cancel_right}
use Rattle.op_core.specs.declared.want.Want.{Want}
use Rattle.op_core.specs.declared.want.Want.TheVariants.{Power}
use Rattle.map_model.specs.declared.call.Call.{Call}
use Rattle.world.specs.declared.site.Site.{Site}
use Rattle.world.specs.Ground.{Ground}
use Rattle.world.specs.Wants.{word_of}
use Rattle.part.specs.Outcomes.{off}
use Rattle.engine.specs.declared.engine.Engine.{Engine}
use Rattle.engine.specs.OpPart.{Work, op_part}
use Rattle.vlock.specs.declared.knows.Watch.{Watch}
use Rattle.shared_call.specs.Attempts.{after_events, doings_of, IsGoing, HasFoundOff}
use Rattle.shared_call.proofs.Deciding.{off_cause}

pub found_off : (site : Ground) (here : Site) (call : Call) (work : Work) (start : Engine) (first : Watch) (e : Engine) (q : Watch) → IsGoing site here call work start first e q
    → op_part.outcome e.op ≡ Some off → HasFoundOff first q
found_off site here call work start first e q g is =
    let d = g.decided off is in
    let c = off_cause work site d.moment.words (doings_of d.before) call d.event here d.cause in
    record {
      behind = d.behind;
      found = d.found;
      before = d.before;
      took = g.took ∙ ap (λ (es : List (Want × ℕ)). es ++ first.took) d.among ∙ append_assoc d.behind ((d.event, d.found) ∷ d.before) first.took
          ∙ ap (λ (w : Want). d.behind ++ (w, d.found) ∷ (d.before ++ first.took)) c.0;
      off = λ zero. c.1 (ap (λ (w : Want). d.moment.words (word_of site.shape w)) (sym c.0) ∙ d.value ∙ zero);
    }

-- also where that is said of the events that the seat took
pub found_by : (site : Ground) (here : Site) (call : Call) (work : Work) (start : Engine) (first : Watch) (e : Engine) (q : Watch) (events : List (Want × ℕ))
    → IsGoing site here call work start first e q → q.took ≡ events ++ first.took → op_part.outcome (after_events start events).op ≡ Some off → HasFoundOff first q
found_by site here call work start first e q events g took is =
    let same : g.events ≡ events = append_cancel_right g.events events first.took (sym g.took ∙ took) in
    found_off site here call work start first e q g (ap (λ (x : Engine). op_part.outcome x.op) (g.engine ∙ ap (λ (es : List (Want × ℕ)). after_events start es) same) ∙ is)

-- ---- also since what it knew before, and behind more events
pub since_before : (p first q : Watch) (events : List (Want × ℕ)) → HasFoundOff first q → first.took ≡ events ++ p.took → HasFoundOff p q
since_before p first q events f took = record {
  behind = f.behind;
  found = f.found;
  before = f.before ++ events;
  took = f.took ∙ ap (λ (es : List (Want × ℕ)). f.behind ++ (Power, f.found) ∷ es) (ap (λ (es : List (Want × ℕ)). f.before ++ es) took ∙ sym (append_assoc f.before events p.took));
  off = f.off;
}

pub still_behind : (p q r : Watch) (events : List (Want × ℕ)) → HasFoundOff p q → r.took ≡ events ++ q.took → HasFoundOff p r
still_behind p q r events f took = record {
  behind = events ++ f.behind;
  found = f.found;
  before = f.before;
  took = took ∙ ap (λ (es : List (Want × ℕ)). events ++ es) f.took ∙ sym (append_assoc events f.behind ((Power, f.found) ∷ (f.before ++ p.took)));
  off = f.off;
}
