-- The redirecting of entries is a part: with what it begins, and how it ends.
use Rattle.std.proofs.Common.{◌≡◌, ℕ, ◌≤◌, Option, None, Some, List, inl, refl, sym, ap, subst, arith}
use Rattle.map_model.specs.declared.call.Call.{Call}
use Rattle.world.specs.declared.site.Site.{Site}
use Rattle.world.specs.Ground.{Ground}
use Rattle.world.specs.Views.{View, Has}
use Rattle.world.specs.Wants.{answer_to, word_of}
use Rattle.world.proofs.moving.Known.{known_is_so}
use Rattle.part.specs.Part.{IsPart}
use Rattle.repair_op.specs.declared.guarded.Guarded.{Guarded}
use Rattle.repair_op.specs.Guarded.{KeepsGuarded, HasDeepEntries}
use Rattle.redirect_op.specs.declared.op.RedirectOp.{RedirectOp}
use Rattle.redirect_op.specs.Steps.{begun_at, begun, wanted, next_in, end_at}
use Rattle.redirect_op.specs.Stands.{SuitsStep}
use Rattle.redirect_op.specs.Ends.{outcome_at}
use Rattle.redirect_op.specs.Left.{left_at, events_in}
use Rattle.redirect_op.specs.RedirectPart.{redirect_part, BeginsAsPart, BeginsUndecided, BeginsWithinImage, HandsOnRedirected, EndsAsSaid}
use Rattle.redirect_op.proofs.Stepping.{wants_at, may_at, stands_at}
use Rattle.redirect_op.proofs.Falling.{falls_at, most_at}
use Rattle.redirect_op.proofs.Flushing.{flushes_at, keeps_at, waits_none, waits_few}
use Rattle.redirect_op.proofs.Plain.{within_at, puts_at, no_plan, ended_at, bare_at, redirected_at, relies_at, hands_at, makes_none, enters_at, power_at}

-- THE REDIRECTING OF ENTRIES IS A PART
pub redirect_is_part : IsPart redirect_part
redirect_is_part = record {
  steps = λ site here call words views j op before v h at s asks.
      let n : ℕ = words (word_of site.shape (wanted op)) in
      let next : RedirectOp = next_in op op.step (answer_to (wanted op) n) in
      let new = known_is_so.newest site words views j v h at in
      record {
        wants = wants_at site h.site_is here call op v op.step words new refl s.stands asks;
        may = may_at site h.site_is here call op v op.step refl s.stands asks;
        stands = λ small. stands_at site h.site_is here call op v op.step words n new refl s.stands asks refl;
        enters = λ small. enters_at site op n v call before op.step next.step s.enters;
        makes = λ p. absurd (makes_none site op n v op.step p);
      };
  ends = λ site here call op v s done closed on. bare_at site here call op v op.step s done closed;
  time = record { falls = λ op a i. inl (falls_at op op.step a refl i); most = λ op. most_at op op.step };
  within = λ site here call op before v ground s. within_at site ground here call op v op.step s.stands;
  words = λ site here call op before v s. puts_at site here call op v op.step s.stands;
  flushes = record {
    most = λ op. waits_few op op.step;
    flushes = λ op a l i flush. flushes_at op op.step a l refl i flush;
    keeps = λ op a i no_fence. keeps_at op op.step a refl i no_fence;
    ends = λ op done. waits_none op op.step done;
  };
  made = record { stays = λ op a i made. absurd made; done = λ op made done. absurd made };
  plans = λ site here call op before v planned s has. absurd (subst (λ (l : List Call). Has planned l) (no_plan site here call op v op.step s.stands) has);
  relies = λ site here call op v s. relies_at site op.step v.facts;
  hands = λ op hands. hands_at op op.step hands;
  power = λ op n. power_at op op.step;
}

-- ---- where it begins: with a ready side at the guard of the directory, and without one at its end
begins_by : (site : Ground) (here : Site) (call : Call) (g : Guarded) (v : View) (side : Option ℕ) → g.side ≡ side → KeepsGuarded site here call g v → SuitsStep site here call (begun g) (begun_at side) v
begins_by site here call g v None is k = record { guarded = k; deep = subst (λ (o : Option ℕ). HasDeepEntries site g o v) (sym is) tt }
begins_by site here call g v (Some side) is k = (k, (side, is))

pub begins_as_part : BeginsAsPart
begins_as_part site here call g v k = begins_by site here call g v g.side refl k

undecided_by : (side : Option ℕ) → outcome_at (begun_at side) ≡ None
undecided_by None = refl
undecided_by (Some side) = refl

pub begins_undecided : BeginsUndecided
begins_undecided g = undecided_by g.side

within_by : (g : Guarded) (side : Option ℕ) → left_at (begun g) (begun_at side) ≤ events_in g.site.geometry
within_by g None = omega arith
within_by g (Some side) = omega arith

pub begins_within_image : BeginsWithinImage
begins_within_image g = within_by g g.side

-- ---- and how it ends
pub hands_on_redirected : HandsOnRedirected
hands_on_redirected site here call op v s hands = redirected_at site here call op v op.step s hands

pub ends_as_said : EndsAsSaid
ends_as_said site here call op v s done =
    let end = ended_at site here call op v op.step s done in
    (end.0, ap end_at end.1, ap outcome_at end.1)
