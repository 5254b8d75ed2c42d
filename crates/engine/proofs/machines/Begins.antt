-- Where an attempt begins, of a call, of the split of a segment and of the repair of one.
use Rattle.std.proofs.Common.{◌≡◌, ◌^◌, ◌<◌, ◌≤◌, ℕ, None, [], inl, inr, refl, sym, subst, arith}
use Rattle.map_model.specs.declared.call.Call.{Call}
use Rattle.map_model.specs.declared.call.Call.TheVariants.{Get, Insert, Update, Remove}
use Rattle.map_model.specs.declared.change.Effect.TheVariants as effect
use Rattle.map_model.specs.declared.change.Change.{Change}
use Rattle.map_model.specs.Changes.{call_of}
use Rattle.map_model.specs.Legal.{IsInsert}
use Rattle.world.specs.declared.site.Site.{Site}
use Rattle.world.specs.Ground.{Ground, IsGround, version_of}
use Rattle.world.specs.Views.{View}
use Rattle.world.specs.Attempts.{HoldsOnly}
use Rattle.part.specs.Doings.{nothing_done}
use Rattle.part.specs.Part.{IsPart}
use Rattle.phase.specs.Makes.{brought}
use Rattle.phase.specs.Stands.{IsThere}
use Rattle.read_op.specs.Steps.{begun as read_begun}
use Rattle.read_op.specs.GetPart.{get_part, BeginsAsPart as GetBegins, BeginsRemembering as GetRemembers}
use Rattle.write_op.specs.Steps.{begun as write_begun}
use Rattle.write_op.specs.ChangePart.{change_part, BeginsAsPart as ChangeBegins, BeginsRemembering as ChangeRemembers}
use Rattle.enclose_op.specs.EnclosePart.{BeginsAsPart as EncloseBegins, BeginsRemembering as EncloseRemembers}
use Rattle.repair_op.specs.RepairPart.{BeginsAsRepair as RepairBegins, BeginsRemembering as RepairRemembers}
use Rattle.engine.specs.declared.engine.Engine.{Engine}
use Rattle.engine.specs.declared.engine.Op.TheVariants.{Write}
use Rattle.engine.specs.Engine.{running, begun, splitting, repairing, IsFresh}
use Rattle.engine.specs.OpPart.{op_part}
use Rattle.engine.specs.Left.{most_of_attempt, left, waiting}
use Rattle.engine.specs.Pairs.{HasMade, BeginsUnmade}
use Rattle.engine.specs.Causes.{BeginsBare, BeginsUndecided}
use Rattle.engine.specs.Fits.{HasNumber, Suits, BeginsSuited, RepairSuited}

-- what is so of the engine of each call, and of each that splits or repairs a segment, is so of each that has done nothing yet
pub of_fresh : (P : Engine → Type 0) (here : Site) → ((call : Call) → P (begun here call)) → ((change : Change) (segment : ℕ) → P (splitting here change segment))
    → ((segment : ℕ) → P (repairing here segment)) → (e : Engine) → IsFresh here e → P e
of_fresh P here calls splits repairs e (inl is) = subst P (sym is.1) (calls is.0)
of_fresh P here calls splits repairs e (inr (inl is)) = subst P (sym is.2) (splits is.0 is.1)
of_fresh P here calls splits repairs e (inr (inr is)) = subst P (sym is.1) (repairs is.0)

-- ---- a view that holds nothing suits it
-- a change is no get
change_suits : ChangeBegins → ChangeRemembers → (site : Ground) (here : Site) (change : Change) (v : View) → IsGround site → here.geometry ≡ site.shape → here.version ≡ version_of site → change.key < 2 ^ 64
    → brought change.effect < 2 ^ 64 → HoldsOnly [] v → 0 < v.callers → Suits site here (call_of change) (running (Write (write_begun change here))) v v
change_suits begins remembers site here change v good same version key value holds some = record {
  asks = λ e. absurd (cc);
  on = λ e. absurd (cc);
  suits = record {
    stands = record { stands = begins site here change v good same version key value holds; closed = refl };
    enters = record { own = refl; seen = refl };
    callers = some;
  };
  remembers = (nothing_done, remembers site here change);
}

pub begins_suited : GetBegins → GetRemembers → ChangeBegins → ChangeRemembers → BeginsSuited
begins_suited get memory change memories site here (Get key) v good same version small holds some = record {
  asks = λ e. absurd (cc);
  on = λ e. absurd (cc);
  suits = record { stands = get site here key v same version small.0 holds; enters = record { own = refl; seen = refl }; callers = some };
  remembers = (nothing_done, memory site here key);
}
begins_suited get memory change memories site here (Insert key value) v good same version small holds some =
    change_suits change memories site here (record { key = key; effect = effect.Insert value }) v good same version small.0 small.1 holds some
begins_suited get memory change memories site here (Update key value) v good same version small holds some =
    change_suits change memories site here (record { key = key; effect = effect.Update value }) v good same version small.0 small.1 holds some
begins_suited get memory change memories site here (Remove key) v good same version small holds some =
    change_suits change memories site here (record { key = key; effect = effect.Remove }) v good same version small.0 small.1 holds some

-- and the split of a segment that the view knows to be live and current, for an insert of a key that is a word
pub split_suits : EncloseBegins → EncloseRemembers → (site : Ground) (here : Site) (change : Change) (segment : ℕ) (v : View) → here.geometry ≡ site.shape → here.version ≡ version_of site → HasNumber here
    → IsInsert (call_of change) → change.key < 2 ^ 64 → HoldsOnly [] v → IsThere site segment v.facts → 0 < v.callers → Suits site here (call_of change) (splitting here change segment) v v
split_suits begins remembers site here change segment v same version number insert key holds there some = record {
  asks = λ e. absurd (cc);
  on = λ e. absurd (cc);
  suits = record {
    stands = record { stands = begins site here change segment v same version number.0 number.1 insert key holds there; closed = refl };
    enters = record { own = refl; seen = refl };
    callers = some;
  };
  remembers = (nothing_done, remembers site here change segment nothing_done refl);
}

-- and the repair of a segment that the view knows to be live
pub repair_suits : RepairBegins → RepairRemembers → RepairSuited
repair_suits begins remembers site here call segment v same version number holds lives some = record {
  asks = λ e. absurd (cc);
  on = λ e. absurd (cc);
  suits = record {
    stands = record { stands = begins site here call segment v same version number.0 number.1 holds lives; closed = refl };
    enters = record { own = refl; seen = refl };
    callers = some;
  };
  remembers = (nothing_done, remembers site here segment nothing_done refl);
}

-- ---- what it has not done
begun_undecided : (here : Site) (call : Call) → op_part.outcome (begun here call).op ≡ None
begun_undecided here (Get key) = refl
begun_undecided here (Insert key value) = refl
begun_undecided here (Update key value) = refl
begun_undecided here (Remove key) = refl

pub begins_undecided : BeginsUndecided
begins_undecided here = of_fresh (λ e. op_part.outcome e.op ≡ None) here (begun_undecided here) (λ change segment. refl) (λ segment. refl)

begun_unmade : (here : Site) (call : Call) → HasMade (begun here call) → ⊥
begun_unmade here (Get key) made = made
begun_unmade here (Insert key value) made = made
begun_unmade here (Update key value) made = made
begun_unmade here (Remove key) made = made

pub begins_unmade : BeginsUnmade
begins_unmade here = of_fresh (λ e. HasMade e → ⊥) here (begun_unmade here) (λ change segment made. made) (λ segment made. made)

begun_waiting : (here : Site) (call : Call) → waiting (begun here call) ≡ 0
begun_waiting here (Get key) = refl
begun_waiting here (Insert key value) = refl
begun_waiting here (Update key value) = refl
begun_waiting here (Remove key) = refl

pub begins_waiting : (here : Site) (e : Engine) → IsFresh here e → waiting e ≡ 0
begins_waiting here = of_fresh (λ e. waiting e ≡ 0) here (begun_waiting here) (λ change segment. refl) (λ segment. refl)

begun_remembering : GetRemembers → ChangeRemembers → (site : Ground) (here : Site) (call : Call) → op_part.Remembers site (begun here call).op nothing_done
begun_remembering get change site here (Get key) = get site here key
begun_remembering get change site here (Insert key value) = change site here (record { key = key; effect = effect.Insert value })
begun_remembering get change site here (Update key value) = change site here (record { key = key; effect = effect.Update value })
begun_remembering get change site here (Remove key) = change site here (record { key = key; effect = effect.Remove })

pub begins_remembering : GetRemembers → ChangeRemembers → EncloseRemembers → RepairRemembers → (site : Ground) (here : Site) (e : Engine) → IsFresh here e → op_part.Remembers site e.op nothing_done
begins_remembering get change enclose repair site here = of_fresh (λ e. op_part.Remembers site e.op nothing_done) here (begun_remembering get change site here)
    (λ made segment. enclose site here made segment nothing_done refl) (λ segment. repair site here segment nothing_done refl)

-- who is at the beginning of an attempt holds, knows and owes nothing
begun_bare : (site : Ground) (here : Site) (call first : Call) (v : View) → op_part.Stands site here call (begun here first).op v → HoldsOnly [] v
begun_bare site here call (Get key) v s = s.nothing
begun_bare site here call (Insert key value) v s = s.stands.view.0
begun_bare site here call (Update key value) v s = s.stands.view.0
begun_bare site here call (Remove key) v s = s.stands.view.0

pub begins_bare : BeginsBare
begins_bare site here call e v fresh = of_fresh (λ x. op_part.Stands site here call x.op v → HoldsOnly [] v) here (λ first. begun_bare site here call first v) (λ made segment s. s.stands.view.0) (λ segment s. s.stands.view.0) e fresh

-- ---- how many events it asks for
change_few : IsPart change_part → (here : Site) (change : Change) → left (running (Write (write_begun change here))) ≤ most_of_attempt
change_few change here made = let low = change.time.most (write_begun made here) in omega (arith, low)

pub begins_few : IsPart get_part → IsPart change_part → (here : Site) (call : Call) → left (begun here call) ≤ most_of_attempt
begins_few get change here (Get key) = let low = get.time.most (read_begun key here) in omega (arith, low)
begins_few get change here (Insert key value) = change_few change here (record { key = key; effect = effect.Insert value })
begins_few get change here (Update key value) = change_few change here (record { key = key; effect = effect.Update value })
begins_few get change here (Remove key) = change_few change here (record { key = key; effect = effect.Remove })
