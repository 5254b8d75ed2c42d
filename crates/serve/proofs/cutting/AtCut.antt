-- What a caller was told by the time of a cut, against what its pass has.
use Rattle.std.proofs.Common.{◌≡◌, ℕ, Bool, true, false, Option, None, Some, List, [], ◌∷◌, ◌++◌, length, inl, inr, refl, sym, ap, ◌∙◌, subst, arith}
use Rattle.std.specs.Prelude.{map, take, slice_get, Contains}
use Rattle.std.specs.List.{AllByRecursion, AllZip}
use Rattle.std.proofs.lemmas.Option.{slice_get_within}
use Rattle.std.proofs.lemmas.List.Elements.{Contains-append_left, Contains-append_right, Contains-append_cases}
use Rattle.trace.proofs.Listed.{has_of_contains}
use Rattle.map_model.specs.declared.call.Call.{Call}
use Rattle.map_model.specs.declared.entry.Entry.{Entry}
use Rattle.map_model.specs.declared.entry.Stop.{Stop}
use Rattle.session.specs.Callers.{FollowsScript, history_of, undrawn_call, undrawn}
use Rattle.session.specs.Transcript.{Told}
use Rattle.reply_text.specs.Told.{told_by}
use Rattle.engine.specs.Holding.{HasUntold}
use Rattle.engine.proofs.holding.Scripted.{replied_more}
use Rattle.shared_image.specs.Closed.{replies_in}
use Rattle.shared_image.specs.Cutting.{planned_in}
use Rattle.shared_image.specs.Headway.{PlansCall, HasDrawn}
use Rattle.world.specs.Views.{View, Has}
use Rattle.serve.specs.Served.{AreMade}
use Rattle.serve.specs.AtCut.{drawn_entry, stop_at, CallerAtCut, told_of, StoodAtCut}
use Rattle.serve.proofs.Told.{follows}

-- what it was told is what its view has: its calls are the first of its script; the view has the entries that it was told, and one more at the most, which
-- drew no place and was not told; and a change that is planned is its open call, which has drawn none
pub record Tells (script : List Call) (told : Told) (v : View) : Type 0 where
  pub scripted : FollowsScript script told
  pub untold : HasUntold (history_of told) v.own
  pub planned : (call : Call) → Has call v.planned → Contains (undrawn_call (slice_get script (length told.entries)) told.left_open) call

module _ (script : List Call) (entries : List Entry) (v : View) where
  nothing_planned : (X : Type 0) (call : Call) → v.planned ≡ [] → Has call v.planned → X
  nothing_planned X call none has = absurd (subst (λ (calls : List Call). Has call calls) none has)

  all_made : v.own ≡ entries → AreMade script entries → v.planned ≡ [] → Tells script (told_by entries None) v
  all_made own made none = record {
    scripted = follows script entries made;
    untold = inl own;
    planned = λ call has. nothing_planned _ call none has;
  }

  module _ (call : Call) (before : View) (own : before.own ≡ entries) (made : map (λ e. e.call) entries ≡ take (length entries) script) (next : slice_get script (length entries) ≡ Some call)
      (plans : PlansCall call before v) where
    undrawn_told : HasDrawn call before None v → HasUntold entries v.own
    undrawn_told drawn = subst (λ (es : List Entry). HasUntold es v.own) own drawn

    -- its planned change is the call that is open
    open_call : (planned : Call) → Has planned v.planned → Contains (undrawn_call (slice_get script (length entries)) (Some None)) planned
    open_call planned has =
        subst (λ (o : Option Call). Contains (undrawn_call o (Some None)) planned) (sym next) (0, omega arith, sym (plans planned has).0)

    longer : (es : List Entry) (e : Entry) → v.own ≡ es ++ e ∷ [] → v.own ≡ es → ⊥
    longer es e more same = no_longer es e (sym more ∙ same)
      where
        no_longer : (xs : List Entry) (x : Entry) → xs ++ x ∷ [] ≡ xs → ⊥
        no_longer [] x is = cc
        no_longer (y ∷ xs) x is = no_longer xs x (cc)

    gave_up : (begun : Bool) (drew : Option ℕ) → before.planned ≡ [] → (begun ≡ false → v ≡ before) → HasDrawn call before drew v → Tells script (told_by entries (Some (stop_at entries call begun drew))) v
    gave_up false None rested idle drawn = record {
      scripted = record { its_calls = made; within = let w = slice_get_within script (length entries) call next in omega (arith, w) };
      untold = undrawn_told drawn;
      planned = λ planned has. nothing_planned _ planned (ap (λ (w : View). w.planned) (idle refl) ∙ rested) has;
    }
    gave_up false (Some place) rested idle drawn = absurd (longer before.own _ drawn (ap (λ (w : View). w.own) (idle refl)))
    gave_up true None rested idle drawn = record {
      scripted = record { its_calls = made; within = let w = slice_get_within script (length entries) call next in omega (arith, w) };
      untold = undrawn_told drawn;
      planned = open_call;
    }
    gave_up true (Some place) rested idle drawn = record {
      scripted = record {
        its_calls = replied_more entries script (drawn_entry entries call place) call made refl next;
        within = let w = slice_get_within script (length entries) call next in omega (arith, w);
      };
      untold = inl (drawn ∙ ap (λ (es : List Entry). es ++ drawn_entry es call place ∷ []) own);
      planned = λ planned has. absurd (longer before.own _ drawn (plans planned has).1);
    }

pub tells : (c : CallerAtCut) → StoodAtCut c → Tells c.script (told_of c) c.pass.me.0.view
tells c (inl all, alone) = subst (λ (s : Option Stop). Tells c.script (told_by c.entries s) c.pass.me.0.view) (sym all.stop)
    (all_made c.script c.entries c.pass.me.0.view all.own all.made all.planned)
tells c (inr g, alone) = subst (λ (s : Option Stop). Tells c.script (told_by c.entries s) c.pass.me.0.view) (sym g.stop)
    (gave_up c.script c.entries c.pass.me.0.view g.call g.before g.own g.made g.next g.planned g.begun g.drew g.rested g.idle g.drawn)

-- ---- all callers
abbrev pub owns_of : List CallerAtCut → List (List Entry)
owns_of callers = map (λ c. c.pass.me.0.view.own) callers

pub all_follow : (callers : List CallerAtCut) → AllByRecursion StoodAtCut callers → AllZip FollowsScript (map (λ c. c.script) callers) (map told_of callers)
all_follow [] all = tt
all_follow (c ∷ callers) all = ((tells c all.0).scripted, all_follow callers all.1)

pub all_untold : (callers : List CallerAtCut) → AllByRecursion StoodAtCut callers → AllZip HasUntold (map history_of (map told_of callers)) (owns_of callers)
all_untold [] all = tt
all_untold (c ∷ callers) all = ((tells c all.0).untold, all_untold callers all.1)

-- a change that a pass has planned is an open call, which has drawn no place
pub all_planned : (callers : List CallerAtCut) → AllByRecursion StoodAtCut callers → (call : Call) → Contains (planned_in (map (λ c. c.pass) callers)) call
    → Contains (undrawn (map (λ c. c.script) callers) (map told_of callers)) call
all_planned [] all call there = absurd (has_of_contains call [] there)
all_planned (c ∷ callers) all call there = elim (Contains-append_cases c.pass.me.0.view.planned (planned_in (map (λ c. c.pass) callers)) call there) [
  | inl its ↦ Contains-append_left _ (undrawn (map (λ c. c.script) callers) (map told_of callers)) call ((tells c all.0).planned call (has_of_contains call c.pass.me.0.view.planned its))
  | inr others ↦ Contains-append_right (undrawn_call (slice_get c.script (length c.entries)) (told_of c).left_open) (undrawn (map (λ c. c.script) callers) (map told_of callers)) call
      (all_planned callers all.1 call others)
]

-- passes that took in no other have the replies of their callers
pub all_replies : (callers : List CallerAtCut) → AllByRecursion StoodAtCut callers → replies_in (map (λ c. c.pass) callers) ≡ owns_of callers
all_replies [] all = refl
all_replies (c ∷ callers) all =
    ap (λ (vs : List View). c.pass.me.0.view.own ∷ (map (λ v. v.own) vs ++ replies_in (map (λ c. c.pass) callers))) all.0.1
    ∙ ap (λ (ls : List (List Entry)). c.pass.me.0.view.own ∷ ls) (all_replies callers all.1)
