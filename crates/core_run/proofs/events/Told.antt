-- A caller's entries are of the first of its calls, event by event.
use Rattle.std.proofs.Common.{◌≡◌, ℕ, zero, suc, true, List, [], ◌∷◌, ◌++◌, length, map, take, slice_get, slice_set, Option, None, Some, refl, sym, ap, ◌∙◌, subst, arith}
use Rattle.std.proofs.lemmas.Option.{none-some, same_Some, slice_get_within}
use Rattle.std.proofs.lemmas.List.{map-append}
use Rattle.op_core.specs.declared.want.Want.{Want}
use Rattle.op_core.specs.declared.want.Want.TheVariants as want
use Rattle.op_core.specs.declared.want.Ans.{Ans}
use Rattle.op_core.specs.declared.want.Ans.TheVariants.{Value, Won, Lost, Drawn, Passed}
use Rattle.map_model.specs.declared.call.Call.{Call}
use Rattle.map_model.specs.declared.entry.Entry.{Entry}
use Rattle.map_model.specs.declared.entry.Reply.{Reply}
use Rattle.engine.specs.declared.engine.End.{End}
use Rattle.engine.specs.declared.engine.Engine.{Engine}
use Rattle.engine.specs.Engine.{wanted, taken, end_of, reply_of_end}
use Rattle.engine.specs.Core.{Caller, current, entry_of, drawn_by, ended, ended_or_on, answered}
use Rattle.engine.proofs.Places.{one_more}
use Rattle.core_run.specs.Running.{Setup, HasToldInOrder, AllTold}

take_more : {A : Type 0} (xs : List A) (n : ℕ) (x : A) → slice_get xs n ≡ Some x → take (suc n) xs ≡ take n xs ++ x ∷ []
take_more [] n x is = absurd (none-some x is)
take_more (y ∷ xs) zero x is = ap (λ z. z ∷ []) (same_Some y x is)
take_more (y ∷ xs) (suc n) x is = ap (λ zs. y ∷ zs) (take_more xs n x is)

-- one entry more, of the next call
pub entries_more : (es : List Entry) (calls : List Call) (e : Entry) → map (λ (d : Entry). d.call) es ≡ take (length es) calls → slice_get calls (length es) ≡ Some e.call
    → map (λ (d : Entry). d.call) (es ++ e ∷ []) ≡ take (length (es ++ e ∷ [])) calls
entries_more es calls e same is =
    map-append (λ (d : Entry). d.call) es (e ∷ []) ∙ ap (λ zs. zs ++ e.call ∷ []) same ∙ sym (take_more calls (length es) e.call is)
    ∙ ap (λ n. take n calls) (sym (one_more es e))

-- ---- a caller
module _ (t : Setup) (version number : ℕ) (c : Caller) (h : HasToldInOrder t version number c) (call : Call) (is : current c ≡ Some call) where
  drawn_in : (ans : Ans) (e : Entry) → drawn_by c call ans ≡ Some e → current c ≡ Some e.call
  drawn_in (Drawn n) e q = is ∙ ap (λ (d : Entry). Some d.call) (same_Some (entry_of c call _ n) e q)
  drawn_in (Value v) e q = h.drawn e q
  drawn_in Won e q = h.drawn e q
  drawn_in (Lost v) e q = h.drawn e q
  drawn_in Passed e q = h.drawn e q

  ended_told : (drew : Option Entry) (end : End) (o : Option (Reply × ℕ)) → HasToldInOrder t version number (ended (record c { drew = drew }) call end o)
  ended_told drew end None = record {
    its_calls = h.its_calls;
    within = h.within;
    drawn = λ e q. absurd (none-some e q);
    here = h.here;
  }
  ended_told drew end (Some r) = record {
    its_calls = entries_more c.entries c.calls (entry_of c call r.0 r.1) h.its_calls is;
    within = let l = slice_get_within c.calls (length c.entries) call is in let m = one_more c.entries (entry_of c call r.0 r.1) in omega (arith, l, m);
    drawn = λ e q. absurd (none-some e q);
    here = h.here;
  }

  module _ (drew : Option Entry) (next : Engine) (draws : (e : Entry) → drew ≡ Some e → current c ≡ Some e.call) where
    going_told : HasToldInOrder t version number (record c { drew = drew; engine = Some next; begun = true })
    going_told = record { its_calls = h.its_calls; within = h.within; drawn = draws; here = h.here }

    gone_on_told : (w : Want) → HasToldInOrder t version number (ended_or_on (record c { drew = drew }) call next w)
    gone_on_told want.Done = ended_told drew (end_of next) (reply_of_end (end_of next))
    gone_on_told (want.Load i) = going_told
    gone_on_told (want.Store i x) = going_told
    gone_on_told (want.Exchange i a b) = going_told
    gone_on_told (want.Flush l) = going_told
    gone_on_told want.Fence = going_told
    gone_on_told want.Draw = going_told
    gone_on_told want.Power = going_told

  pub answered_told : (e : Engine) (ans : Ans) → HasToldInOrder t version number (answered c call e ans)
  answered_told e ans = gone_on_told (drawn_by c call ans) (taken e ans) (drawn_in ans) (wanted (taken e ans))

-- the calls of a caller stay
module _ (c : Caller) (call : Call) where
  ended_calls : (end : End) (o : Option (Reply × ℕ)) → (ended c call end o).calls ≡ c.calls
  ended_calls end None = refl
  ended_calls end (Some r) = refl

  pub gone_on_calls : (e : Engine) (w : Want) → (ended_or_on c call e w).calls ≡ c.calls
  gone_on_calls e want.Done = ended_calls (end_of e) (reply_of_end (end_of e))
  gone_on_calls e (want.Load i) = refl
  gone_on_calls e (want.Store i x) = refl
  gone_on_calls e (want.Exchange i a b) = refl
  gone_on_calls e (want.Flush l) = refl
  gone_on_calls e want.Fence = refl
  gone_on_calls e want.Draw = refl
  gone_on_calls e want.Power = refl

-- ---- all callers
pub set_told : (t : Setup) (version number j : ℕ) (callers : List Caller) (x y : Caller) → slice_get callers j ≡ Some x
    → ((k : ℕ) → HasToldInOrder t version k x → HasToldInOrder t version k y) → AllTold t version number callers → AllTold t version number (slice_set callers j y)
set_told t version number j [] x y is new h = tt
set_told t version number zero (z ∷ callers) x y is new h = (new number (subst (λ w. HasToldInOrder t version number w) (same_Some z x is) h.0), h.1)
set_told t version number (suc j) (z ∷ callers) x y is new h = (h.0, set_told t version (suc number) j callers x y is new h.1)

pub set_calls : (j : ℕ) (callers : List Caller) (x y : Caller) → slice_get callers j ≡ Some x → y.calls ≡ x.calls
    → map (λ (c : Caller). c.calls) (slice_set callers j y) ≡ map (λ (c : Caller). c.calls) callers
set_calls j [] x y is same = refl
set_calls zero (z ∷ callers) x y is same =
    ap (λ (cs : List Call). cs ∷ map (λ (c : Caller). c.calls) callers) (same ∙ ap (λ (c : Caller). c.calls) (sym (same_Some z x is)))
set_calls (suc j) (z ∷ callers) x y is same = ap (λ (css : List (List Call)). z.calls ∷ css) (set_calls j callers x y is same)
