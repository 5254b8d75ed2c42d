-- The callers do the first of their calls, in their order.
use Rattle.std.proofs.Common.{◌≡◌, ℕ, zero, suc, ◌≤◌, Bool, true, false, List, [], ◌∷◌, ◌++◌, length, map, take, slice_get, slice_set, Option, None, Some, refl, sym, ap, ◌∙◌, arith}
use Rattle.std.specs.List.{AllZip}
use Rattle.std.proofs.lemmas.Option.{none-some, same_Some, slice_get_within}
use Rattle.op_core.specs.declared.want.Want.{Want}
use Rattle.op_core.specs.declared.want.Want.TheVariants as want
use Rattle.map_model.specs.declared.call.Call.{Call}
use Rattle.map_model.specs.declared.entry.Reply.{Reply}
use Rattle.map_model.specs.declared.entry.Entry.{Entry}
use Rattle.session.specs.Callers.{FollowsScript}
use Rattle.world.specs.Ground.{Ground}
use Rattle.world.specs.Views.{View}
use Rattle.engine.specs.declared.engine.Engine.{Engine}
use Rattle.engine.specs.declared.engine.End.{End}
use Rattle.engine.specs.Engine.{end_of, reply_of_end}
use Rattle.engine.specs.Core.{Caller, open_of, told_of, ended, ended_or_on}
use Rattle.engine.specs.Holding.{DoesCall, CallerFits}
use Rattle.engine.proofs.Places.{one_more}

-- ---- one reply more
map_more : (es : List Entry) (e : Entry) → map (λ (e : Entry). e.call) (es ++ e ∷ []) ≡ map (λ (e : Entry). e.call) es ++ e.call ∷ []
map_more [] e = refl
map_more (x ∷ es) e = ap (λ (cs : List Call). x.call ∷ cs) (map_more es e)

take_more : (calls : List Call) (n : ℕ) (call : Call) → slice_get calls n ≡ Some call → take (suc n) calls ≡ take n calls ++ call ∷ []
take_more [] n call is = absurd (none-some call is)
take_more (x ∷ calls) zero call is = ap (λ (c : Call). c ∷ []) (same_Some x call is)
take_more (x ∷ calls) (suc n) call is = ap (λ (cs : List Call). x ∷ cs) (take_more calls n call is)

pub replied_more : (es : List Entry) (calls : List Call) (e : Entry) (call : Call) → map (λ (e : Entry). e.call) es ≡ take (length es) calls → e.call ≡ call
    → slice_get calls (length es) ≡ Some call → map (λ (e : Entry). e.call) (es ++ e ∷ []) ≡ take (length (es ++ e ∷ [])) calls
replied_more es calls e call replied of_call is =
    map_more es e ∙ (ap (λ (cs : List Call). cs ++ e.call ∷ []) replied ∙ (ap (λ (c : Call). take (length es) calls ++ c ∷ []) of_call
    ∙ (sym (take_more calls (length es) call is) ∙ ap (λ n. take n calls) (sym (one_more es e)))))

pub within_more : (es : List Entry) (calls : List Call) (e : Entry) (call : Call) → slice_get calls (length es) ≡ Some call → length (es ++ e ∷ []) ≤ length calls
within_more es calls e call is = let a = one_more es e in let b = slice_get_within calls (length es) call is in omega (arith, a, b)

-- ---- the calls stay
ended_calls : (c : Caller) (call : Call) (end : End) (o : Option (Reply × ℕ)) → (ended c call end o).calls ≡ c.calls
ended_calls c call end None = refl
ended_calls c call end (Some r) = refl

pub gone_on_calls : (c : Caller) (call : Call) (e : Engine) (w : Want) → (ended_or_on c call e w).calls ≡ c.calls
gone_on_calls c call e want.Done = ended_calls c call (end_of e) (reply_of_end (end_of e))
gone_on_calls c call e w = refl

pub calls_set : (callers : List Caller) (j : ℕ) (c after : Caller) → slice_get callers j ≡ Some c → after.calls ≡ c.calls
    → map (λ (c : Caller). c.calls) (slice_set callers j after) ≡ map (λ (c : Caller). c.calls) callers
calls_set [] j c after is same = refl
calls_set (x ∷ callers) zero c after is same = ap (λ (cs : List Call). cs ∷ map (λ (c : Caller). c.calls) callers) (same ∙ ap (λ (z : Caller). z.calls) (sym (same_Some x c is)))
calls_set (x ∷ callers) (suc j) c after is same = ap (λ (css : List (List Call)). x.calls ∷ css) (calls_set callers j c after is same)

-- ---- each caller follows its script
follows_open : (entries : List Entry) (calls : List Call) (begun : Bool) (drew : Option Entry) (call : Call) → map (λ (e : Entry). e.call) entries ≡ take (length entries) calls
    → slice_get calls (length entries) ≡ Some call → ((e : Entry) → drew ≡ Some e → e.call ≡ call) → FollowsScript calls (record { entries = entries; left_open = open_of begun drew })
follows_open entries calls false drew call replied is drew_call = record {
  its_calls = replied;
  within = (let w = slice_get_within calls (length entries) call is in omega (arith, w));
}
follows_open entries calls true None call replied is drew_call = record {
  its_calls = replied;
  within = (let w = slice_get_within calls (length entries) call is in omega (arith, w));
}
follows_open entries calls true (Some e) call replied is drew_call = record {
  its_calls = replied_more entries calls e call replied (drew_call e refl) is;
  within = (let w = slice_get_within calls (length entries) call is in omega (arith, w));
}

follows_idle : (entries : List Entry) (calls : List Call) (begun : Bool) (drew : Option Entry) → map (λ (e : Entry). e.call) entries ≡ take (length entries) calls
    → length entries ≤ length calls → begun ≡ false → FollowsScript calls (record { entries = entries; left_open = open_of begun drew })
follows_idle entries calls false drew replied within idle = record { its_calls = replied; within = omega (arith, within) }
follows_idle entries calls true drew replied within idle = absurd (let q = idle in cc)

follows : (site : Ground) (c : Caller) (v : View) → CallerFits site c v → FollowsScript c.calls (told_of c)
follows site c v fits = by c.engine fits.does
  where
    by : (engine : Option Engine) → DoesCall site c engine v → FollowsScript c.calls (told_of c)
    by None d = follows_idle c.entries c.calls c.begun c.drew fits.replied fits.within d.begun
    by (Some e) d = follows_open c.entries c.calls c.begun c.drew d.call fits.replied d.is_current d.drew_call

pub all_follow : (site : Ground) (callers : List Caller) (views : List View) → AllZip (CallerFits site) callers views
    → AllZip FollowsScript (map (λ (c : Caller). c.calls) callers) (map told_of callers)
all_follow site [] views all = tt
all_follow site (c ∷ callers) [] all = absurd all
all_follow site (c ∷ callers) (v ∷ views) all = (follows site c v all.0, all_follow site callers views all.1)
