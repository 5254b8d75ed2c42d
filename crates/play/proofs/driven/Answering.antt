-- What a caller makes of the answer to its event, by whether its attempt ended.
use Rattle.std.proofs.Common.{◌≡◌, ℕ, Option, None, Some, List, true, refl, ap, sym, ◌∙◌}
use Rattle.op_core.specs.declared.want.Want.{Want}
use Rattle.op_core.specs.declared.want.Want.TheVariants as want
use Rattle.op_core.specs.declared.want.Ans.{Ans}
use Rattle.image_layout.specs.Places.{Shape}
use Rattle.map_model.specs.declared.call.Call.{Call}
use Rattle.map_model.specs.declared.entry.Reply.{Reply}
use Rattle.map_model.specs.declared.entry.Entry.{Entry}
use Rattle.core_run.specs.Engines.{Caller, End, Engine, wanted, taken, end_of, reply_of_end, drawn_by, ended, ended_or_on, answered}
use Rattle.core_run.specs.State.{end_by}
use Rattle.play.specs.declared.caller.Caller.{Caller as PlayCaller}
use Rattle.play.specs.Callers.{caller_of, taken_to}

-- what an attempt leaves at its end has nothing of its engine, and nothing that the call drew
ended_same : (r : PlayCaller) (drew other : Option Entry) (call : Call) (e : Engine) (told : List Entry) (end : End) (reply : Option (Reply × ℕ))
    → ended (caller_of (taken_to e (record r { drew = drew })) told) call end reply ≡ ended (record (caller_of r told) { drew = other }) call end reply
ended_same r drew other call e told end None = refl
ended_same r drew other call e told end (Some reply) = refl

-- an engine that wants something goes on with its call
on_is : (c : Caller) (call : Call) (e : Engine) (w : Want) → (w ≡ want.Done → ⊥) → record c { engine = Some e; begun = true } ≡ ended_or_on c call e w
on_is c call e (want.Load i) on = refl
on_is c call e (want.Store i x) on = refl
on_is c call e (want.Exchange i x y) on = refl
on_is c call e (want.Flush l) on = refl
on_is c call e want.Fence on = refl
on_is c call e want.Draw on = refl
on_is c call e want.Power on = refl
on_is c call e want.Done on = absurd (on refl)

-- what a caller becomes whose engine has become this one, but for the entry of a call that drew
abbrev pub HasTaken : PlayCaller → Engine → PlayCaller → Type 0
HasTaken r e next = next ≡ record r { engine = Some e; begun = true; drew = next.drew }

pub answered_on : (r next : PlayCaller) (call : Call) (e : Engine) (ans : Ans) (told : List Entry) → HasTaken r (taken e ans) next
    → next.drew ≡ drawn_by (caller_of r told) call ans → (wanted (taken e ans) ≡ want.Done → ⊥) → caller_of next told ≡ answered (caller_of r told) call e ans
answered_on r next call e ans told is drew on =
    ap (λ (q : PlayCaller). caller_of q told) is
    ∙ ap (λ (d : Option Entry). caller_of (record r { engine = Some (taken e ans); begun = true; drew = d }) told) drew
    ∙ on_is (record (caller_of r told) { drew = drawn_by (caller_of r told) call ans }) call (taken e ans) (wanted (taken e ans)) on

pub answered_ended : (r next : PlayCaller) (call : Call) (e : Engine) (ans : Ans) (told : List Entry) (after : Caller) → HasTaken r (taken e ans) next
    → wanted (taken e ans) ≡ want.Done → after ≡ ended (caller_of next told) call (end_of (taken e ans)) (reply_of_end (end_of (taken e ans)))
    → after ≡ answered (caller_of r told) call e ans
answered_ended r next call e ans told after is done leaves =
    let f : Engine = taken e ans in
    leaves ∙ ap (λ (q : PlayCaller). ended (caller_of q told) call (end_of f) (reply_of_end (end_of f))) is
    ∙ ended_same r next.drew (drawn_by (caller_of r told) call ans) call f told (end_of f) (reply_of_end (end_of f))
    ∙ ap (λ (w : Want). ended_or_on (record (caller_of r told) { drew = drawn_by (caller_of r told) call ans }) call f w) (sym done)

-- an engine that wants something has not ended its attempt
pub goes_on : (shape : Shape) (e : Engine) (w : Want) → (w ≡ want.Done → ⊥) → None ≡ end_by shape e w
goes_on shape e (want.Load i) on = refl
goes_on shape e (want.Store i x) on = refl
goes_on shape e (want.Exchange i x y) on = refl
goes_on shape e (want.Flush l) on = refl
goes_on shape e want.Fence on = refl
goes_on shape e want.Draw on = refl
goes_on shape e want.Power on = refl
goes_on shape e want.Done on = absurd (on refl)
