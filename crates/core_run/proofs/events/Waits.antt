-- How many lines a caller waits for, event by event.
use Rattle.std.proofs.Common.{◌≡◌, ◌≢◌, ℕ, zero, suc, ◌+◌, ◌<◌, ◌≤◌, Bool, true, false, cond, eqb, List, [], ◌∷◌, length, slice_get, slice_set, Option, None, Some, refl, sym, ap, ◌∙◌, subst, arith}
use Rattle.std.proofs.lemmas.Bool.{ne_eqb, eq-eqb}
use Rattle.std.proofs.lemmas.Option.{none-some, same_Some}
use Rattle.std.proofs.lemmas.List.{nil_from_length}
use Rattle.op_core.specs.declared.want.Want.{Want}
use Rattle.op_core.specs.declared.want.Want.TheVariants as want
use Rattle.op_core.specs.declared.want.Ans.{Ans}
use Rattle.op_core.specs.declared.want.Ans.TheVariants.{Won, Lost}
use Rattle.op_core.specs.Answers.{IsAnswer}
use Rattle.trace.specs.Events.{Trace}
use Rattle.trace.specs.Events.Event.{loaded, exchanged}
use Rattle.trace.specs.Progress.{pending}
use Rattle.image_layout.specs.Places.{Shape}
use Rattle.map_model.specs.declared.call.Call.{Call}
use Rattle.map_model.specs.declared.entry.Reply.{Reply}
use Rattle.world.specs.declared.site.Site.{Site}
use Rattle.world.specs.Wants.{answer_to, event_of}
use Rattle.world.proofs.stepping.Answers.{is_answer}
use Rattle.engine.specs.declared.engine.End.{End}
use Rattle.engine.specs.declared.engine.Engine.{Engine}
use Rattle.engine.specs.Engine.{wanted, taken, end_of, reply_of_end}
use Rattle.engine.specs.Left.{waiting}
use Rattle.engine.specs.Core.{Caller, call_at, engine_for, ended, ended_or_on}
use Rattle.core_run.specs.Running.{WaitsFor, FewWait}

-- an event of another caller
pub pending_other : (shape : Shape) (w : Want) (n c d : ℕ) (es : Trace) → c ≢ d → pending d (event_of shape w n c ∷ es) ≡ pending d es
pending_other shape (want.Load i) n c d es other = refl
pending_other shape (want.Store i x) n c d es other = refl
pending_other shape (want.Exchange i a b) n c d es other = by (eqb n a)
  where
    by : (t : Bool) → pending d (cond t (exchanged c i b) (loaded c i) ∷ es) ≡ pending d es
    by true = refl
    by false = refl
pending_other shape (want.Flush l) n c d es other = ap (λ b. cond b ((l, length es) ∷ pending d es) (pending d es)) (ne_eqb c d other)
pending_other shape want.Fence n c d es other = ap (λ b. cond b [] (pending d es)) (ne_eqb c d other)
pending_other shape want.Draw n c d es other = refl
pending_other shape want.Power n c d es other = refl
pending_other shape want.Done n c d es other = refl

other_waits : (shape : Shape) (w : Want) (n c d : ℕ) (es : Trace) (o : Option Engine) → c ≢ d → WaitsFor es d o → WaitsFor (event_of shape w n c ∷ es) d o
other_waits shape w n c d es None other h = pending_other shape w n c d es other ∙ h
other_waits shape w n c d es (Some e) other h = subst (λ (ps : List (ℕ × ℕ)). length ps ≤ waiting e) (sym (pending_other shape w n c d es other)) h

-- what is known of the lines that an engine waits for
pub record EnginesWait : Type 0 where
  pub most : (e : Engine) → waiting e ≤ 8
  pub flushes : (e : Engine) (ans : Ans) (l : ℕ) → IsAnswer (wanted e) ans → wanted e ≡ want.Flush l → waiting e + 1 ≤ waiting (taken e ans)
  pub keeps : (e : Engine) (ans : Ans) → IsAnswer (wanted e) ans → wanted e ≢ want.Fence → waiting e ≤ waiting (taken e ans)
  pub ends : (e : Engine) → wanted e ≡ want.Done → waiting e ≡ 0

module _ (laws : EnginesWait) where
  module _ (shape : Shape) (e : Engine) (n c : ℕ) (es : Trace) (few : length (pending c es) ≤ waiting e) where
    abbrev IsFew : Want → Type 0
    IsFew w = length (pending c (event_of shape w n c ∷ es)) ≤ waiting (taken e (answer_to w n))

    no_less : (w : Want) → wanted e ≡ w → w ≢ want.Done → w ≢ want.Fence → length (pending c es) ≤ waiting (taken e (answer_to w n))
    no_less w is some other =
        let l = laws.keeps e (answer_to w n) (subst (λ v. IsAnswer v (answer_to w n)) (sym is) (is_answer w n some)) (λ q. other (sym is ∙ q)) in
        omega (arith, l, few)

    pub own_by : (w : Want) → wanted e ≡ w → w ≢ want.Done → IsFew w
    own_by (want.Load i) is some = no_less (want.Load i) is some (λ q. cc)
    own_by (want.Store i x) is some = no_less (want.Store i x) is some (λ q. cc)
    own_by (want.Exchange i a b) is some = by (eqb n a) (no_less (want.Exchange i a b) is some (λ q. cc))
      where
        by : (t : Bool) → length (pending c es) ≤ waiting (taken e (cond t Won (Lost n)))
            → length (pending c (cond t (exchanged c i b) (loaded c i) ∷ es)) ≤ waiting (taken e (cond t Won (Lost n)))
        by true l = l
        by false l = l
    own_by (want.Flush l) is some =
        let more = laws.flushes e (answer_to (want.Flush l) n) l (subst (λ v. IsAnswer v (answer_to (want.Flush l) n)) (sym is) (is_answer (want.Flush l) n some)) is in
        subst (λ b. length (cond b ((l, length es) ∷ pending c es) (pending c es)) ≤ waiting (taken e (answer_to (want.Flush l) n))) (sym (eq-eqb c c refl)) (omega (arith, more, few))
    own_by want.Fence is some = subst (λ b. length (cond b [] (pending c es)) ≤ waiting (taken e (answer_to want.Fence n))) (sym (eq-eqb c c refl)) (omega arith)
    own_by want.Draw is some = no_less want.Draw is some (λ q. cc)
    own_by want.Power is some = no_less want.Power is some (λ q. cc)
    own_by want.Done is some = absurd (some refl)

    -- before a flush there are fewer than eight
    pub few_flushed : (l : ℕ) → wanted e ≡ want.Flush l → length (pending c es) < 8
    few_flushed l is =
        let more = laws.flushes e (answer_to (want.Flush l) n) l (subst (λ v. IsAnswer v (answer_to (want.Flush l) n)) (sym is) (is_answer (want.Flush l) n (λ q. cc))) is in
        let most = laws.most (taken e (answer_to (want.Flush l) n)) in
        omega (arith, few, more, most)

  -- where nothing waits, a caller may begin a call, or be through
  pub none_waits : (es : Trace) (c : ℕ) (site : Site) (o : Option Call) → length (pending c es) ≡ 0 → WaitsFor es c (engine_for site o)
  none_waits es c site None none = nil_from_length (pending c es) none
  none_waits es c site (Some call) none = omega (arith, none)

  ended_waits : (es : Trace) (c : ℕ) (caller : Caller) (call : Call) (end : End) (o : Option (Reply × ℕ)) → length (pending c es) ≡ 0
      → WaitsFor es c (ended caller call end o).engine
  ended_waits es c caller call end None none = omega (arith, none)
  ended_waits es c caller call end (Some r) none = none_waits es c caller.site (call_at caller (suc (length caller.entries))) none

  pub gone_on_waits : (es : Trace) (c : ℕ) (caller : Caller) (call : Call) (e : Engine) (w : Want) → wanted e ≡ w → length (pending c es) ≤ waiting e
      → WaitsFor es c (ended_or_on caller call e w).engine
  gone_on_waits es c caller call e want.Done is few = ended_waits es c caller call (end_of e) (reply_of_end (end_of e)) (let l = laws.ends e is in omega (arith, l, few))
  gone_on_waits es c caller call e (want.Load i) is few = few
  gone_on_waits es c caller call e (want.Store i x) is few = few
  gone_on_waits es c caller call e (want.Exchange i a b) is few = few
  gone_on_waits es c caller call e (want.Flush l) is few = few
  gone_on_waits es c caller call e want.Fence is few = few
  gone_on_waits es c caller call e want.Draw is few = few
  gone_on_waits es c caller call e want.Power is few = few

-- ---- all callers
module _ (shape : Shape) (w : Want) (n c : ℕ) (es : Trace) where
  others_wait : (number : ℕ) (callers : List Caller) → c < number → FewWait es number callers → FewWait (event_of shape w n c ∷ es) number callers
  others_wait number [] past h = tt
  others_wait number (x ∷ callers) past h =
      (other_waits shape w n c number es x.engine (λ q. omega (arith, q, past)) h.0, others_wait (suc number) callers (omega (arith, past)) h.1)

  pub set_waits : (number j : ℕ) (callers : List Caller) (y : Caller) → number + j ≡ c → WaitsFor (event_of shape w n c ∷ es) c y.engine
      → FewWait es number callers → FewWait (event_of shape w n c ∷ es) number (slice_set callers j y)
  set_waits number j [] y at new h = tt
  set_waits number zero (x ∷ callers) y at new h =
      (subst (λ k. WaitsFor (event_of shape w n c ∷ es) k y.engine) (omega (arith, at)) new, others_wait (suc number) callers (omega (arith, at)) h.1)
  set_waits number (suc j) (x ∷ callers) y at new h =
      (other_waits shape w n c number es x.engine (λ q. omega (arith, q, at)) h.0, set_waits (suc number) j callers y (omega (arith, at)) new h.1)

pub waits_at : (es : Trace) (number j : ℕ) (callers : List Caller) (x : Caller) → slice_get callers j ≡ Some x → FewWait es number callers → WaitsFor es (number + j) x.engine
waits_at es number j [] x is h = absurd (none-some x is)
waits_at es number zero (y ∷ callers) x is h =
    subst (λ k. WaitsFor es k x.engine) (omega arith) (subst (λ (z : Caller). WaitsFor es number z.engine) (same_Some y x is) h.0)
waits_at es number (suc j) (y ∷ callers) x is h = subst (λ k. WaitsFor es k x.engine) (omega arith) (waits_at es (suc number) j callers x is h.1)
