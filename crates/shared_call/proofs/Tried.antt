-- What a try of a call tells, by what its attempt came to.
use Rattle.std.proofs.Common.{◌≡◌, ◌≢◌, inl, inr, ◌⊎◌, ℕ, ◌<◌, Option, None, Some, List, [], ◌++◌, length, refl, sym, ap, ◌∙◌, subst, arith, length-append}
use Rattle.std.proofs.lemmas.Option.{none-some, same_Some}
use Rattle.op_core.specs.declared.want.Want.{Want}
use Rattle.op_core.specs.declared.want.Want.TheVariants.{Done}
use Rattle.map_model.specs.declared.call.Call.{Call}
use Rattle.world.specs.declared.site.Site.{Site}
use Rattle.world.specs.Ground.{Ground, IsGround, version_of}
use Rattle.world.specs.Wants.{answer_to}
use Rattle.world.specs.Attempts.{HoldsOnly, HasNoMore, EntersReply}
use Rattle.world.proofs.stepping.Answers.{is_answer}
use Rattle.part.specs.Outcomes.{Outcome, replied, again, stale, need_split, off, finished, reply_of}
use Rattle.engine.specs.declared.engine.Engine.{Engine}
use Rattle.engine.specs.declared.engine.End.{End}
use Rattle.engine.specs.Engine.{begun, wanted, taken, end_of, outcome_of_end, reply_of_end, anew}
use Rattle.engine.specs.Left.{most_of_attempt, left}
use Rattle.engine.specs.Fits.{IsWordCall, HasNumber}
use Rattle.engine.specs.OpPart.{Work, calls, work_of, op_part}
use Rattle.engine.proofs.machines.Ops.{never_hands_on}
use Rattle.engine.proofs.attempts.Stepping.{op_decided}
use Rattle.vlock.specs.declared.knows.Watch.{Watch}
use Rattle.shared_call.specs.declared.going.Stop.TheVariants as stop
use Rattle.shared_call.specs.declared.tries.Answer.{Answer}
use Rattle.shared_call.specs.declared.tries.Answer.TheVariants as answers
use Rattle.shared_call.specs.Laws.{TurnLaws, AttemptLaws}
use Rattle.shared_call.specs.Attempts.{IsGoing, IsPlaced, IsOver}
use Rattle.shared_call.specs.Gated.{HasNoneLeft, HasGoneOn}
use Rattle.shared_call.specs.Tries.{answer_for, IsTrying, IsReady, IsAnswered, Tells, HasTried}
use Rattle.shared_call.proofs.Anew.{begun_suits}
use Rattle.shared_call.proofs.Attempted.{fewer, begins, over, call_begins}

-- an outcome that is told as off says so
off_only : (o : Option Outcome) → answer_for o ≡ answers.Off → (outcome : Outcome) → o ≡ Some outcome → o ≡ Some off
off_only None is outcome some = absurd (none-some outcome some)
off_only (Some (replied reply place)) is outcome some = cc
off_only (Some (again why)) is outcome some = cc
off_only (Some (stale segment byte)) is outcome some = cc
off_only (Some (need_split segment)) is outcome some = cc
off_only (Some off) is outcome some = refl
off_only (Some finished) is outcome some = cc

-- an end is never told as an attempt that is left
never_left : (o : Option Outcome) → answer_for o ≡ answers.Left → ⊥
never_left None is = cc
never_left (Some (replied reply place)) is = cc
never_left (Some (again why)) is = cc
never_left (Some (stale segment byte)) is = cc
never_left (Some (need_split segment)) is = cc
never_left (Some off) is = cc
never_left (Some finished) is = cc

module _ (laws : AttemptLaws) (site : Ground) (here : Site) (call : Call) (ground : IsGround site) (shape : here.geometry ≡ site.shape) (version : here.version ≡ version_of site)
    (small : IsWordCall call) where
  module _ (work : Work) (start : Engine) (first : Watch) (e : Engine) (q : Watch) (end : End) (asks : wanted start ≢ Done) (g : IsGoing site here call work start first e q) (done : wanted e ≡ Done)
      (is : end ≡ end_of e) where
    ended : IsOver site here call work start first end q
    ended = over site here call work laws start first q e end ground shape version small asks g done is

    -- where the power was not found off, the attempt is over
    answered : (outcome : Outcome) → outcome_of_end end ≡ Some outcome → outcome ≢ off → IsAnswered site here call work start first (answer_for (Some outcome)) (anew here call end) q
    answered outcome told on = record {
      end = end;
      over = ended;
      told = ap answer_for (sym told);
      nothing = ended.nothing (λ o. on (same_Some outcome off (sym told ∙ o)));
      next_is = refl;
    }

    -- and where there was no reply the next one is under way
    going_on : (outcome : Outcome) → outcome_of_end end ≡ Some outcome → outcome ≢ off → reply_of (Some outcome) ≡ None
        → IsAnswered site here call work start first (answer_for (Some outcome)) (anew here call end) q × HasNoMore first.view q.view × (HasNumber here → IsReady site here call (anew here call end) q)
    going_on outcome told on none =
        let no_reply : reply_of_end end ≡ None = ap reply_of told ∙ none in (
          answered outcome told on,
          subst (λ o. EntersReply call o first.view q.view) no_reply ended.enters,
          λ number.
              let suits = ended.anew no_reply (λ o. on (same_Some outcome off (sym told ∙ (ended.told ∙ ap Some o)))) number in
              record {
                going = begins site here call (work_of (anew here call end).op) laws (anew here call end) q (anew here call end) ended.fresh suits refl refl;
                asks = suits.asks;
              },
        )

    told_by : (o : Option Outcome) → outcome_of_end end ≡ o → Tells site here call work start first (answer_for o) (anew here call end) q
    told_by None told = absurd (none-some _ (sym told ∙ ended.told))
    told_by (Some (replied reply place)) told = (
      answered (replied reply place) told (λ same. cc),
      subst (λ o. EntersReply call (reply_of o) first.view q.view) told ended.enters,
      subst (λ o. IsPlaced (reply_of o) first.view.seen) told ended.placed,
    )
    told_by (Some (again why)) told = going_on (again why) told (λ same. cc) refl
    told_by (Some (stale segment byte)) told = going_on (stale segment byte) told (λ same. cc) refl
    told_by (Some (need_split segment)) told = going_on (need_split segment) told (λ same. cc) refl
    told_by (Some off) told = (e, g)
    told_by (Some finished) told = going_on finished told (λ same. cc) refl

  module _ (most : ℕ) (e : Engine) (p : Watch) (left : Option (Option ℕ)) (mid : Engine) (q : Watch) (now : Option (Option ℕ)) (cuts : ℕ) where
    tried_as : (stop_at : _) (answer : Answer) (next : Engine) (gone : HasGoneOn site most e p left stop_at mid q now cuts) → (answer ≡ answers.Left → length gone.taking.events ≡ most)
        → (answer ≡ answers.Off → (HasNoneLeft left now × (0 < cuts)) ⊎ (op_part.outcome mid.op ≡ Some off)) → (answer ≢ answers.Off → 0 < length gone.taking.events → cuts ≡ 0)
        → ((work : Work) (start : Engine) (first : Watch) → wanted start ≢ Done → IsGoing site here call work start first mid q → Tells site here call work start first answer next q)
        → HasTried site here call most e p left answer next q now cuts
    tried_as stop_at answer next gone all off_by uncut tells = record {
      events = gone.taking.events;
      took = gone.taking.took;
      asked = gone.taking.asked;
      few = gone.few;
      all = all;
      past = gone.taking.past;
      later = gone.taking.later;
      callers = gone.taking.callers;
      lowered = gone.taking.lowered;
      idle = gone.taking.idle;
      off_by = λ is. subst (λ (x : Engine). (HasNoneLeft left now × (0 < cuts)) ⊎ (op_part.outcome x.op ≡ Some off)) gone.taking.engine (off_by is);
      uncut = uncut;
      going = λ work start first g. subst (λ (x : Engine). IsGoing site here call work start first x q) gone.taking.engine (gone.taking.going here call work start first g);
      tells = λ work start first asks g. tells work start first asks (gone.taking.going here call work start first g);
    }

    pub tried_left : HasGoneOn site most e p left stop.Left mid q now cuts → HasTried site here call most e p left answers.Left mid q now cuts
    tried_left gone = tried_as stop.Left answers.Left mid gone (λ _. gone.stops.1) (λ is. cc) (λ _. gone.stops.2) (λ work start first asks g. (g, gone.stops.0))

    pub tried_off : HasGoneOn site most e p left stop.Cut mid q now cuts → HasTried site here call most e p left answers.Off mid q now cuts
    tried_off gone = tried_as stop.Cut answers.Off mid gone (λ is. cc) (λ _. inl (gone.stops.1, gone.stops.2)) (λ on. absurd (on refl)) (λ work start first asks g. (mid, g))

    -- an end tells that the power is off where the engine found it so
    found_off : IsTrying site here call e p → (end : End) → HasGoneOn site most e p left stop.Over mid q now cuts → end ≡ end_of mid → answer_for (outcome_of_end end) ≡ answers.Off
        → op_part.outcome mid.op ≡ Some off
    found_off t end gone is off_told =
        let g = gone.taking.going here call t.work t.start t.first t.going in
        let same : op_part.outcome mid.op ≡ outcome_of_end end = laws.machines.says site here call mid q.view g.suits.stands gone.stops.0 ∙ ap outcome_of_end (sym is) in
        let d = op_decided laws.machines.causes site here call mid.op q.view g.suits.stands gone.stops.0 (never_hands_on mid.op) in
        same ∙ off_only (outcome_of_end end) off_told d.0 (sym same ∙ d.1)

    pub tried_over : IsTrying site here call e p → (end : End) (answer : Answer) (next : Engine) → HasGoneOn site most e p left stop.Over mid q now cuts → end ≡ end_of mid → next ≡ anew here call end
        → answer ≡ answer_for (outcome_of_end end) → HasTried site here call most e p left answer next q now cuts
    tried_over t end answer next gone is anew_is told =
        tried_as stop.Over answer next gone (λ left_is. absurd (never_left (outcome_of_end end) (sym told ∙ left_is))) (λ off_told. inr (found_off t end gone is (sym told ∙ off_told)))
        (λ _. gone.stops.1) (λ work start first asks g.
        subst (λ (x : Answer). Tells site here call work start first x next q) (sym told)
        (subst (λ (x : Engine). Tells site here call work start first (answer_for (outcome_of_end end)) x q) (sym anew_is)
        (told_by work start first mid q end asks g gone.stops.0 is (outcome_of_end end) refl)))

-- ---- the first try of a call
-- as many events more as in another list in front of the same one
same_count : (xs ys zs : List (Want × ℕ)) → xs ++ zs ≡ ys ++ zs → length xs ≡ length ys
same_count xs ys zs e =
    let n = ap length e in
    let a = length-append xs zs in
    let b = length-append ys zs in omega (arith, n, a, b)

-- while an event is wanted of a call itself, one is left
some_left : TurnLaws → AttemptLaws → (e : Engine) → work_of e.op ≡ calls → wanted e ≢ Done → 0 < left e
some_left turns laws e own asks =
    let f = fewer e (taken e (answer_to (wanted e) 0)) (answer_to (wanted e) 0) (laws.waits e own) (turns.falls e (answer_to (wanted e) 0) (is_answer (wanted e) 0 asks)) in omega (arith, f)

module _ (turns : TurnLaws) (laws : AttemptLaws) (site : Ground) (here : Site) (call : Call) (ground : IsGround site) (shape : here.geometry ≡ site.shape) (version : here.version ≡ version_of site)
    (small : IsWordCall call) (p : Watch) (bare : HoldsOnly [] p.view) (some : 0 < p.view.callers) where
  pub first_trying : (e : Engine) → e ≡ begun here call → IsTrying site here call e p
  first_trying e now = record {
    work = calls;
    start = begun here call;
    first = p;
    going = call_begins laws site here call ground shape version small p bare some e now;
    asks = (begun_suits laws site here call p.view ground shape version small bare some).asks;
  }

  pub first_tells : (e : Engine) (gate_left : Option (Option ℕ)) (answer : Answer) (next : Engine) (q : Watch) (now : Option (Option ℕ)) (cuts : ℕ) → e ≡ begun here call
      → HasTried site here call most_of_attempt e p gate_left answer next q now cuts → Tells site here call calls (begun here call) p answer next q
  first_tells e gate_left answer next q now cuts is tried =
      let asks : wanted (begun here call) ≢ Done = (begun_suits laws site here call p.view ground shape version small bare some).asks in
      tried.tells calls (begun here call) p asks (call_begins laws site here call ground shape version small p bare some e is)

  pub first_over : (e : Engine) (gate_left : Option (Option ℕ)) (answer : Answer) (next : Engine) (q : Watch) (now : Option (Option ℕ)) (cuts : ℕ) → e ≡ begun here call
      → HasTried site here call most_of_attempt e p gate_left answer next q now cuts → answer ≢ answers.Left
  first_over e gate_left answer next q now cuts is tried left_is =
      let told = first_tells e gate_left answer next q now cuts is tried in
      let g = subst (λ (x : Answer). Tells site here call calls (begun here call) p x next q) left_is told in
      let same = same_count g.0.events tried.events p.took (sym g.0.took ∙ tried.took) in
      let all = tried.all left_is in
      let few = g.0.few refl in
      let most = laws.few here call in
      let more = some_left turns laws next g.0.work_is g.1 in omega (arith, same, all, few, most, more)
