-- An attempt of a call, event by event, and its end.
use Rattle.std.proofs.Common.{◌≡◌, ◌≢◌, inl, inr, ◌⊎◌, ℕ, ◌<◌, ◌≤◌, true, false, Option, None, Some, List, [], ◌∷◌, length, refl, sym, ap, ◌∙◌, subst, arith}
use Rattle.std.proofs.lemmas.Option.{none-some, same_Some}
use Rattle.std.proofs.lemmas.List.{append_cancel_left}
use Rattle.op_core.specs.declared.want.Want.{Want}
use Rattle.op_core.specs.declared.want.Want.TheVariants.{Done}
use Rattle.map_model.specs.declared.call.Call.{Call}
use Rattle.map_model.specs.declared.call.Call.TheVariants.{Get, Insert, Update, Remove}
use Rattle.map_model.specs.declared.entry.Entry.{Entry}
use Rattle.map_model.specs.declared.entry.Reply.{Reply}
use Rattle.map_model.specs.Map.{is_done}
use Rattle.world.specs.declared.site.Site.{Site}
use Rattle.world.specs.Ground.{Ground, IsGround, version_of}
use Rattle.world.specs.Views.{View, Has}
use Rattle.world.specs.Wants.{answer_to}
use Rattle.world.specs.Kinds.{next_entry}
use Rattle.world.specs.Attempts.{HoldsOnly, EntersReply}
use Rattle.world.specs.Later.{IsLater}
use Rattle.world.proofs.stepping.Later.{later_itself, later_joined}
use Rattle.part.specs.Doings.{nothing_done}
use Rattle.part.specs.Outcomes.{Outcome, off, reply_of}
use Rattle.part.specs.Part.{IsWait, Suits as SuitsPart}
use Rattle.engine.specs.declared.engine.Engine.{Engine}
use Rattle.engine.specs.declared.engine.End.{End}
use Rattle.engine.specs.Engine.{begun, repairing, wanted, taken, end_of, outcome_of_end, reply_of_end, IsFresh, anew}
use Rattle.engine.specs.Left.{most_of_get, left}
use Rattle.engine.specs.OpPart.{Work, calls, work_of, op_part}
use Rattle.engine.specs.Fits.{IsWordCall, HasNumber}
use Rattle.engine.proofs.machines.Ops.{never_hands_on}
use Rattle.engine.proofs.machines.Begins.{begins_undecided}
use Rattle.engine.proofs.attempts.Stepping.{op_decided}
use Rattle.engine.proofs.attempts.Doing.{anew_fresh}
use Rattle.vlock.specs.declared.knows.Watch.{Watch}
use Rattle.shared_call.specs.Laws.{AttemptLaws}
use Rattle.shared_call.specs.Headway.{no_headway, headway_after}
use Rattle.shared_call.specs.Suited.{Suits, IsRunning, HasCauseOf}
use Rattle.shared_call.specs.Turns.{Leaves, Turns}
use Rattle.shared_call.specs.Tries.{BeginsRepairing}
use Rattle.shared_call.specs.Attempts.{after_events, doings_of, IsDecided, IsGoing, IsPlaced, IsOver, IsAttempted, BeginsGoing, EndsOver}
use Rattle.shared_call.proofs.Deciding.{next_work}
use Rattle.shared_call.proofs.Anew.{begun_suits, anew_suits, repair_suits}

-- the machine of a call that has done nothing is one of the call itself
pub begun_works : (here : Site) (call : Call) → work_of (begun here call).op ≡ calls
begun_works here (Get key) = refl
begun_works here (Insert key value) = refl
begun_works here (Update key value) = refl
begun_works here (Remove key) = refl

-- a reply that was entered is among those that came since
pub placed : (call : Call) (v w : View) (o : Option (Reply × ℕ)) → IsLater v w → EntersReply call o v w → IsPlaced o v.seen
placed call v w None l e = tt
placed call v w (Some r) l e =
    let entry : Entry = next_entry v call r.0 r.1 (is_done r.0) in
    let same : entry ∷ [] ≡ l.rest = append_cancel_left v.own (entry ∷ []) l.rest (sym e.own ∙ l.own) in
    l.places entry (subst (λ (es : List Entry). Has entry es) same (inl refl))

-- fewer events are left where the engine does not wait
pub fewer : (e next : Engine) (ans : _) → op_part.is_waiting e.op ≡ false → (left next < left e) ⊎ IsWait op_part e.op ans → left next < left e
fewer e next ans goes (inl less) = less
fewer e next ans goes (inr wait) = absurd (let b : true ≡ false = sym wait.0 ∙ goes in cc)

module _ (site : Ground) (here : Site) (call : Call) (work : Work) where
  -- what was decided by events is decided by these and one more
  decided_before : (first : View) (events : List (Want × ℕ)) (x : Want × ℕ) (outcome : Outcome) → IsDecided site here call work first events outcome
      → IsDecided site here call work first (x ∷ events) outcome
  decided_before first events x outcome d = record {
    behind = x ∷ d.behind;
    event = d.event;
    found = d.found;
    before = d.before;
    among = ap (λ (es : List (Want × ℕ)). x ∷ es) d.among;
    view = d.view;
    since = d.since;
    moment = d.moment;
    value = d.value;
    cause = d.cause;
    not_own = d.not_own;
  }

  -- and what the newest one decides
  pub decided_on : (first : View) (events : List (Want × ℕ)) (e next : Engine) (v w : View) (found : ℕ) (o : Option Outcome) → op_part.outcome e.op ≡ o → work_of e.op ≡ work → IsLater first v
      → ((outcome : Outcome) → op_part.outcome e.op ≡ Some outcome → IsDecided site here call work first events outcome) → Leaves site here call e (doings_of events) first v found next w
      → (outcome : Outcome) → op_part.outcome next.op ≡ Some outcome → IsDecided site here call work first ((wanted e, found) ∷ events) outcome
  decided_on first events e next v w found None is own since was l outcome now =
      let c = l.caused outcome is now in
      record {
        behind = [];
        event = wanted e;
        found = found;
        before = events;
        among = refl;
        view = v;
        since = since;
        moment = c.moment;
        value = c.value;
        cause = subst (λ (x : Work). HasCauseOf x site c.moment.words (doings_of events) call (wanted e) here outcome) own c.cause;
        not_own = λ word value told. l.not_own word value is (now ∙ ap Some told);
      }
  decided_on first events e next v w found (Some old) is own since was l outcome now =
      let same : old ≡ outcome = same_Some old outcome (sym (l.stays old is) ∙ now) in
      subst (λ (x : Outcome). IsDecided site here call work first ((wanted e, found) ∷ events) x) same (decided_before first events (wanted e, found) old (was old is))

  module _ (laws : AttemptLaws) (start : Engine) where
    -- ---- it begins
    unfoldable pub begins : (p : Watch) (e : Engine) → IsFresh here start → Suits site here call start nothing_done p.view p.view → work_of start.op ≡ work → e ≡ start
        → IsGoing site here call work start p e p
    begins p e fresh suits own now = record {
      events = [];
      took = refl;
      asked = tt;
      engine = now;
      few = λ is. (let n = ap left now in omega (arith, n));
      work_is = ap (λ (x : Engine). work_of x.op) now ∙ own;
      past = refl;
      later = later_itself p.view;
      same_callers = refl;
      suits = subst (λ (x : Engine). SuitsPart op_part site here call x.op p.view p.view) (sym now) suits.suits;
      remembers = subst (λ (x : Engine). op_part.Remembers site x.op nothing_done) (sym now) suits.remembers;
      decided = λ outcome some. absurd (none-some outcome (sym (begins_undecided here start fresh) ∙ (ap (λ (x : Engine). op_part.outcome x.op) (sym now) ∙ some)));
      draws = inl refl;
      plans = λ planned has. laws.machines.part.plans site here call start.op p.view p.view planned suits.suits has;
    }

    -- ---- it goes on
    pub running : (p q : Watch) (e : Engine) → IsGoing site here call work start p e q → wanted e ≢ Done → IsRunning site e q.view
    running p q e g asks = record {
      here = here;
      call = call;
      did = doings_of g.events;
      before = p.view;
      suits = record { asks = asks; suits = g.suits; remembers = g.remembers };
    }

    pub falls : (p q r : Watch) (e next : Engine) → work ≡ calls → IsGoing site here call work start p e q → Turns site e q next r → left next < left e
    falls p q r e next own g t = fewer e next _ (laws.waits e (g.work_is ∙ own)) t.falls

    unfoldable pub goes_on : (p q r : Watch) (e next : Engine) → wanted e ≢ Done → IsGoing site here call work start p e q → Turns site e q next r → IsGoing site here call work start p next r
    goes_on p q r e next asks g t =
        let l = t.leaves here call (doings_of g.events) p.view (record { asks = asks; suits = g.suits; remembers = g.remembers }) in
        record {
          events = (wanted e, t.found) ∷ g.events;
          took = t.took ∙ ap (λ (es : List (Want × ℕ)). (wanted e, t.found) ∷ es) g.took;
          asked = (ap wanted (sym g.engine), g.asked);
          engine = t.engine ∙ ap (λ (x : Engine). taken x (answer_to (wanted e) t.found)) g.engine;
          few = λ own. (let f = falls p q r e next own g t in let n = g.few own in omega (arith, f, n));
          work_is = ap (λ (x : Engine). work_of x.op) t.engine ∙ (next_work laws.machines.causes e.op (answer_to (wanted e) t.found) ∙ g.work_is);
          past = t.past ∙ g.past;
          later = later_joined p.view q.view r.view g.later t.later;
          same_callers = t.callers ∙ g.same_callers;
          suits = l.suits;
          remembers = l.remembers;
          decided = decided_on p.view g.events e next q.view r.view t.found (op_part.outcome e.op) refl g.work_is g.later g.decided l;
          draws = l.draws (headway_after g.events no_headway) g.draws;
          plans = λ planned has. laws.machines.part.plans site here call next.op p.view r.view planned l.suits has;
        }

    -- ---- it ends
    -- the next attempt, where the power was not found off
    pub anew_at : (p q : Watch) (e : Engine) (end : End) → IsGround site → here.geometry ≡ site.shape → here.version ≡ version_of site → IsWordCall call → IsGoing site here call work start p e q
        → wanted e ≡ Done → op_part.outcome e.op ≡ outcome_of_end end → outcome_of_end end ≢ Some off → HasNumber here → Suits site here call (anew here call end) nothing_done q.view q.view
    anew_at p q e end ground shape version small g done same on number =
        let bare = laws.machines.part.ends site here call e.op q.view g.suits.stands done (never_hands_on e.op) (λ o. on (sym same ∙ o)) in
        anew_suits laws site here call q.view ground shape version small bare g.suits.callers number e.op g.suits.stands (outcome_of_end end) same

    -- an attempt that has taken no event wants one
    pub some_taken : (e : Engine) (events : List (Want × ℕ)) → wanted start ≢ Done → e ≡ after_events start events → wanted e ≡ Done → 0 < length events
    some_taken e [] asks is done = absurd (asks (ap wanted (sym is) ∙ done))
    some_taken e (x ∷ events) asks is done = omega arith

    unfoldable pub over : (p q : Watch) (e : Engine) (end : End) → IsGround site → here.geometry ≡ site.shape → here.version ≡ version_of site → IsWordCall call → wanted start ≢ Done
        → IsGoing site here call work start p e q → wanted e ≡ Done → end ≡ end_of e → IsOver site here call work start p end q
    over p q e end ground shape version small asks g done is =
        let says : op_part.outcome e.op ≡ outcome_of_end (end_of e) = laws.machines.says site here call e q.view g.suits.stands done in
        let same : op_part.outcome e.op ≡ outcome_of_end end = says ∙ ap outcome_of_end (sym is) in
        let d = op_decided laws.machines.causes site here call e.op q.view g.suits.stands done (never_hands_on e.op) in
        let enters : EntersReply call (reply_of_end end) p.view q.view = subst (λ (o : Option Outcome). EntersReply call (reply_of o) p.view q.view) same g.suits.enters in
        record {
          events = g.events;
          took = g.took;
          asked = g.asked;
          done = ap wanted (sym g.engine) ∙ done;
          ends = is ∙ ap end_of g.engine;
          some = some_taken e g.events asks g.engine done;
          few = λ own. (let n = g.few own in omega (arith, n));
          enters = enters;
          placed = placed call p.view q.view (reply_of_end end) g.later enters;
          past = g.past;
          callers = g.suits.callers;
          same_callers = g.same_callers;
          draws = g.draws;
          nothing = λ on. laws.machines.part.ends site here call e.op q.view g.suits.stands done (never_hands_on e.op) (λ o. on (sym same ∙ o));
          outcome = d.0;
          told = sym same ∙ d.1;
          decided = g.decided d.0 d.1;
          anew = λ none on number. anew_at p q e end ground shape version small g done same (λ o. on (same_Some d.0 off (sym (sym same ∙ d.1) ∙ o))) number;
          fresh = anew_fresh here call end;
        }

-- ---- an attempt of a call itself
module _ (laws : AttemptLaws) (site : Ground) (here : Site) (call : Call) (ground : IsGround site) (shape : here.geometry ≡ site.shape) (version : here.version ≡ version_of site)
    (small : IsWordCall call) (p : Watch) (nothing : HoldsOnly [] p.view) (some : 0 < p.view.callers) where
  unfoldable pub call_begins : (e : Engine) → e ≡ begun here call → IsGoing site here call calls (begun here call) p e p
  unfolding begins
  call_begins e now =
      begins site here call calls laws (begun here call) p e (inl (call, refl)) (begun_suits laws site here call p.view ground shape version small nothing some) (begun_works here call) now

  pub few_of_get : (n : ℕ) → n ≤ left (begun here call) → (key : ℕ) → call ≡ Get key → n ≤ most_of_get
  few_of_get n few key is =
      let most = laws.few_of_get here key in
      let same = ap (λ (c : Call). left (begun here c)) is in omega (arith, few, most, same)

  unfoldable pub attempted : (q : Watch) (e : Engine) (end : End) → IsGoing site here call calls (begun here call) p e q → wanted e ≡ Done → end ≡ end_of e → IsAttempted site here call p end q
  unfolding over
  attempted q e end g done is =
      let asks : wanted (begun here call) ≢ Done = (begun_suits laws site here call p.view ground shape version small nothing some).asks in
      let o = over site here call calls laws (begun here call) p q e end ground shape version small asks g done is in
      let same : op_part.outcome e.op ≡ outcome_of_end end = laws.machines.says site here call e q.view g.suits.stands done ∙ ap outcome_of_end (sym is) in
      record {
        over = o;
        few = (let n = o.few refl in let most = laws.few here call in omega (arith, n, most));
        few_of_get = few_of_get (length o.events) (o.few refl);
        worked = λ fin. laws.finishes e g.work_is (same ∙ (o.told ∙ ap Some fin));
      }

-- ---- the laws of any attempt
pub begins_going : AttemptLaws → BeginsGoing
begins_going laws site here call start p fresh suits = begins site here call (work_of start.op) laws start p start fresh suits refl refl

pub ends_over : AttemptLaws → EndsOver
ends_over laws site here call work start p e q ground shape version small asks g done = over site here call work laws start p q e (end_of e) ground shape version small asks g done refl

pub begins_repairing : AttemptLaws → BeginsRepairing
begins_repairing laws site here call segment p shape version number bare some lives =
    let suits : Suits site here call (repairing here segment) nothing_done p.view p.view = repair_suits laws site here call segment p.view shape version number bare some lives in
    record {
      work = work_of (repairing here segment).op;
      start = repairing here segment;
      first = p;
      going = begins_going laws site here call (repairing here segment) p (inr (inr (segment, refl))) suits;
      asks = suits.asks;
    }
