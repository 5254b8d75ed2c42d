-- An engine that suits the view of a seat may take its event there, and what that leaves.
use Rattle.std.proofs.Common.{◌≡◌, ◌≢◌, ◌⊎◌, ℕ, ◌^◌, ◌<◌, Option, None, Some, refl, sym, ap, ◌∙◌, subst}
use Rattle.op_core.specs.declared.want.Want.{Want}
use Rattle.op_core.specs.declared.want.Want.TheVariants.{Done}
use Rattle.op_core.specs.declared.want.Ans.{Ans}
use Rattle.image_layout.specs.Volatile.{all_words_of}
use Rattle.map_model.specs.declared.call.Call.{Call}
use Rattle.world.specs.declared.site.Site.{Site}
use Rattle.world.specs.Ground.{Ground, IsGround}
use Rattle.world.specs.Views.{View}
use Rattle.world.specs.Wants.{word_of, answer_to}
use Rattle.world.specs.StepKinds.{StepKind, wanted_of, view_by, MayTake}
use Rattle.world.specs.Attempts.{EntersReply}
use Rattle.world.specs.Later.{IsLater}
use Rattle.world.proofs.stepping.Answers.{is_answer}
use Rattle.part.specs.Doings.{Doings}
use Rattle.part.specs.Outcomes.{Outcome, off, reply_of}
use Rattle.part.specs.Part.{IsWait, Suits as SuitsPart}
use Rattle.part.proofs.Turning.{as_many_callers}
use Rattle.engine.specs.declared.engine.Engine.{Engine}
use Rattle.engine.specs.Engine.{wanted, taken, kind_of}
use Rattle.engine.specs.Left.{left}
use Rattle.engine.specs.OpPart.{op_part}
use Rattle.engine.proofs.machines.Ops.{never_hands_on}
use Rattle.engine.proofs.attempts.Stepping.{op_stays, op_remembers, op_not_own}
use Rattle.vlock.specs.declared.knows.Watch.{Watch}
use Rattle.vlock.specs.Plays.{Moment, Met, MayDo, Answers, watched}
use Rattle.shared_call.specs.Laws.{TurnLaws}
use Rattle.shared_call.specs.Suited.{Suits, IsRunning, IsCaused}
use Rattle.shared_call.specs.Turns.{FoundOff, Leaves, Turns}
use Rattle.shared_call.proofs.Headways.{draws}
use Rattle.shared_call.proofs.Deciding.{off_cause, op_caused}

module _ (laws : TurnLaws) (site : Ground) (e : Engine) where
  -- the engine and the view after, where the word of the event was found to have this value
  abbrev engine_at : ℕ → Engine
  engine_at found = taken e (answer_to (wanted e) found)

  abbrev view_at : View → ℕ → View
  view_at v found = view_by site.shape (kind_of e found) found v

  -- what is so of the event where this was found
  record AtFound (here : Site) (call : Call) (did : Doings) (before v : View) (found : ℕ) : Type 0 where
    wants : wanted e ≡ wanted_of site.shape (kind_of e found)
    may : MayTake site (kind_of e found) v
    later : IsLater v (view_at v found)
    callers : (view_at v found).callers ≡ v.callers
    leaves : Leaves site here call e did before v found (engine_at found) (view_at v found)

  -- a decided outcome that says that the power is off was decided before, or by this event
  found_off : (here : Site) (call : Call) (did : Doings) (before v w : View) (found : ℕ) (next : Engine) (o : Option Outcome) → op_part.outcome e.op ≡ o
      → ((outcome : Outcome) → op_part.outcome e.op ≡ Some outcome → op_part.outcome next.op ≡ Some outcome)
      → ((outcome : Outcome) → op_part.outcome e.op ≡ None → op_part.outcome next.op ≡ Some outcome → IsCaused site here call e did v found outcome)
      → EntersReply call (reply_of (op_part.outcome next.op)) before w → op_part.outcome e.op ≢ Some off → op_part.outcome next.op ≡ Some off → FoundOff e found before w
  found_off here call did before v w found next None is stays caused enters on now =
      let c = caused off is now in
      let b = off_cause _ site c.moment.words did call (wanted e) here c.cause in
      let at = ap (λ x. c.moment.words (word_of site.shape x)) b.0 in
      record {
        looked = b.0;
        off = λ zero_there. b.1 (sym at ∙ (c.value ∙ zero_there));
        nothing = subst (λ x. EntersReply call (reply_of x) before w) now enters;
      }
  found_off here call did before v w found next (Some outcome) is stays caused enters on now = absurd (on (is ∙ (sym (stays outcome is) ∙ now)))

  module _ (here : Site) (call : Call) (did : Doings) (before v : View) (suits : Suits site here call e did before v) where
    at_moment : (m : Moment site v) (fits : m.words (word_of site.shape (wanted e)) < 2 ^ 64) → AtFound here call did before v (m.words (word_of site.shape (wanted e)))
    at_moment m fits =
        let found : ℕ = m.words (word_of site.shape (wanted e)) in
        let kind : StepKind = kind_of e found in
        let next : Engine = engine_at found in
        let w : View = view_at v found in
        let s = laws.machines.part.steps site here call m.words m.views m.seat e.op before v m.holds m.there suits.suits suits.asks in
        let same : w.callers ≡ v.callers = subst (λ (x : Want). (view_by site.shape kind (m.words (word_of site.shape x)) v).callers ≡ v.callers) (sym s.wants)
        (as_many_callers laws.callers laws.structure site kind m.words v) in
        let some : 0 < w.callers = subst (λ c. 0 < c) (sym same) suits.suits.callers in
        let stays : (outcome : Outcome) → op_part.outcome e.op ≡ Some outcome → op_part.outcome next.op ≡ Some outcome = op_stays laws.machines.causes e.op (answer_to (wanted e) found) in
        let remembers = op_remembers laws.machines.causes site here call m.words m.views m.seat before v m.holds m.there did e.op suits.suits suits.asks fits suits.remembers in
        let caused : (outcome : Outcome) → op_part.outcome e.op ≡ None → op_part.outcome next.op ≡ Some outcome → IsCaused site here call e did v found outcome = λ outcome none now. record {
          moment = m;
          value = refl;
          cause = op_caused laws.machines.causes site here call m.words m.views m.seat before v m.holds m.there did e.op suits.suits suits.asks fits suits.remembers outcome none now;
        } in
        let stands : SuitsPart op_part site here call next.op before w = record { stands = s.stands fits; enters = s.enters fits; callers = some } in
        record {
          wants = s.wants;
          may = s.may;
          callers = same;
          later = subst (λ (x : Want). IsLater v (view_by site.shape kind (m.words (word_of site.shape x)) v)) (sym s.wants)
              (laws.later site m.words m.views m.seat v kind m.holds m.there);
          leaves = record {
            goes_on = λ asks. record { asks = asks; suits = stands; remembers = remembers };
            ends = λ done on. record {
              nothing = laws.machines.part.ends site here call next.op w stands.stands done (never_hands_on next.op) on;
              callers = some;
              enters = subst (λ o. EntersReply call (reply_of o) before w) (laws.machines.says site here call next w stands.stands done) stands.enters;
            };
            off = found_off here call did before v w found next (op_part.outcome e.op) refl stays caused stands.enters;
            suits = stands;
            remembers = remembers;
            stays = stays;
            caused = caused;
            not_own = op_not_own laws.machines.causes site here call m.words m.views m.seat before v m.holds m.there did e.op suits.suits suits.asks fits suits.remembers;
            draws = draws site here call before v kind (wanted e) found (reply_of (op_part.outcome next.op)) s.wants s.may
                (λ planned has. laws.machines.part.plans site here call e.op before v planned suits.suits has) stands.enters;
          };
        }

    at_met : (found : ℕ) → Met site (wanted e) v found → AtFound here call did before v found
    at_met found met = subst (λ (n : ℕ). AtFound here call did before v n) met.2 (at_moment met.0 (subst (λ (n : ℕ). n < 2 ^ 64) (sym met.2) met.1))

  -- ---- what the seat is asked for
  pub may_do : (v : View) → IsRunning site e v → MayDo site (wanted e) (kind_of e) v
  may_do v r = (r.suits.suits.callers, λ found met. let a = at_met r.here r.call r.did r.before v r.suits found met in (a.wants, a.may))

  pub within : (v : View) (want : Want) → want ≡ wanted e → IsGround site → IsRunning site e v → (want ≢ Done) × (word_of site.shape want < all_words_of site.shape)
  within v want is ground r = (
    (λ done. r.suits.asks (sym is ∙ done)),
    subst (λ (x : Want). word_of site.shape x < all_words_of site.shape) (sym is) (laws.machines.part.within site r.here r.call e.op r.before v ground r.suits.suits).word,
  )

  -- ---- and what it is left with
  turned_at : (p q : Watch) (next : Engine) (found : ℕ) → IsRunning site e p.view → next ≡ engine_at found → q ≡ watched site.shape (wanted e) (kind_of e found) found p → Met site (wanted e) p.view found
      → Turns site e p next q
  turned_at p q next found r now is met =
      let after : q.view ≡ view_at p.view found = ap (λ (x : Watch). x.view) is in
      let a = at_met r.here r.call r.did r.before p.view r.suits found met in
      record {
        found = found;
        fits = met.1;
        took = ap (λ (x : Watch). x.took) is;
        past = ap (λ (x : Watch). x.past) is;
        later = subst (λ (u : View). IsLater p.view u) (sym after) a.later;
        callers = ap (λ (u : View). u.callers) after ∙ a.callers;
        engine = now;
        falls = subst (λ (x : Engine). (left x < left e) ⊎ IsWait op_part e.op (answer_to (wanted e) found)) (sym now) (laws.falls e (answer_to (wanted e) found) (is_answer (wanted e) found r.suits.asks));
        leaves = λ here call did before suits. subst (λ (x : Engine). Leaves site here call e did before p.view found x q.view) (sym now)
            (subst (λ (u : View). Leaves site here call e did before p.view found (engine_at found) u) (sym after) (at_met here call did before p.view suits found met).leaves);
      }

  pub turned : (p q : Watch) (ans : Ans) (next : Engine) → IsRunning site e p.view → Answers site (wanted e) (kind_of e) p ans q → next ≡ taken e ans → Turns site e p next q
  turned p q ans next r a is = turned_at p q next a.0 r (is ∙ ap (λ (x : Ans). taken e x) a.1) a.2.0 a.2.1
