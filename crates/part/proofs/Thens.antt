-- One part after another is a part, whatever the two are.
use Rattle.std.proofs.Common.{◌≡◌, ◌≢◌, ℕ, ◌+◌, ◌^◌, ◌<◌, ◌≤◌, max, ◌⊎◌, inl, inr, Bool, true, false, List, None, Some, refl, sym, ap, ◌∙◌, subst, arith}
use Rattle.std.proofs.Math.Nat.{le-max_left, le-max_right}
use Rattle.std.proofs.lemmas.Option.{none-some}
use Rattle.op_core.specs.declared.want.Want.TheVariants.{Flush, Fence, Done}
use Rattle.op_core.specs.declared.want.Ans.{Ans}
use Rattle.op_core.specs.Answers.{IsAnswer}
use Rattle.trace.specs.Events.{Words}
use Rattle.map_model.specs.declared.call.Call.{Call}
use Rattle.map_model.specs.declared.entry.Reply.TheVariants as reply
use Rattle.world.specs.declared.site.Site.{Site}
use Rattle.world.specs.Ground.{Ground, IsGround}
use Rattle.world.specs.Views.{View, At}
use Rattle.world.specs.Wants.{answer_to, word_of}
use Rattle.world.specs.Invariant.{Holds}
use Rattle.world.specs.Attempts.{EntersReply}
use Rattle.world.specs.StepKinds.{view_by}
use Rattle.part.specs.Doings.{Doings, with_event_of}
use Rattle.part.specs.Outcomes.{Outcome, replied, finished, reply_of}
use Rattle.part.specs.Part.{Part, Suits, KeepsSuits, EndsBare, AsksWithin, PutsWords, IsWait, PlansItsCall, KnowsStale, HandsOnAtEnd, KeepsPower, IsPart}
use Rattle.part.specs.Causes.{StepsByCause, EndsByCause}
use Rattle.part.specs.Then.{Then, first, second, passed, wanted, taken, Stands, outcome, Remembers, HasWorked, HasMade, left, is_waiting, waiting, hands_on, then_part, Passes}

-- the view suits the whole as it suits the one of the two that runs
module _ {A B : Type 0} (a : Part A) (b : Part B) (next : A → B) (site : Ground) (here : Site) (call : Call) where
  pub suits_first : (x : A) (before v : View) → Suits (then_part a b next) site here call (first x) before v → Suits a site here call x before v
  suits_first x before v s = record { stands = s.stands.stands; enters = s.enters; callers = s.callers }

  pub suits_second : (y : B) (before v : View) → Suits (then_part a b next) site here call (second y) before v → Suits b site here call y before v
  suits_second y before v s = record { stands = s.stands; enters = s.enters; callers = s.callers }

module _ {A B : Type 0} (a : Part A) (b : Part B) (next : A → B) (is_a : IsPart a) (undecided_a : (x : A) → a.hands_on x ≡ true → a.outcome x ≡ None) (is_b : IsPart b)
    (passes : Passes a b next) where
  abbrev Whole : Type 0
  Whole = Then A B

  abbrev on : Bool → A → Whole
  on t x = passed a b next t x

  -- ---- where the first hands on, or not
  stands_on : (site : Ground) (here : Site) (call : Call) (before v : View) (x : A) → IsGround site → (t : Bool) → a.hands_on x ≡ t → a.Stands site here call x v → EntersReply call (reply_of (a.outcome x)) before v
      → Stands a b next site here call (on t x) v × EntersReply call (reply_of (outcome a b next (on t x))) before v
  stands_on site here call before v x good true h s e = (passes.stands site here call x v good s h, subst (λ o. EntersReply call (reply_of o) before v) (undecided_a x h ∙ sym (passes.undecided x h)) e)
  stands_on site here call before v x good false h s e = (record { stands = s; closed = h }, e)

  falls_on : (x y : A) → a.left y < a.left x → (t : Bool) → left a b next (on t y) < a.left x + b.most_events
  falls_on x y low true = let few = is_b.time.most (next y) in omega (arith, few, low)
  falls_on x y low false = omega (arith, low)

  -- where the first goes on waiting, the whole does
  keeps_waiting : (x : A) (ans : Ans) → IsWait a x ans → IsWait (then_part a b next) (first x) ans
  keeps_waiting x ans w =
      let y : A = a.taken x ans in
      let same : on (a.hands_on y) y ≡ first y = ap (λ t. on t y) w.3 in
      (w.0, ap (is_waiting a b next) same ∙ w.1, ap (left a b next) same ∙ ap (λ n. n + b.most_events) w.2, ap (hands_on a b next) same)

  waits_on : (x : A) (n : ℕ) → n ≤ a.waiting x → (t : Bool) → a.hands_on x ≡ t → n ≤ waiting a b next (on t x)
  waits_on x n low true h = let none = is_a.flushes.ends x (is_a.hands x h) in omega (arith, low, none)
  waits_on x n low false h = low

  made_on : (x : A) → a.HasMade x → (t : Bool) → a.hands_on x ≡ t → HasMade a b next (on t x)
  made_on x made true h = let done = is_a.made.done x made (is_a.hands x h) in absurd (none-some (replied reply.Done done.0) (sym (undecided_a x h) ∙ done.1))
  made_on x made false h = made

  -- ---- the laws
  steps : KeepsSuits (then_part a b next)
  steps site here call words views j (first x) before v h at s asks =
      let w = is_a.steps site here call words views j x before v h at (suits_first a b next site here call x before v s) asks in
      let found : ℕ = words (word_of site.shape (a.wanted x)) in
      let y : A = a.taken x (answer_to (a.wanted x) found) in
      let p = λ (small : found < 2 ^ 64). stands_on site here call before (view_by site.shape (a.kind x found) found v) y h.site_is (a.hands_on y) refl (w.stands small) (w.enters small) in
      record {
        wants = w.wants;
        may = w.may;
        stands = λ small. (p small).0;
        enters = λ small. (p small).1;
        makes = λ change. ((w.makes change).0, made_on y (w.makes change).1 (a.hands_on y) refl);
      }
  steps site here call words views j (second y) before v h at s asks =
      let w = is_b.steps site here call words views j y before v h at (suits_second a b next site here call y before v s) asks in
      record { wants = w.wants; may = w.may; stands = w.stands; enters = w.enters; makes = w.makes }

  ends : EndsBare (then_part a b next)
  ends site here call (first x) v s done closed on = is_a.ends site here call x v s.stands done s.closed on
  ends site here call (second y) v s done closed on = is_b.ends site here call y v s done closed on

  falls : (m : Whole) (ans : Ans) → IsAnswer (wanted a b next m) ans → (left a b next (taken a b next m ans) < left a b next m) ⊎ IsWait (then_part a b next) m ans
  falls (first x) ans i = elim (is_a.time.falls x ans i) [
    | inl low ↦ inl (falls_on x (a.taken x ans) low (a.hands_on (a.taken x ans)))
    | inr wait ↦ inr (keeps_waiting x ans wait)
  ]
  falls (second y) ans i = is_b.time.falls y ans i

  most_left : (m : Whole) → left a b next m ≤ a.most_events + b.most_events
  most_left (first x) = let low = is_a.time.most x in omega (arith, low)
  most_left (second y) = let low = is_b.time.most y in omega (arith, low)

  most_waiting : (m : Whole) → waiting a b next m ≤ max a.most_waiting b.most_waiting
  most_waiting (first x) = let low = is_a.flushes.most x in let up = le-max_left a.most_waiting b.most_waiting in omega (arith, low, up)
  most_waiting (second y) = let low = is_b.flushes.most y in let up = le-max_right a.most_waiting b.most_waiting in omega (arith, low, up)

  flush_adds : (m : Whole) (ans : Ans) (l : ℕ) → IsAnswer (wanted a b next m) ans → wanted a b next m ≡ Flush l → waiting a b next m + 1 ≤ waiting a b next (taken a b next m ans)
  flush_adds (first x) ans l i f = waits_on (a.taken x ans) (a.waiting x + 1) (is_a.flushes.flushes x ans l i f) (a.hands_on (a.taken x ans)) refl
  flush_adds (second y) ans l i f = is_b.flushes.flushes y ans l i f

  waits : (m : Whole) (ans : Ans) → IsAnswer (wanted a b next m) ans → wanted a b next m ≢ Fence → waiting a b next m ≤ waiting a b next (taken a b next m ans)
  waits (first x) ans i f = waits_on (a.taken x ans) (a.waiting x) (is_a.flushes.keeps x ans i f) (a.hands_on (a.taken x ans)) refl
  waits (second y) ans i f = is_b.flushes.keeps y ans i f

  none_waits : (m : Whole) → wanted a b next m ≡ Done → waiting a b next m ≡ 0
  none_waits (first x) done = is_a.flushes.ends x done
  none_waits (second y) done = is_b.flushes.ends y done

  stays : (m : Whole) (ans : Ans) → IsAnswer (wanted a b next m) ans → HasMade a b next m → HasMade a b next (taken a b next m ans)
  stays (first x) ans i made = made_on (a.taken x ans) (is_a.made.stays x ans i made) (a.hands_on (a.taken x ans)) refl
  stays (second y) ans i made = is_b.made.stays y ans i made

  done : (m : Whole) → HasMade a b next m → wanted a b next m ≡ Done → (place : ℕ) × (outcome a b next m ≡ Some (replied reply.Done place))
  done (first x) made ended = is_a.made.done x made ended
  done (second y) made ended = is_b.made.done y made ended

  within : AsksWithin (then_part a b next)
  within site here call (first x) before v is s = is_a.within site here call x before v is (suits_first a b next site here call x before v s)
  within site here call (second y) before v is s = is_b.within site here call y before v is (suits_second a b next site here call y before v s)

  puts : PutsWords (then_part a b next)
  puts site here call (first x) before v s = is_a.words site here call x before v (suits_first a b next site here call x before v s)
  puts site here call (second y) before v s = is_b.words site here call y before v (suits_second a b next site here call y before v s)

  plans : PlansItsCall (then_part a b next)
  plans site here call (first x) before v planned s = is_a.plans site here call x before v planned (suits_first a b next site here call x before v s)
  plans site here call (second y) before v planned s = is_b.plans site here call y before v planned (suits_second a b next site here call y before v s)

  relies : KnowsStale (then_part a b next)
  relies site here call (first x) v s = is_a.relies site here call x v s.stands
  relies site here call (second y) v s = is_b.relies site here call y v s

  hands : HandsOnAtEnd (then_part a b next)
  hands (first x) h = absurd (let z : false ≡ true = h in cc)
  hands (second y) h = is_b.hands y h

  power : KeepsPower (then_part a b next)
  power (first x) n = is_a.power x n
  power (second y) n = is_b.power y n

  pub then_is_part : IsPart (then_part a b next)
  then_is_part = record {
    steps = steps;
    ends = ends;
    time = record { falls = falls; most = most_left };
    within = within;
    words = puts;
    flushes = record { most = most_waiting; flushes = flush_adds; keeps = waits; ends = none_waits };
    made = record { stays = stays; done = done };
    plans = plans;
    relies = relies;
    hands = hands;
    power = power;
  }

-- what the first remembers, how it ends and that it has done its work is so of the whole, where it hands on, undecided, or not
module _ {A B : Type 0} (a : Part A) (b : Part B) (next : A → B) (passes : Passes a b next) (undecided : (x : A) → a.hands_on x ≡ true → a.outcome x ≡ None) where
  pub remembers_on : (site : Ground) (x : A) (did : Doings) → a.Remembers site x did → (t : Bool) → a.hands_on x ≡ t → Remembers a b next site (passed a b next t x) did
  remembers_on site x did r true h = passes.remembers site x did h r
  remembers_on site x did r false h = r

  pub outcome_on : (x : A) (t : Bool) → a.hands_on x ≡ t → a.outcome x ≡ outcome a b next (passed a b next t x)
  outcome_on x true h = undecided x h ∙ sym (passes.undecided x h)
  outcome_on x false h = refl

  pub worked_on : (site : Ground) (x : A) (did : Doings) → a.outcome x ≡ Some finished → a.HasWorked site x did → (t : Bool) → a.hands_on x ≡ t → HasWorked a b next site (passed a b next t x) did
  worked_on site x did some worked true h = absurd (none-some finished (sym (undecided x h) ∙ some))
  worked_on site x did some worked false h = worked

-- and the second's outcomes are the whole's, with the causes of both
module _ {A B : Type 0} (a : Part A) (b : Part B) (next : A → B) (passes : Passes a b next) (by_a : EndsByCause a) (by_b : EndsByCause b) where
  caused_steps : (site : Ground) (here : Site) (call : Call) (words : Words) (views : List View) (j : ℕ) (m : Then A B) (before v : View) (did : Doings) → Holds site words views → At views j v
      → Suits (then_part a b next) site here call m before v → wanted a b next m ≢ Done → words (word_of site.shape (wanted a b next m)) < 2 ^ 64
      → Remembers a b next site m did → StepsByCause (then_part a b next) site here call words m v did
  caused_steps site here call words views j (first x) before v did h at s asks small r =
      let w = by_a.steps site here call words views j x before v did h at (suits_first a b next site here call x before v s) asks small r in
      let y : A = a.taken x (answer_to (a.wanted x) (words (word_of site.shape (a.wanted x)))) in
      let same : a.outcome y ≡ outcome a b next (passed a b next (a.hands_on y) y) = outcome_on a b next passes by_a.undecided y (a.hands_on y) refl in
      record {
        remembers = remembers_on a b next passes by_a.undecided site y (with_event_of (a.wanted x) (answer_to (a.wanted x) (words (word_of site.shape (a.wanted x)))) did) w.remembers (a.hands_on y) refl;
        caused = λ end none some. w.caused end none (same ∙ some);
        worked = λ none some. worked_on a b next passes by_a.undecided site y (with_event_of (a.wanted x) (answer_to (a.wanted x) (words (word_of site.shape (a.wanted x)))) did) (same ∙ some) (w.worked none (same ∙ some)) (a.hands_on y) refl;
        not_own = λ word value none some. w.not_own word value none (same ∙ some);
      }
  caused_steps site here call words views j (second y) before v did h at s asks small r =
      let w = by_b.steps site here call words views j y before v did h at (suits_second a b next site here call y before v s) asks small r in
      record { remembers = w.remembers; caused = w.caused; worked = w.worked; not_own = w.not_own }

  decided_stays : (m : Then A B) (ans : Ans) (end : Outcome) → outcome a b next m ≡ Some end → outcome a b next (taken a b next m ans) ≡ Some end
  decided_stays (first x) ans end some = sym (outcome_on a b next passes by_a.undecided (a.taken x ans) (a.hands_on (a.taken x ans)) refl) ∙ by_a.stays x ans end some
  decided_stays (second y) ans end some = by_b.stays y ans end some

  decided : (site : Ground) (here : Site) (call : Call) (m : Then A B) (v : View) → Stands a b next site here call m v → wanted a b next m ≡ Done → hands_on a b next m ≡ false
      → (end : Outcome) × (outcome a b next m ≡ Some end)
  decided site here call (first x) v s done closed = by_a.decided site here call x v s.stands done s.closed
  decided site here call (second y) v s done closed = by_b.decided site here call y v s done closed

  undecided : (m : Then A B) → hands_on a b next m ≡ true → outcome a b next m ≡ None
  undecided (first x) h = absurd (let z : false ≡ true = h in cc)
  undecided (second y) h = by_b.undecided y h

  pub then_ends_by_cause : EndsByCause (then_part a b next)
  then_ends_by_cause = record { steps = caused_steps; stays = decided_stays; decided = decided; undecided = undecided }
