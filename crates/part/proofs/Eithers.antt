-- Either of two parts is a part: each law by a line for each of the two.
use Rattle.std.proofs.Common.{◌≡◌, ◌≢◌, ℕ, ◌+◌, ◌^◌, ◌<◌, ◌≤◌, max, ◌⊎◌, true, false, List, None, Some, arith}
use Rattle.std.proofs.Math.Nat.{le-max_left, le-max_right}
use Rattle.op_core.specs.declared.want.Want.TheVariants.{Flush, Fence, Done}
use Rattle.op_core.specs.declared.want.Ans.{Ans}
use Rattle.op_core.specs.Answers.{IsAnswer}
use Rattle.trace.specs.Events.{Words}
use Rattle.map_model.specs.declared.call.Call.{Call}
use Rattle.map_model.specs.declared.entry.Reply.TheVariants as reply
use Rattle.world.specs.declared.site.Site.{Site}
use Rattle.world.specs.Ground.{Ground}
use Rattle.world.specs.Views.{View, At}
use Rattle.world.specs.Wants.{word_of}
use Rattle.world.specs.Invariant.{Holds}
use Rattle.part.specs.Doings.{Doings}
use Rattle.part.specs.Outcomes.{Outcome, replied}
use Rattle.part.specs.Part.{Part, Suits, KeepsSuits, EndsBare, AsksWithin, PutsWords, IsWait, PlansItsCall, KnowsStale, HandsOnAtEnd, KeepsPower, IsPart}
use Rattle.part.specs.Causes.{StepsByCause, EndsByCause}
use Rattle.part.specs.Either.{Either, one, other, wanted, taken, Stands, outcome, Remembers, HasMade, left, waiting, hands_on, either_part}

module _ {A B : Type 0} (a : Part A) (b : Part B) (site : Ground) (here : Site) (call : Call) (before v : View) where
  suits_one : (x : A) → Suits (either_part a b) site here call (one x) before v → Suits a site here call x before v
  suits_one x s = record { stands = s.stands; enters = s.enters; callers = s.callers }

  suits_other : (y : B) → Suits (either_part a b) site here call (other y) before v → Suits b site here call y before v
  suits_other y s = record { stands = s.stands; enters = s.enters; callers = s.callers }

module _ {A B : Type 0} (a : Part A) (b : Part B) (is_a : IsPart a) (is_b : IsPart b) where
  steps : KeepsSuits (either_part a b)
  steps site here call words views j (one x) before v h at s asks =
      let w = is_a.steps site here call words views j x before v h at (suits_one a b site here call before v x s) asks in
      record { wants = w.wants; may = w.may; stands = w.stands; enters = w.enters; makes = w.makes }
  steps site here call words views j (other y) before v h at s asks =
      let w = is_b.steps site here call words views j y before v h at (suits_other a b site here call before v y s) asks in
      record { wants = w.wants; may = w.may; stands = w.stands; enters = w.enters; makes = w.makes }

  ends : EndsBare (either_part a b)
  ends site here call (one x) v s done closed on = is_a.ends site here call x v s done closed on
  ends site here call (other y) v s done closed on = is_b.ends site here call y v s done closed on

  falls : (m : Either A B) (ans : Ans) → IsAnswer (wanted a b m) ans → (left a b (taken a b m ans) < left a b m) ⊎ IsWait (either_part a b) m ans
  falls (one x) ans i = is_a.time.falls x ans i
  falls (other y) ans i = is_b.time.falls y ans i

  most : (m : Either A B) → left a b m ≤ max a.most_events b.most_events
  most (one x) = let low = is_a.time.most x in let up = le-max_left a.most_events b.most_events in omega (arith, low, up)
  most (other y) = let low = is_b.time.most y in let up = le-max_right a.most_events b.most_events in omega (arith, low, up)

  within : AsksWithin (either_part a b)
  within site here call (one x) before v is s = is_a.within site here call x before v is (suits_one a b site here call before v x s)
  within site here call (other y) before v is s = is_b.within site here call y before v is (suits_other a b site here call before v y s)

  puts : PutsWords (either_part a b)
  puts site here call (one x) before v s = is_a.words site here call x before v (suits_one a b site here call before v x s)
  puts site here call (other y) before v s = is_b.words site here call y before v (suits_other a b site here call before v y s)

  most_waiting : (m : Either A B) → waiting a b m ≤ max a.most_waiting b.most_waiting
  most_waiting (one x) = let low = is_a.flushes.most x in let up = le-max_left a.most_waiting b.most_waiting in omega (arith, low, up)
  most_waiting (other y) = let low = is_b.flushes.most y in let up = le-max_right a.most_waiting b.most_waiting in omega (arith, low, up)

  flushes : (m : Either A B) (ans : Ans) (l : ℕ) → IsAnswer (wanted a b m) ans → wanted a b m ≡ Flush l → waiting a b m + 1 ≤ waiting a b (taken a b m ans)
  flushes (one x) ans l i f = is_a.flushes.flushes x ans l i f
  flushes (other y) ans l i f = is_b.flushes.flushes y ans l i f

  keeps : (m : Either A B) (ans : Ans) → IsAnswer (wanted a b m) ans → wanted a b m ≢ Fence → waiting a b m ≤ waiting a b (taken a b m ans)
  keeps (one x) ans i f = is_a.flushes.keeps x ans i f
  keeps (other y) ans i f = is_b.flushes.keeps y ans i f

  none_waits : (m : Either A B) → wanted a b m ≡ Done → waiting a b m ≡ 0
  none_waits (one x) done = is_a.flushes.ends x done
  none_waits (other y) done = is_b.flushes.ends y done

  stays : (m : Either A B) (ans : Ans) → IsAnswer (wanted a b m) ans → HasMade a b m → HasMade a b (taken a b m ans)
  stays (one x) ans i made = is_a.made.stays x ans i made
  stays (other y) ans i made = is_b.made.stays y ans i made

  done : (m : Either A B) → HasMade a b m → wanted a b m ≡ Done → (place : ℕ) × (outcome a b m ≡ Some (replied reply.Done place))
  done (one x) made ended = is_a.made.done x made ended
  done (other y) made ended = is_b.made.done y made ended

  plans : PlansItsCall (either_part a b)
  plans site here call (one x) before v planned s has = is_a.plans site here call x before v planned (suits_one a b site here call before v x s) has
  plans site here call (other y) before v planned s has = is_b.plans site here call y before v planned (suits_other a b site here call before v y s) has

  relies : KnowsStale (either_part a b)
  relies site here call (one x) v s = is_a.relies site here call x v s
  relies site here call (other y) v s = is_b.relies site here call y v s

  hands : HandsOnAtEnd (either_part a b)
  hands (one x) h = is_a.hands x h
  hands (other y) h = is_b.hands y h

  power : KeepsPower (either_part a b)
  power (one x) n = is_a.power x n
  power (other y) n = is_b.power y n

  pub either_is_part : IsPart (either_part a b)
  either_is_part = record {
    steps = steps;
    ends = ends;
    time = record { falls = falls; most = most };
    within = within;
    words = puts;
    flushes = record { most = most_waiting; flushes = flushes; keeps = keeps; ends = none_waits };
    made = record { stays = stays; done = done };
    plans = plans;
    relies = relies;
    hands = hands;
    power = power;
  }

module _ {A B : Type 0} (a : Part A) (b : Part B) (by_a : EndsByCause a) (by_b : EndsByCause b) where
  caused_steps : (site : Ground) (here : Site) (call : Call) (words : Words) (views : List View) (j : ℕ) (m : Either A B) (before v : View) (did : Doings) → Holds site words views → At views j v
      → Suits (either_part a b) site here call m before v → wanted a b m ≢ Done → words (word_of site.shape (wanted a b m)) < 2 ^ 64 → Remembers a b site m did
      → StepsByCause (either_part a b) site here call words m v did
  caused_steps site here call words views j (one x) before v did h at s asks small r =
      let w = by_a.steps site here call words views j x before v did h at (suits_one a b site here call before v x s) asks small r in
      record { remembers = w.remembers; caused = w.caused; worked = w.worked; not_own = w.not_own }
  caused_steps site here call words views j (other y) before v did h at s asks small r =
      let w = by_b.steps site here call words views j y before v did h at (suits_other a b site here call before v y s) asks small r in
      record { remembers = w.remembers; caused = w.caused; worked = w.worked; not_own = w.not_own }

  decided_stays : (m : Either A B) (ans : Ans) (end : Outcome) → outcome a b m ≡ Some end → outcome a b (taken a b m ans) ≡ Some end
  decided_stays (one x) ans end some = by_a.stays x ans end some
  decided_stays (other y) ans end some = by_b.stays y ans end some

  decided : (site : Ground) (here : Site) (call : Call) (m : Either A B) (v : View) → Stands a b site here call m v → wanted a b m ≡ Done → hands_on a b m ≡ false
      → (end : Outcome) × (outcome a b m ≡ Some end)
  decided site here call (one x) v s done closed = by_a.decided site here call x v s done closed
  decided site here call (other y) v s done closed = by_b.decided site here call y v s done closed

  undecided : (m : Either A B) → hands_on a b m ≡ true → outcome a b m ≡ None
  undecided (one x) h = by_a.undecided x h
  undecided (other y) h = by_b.undecided y h

  pub either_ends_by_cause : EndsByCause (either_part a b)
  either_ends_by_cause = record { steps = caused_steps; stays = decided_stays; decided = decided; undecided = undecided }
