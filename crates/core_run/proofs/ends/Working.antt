-- The laws of engines that are used, and numbers of events.
use Rattle.std.proofs.Common.{◌≡◌, ℕ, suc, ◌+◌, ◌*◌, ◌<◌, ◌≤◌, subst, arith}
use Rattle.std.proofs.Math.Nat.{mul-le-mul_left}
use Rattle.image_layout.specs.Places.{Shape}
use Rattle.engine.specs.Left.{most_alone, events_of_call}
use Rattle.engine.specs.Alone.{EndedRests, EventsAreFew}
use Rattle.engine.specs.Driven.{TurnsGoOn, AttemptsAreShort, OwnTurnsStayStill, OwnTurnsStayDue, OwnTurnsLeaveFewer, EndsBeginAnew, BegunIsDue}

pub record EngineLaws : Type 0 where
  pub ended : EndedRests
  pub goes : TurnsGoOn
  pub short : AttemptsAreShort
  pub still : OwnTurnsStayStill
  pub due : OwnTurnsStayDue
  pub fewer : OwnTurnsLeaveFewer
  pub anew : EndsBeginAnew
  pub begins : BegunIsDue
  pub few : EventsAreFew

-- ---- a call has the events of two attempts, and more
product_two : (a b : ℕ) → 2 * b + 2 ≤ (a + 5) * (b + 1)
product_two a b = omega arith

pub call_two : (shape : Shape) → 2 * most_alone + 2 ≤ events_of_call shape
call_two shape = product_two (6 * shape.segments) most_alone

-- ---- what is left behind an event: of_call is how many a call has, most how many an attempt has, and more how many calls come later
-- less is left of the attempt
pub less_of_attempt : (of_call more most m n : ℕ) → m < n → m + (most + 1) + of_call * (more + 1) < n + (most + 1) + of_call * (more + 1)
less_of_attempt of_call more most m n less = omega (arith, less)

pub less_before : (of_call more m n : ℕ) → m < n → m + of_call * more < n + of_call * more
less_before of_call more m n less = omega (arith, less)

-- the next attempt has begun
pub next_attempt : (of_call more most m n : ℕ) → m ≤ most → m + of_call * (more + 1) < n + (most + 1) + of_call * (more + 1)
next_attempt of_call more most m n few = omega (arith, few)

-- the call has begun anew
pub call_anew : (of_call more m n : ℕ) → m < of_call → m + of_call * more < n + of_call * (more + 1)
call_anew of_call more m n few = omega (arith, few)

pub call_after : (of_call more most m n : ℕ) → m < of_call → m + of_call * more < n + (most + 1) + of_call * (more + 1)
call_after of_call more most m n few = omega (arith, few)

-- the next call has
pub next_call_low : (of_call more later m n : ℕ) → m < of_call → more ≡ suc later → of_call * more ≤ n → m + of_call * later < n
next_call_low of_call more later m n few is within =
    let low : of_call * (later + 1) ≤ n = subst (λ k. of_call * k ≤ n) (let e : more ≡ later + 1 = omega (arith, is) in e) within in
    omega (arith, few, low)

pub later_within : (of_call more m n : ℕ) → m + of_call * (more + 1) ≤ n → of_call * more ≤ n
later_within of_call more m n low = omega (arith, low)

pub due_within : (of_call more m n : ℕ) → m + of_call * more ≤ n → of_call * more ≤ n
due_within of_call more m n low = omega (arith, low)

pub less_within : (a b n : ℕ) → a < b → b ≤ n → a < n
less_within a b n less low = omega (arith, less, low)

pub same_within : (a : ℕ) → a ≤ a
same_within a = omega arith

-- ---- what is left at first is within what is counted
pub within_all : (of_call most left more calls words : ℕ) → left ≤ most → 2 * most + 2 ≤ of_call → more + 1 ≤ calls
    → suc (left + (most + 1) + of_call * (more + 1)) ≤ words + of_call * (calls + 1)
within_all of_call most left more calls words few two behind = let all = mul-le-mul_left of_call behind in omega (arith, all, few, two)

-- and there are no more calls than that, with two rounds
pub within_most : (of_call behind calls words : ℕ) → 2 ≤ of_call → behind ≤ calls → behind + 2 ≤ words + of_call * (calls + 1)
within_most of_call behind calls words two few =
    let each = mul-le-mul_left (calls + 1) two in omega (arith, each, few)
