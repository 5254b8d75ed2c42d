-- What an event of the memory follows by, at the event that was wanted.
use Rattle.std.proofs.Common.{◌≡◌, ℕ, Bool, true, false, refl, subst, sym, arith}
use Rattle.std.specs.Prelude.{slice_index, ◌==◌, if◌then◌else◌}
use Rattle.trace.specs.Events.{Event}
use Rattle.trace.specs.Events.Event.{loaded, exchanged}
use Rattle.op_core.specs.declared.want.Want.{Want}
use Rattle.op_core.specs.declared.want.Want.TheVariants.{Exchange}
use Rattle.op_core.specs.declared.want.Ans.{Ans}
use Rattle.world.specs.Wants.{answer_to, event_of}
use Rattle.pm_trace.specs.Memory.{Memory}
use Rattle.pm_trace.specs.TraceOf.{Follows}
use Rattle.keeping.specs.Asked.{found_by}

-- what follows an event that was wanted
abbrev pub FollowsWanted : Memory → ℕ → Want → Memory → Type 0
FollowsWanted old caller w new = Follows old (event_of old.shape w (found_by w old) caller) new

pub follows_wanted : (old new : Memory) (caller : ℕ) (v w : Want) → w ≡ v → FollowsWanted old caller v new → FollowsWanted old caller w new
follows_wanted old new caller v w e f = subst (λ (u : Want). FollowsWanted old caller u new) (sym e) f

chosen_true : (b : Bool) (x y : Event) → b ≡ true → x ≡ (if b then x else y)
chosen_true true x y e = refl
chosen_true false x y e = cc

chosen_false : (b : Bool) (x y : Event) → b ≡ false → y ≡ (if b then x else y)
chosen_false true x y e = cc
chosen_false false x y e = refl

pub follows_won : (old new : Memory) (caller i a b : ℕ) → slice_index old.newest i ≡ a → Follows old (exchanged caller i b) new
    → FollowsWanted old caller (Exchange i a b) new
follows_won old new caller i a b is f =
    let same : (slice_index old.newest i == a) ≡ true = grind arith in
    subst (λ (e : Event). Follows old e new) (chosen_true (slice_index old.newest i == a) (exchanged caller i b) (loaded caller i) same) f

pub follows_lost : (old new : Memory) (caller i a b : ℕ) → (slice_index old.newest i ≡ a → ⊥) → Follows old (loaded caller i) new
    → FollowsWanted old caller (Exchange i a b) new
follows_lost old new caller i a b differ f =
    let other : (slice_index old.newest i == a) ≡ false = grind arith in
    subst (λ (e : Event). Follows old e new) (chosen_false (slice_index old.newest i == a) (exchanged caller i b) (loaded caller i) other) f

-- an event was done on the memory, and answered
pub record HasPassed (now : Memory) (w : Want) (ans : Ans) (new : Memory) : Type 0 where
  pub answer : ans ≡ answer_to w (found_by w now)
  pub follows : Follows now (event_of now.shape w (found_by w now) 0) new
  pub shape : new.shape ≡ now.shape
  pub callers : new.callers ≡ now.callers
