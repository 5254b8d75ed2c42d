-- Where an enclosing says that there may be room, or that its segment is as deep as the image allows, the guard and all locks are held.
use Rattle.std.proofs.Common.{◌≡◌, ℕ, ◌+◌, Bool, true, false, None, Some, sym, subst}
use Rattle.std.specs.Prelude.{◌==◌, nat_lt, if◌then◌else◌}
use Rattle.std.proofs.lemmas.Option.{none-some, same_Some}
use Rattle.op_core.specs.declared.want.Ans.TheVariants.{Won, Lost}
use Rattle.op_core.specs.declared.why.Why.TheVariants.{Busy, Moved}
use Rattle.image_layout.specs.Places.{buckets}
use Rattle.map_model.specs.declared.call.Call.{Call}
use Rattle.map_model.specs.declared.entry.Reply.TheVariants.{Spent}
use Rattle.world.specs.declared.site.Site.{Site}
use Rattle.world.specs.Ground.{Ground}
use Rattle.world.specs.Views.{View}
use Rattle.world.specs.Wants.{answer_to, word_of}
use Rattle.part.specs.Outcomes.{Outcome, replied, again}
use Rattle.phase.specs.declared.take.Take.TheVariants.{Look}
use Rattle.phase.specs.declared.take.Taken.{Taken}
use Rattle.phase.specs.declared.take.Taken.TheVariants as taken
use Rattle.phase.specs.Takes.{take_wanted, take_taken}
use Rattle.enclose_op.specs.declared.enclosed.Enclosed.{Enclosed}
use Rattle.enclose_op.specs.declared.op.EncloseStep.{EncloseStep}
use Rattle.enclose_op.specs.declared.op.EncloseStep.TheVariants.{Guard, Lock, Head, Fill, CountSpent, CountDeep, Give, Ended, Whole}
use Rattle.enclose_op.specs.Giving.{guard_of, lock_of}
use Rattle.enclose_op.specs.Steps.{locked_to, wanted_in, next_in}
use Rattle.enclose_op.specs.Fits.{outcome_of, outcome_at, HoldsPart, SuitsStep}
use Rattle.enclose_op.specs.EnclosePart.{IsSaidOfHeld, SaysOfHeld}

-- ---- what says none of the two
other_said : (is_told outcome : Outcome) → (IsSaidOfHeld is_told → ⊥) → Some is_told ≡ Some outcome → IsSaidOfHeld outcome → ⊥
other_said is_told outcome other some said = other (subst IsSaidOfHeld (sym (same_Some is_told outcome some)) said)

module _ (outcome : Outcome) (said : IsSaidOfHeld outcome) where
  guard_said : (e : Enclosed) (t : Bool) (n : ℕ) → outcome_at (next_in e Guard (if t then Won else Lost n)).step ≡ Some outcome → ⊥
  guard_said e true n some = none-some outcome some
  guard_said e false n some = other_said (again (Busy (guard_of e) n)) outcome (λ s. s) some said

  next_said : (b : ℕ) (t : Bool) → outcome_at (if t then Lock (b + 1) Look else Head) ≡ Some outcome → ⊥
  next_said b true some = none-some outcome some
  next_said b false some = none-some outcome some

  lock_said : (e : Enclosed) (b : ℕ) (t : Taken) → outcome_at (locked_to e b t).step ≡ Some outcome → ⊥
  lock_said e b (taken.On take) some = none-some outcome some
  lock_said e b (taken.Held free) some = next_said b (nat_lt b 65) some
  lock_said e b (taken.Busy seen) some = other_said (again (Busy (lock_of e b) seen)) outcome (λ s. s) some said
  lock_said e b (taken.Moved first later) some = other_said (again (Moved (lock_of e b) first later)) outcome (λ s. s) some said
  lock_said e b taken.Spent some = none-some outcome some

  -- ---- EACH STEP
  held_at : (site : Ground) (here : Site) (call : Call) (e : Enclosed) (v : View) (s : EncloseStep) (n : ℕ) → SuitsStep site here call e s v → outcome_at s ≡ None
      → outcome_at (next_in e s (answer_to (wanted_in e s) n)).step ≡ Some outcome → HoldsPart site e 0 buckets v
  held_at site here call e v Guard n s none some = absurd (guard_said e (n == 0) n some)
  held_at site here call e v (Lock b take) n s none some = absurd (lock_said e b (take_taken take (answer_to (take_wanted (lock_of e b) take) n)) some)
  held_at site here call e v Head n s none some = s.0.part
  held_at site here call e v (Fill at) n s none some = s.0.taking.part
  held_at site here call e v (CountSpent b) n s none some = absurd (other_said (replied Spent n) outcome (λ s. s) some said)
  held_at site here call e v CountDeep n s none some = s.0.headed.taking.part
  held_at site here call e v (Give give end) n s none some = absurd (none-some (outcome_of end) (sym none))
  held_at site here call e v (Ended end) n s none some = absurd (none-some (outcome_of end) (sym none))
  held_at site here call e v Whole n s none some = absurd (none-some outcome some)

pub says_of_held : SaysOfHeld
says_of_held site here call words op before v s none outcome some said =
    held_at outcome said site here call op.enclosed v op.step (words (word_of site.shape (wanted_in op.enclosed op.step))) s.stands.view none some
