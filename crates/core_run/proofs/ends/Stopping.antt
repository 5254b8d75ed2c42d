-- A caller that goes on stops by itself: after how many events at most, and that more of them change nothing.
use Rattle.std.proofs.Common.{◌≡◌, ℕ, zero, suc, ◌≤◌, false, Option, Some, None, refl, sym, ap, ◌∙◌, arith}
use Rattle.std.specs.Prelude.{if◌then◌else◌}
use Rattle.std.proofs.lemmas.Option.{none-some}
use Rattle.image_layout.specs.Places.{Shape}
use Rattle.core_run.specs.declared.goal.Goal.{Goal}
use Rattle.core_run.specs.State.{State, Deed, deed}
use Rattle.core_run.specs.Run.{counts, stops, by_deed, drive}
use Rattle.core_run.proofs.ends.Choices.{same_choice}

module _ (shape : Shape) (goal : Goal) (c : ℕ) where
  -- a caller that goes on to this goal stops after so many events, or has no more
  abbrev pub StopsIn : ℕ → State → Type 0
  StopsIn zero s = (d : Deed) → deed shape c s ≡ Some d → ⊥
  StopsIn (suc n) s = (d : Deed) → deed shape c s ≡ Some d → stops goal d ≡ false → StopsIn n d.state

  pub stops_sooner : (n m : ℕ) (s : State) → n ≤ m → StopsIn n s → StopsIn m s
  stops_sooner zero zero s few none = none
  stops_sooner zero (suc m) s few none = λ d e on. absurd (none d e)
  stops_sooner (suc n) zero s few stop = absurd (omega (arith, few))
  stops_sooner (suc n) (suc m) s few stop = λ d e on. stops_sooner n m d.state (omega (arith, few)) (stop d e on)

  -- who has no event left has stopped
  pub none_stops : (n : ℕ) (s : State) → deed shape c s ≡ None → StopsIn n s
  none_stops zero s none = λ d e. none-some d (sym none ∙ e)
  none_stops (suc n) s none = λ d e on. absurd (none-some d (sym none ∙ e))

  no_deed : (s : State) → StopsIn zero s → deed shape c s ≡ None
  no_deed s none = by (deed shape c s) refl
    where
      by : (o : Option Deed) → deed shape c s ≡ o → o ≡ None
      by None e = refl
      by (Some d) e = absurd (none d e)

  pub stays_there : (m n : ℕ) (s : State) → deed shape c s ≡ None → drive shape m c goal n s ≡ s
  stays_there zero n s none = refl
  stays_there (suc m) zero s none = refl
  stays_there (suc m) (suc n) s none = ap (λ o. by_deed goal o s (λ d. drive shape m c goal (if counts goal d then n else suc n) d.state)) none

  -- with more events it goes no further
  pub same_drive : (m k n : ℕ) (s : State) → StopsIn m s → StopsIn k s → drive shape m c goal n s ≡ drive shape k c goal n s
  same_drive zero k n s a b = sym (stays_there k n s (no_deed s a))
  same_drive (suc m) zero n s a b = stays_there (suc m) n s (no_deed s b)
  same_drive (suc m) (suc k) zero s a b = refl
  same_drive (suc m) (suc k) (suc n) s a b = by (λ n' u p q. same_drive m k n' u p q) (deed shape c s) refl
    where
      by : ((n' : ℕ) (u : State) → StopsIn m u → StopsIn k u → drive shape m c goal n' u ≡ drive shape k c goal n' u) → (o : Option Deed) → deed shape c s ≡ o
          → by_deed goal o s (λ d. drive shape m c goal (if counts goal d then n else suc n) d.state)
          ≡ by_deed goal o s (λ d. drive shape k c goal (if counts goal d then n else suc n) d.state)
      by rest None e = refl
      by rest (Some d) e = same_choice (stops goal d) d.state _ _ (λ on. rest (if counts goal d then n else suc n) d.state (a d e on) (b d e on))
