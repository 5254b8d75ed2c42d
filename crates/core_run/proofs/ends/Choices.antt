-- What holds at a choice.
use Rattle.std.proofs.Common.{◌≡◌, Bool, true, false, cond, refl, sym, subst}

pub either : {S : Type 0} (P : S → Type 0) (b : Bool) (s t : S) → P s → P t → P (cond b s t)
either P true s t p q = p
either P false s t p q = q

pub not_so : {S : Type 0} (P : S → Type 0) (b : Bool) (s t : S) → b ≡ false → P t → P (cond b s t)
not_so P b s t is p = subst (λ c. P (cond c s t)) (sym is) p

-- two choices are the same where what comes of the other way is
pub same_choice : {S : Type 0} (b : Bool) (s t u : S) → (b ≡ false → t ≡ u) → cond b s t ≡ cond b s u
same_choice true s t u same = refl
same_choice false s t u same = same refl
