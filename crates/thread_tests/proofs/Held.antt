-- Who took a lock and owes nothing may give it back.
use Rattle.std.proofs.Common.{inl, inr, ◌≡◌, ℕ, ◌+◌, ◌*◌, ◌^◌, ◌<◌, List, ◌∷◌, refl, sym, ap, ◌∙◌, subst, arith}
use Rattle.world.specs.Views.{View, Has}
use Rattle.world.specs.Attempts.{OwesNothing}
use Rattle.vlock.specs.Buckets.{MayCall, MayUnlock}
use Rattle.vlock.specs.Finding.{IsBesideWay}

module _ (old v w : View) (lock version : ℕ) (way : IsBesideWay old v) (is : w ≡ record v { held = (lock, 2 * version + 1) ∷ v.held }) where
  pub may_give_back : OwesNothing old → 2 * version + 2 < 2 ^ 64 → MayUnlock w lock
  may_give_back n fits = record {
    value = 2 * version + 1;
    held = subst (λ (z : View). Has (lock, 2 * version + 1) z.held) (sym is) (inl refl);
    fits = omega (arith, fits);
    firm = λ p loose under. elim loose [
      | inl d ↦ subst (λ (ps : List (ℕ × ℕ)). Has p ps) (ap (λ (z : View). z.dirty) is ∙ ap (λ (z : View). z.dirty) way ∙ n.dirty) d
      | inr f ↦ subst (λ (ps : List (ℕ × ℕ)). Has p ps) (ap (λ (z : View). z.flushed) is ∙ ap (λ (z : View). z.flushed) way ∙ n.flushed) f
    ];
    planned = ap (λ (z : View). z.planned) is ∙ ap (λ (z : View). z.planned) way ∙ n.planned;
    moving = ap (λ (z : View). z.moving) is ∙ ap (λ (z : View). z.moving) way ∙ n.moving;
    owed = ap (λ (z : View). z.owed) is ∙ ap (λ (z : View). z.owed) way ∙ n.owed;
  }

  pub may_call_with : MayCall v → MayCall w
  may_call_with may = subst MayCall (sym is) may
