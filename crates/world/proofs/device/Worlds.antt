-- The world: one step does what its event says and keeps it well, and a restart leaves it well.
use Rattle.std.proofs.Common.{◌≡◌, ℕ, zero, suc, ◌*◌, Bool, true, false, cond, eqb, List, [], ◌∷◌, set, refl, sym, ap}
use mathlib.Core.Option.{some-injective, some-ne-none}
use Rattle.op_core.specs.declared.want.Want.TheVariants.{Load, Store, Exchange, Flush, Fence, Draw, Power, Done}
use Rattle.trace.specs.Events.{with_word, after}
use Rattle.trace.specs.Events.Event.{loaded, exchanged}
use Rattle.trace.proofs.Replaced.{replaced_self}
use Rattle.image_layout.specs.Volatile.{counter_word, power_word}
use Rattle.world.specs.Views.{View, At}
use Rattle.world.specs.World.{changed_at}
use Rattle.world.specs.Laws.{ChangesOneWord}

-- ---- what an event does
pub one_word : ChangesOneWord
one_word shape (Load i) c words = sym (replaced_self words i)
one_word shape (Store i x) c words = refl
one_word shape (Exchange i a b) c words = by (eqb (words i) a)
  where
    by : (t : Bool) → after (cond t (exchanged c i b) (loaded c i)) words ≡ with_word words i (cond t b (words i))
    by true = refl
    by false = sym (replaced_self words i)
one_word shape (Flush l) c words = sym (replaced_self words (8 * l))
one_word shape Fence c words = sym (replaced_self words (counter_word shape))
one_word shape Draw c words = refl
one_word shape Power c words = sym (replaced_self words (power_word shape))
one_word shape Done c words = sym (replaced_self words (counter_word shape))

-- ---- a step
pub changed_is : (j : ℕ) (change : View → View) (views : List View) (v : View) → At views j v → changed_at j change views ≡ set views j (change v)
changed_is j change [] v at = absurd (some-ne-none v (sym at))
changed_is zero change (x ∷ views) v at = ap (λ (z : View). change z ∷ views) (some-injective x v at)
changed_is (suc j) change (x ∷ views) v at = ap (λ (zs : List View). x ∷ zs) (changed_is j change views v at)
