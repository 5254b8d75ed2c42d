-- An entry among those of all callers is one of some view.
use Rattle.std.proofs.Common.{ℕ, zero, suc, List, [], ◌∷◌, inl, inr, refl, arith}
use Rattle.std.specs.Prelude.{Contains}
use Rattle.map_model.specs.declared.entry.Entry.{Entry}
use Rattle.map_model.proofs.Elements.{Has as IsIn, Has-append_cases}
use Rattle.world.specs.Views.{View, Has, At}
use Rattle.world.proofs.Legality.{turned}
use Rattle.play.specs.Runs.{all_own}

pub whose : (views : List View) (e : Entry) → IsIn (all_own views) e → (j : ℕ) × (v : View) × At views j v × Has e v.own
whose [] e h = absurd h
whose (v ∷ views) e h = elim (Has-append_cases v.own (all_own views) e h) [
  | inl mine ↦ (0, v, refl, turned v.own e mine)
  | inr r ↦ (let s = whose views e r in (suc s.0, s.1, s.2, s.3))
]

pub among : (es : List Entry) (e : Entry) → Contains es e → IsIn es e
among [] e (k, low, is) = absurd (omega (arith, low))
among (x ∷ es) e (zero, low, is) = inl is
among (x ∷ es) e (suc k, low, is) = inr (among es e (k, omega (arith, low), is))
