-- Calls that are left, and whether a caller has one.
use Rattle.std.proofs.Common.{◌≡◌, ℕ, inl, inr, true, false, Option, Some, None, List, [], ◌∷◌, length, refl, sym, ◌∙◌, arith}
use Rattle.std.specs.Prelude.{is_some, if◌then◌else◌}
use Rattle.std.proofs.lemmas.Option.{none-some, slice_get_within, slice_get_cases}
use Rattle.image_layout.specs.Places.{Shape}
use Rattle.map_model.specs.declared.call.Call.{Call}
use Rattle.engine.specs.Core.{Caller, current}
use Rattle.core_run.specs.Run.{has_calls}
use Rattle.core_run.specs.Along.{behind, all_behind}

pub past_calls : (c : Caller) → current c ≡ None → behind c ≡ 0
past_calls c none = elim (slice_get_cases c.calls (length c.entries)).1 [
  | inl some ↦ absurd (none-some some.0 (sym none ∙ some.2))
  | inr past ↦ (let p = past.0 in omega (arith, p))
]

module _ (shape : Shape) (most : ℕ) where
  pub has_none : (cs : List Caller) → all_behind cs ≡ 0 → has_calls shape most cs ≡ false
  has_none [] none = refl
  has_none (c ∷ cs) none = by (has_none cs) (current c) refl
    where
      by : (all_behind cs ≡ 0 → has_calls shape most cs ≡ false) → (o : Option Call) → current c ≡ o → (if is_some o then true else has_calls shape most cs) ≡ false
      by rest (Some call) is = (let w = slice_get_within c.calls (length c.entries) call is in absurd (omega (arith, w, none)))
      by rest None is = rest (omega (arith, none))
