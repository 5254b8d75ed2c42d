-- What a test chooses of two, as a loaded word what it makes of a way, or the locks that are held what comes next: what is so of both is so of it.
use Rattle.std.proofs.Common.{◌≡◌, ℕ, Bool, Option, None, Some, refl}
use Rattle.std.specs.Prelude.{if◌then◌else◌}
use Rattle.std.proofs.lemmas.Bool.{cond_both}
use Rattle.phase.specs.declared.role.Role.{Role}
use Rattle.phase.specs.declared.held.Held.{Held}
use Rattle.phase.specs.Helds.{give_next, give_step_of, give_step}

-- what is so of both is so of the one that a test chooses
pub by_both : {A : Type 0} (P : A → Type 0) (b : Bool) (s t : A) → P s → P t → P (if b then s else t)
by_both P b s t p q = cond_both b s t P (λ e. p) (λ e. q)

-- ---- the step in which a lock is given back, and the one where none is held
by_next : {A : Type 0} (P : A → Type 0) (held : Held) (give ended : A) → P give → (give_next held ≡ None → P ended) → (next : Option (Role × ℕ)) → give_next held ≡ next
    → P (give_step_of next give ended)
by_next P held give ended p q (Some next) e = p
by_next P held give ended p q None e = q e

pub by_held : {A : Type 0} (P : A → Type 0) (held : Held) (give ended : A) → P give → (give_next held ≡ None → P ended) → P (give_step held give ended)
by_held P held give ended p q = by_next P held give ended p q (give_next held) refl

-- whichever are held
pub by_step : {A : Type 0} (P : A → Type 0) (held : Held) (give ended : A) → P give → P ended → P (give_step held give ended)
by_step P held give ended p q = by_held P held give ended p (λ e. q)
