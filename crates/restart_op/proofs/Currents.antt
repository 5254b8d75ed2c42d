-- Current by the state word of words is current by that of the site, where the words have its structure.
use Rattle.std.proofs.Common.{ℕ, ◌%◌, ◌^◌, ap, ◌∙◌, arith}
use Rattle.trace.specs.Events.{Words}
use Rattle.image_layout.specs.Places.{state_word}
use Rattle.world.specs.Ground.{Ground, IsStructured, IsCurrentIn}
use Rattle.restart_op.specs.AtRest.{IsCurrent}

pub current_in : (site : Ground) (words : Words) → IsStructured site words → (s : ℕ) → IsCurrent site.shape words s → IsCurrentIn site words s
current_in site words structured s c =
    record { live = c.live; current = c.current ∙ ap (λ n. n % 2 ^ 8) (structured.fixed state_word (omega arith) (λ e. omega (arith, e))) }
