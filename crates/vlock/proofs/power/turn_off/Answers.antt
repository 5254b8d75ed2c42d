use Rattle.std.proofs.Common.{ℕ, refl, ap, ◌∙◌}
use Rattle.image_layout.specs.Volatile.{power_word, power_off}
use Rattle.op_core.specs.declared.want.Want.TheVariants.{Store}
use Rattle.vlock.proofs.power.turn_off.Goals as goal

pub event-requires-clause-acting : goal.event-requires-clause-acting
event-requires-clause-acting c = (refl, ap (λ (n : ℕ). Store n power_off) (c.power_word.ensures.is ∙ ap power_word c.requires.geometry))

pub event-requires-clause-may : goal.event-requires-clause-may
event-requires-clause-may c = (c.requires.callers, λ found met. (refl, (tt, tt)))

pub returns-clause-off : goal.returns-clause-off
returns-clause-off c = (c.event.ensures.view.0, c.event.ensures.view.2.0)
