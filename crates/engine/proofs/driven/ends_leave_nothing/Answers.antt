-- By the step of its kind, the pairs that it leaves, and what is seen turn by turn.
use Rattle.engine.proofs.holding.Turning.{TurnLaws}
use Rattle.engine.proofs.holding.Leaving.{ends_leave_nothing}
use Rattle.engine.proofs.holding.Seeing.{told_nothing}
use Rattle.engine.proofs.driven.ends_leave_nothing.Goals as goal

laws : goal.After-ends_have_causes → TurnLaws
laws c = record {
  part = c.calls_are_parts.ensures.part;
  begins = c.fits_the_world.ensures.begins;
  steps = c.fits_the_world.ensures.steps;
  words = c.stores_are_words.ensures;
  well = c.worlds_stay_well.ensures;
  media = c.used_slots_stay.ensures.media;
  full = c.slots_stay.ensures.full;
  power = c.steps_leave.ensures.power;
  one_word = c.steps_do_events.ensures.one;
}

pub returns-clause-ends : goal.returns-clause-ends
returns-clause-ends c = ends_leave_nothing (laws c) c.refusals_leave_pairs.ensures.turns c.refusals_leave_pairs.ensures.done

pub returns-clause-told : goal.returns-clause-told
returns-clause-told c = told_nothing c.turn_keeps.ensures.later c.ends_have_causes.ensures.begins c.calls_are_parts.ensures.bare
