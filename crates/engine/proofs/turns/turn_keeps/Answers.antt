-- By the laws of an engine and of the world.
use Rattle.engine.proofs.holding.Turning.{TurnLaws, turn_keeps, run_keeps, calls_stay}
use Rattle.engine.proofs.holding.Seeing.{views_get_later}
use Rattle.engine.proofs.turns.turn_keeps.Goals as goal

laws : goal.After-stores_are_words → TurnLaws
laws c = record {
  part = c.calls_are_parts.ensures.part;
  begins = c.fits_the_world.ensures.begins;
  steps = c.fits_the_world.ensures.steps;
  words = c.stores_are_words.ensures;
  well = c.worlds_stay_well.ensures;
  media = c.used_slots_stay.ensures.media;
  full = c.slots_stay.ensures.full;
  power = c.steps_leave.ensures.power;
  one_word = c.steps_do_events.ensures.one;
}

pub returns-clause-one : goal.returns-clause-one
returns-clause-one c = turn_keeps (laws c)

pub returns-clause-all : goal.returns-clause-all
returns-clause-all c = run_keeps (turn_keeps (laws c))

pub returns-clause-calls : goal.returns-clause-calls
returns-clause-calls c = calls_stay

pub returns-clause-later : goal.returns-clause-later
returns-clause-later c = views_get_later (laws c) c.steps_leave.ensures.later
