-- A caller stops by itself, within the events that are counted.
use Rattle.core_run.proofs.ends.Working.{EngineLaws}
use Rattle.core_run.proofs.ends.Measures.{drives_are_enough}
use Rattle.core_run.proofs.runs.drives_are_enough.Goals as goal

engine_laws : goal.After-keepers_have_laws → EngineLaws
engine_laws c = record {
  ended = c.never_again_alone.ensures.ended;
  goes = c.turns_go_on.ensures.goes;
  short = c.turns_go_on.ensures.short;
  still = c.driven_calls_end.ensures.still;
  due = c.driven_calls_end.ensures.due;
  fewer = c.driven_calls_end.ensures.fewer;
  anew = c.driven_calls_end.ensures.anew;
  begins = c.driven_calls_end.ensures.begins;
  few = c.calls_end_alone.ensures.few;
}

pub returns : goal.returns
returns c t most k aim n s is enough r = drives_are_enough c.keepers_have_laws.ensures t is (engine_laws c) most k aim n s enough r
