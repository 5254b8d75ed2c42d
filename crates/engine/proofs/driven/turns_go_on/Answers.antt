-- By the guard of the directory, which another has where it is tried in vain.
use Rattle.engine.specs.Engine.{running}
use Rattle.engine.proofs.lonely.Stages.{StageLaws}
use Rattle.engine.proofs.lonely.Trying.{tries_are_others}
use Rattle.engine.proofs.lonely.Going.{turns_go_on, attempts_are_short}
use Rattle.engine.proofs.driven.turns_go_on.Goals as goal

stage_laws : goal.After-turn_keeps → StageLaws
stage_laws c = record {
  part = c.calls_are_parts.ensures.part;
  rest = c.rests_are_parts.ensures.part;
  takes = c.new_slots_were_free.ensures.takes;
  stays = c.new_slots_were_free.ensures.stays;
  wins = c.free_guards_are_won.ensures;
  never = λ op own some. c.calls_are_parts.ensures.finished (running op) own some;
}

pub returns-clause-tries : goal.returns-clause-tries
returns-clause-tries c = tries_are_others c.attempts_have_causes.ensures c.calls_are_parts.ensures.bare c.free_guards_are_won.ensures c.opened_holds.ensures c.turn_keeps.ensures.one

pub returns-clause-goes : goal.returns-clause-goes
returns-clause-goes c = turns_go_on c.attempts_have_causes.ensures (stage_laws c) c.opened_holds.ensures c.turn_keeps.ensures.one

pub returns-clause-short : goal.returns-clause-short
returns-clause-short c = attempts_are_short (stage_laws c)
