-- By the laws of a caller that is driven: who is alone waits for nobody, and ends no attempt in Again.
use Rattle.engine.specs.Engine.{running}
use Rattle.engine.proofs.lonely.Staying.{due_at_start}
use Rattle.engine.proofs.lonely.Stages.{StageLaws}
use Rattle.engine.proofs.lonely.Fewer.{events_are_few, alone_leaves_fewer}
use Rattle.engine.proofs.single.calls_end_alone.Goals as goal

stage_laws : goal.After-driven_calls_end → StageLaws
stage_laws c = record {
  part = c.calls_are_parts.ensures.part;
  rest = c.rests_are_parts.ensures.part;
  takes = c.new_slots_were_free.ensures.takes;
  stays = c.new_slots_were_free.ensures.stays;
  wins = c.free_guards_are_won.ensures;
  never = λ op own some. c.calls_are_parts.ensures.finished (running op) own some;
}

pub returns-clause-start : goal.returns-clause-start
returns-clause-start c = due_at_start

pub returns-clause-few : goal.returns-clause-few
returns-clause-few c = events_are_few (stage_laws c)

pub returns-clause-fewer : goal.returns-clause-fewer
returns-clause-fewer c = alone_leaves_fewer c.driven_calls_end.ensures.fewer c.turns_go_on.ensures.tries c.never_again_alone.ensures.never c.never_again_alone.ensures.tell
