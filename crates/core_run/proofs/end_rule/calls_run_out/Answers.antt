-- Turn by turn, and round by round.
use Rattle.core_run.proofs.turns.Standing.{TurnLaws}
use Rattle.core_run.proofs.turns.Resting.{first_round_rests, second_round_rests}
use Rattle.core_run.proofs.turns.Ending.{turn_ends_call, turn_of_none, rounds_end, rounds_are_enough}
use Rattle.core_run.proofs.turns.Lone.{LoneLaws, one_callers_turn, one_callers_rounds}
use Rattle.core_run.proofs.end_rule.calls_run_out.Goals as goal

turn_laws : goal.After-drives_are_enough → TurnLaws
turn_laws c = record {
  wells = c.deeds_are_well.ensures;
  stays = c.drives_stay.ensures.round;
  enough = c.drives_are_enough.ensures;
  tries = c.turns_go_on.ensures.tries;
  ended = c.never_again_alone.ensures.ended;
  others = c.never_again_alone.ensures.others;
  rests = c.never_again_alone.ensures.rests;
  own = c.never_again_alone.ensures.stays;
  never = c.never_again_alone.ensures.never;
  tell = c.never_again_alone.ensures.tell;
}

lone_laws : goal.After-drives_are_enough → LoneLaws
lone_laws c = record {
  turns = turn_laws c;
  rest = c.never_again_alone.ensures.start;
  alone = c.never_again_alone.ensures.start_alone;
  calls = c.turns_keep.ensures.scripts;
  watching = c.ends_have_causes.ensures.watching;
}

pub returns-clause-first : goal.returns-clause-first
returns-clause-first c = first_round_rests (turn_laws c)

pub returns-clause-second : goal.returns-clause-second
returns-clause-second c = second_round_rests (turn_laws c)

pub returns-clause-turn : goal.returns-clause-turn
returns-clause-turn c = turn_ends_call (turn_laws c)

pub returns-clause-none : goal.returns-clause-none
returns-clause-none c = turn_of_none

pub returns-clause-rounds : goal.returns-clause-rounds
returns-clause-rounds c = rounds_end (turn_laws c)

pub returns-clause-few : goal.returns-clause-few
returns-clause-few c = rounds_are_enough

pub returns-clause-one_turn : goal.returns-clause-one_turn
returns-clause-one_turn c = one_callers_turn (lone_laws c)

pub returns-clause-one_rounds : goal.returns-clause-one_rounds
returns-clause-one_rounds c = one_callers_rounds (lone_laws c)
