-- By the causes of ends.
use Rattle.engine.proofs.lonely.Lonely.{all_rest_at_start, alone_at_start, resting_is_alone, own_turns_stay_alone, alone_never_again, ends_are_told, ends_tell, ended_rests, others_stay_resting}
use Rattle.engine.proofs.single.never_again_alone.Goals as goal

pub returns-clause-start : goal.returns-clause-start
returns-clause-start c = all_rest_at_start

pub returns-clause-start_alone : goal.returns-clause-start_alone
returns-clause-start_alone c = alone_at_start c.ends_have_causes.ensures.begins

pub returns-clause-rests : goal.returns-clause-rests
returns-clause-rests c = resting_is_alone c.ends_have_causes.ensures.begins

pub returns-clause-stays : goal.returns-clause-stays
returns-clause-stays c = own_turns_stay_alone c.attempts_have_causes.ensures c.calls_are_parts.ensures.bare c.opened_holds.ensures c.turn_keeps.ensures.one c.ends_have_causes.ensures.busy
    c.ends_have_causes.ensures.causes c.ends_have_causes.ensures.begins c.ends_have_causes.ensures.stays

pub returns-clause-never : goal.returns-clause-never
returns-clause-never c = alone_never_again c.attempts_have_causes.ensures c.calls_are_parts.ensures.bare c.opened_holds.ensures c.turn_keeps.ensures.one c.ends_have_causes.ensures.busy
    c.ends_have_causes.ensures.causes c.ends_have_causes.ensures.begins c.ends_have_causes.ensures.stays

pub returns-clause-told : goal.returns-clause-told
returns-clause-told c = ends_are_told c.ends_have_causes.ensures.causes c.ends_have_causes.ensures.begins c.ends_have_causes.ensures.stays

pub returns-clause-ended : goal.returns-clause-ended
returns-clause-ended c = ended_rests

pub returns-clause-others : goal.returns-clause-others
returns-clause-others c = others_stay_resting

pub returns-clause-tell : goal.returns-clause-tell
returns-clause-tell c = ends_tell c.attempts_have_causes.ensures c.opened_holds.ensures c.turn_keeps.ensures.one c.ends_have_causes.ensures.ends
