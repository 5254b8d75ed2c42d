-- By the laws of a part.
use Rattle.engine.proofs.machines.Begins.{begins_suited, repair_suits}
use Rattle.engine.proofs.machines.Ends.{releases_tell_alone}
use Rattle.engine.proofs.machines.Anew.{AnewLaws, anew_suits}
use Rattle.engine.proofs.machines.Engines.{keeps_suits}
use Rattle.engine.proofs.laws.fits_the_world.Goals as goal

pub returns-clause-begins : goal.returns-clause-begins
returns-clause-begins c = begins_suited c.gets_are_parts.ensures.begins c.gets_are_parts.ensures.remembers c.changes_are_parts.ensures.begins c.changes_are_parts.ensures.remembers

anew_laws : goal.After-calls_are_parts → AnewLaws
anew_laws c = record {
  begins = begins_suited c.gets_are_parts.ensures.begins c.gets_are_parts.ensures.remembers c.changes_are_parts.ensures.begins c.changes_are_parts.ensures.remembers;
  alone = releases_tell_alone c.gets_are_parts.ensures.splits c.changes_are_parts.ensures.splits c.moves_are_parts.ensures.splits c.stashes_are_parts.ensures.splits;
  leaves = c.releases_find_no_room.ensures.there;
  enclose_begins = c.enclosings_are_parts.ensures.begins;
  enclose_remembers = c.ends_have_causes.ensures.remembers;
  relies = c.calls_are_parts.ensures.part.relies;
  repair_begins = c.repairs_are_parts.ensures.begins;
  repair_remembers = c.ends_have_causes-2.ensures.remembers;
}

pub returns-clause-anew : goal.returns-clause-anew
returns-clause-anew c = anew_suits (anew_laws c)

pub returns-clause-repairs : goal.returns-clause-repairs
returns-clause-repairs c = repair_suits c.repairs_are_parts.ensures.begins c.ends_have_causes-2.ensures.remembers

pub returns-clause-steps : goal.returns-clause-steps
returns-clause-steps c = keeps_suits (record {
  part = c.calls_are_parts.ensures.part;
  says = c.calls_are_parts.ensures.ends;
  call_causes = c.calls_are_parts.ensures.causes;
  split_causes = c.calls_are_parts.ensures.split_causes;
  repair_causes = c.calls_are_parts.ensures.repair_causes;
  anew = anew_laws c;
  callers = c.steps_add_one_reply.ensures.callers;
  structure = c.structure_steps_change_no_pair.ensures.reply;
})
