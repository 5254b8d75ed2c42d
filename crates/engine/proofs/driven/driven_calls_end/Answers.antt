-- By the room that there is not, the slots that are taken, and the segments that are stale.
use Rattle.engine.specs.Engine.{running}
use Rattle.engine.proofs.machines.Ends.{ReleasesTellAlone, releases_tell_alone}
use Rattle.engine.proofs.lonely.Lonely.{own_turns_stay_still}
use Rattle.engine.proofs.lonely.Staying.{DueLaws, begun_is_due, own_turns_stay_due}
use Rattle.engine.proofs.lonely.Stages.{StageLaws}
use Rattle.engine.proofs.lonely.Fewer.{own_turns_leave_fewer}
use Rattle.engine.proofs.lonely.Going.{ends_begin_anew}
use Rattle.engine.proofs.driven.driven_calls_end.Goals as goal

tells_alone : goal.After-never_again_alone → ReleasesTellAlone
tells_alone c = releases_tell_alone c.gets_are_parts.ensures.splits c.changes_are_parts.ensures.splits c.moves_are_parts.ensures.splits c.stashes_are_parts.ensures.splits

due_laws : goal.After-never_again_alone → DueLaws
due_laws c = record {
  causes = c.attempts_have_causes.ensures;
  rooms = record { splits = c.releases_find_no_room.ensures.now; finds = c.enclosings_are_parts.ensures.room; keeps = c.enclosings_are_parts.ensures.keeps };
  stale = record { grows = c.stale_segments_only_go.ensures.stale; stays = c.stale_segments_only_go.ensures.stays; renewed = c.stale_segments_only_go.ensures.renewed };
  alone = tells_alone c;
  says = c.ends_have_causes.ensures.ends;
}

stage_laws : goal.After-never_again_alone → StageLaws
stage_laws c = record {
  part = c.calls_are_parts.ensures.part;
  rest = c.rests_are_parts.ensures.part;
  takes = c.new_slots_were_free.ensures.takes;
  stays = c.new_slots_were_free.ensures.stays;
  wins = c.free_guards_are_won.ensures;
  never = λ op own some. c.calls_are_parts.ensures.finished (running op) own some;
}

pub returns-clause-still : goal.returns-clause-still
returns-clause-still c = own_turns_stay_still

pub returns-clause-due : goal.returns-clause-due
returns-clause-due c = own_turns_stay_due (due_laws c) c.opened_holds.ensures c.turn_keeps.ensures.one

pub returns-clause-fewer : goal.returns-clause-fewer
returns-clause-fewer c = own_turns_leave_fewer (record {
  due = due_laws c;
  stages = stage_laws c;
  leaves = c.releases_find_no_room.ensures.there;
  freed = c.used_slots_stay.ensures.freed;
  new = c.slots_stay.ensures.new;
  told = c.never_again_alone.ensures.told;
  tell = c.never_again_alone.ensures.tell;
}) c.opened_holds.ensures c.turn_keeps.ensures.one

pub returns-clause-anew : goal.returns-clause-anew
returns-clause-anew c = ends_begin_anew (tells_alone c) c.never_again_alone.ensures.told c.never_again_alone.ensures.tell

pub returns-clause-begins : goal.returns-clause-begins
returns-clause-begins c = begun_is_due
