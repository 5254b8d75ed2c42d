-- A line for each machine.
use Rattle.engine.proofs.machines.Passing.{ChangeLaws, whole_is_part, whole_ends_by_cause, SplitLaws, split_whole_is_part, split_whole_ends, RepairLaws, repair_whole_is_part, repair_whole_ends}
use Rattle.engine.proofs.machines.Finishing.{repair_finishes_current}
use Rattle.engine.proofs.machines.Ops.{call_is_part, call_ends_by_cause, op_is_part}
use Rattle.engine.proofs.machines.Begins.{begins_remembering, begins_bare}
use Rattle.engine.proofs.machines.Ends.{EndLaws, ends_are_decided, never_finished}
use Rattle.engine.proofs.laws.calls_are_parts.Goals as goal

change_laws : goal.After-mends_end_repaired → ChangeLaws
change_laws c = record {
  change = c.changes_are_parts.ensures.part;
  change_causes = c.changes_are_parts.ensures.causes;
  change_hands = c.changes_are_parts.ensures.hands_on;
  change_tells = c.changes_are_parts.ensures.handed;
  move = c.moves_are_parts.ensures.part;
  move_causes = c.moves_are_parts.ensures.causes;
  move_begins = c.moves_are_parts.ensures.begins;
  move_remembers = c.moves_are_parts.ensures.remembers;
  move_undecided = c.moves_are_parts.ensures.undecided;
  move_hands = c.moves_are_parts.ensures.hands_on;
  stash = c.stashes_are_parts.ensures.part;
  stash_causes = c.stashes_are_parts.ensures.causes;
  stash_begins = c.stashes_are_parts.ensures.begins;
  stash_remembers = c.stashes_are_parts.ensures.remembers;
  stash_undecided = c.stashes_are_parts.ensures.undecided;
  stash_hands = c.stashes_are_parts.ensures.hands_on;
  stash_tells = c.stashes_are_parts.ensures.hands_memory;
  release = c.releases_are_parts.ensures.part;
  release_causes = c.releases_are_parts.ensures.causes;
  release_begins = c.releases_are_parts.ensures.begins;
  release_remembers = c.releases_are_parts.ensures.remembers;
  release_undecided = c.releases_are_parts.ensures.undecided;
}

split_laws : goal.After-mends_end_repaired → SplitLaws
split_laws c = record {
  enclose = c.enclosings_are_parts.ensures.part;
  enclose_causes = c.ends_have_causes.ensures.causes;
  enclose_hands = c.enclosings_are_parts.ensures.whole;
  enclose_tells = c.ends_have_causes.ensures.remembered;
  split = c.splits_are_parts.ensures.part;
  split_causes = c.ends_have_causes-2.ensures.causes;
  split_begins = c.splits_are_parts.ensures.begins;
  split_copies = c.splits_are_parts.ensures.copies;
  split_undecided = c.splits_are_parts.ensures.undecided;
  split_remembers = c.ends_have_causes-2.ensures.remembers;
  split_hands = c.splits_are_parts.ensures.hands;
  publish = c.publishings_are_parts.ensures.part;
  publish_causes = c.outcomes_have_causes.ensures;
  publish_begins = c.publishings_are_parts.ensures.begins;
  publish_undecided = c.publishings_are_parts.ensures.undecided;
  publish_hands = c.publishings_are_parts.ensures.split;
  rest = c.rests_are_parts.ensures.part;
  rest_causes = c.rests_are_parts.ensures.causes;
  rest_begins = c.rests_are_parts.ensures.begins;
  rest_reckons = c.rests_are_parts.ensures.reckoned;
  rest_undecided = c.rests_are_parts.ensures.undecided;
}

repair_laws : goal.After-mends_end_repaired → RepairLaws
repair_laws c = record {
  repair = c.repairs_are_parts.ensures.part;
  repair_causes = c.ends_have_causes-3.ensures.causes;
  repair_current = c.ends_have_causes-3.ensures.current;
  repair_hands = c.repairs_are_parts.ensures.guarded;
  repair_tells = c.ends_have_causes-3.ensures.remembered;
  redirect = c.redirects_are_parts.ensures.part;
  redirect_causes = c.ends_have_causes-4.ensures.causes;
  redirect_begins = c.redirects_are_parts.ensures.begins;
  redirect_undecided = c.redirects_are_parts.ensures.undecided;
  redirect_remembers = c.ends_have_causes-4.ensures.remembers;
  redirect_hands = c.redirects_are_parts.ensures.redirected;
  mend = c.mends_are_parts.ensures.part;
  mend_causes = c.mends_end_repaired.ensures.causes;
  mend_current = c.mends_end_repaired.ensures.current;
  mend_begins = c.mends_are_parts.ensures.begins;
  mend_undecided = c.mends_are_parts.ensures.undecided;
}

end_laws : goal.After-mends_end_repaired → EndLaws
end_laws c = record {
  get = c.gets_are_parts.ensures.ends;
  change = c.ends_tell.ensures;
  move = c.ends_tell-2.ensures;
  stash = c.ends_tell-3.ensures;
  release = c.ends_tell-4.ensures;
  enclose = c.ends_tell-5.ensures;
  publish = c.publishings_are_parts.ensures.off;
  rest = c.rests_are_parts.ensures.finished;
  repair = c.repairs_are_parts.ensures.ends;
  redirect = c.redirects_are_parts.ensures.ends;
  mend = c.mends_end_repaired.ensures.finished;
}

pub returns-clause-part : goal.returns-clause-part
returns-clause-part c = op_is_part (call_is_part c.gets_are_parts.ensures.part (whole_is_part (change_laws c))) (split_whole_is_part (split_laws c)) (repair_whole_is_part (repair_laws c))

pub returns-clause-causes : goal.returns-clause-causes
returns-clause-causes c = call_ends_by_cause c.gets_are_parts.ensures.causes (whole_ends_by_cause (change_laws c))

pub returns-clause-split_causes : goal.returns-clause-split_causes
returns-clause-split_causes c = split_whole_ends (split_laws c)

pub returns-clause-repair_causes : goal.returns-clause-repair_causes
returns-clause-repair_causes c = repair_whole_ends (repair_laws c)

pub returns-clause-repair_current : goal.returns-clause-repair_current
returns-clause-repair_current c = repair_finishes_current (repair_laws c)

pub returns-clause-remembers : goal.returns-clause-remembers
returns-clause-remembers c = begins_remembering c.gets_are_parts.ensures.remembers c.changes_are_parts.ensures.remembers c.ends_have_causes.ensures.remembers c.ends_have_causes-3.ensures.remembers

pub returns-clause-bare : goal.returns-clause-bare
returns-clause-bare c = begins_bare

pub returns-clause-finished : goal.returns-clause-finished
returns-clause-finished c = λ e own some. never_finished c.gets_are_parts.ensures.finished c.changes_are_parts.ensures.finished c.moves_are_parts.ensures.finished c.stashes_are_parts.ensures.finished
    c.releases_are_parts.ensures.finished e.op own some

pub returns-clause-ends : goal.returns-clause-ends
returns-clause-ends c = ends_are_decided (end_laws c)
