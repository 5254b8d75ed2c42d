-- Event by event.
use Rattle.core_run.proofs.ends.Driving.{drive_stays, restarted_stays, round_stays, rounds_stay, ready_stays}
use Rattle.core_run.proofs.runs.drives_stay.Goals as goal

pub returns-clause-drive : goal.returns-clause-drive
returns-clause-drive c t most k aim n s is r = drive_stays c.deeds_are_well.ensures c.turns_lead_here.ensures.comes t is most k aim n s r

pub returns-clause-restarted : goal.returns-clause-restarted
returns-clause-restarted c t most s is r = restarted_stays c.deeds_are_well.ensures c.turns_lead_here.ensures.comes t is most s r

pub returns-clause-round : goal.returns-clause-round
returns-clause-round c t most k callers s is r = round_stays c.deeds_are_well.ensures c.turns_lead_here.ensures.comes t is most k callers s r

pub returns-clause-rounds : goal.returns-clause-rounds
returns-clause-rounds c t most n s is r = rounds_stay c.deeds_are_well.ensures c.turns_lead_here.ensures.comes t is most n s r

pub returns-clause-ready : goal.returns-clause-ready
returns-clause-ready c t most k s is r = ready_stays c.deeds_are_well.ensures c.turns_lead_here.ensures.comes t is most k s r
