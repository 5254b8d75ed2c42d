-- By who does the event.
use Rattle.core_run.proofs.events.Deeds.{deeds_are_well}
use Rattle.core_run.proofs.states.deeds_are_well.Goals as goal

pub returns : goal.returns
returns c = deeds_are_well c.opened_holds.ensures c.close_ends.ensures.few_wait c.turn_keeps.ensures.one c.asks_within.ensures
    (record {
      most = c.flushes_are_few.ensures.most;
      flushes = c.flushes_are_few.ensures.flushes;
      keeps = c.flushes_are_few.ensures.keeps;
      ends = c.flushes_are_few.ensures.ends;
    })
