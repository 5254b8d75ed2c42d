-- Caller 0 does the event that its machine wants, and has none while the callers run and when the image is closed.
use Rattle.std.proofs.Common.{lit≤}
use Rattle.core_run.specs.declared.keeper.Keeper.TheVariants.{Restarting, Closing}
use Rattle.core_run.specs.State.{restart_deed, close_deed}
use Rattle.play.proofs.driven.Doing.{deed_may, has_done, deed_of_keeper, none_told_yet}
use Rattle.play.proofs.run_state.RunState.do_keeper_deed.Goals as goal

pub do_restart_deed-requires : goal.do_restart_deed-requires
do_restart_deed-requires c =
    let t = c.requires.0 in let s = c.requires.1 in let st = c.requires.2 in
    deed_may c.deeds_are_well.ensures t s c.args.self.now 0 (restart_deed t.shape c.in-Restarting.op s.core) st (lit≤ tt)
    (deed_of_keeper t s c.args.self.now (Restarting c.in-Restarting.op) st.is_of c.in-Restarting.is)

pub do_close_deed-requires : goal.do_close_deed-requires
do_close_deed-requires c =
    let t = c.requires.0 in let s = c.requires.1 in let st = c.requires.2 in
    deed_may c.deeds_are_well.ensures t s c.args.self.now 0 (close_deed t.shape c.in-Closing.op s.core) st (lit≤ tt)
    (deed_of_keeper t s c.args.self.now (Closing c.in-Closing.op) st.is_of c.in-Closing.is)

pub returns-in-Restarting : goal.returns-in-Restarting
returns-in-Restarting c t s st =
    has_done c.deeds_are_well.ensures t s c.args.self.now c.do_restart_deed.new.self 0 (restart_deed t.shape c.in-Restarting.op s.core) c.do_restart_deed.result st
    (deed_of_keeper t s c.args.self.now (Restarting c.in-Restarting.op) st.is_of c.in-Restarting.is)
    (c.do_restart_deed.ensures t s st.is_of (none_told_yet t s c.args.self.now c.in-Restarting.op st c.in-Restarting.is))

pub returns-in-Closing : goal.returns-in-Closing
returns-in-Closing c t s st =
    has_done c.deeds_are_well.ensures t s c.args.self.now c.do_close_deed.new.self 0 (close_deed t.shape c.in-Closing.op s.core) c.do_close_deed.result st
    (deed_of_keeper t s c.args.self.now (Closing c.in-Closing.op) st.is_of c.in-Closing.is)
    (c.do_close_deed.ensures t s st.is_of)
