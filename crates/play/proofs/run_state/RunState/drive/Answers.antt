use Rattle.std.proofs.Common.{arith}
use Rattle.play.proofs.driven.Drives.{drive_begins, drive_goes, drive_stops, drive_ends}
use Rattle.play.proofs.run_state.RunState.drive.Goals as goal

pub loop-event-init : goal.loop-event-init
loop-event-init c t s st = drive_begins t s c.args.most c.args.caller c.args.goal c.args.n c.args.self.now st

pub take_turn-requires : goal.take_turn-requires
take_turn-requires c =
    let driven = c.loop-event.invariant c.requires.0 c.requires.1 c.requires.2 in
    (c.requires.0, driven.now, driven.stands)

pub loop-event-preserved : goal.loop-event-preserved
loop-event-preserved c t s st =
    let driven = c.loop-event.invariant t s st in
    drive_goes t s c.args.most c.args.caller c.args.goal c.args.n c.loop-event._event c.loop-event.left c.in-Some.more c.loop-event.self c.take_turn.new.self
    (omega arith)
    driven (c.in-Some.ensures t driven.now driven.stands)

pub returns-in-None : goal.returns-in-None
returns-in-None c t s st =
    let driven = c.loop-event.invariant t s st in
    drive_stops t s c.args.most c.args.caller c.args.goal c.args.n c.loop-event._event c.loop-event.left c.loop-event.self c.take_turn.new.self (omega arith)
    driven (c.in-None.ensures t driven.now driven.stands)

pub returns : goal.returns
returns c t s st =
    drive_ends t s c.args.most c.args.caller c.args.goal c.args.n c.loop-event._event c.loop-event.left c.loop-event.self (omega arith)
    (c.loop-event.invariant t s st)
