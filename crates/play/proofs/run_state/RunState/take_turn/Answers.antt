use Rattle.std.proofs.Common.{◌-◌, true, false, arith, refl}
use Rattle.play.proofs.driven.Drives.{turn_none, turn_stops, turn_goes}
use Rattle.play.proofs.run_state.RunState.take_turn.Goals as goal

pub returns-in_err-deed : goal.returns-in_err-deed
returns-in_err-deed c t s st =
    rw c.from_residual.ensures (turn_none t s c.do_deed.new.self c.args.caller c.args.goal c.args.left (omega arith) (c.in_err-deed.ensures t s st))

pub returns-then-stops : goal.returns-then-stops
returns-then-stops c t s st =
    turn_stops t s c.args.self.now c.do_deed.new.self c.args.caller c.args.goal c.args.left c.in_ok-deed.deed (omega arith) st (c.in_ok-deed.ensures t s st)
    c.if-stops.ensures

pub returns-then-counts : goal.returns-then-counts
returns-then-counts c t s st =
    turn_goes t s c.args.self.now c.do_deed.new.self c.args.caller c.args.goal c.args.left (c.args.left - 1) true c.in_ok-deed.deed (omega arith) st
    (c.in_ok-deed.ensures t s st) c.if-stops.ensures c.if-counts.ensures refl

pub returns-else-counts : goal.returns-else-counts
returns-else-counts c t s st =
    turn_goes t s c.args.self.now c.do_deed.new.self c.args.caller c.args.goal c.args.left c.args.left false c.in_ok-deed.deed (omega arith) st
    (c.in_ok-deed.ensures t s st) c.if-stops.ensures c.if-counts.ensures refl
