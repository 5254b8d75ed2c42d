use Rattle.std.proofs.Common.{sym, arith}
use Rattle.play.proofs.driven.Rounds.{rounds_begin, rounds_go, rounds_stop, rounds_end}
use Rattle.play.proofs.run_state.RunState.do_rounds.Goals as goal

pub loop-round-init : goal.loop-round-init
loop-round-init c t s st = rounds_begin t s c.args.most c.args.self.now st

pub do_round-requires : goal.do_round-requires
do_round-requires c =
    let within = c.loop-round.invariant c.requires.0 c.requires.1 c.requires.2 in
    (c.requires.0, within.now, within.stands)

pub loop-round-preserved : goal.loop-round-preserved
loop-round-preserved c t s st =
    let within = c.loop-round.invariant t s st in
    rounds_go t s c.args.most c.loop-round._round c.loop-round.self c.do_round.new.self (omega arith) within (sym c.if-has_calls.ensures)
    (c.do_round.ensures t within.now within.stands)

pub returns-else-has_calls : goal.returns-else-has_calls
returns-else-has_calls c t s st =
    rounds_stop t s c.args.most c.loop-round._round c.loop-round.self (omega arith) (c.loop-round.invariant t s st) (sym c.if-has_calls.ensures)

pub returns : goal.returns
returns c t s st = rounds_end t s c.args.most c.loop-round._round c.loop-round.self (omega arith) (c.loop-round.invariant t s st)
