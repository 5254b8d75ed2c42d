use Rattle.std.proofs.Common.{arith}
use Rattle.play.proofs.driven.Doing.{callers_few}
use Rattle.play.proofs.driven.Rounds.{many, round_begins, round_goes, round_ends}
use Rattle.play.proofs.run_state.RunState.do_round.Goals as goal

pub overflow_cast-index : goal.overflow_cast-index
overflow_cast-index c = record { fits = omega (arith, callers_few c.requires.0 c.requires.1 c.args.self.now c.requires.2, c.args.self.now.callers.ok.0) }

pub overflow_add-index : goal.overflow_add-index
overflow_add-index c = record { fits = omega (arith, callers_few c.requires.0 c.requires.1 c.args.self.now c.requires.2, c.args.self.now.callers.ok.0) }

pub loop-index-init : goal.loop-index-init
loop-index-init c t s st = round_begins t s c.args.most c.args.self.now st

pub drive-requires : goal.drive-requires
drive-requires c =
    let within = c.loop-index.invariant c.requires.0 c.requires.1 c.requires.2 in
    (c.requires.0, within.now, within.stands)

pub loop-index-preserved : goal.loop-index-preserved
loop-index-preserved c t s st =
    let within = c.loop-index.invariant t s st in
    let here = many t s c.args.self.now st in
    let is_len = c.args.self.now.callers.ok.0 in
    round_goes t s c.args.most c.loop-index.index c.loop-index.self c.drive.new.self (omega arith) within (c.drive.ensures t within.now within.stands)

pub returns : goal.returns
returns c t s st =
    let here = many t s c.args.self.now st in
    let is_len = c.args.self.now.callers.ok.0 in
    round_ends t s c.args.most c.loop-index.index c.loop-index.self (omega arith) (c.loop-index.invariant t s st)
