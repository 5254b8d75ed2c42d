use Rattle.std.proofs.Common.{arith}
use Rattle.map_model.specs.declared.call.Call.TheVariants.{Get}
use Rattle.script_text.specs.declared.line.Line.TheVariants.{Call as CallLine}
use Rattle.play.proofs.driven.Rounds.{line_running, lines_begin, lines_go, lines_end}
use Rattle.play.proofs.run_state.RunState.do_lines.Goals as goal

pub loop-line-init : goal.loop-line-init
loop-line-init c t s st well = lines_begin t s c.args.most c.args.lines.now c.args.self.now st well

pub do_line-requires : goal.do_line-requires
do_line-requires c =
    let within = c.loop-line.invariant c.requires.0 c.requires.1 c.requires.2 c.requires.3 in
    (c.requires.0, within.now, within.stands)

pub loop-line-preserved : goal.loop-line-preserved
loop-line-preserved c t s st well =
    let within = c.loop-line.invariant t s st well in
    let d = CallLine 0 (Get 0) in
    lines_go t s c.args.most c.args.lines.now c.loop-line.line-index d c.loop-line.self c.do_line.new.self (omega arith) within
    (c.do_line.ensures t within.now within.stands (line_running t s c.args.most c.args.lines.now c.loop-line.line-index d c.loop-line.self
    (omega arith) within))

pub returns : goal.returns
returns c t s st well = lines_end t s c.args.most c.args.lines.now c.loop-line.line-index c.loop-line.self (omega arith) (c.loop-line.invariant t s st well)
