use Rattle.std.proofs.Common.{rules}
use Rattle.script_text.proofs.SoFar.{script_so_far, few_lines}
use Rattle.dash_top.proofs.Scripts.{each_line}
use Rattle.dash_top.proofs.reading.read_script.Goals as goal

pub returns-in-Ok-parse-clause-few : goal.returns-in-Ok-parse-clause-few
returns-in-Ok-parse-clause-few g c = few_lines c.args.mode _ c.in-Ok-parse.lines c.in-Ok-parse.ensures.good

pub returns-in-Ok-parse-clause-so_far : goal.returns-in-Ok-parse-clause-so_far
returns-in-Ok-parse-clause-so_far g c = each_line c.in-Ok-parse.lines (script_so_far c.args.mode _ c.in-Ok-parse.lines c.in-Ok-parse.ensures.good)

pub returns : goal.returns
returns g c = search rules
