-- The line of each aim is the one that it names.
use Rattle.std.proofs.Common.{ap, sym}
use Rattle.script_text.specs.declared.run_form.Aim.{Aim}
use Rattle.script_text.specs.Readings.{run_line}
use Rattle.script_text.proofs.run_form.line_to.Goals as goal

pub returns-in-Steps : goal.returns-in-Steps
returns-in-Steps c = ap (λ (aim : Aim). run_line aim c.args.caller c.args.number) (sym c.in-Steps.is)

pub returns-in-Events : goal.returns-in-Events
returns-in-Events c = ap (λ (aim : Aim). run_line aim c.args.caller c.args.number) (sym c.in-Events.is)

pub returns-in-StoreTo : goal.returns-in-StoreTo
returns-in-StoreTo c = ap (λ (aim : Aim). run_line aim c.args.caller c.args.number) (sym c.in-StoreTo.is)
