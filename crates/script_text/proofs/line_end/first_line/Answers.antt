use Rattle.std.proofs.Common.{ap, ◌∙◌, sym, ◌∷◌, List, ℕ, take, drop, length, ◌-◌, ◌+◌}
use Rattle.script_text.specs.Splits.{lines}
use Rattle.script_text.proofs.Lines.{line_then, line_alone}
use Rattle.script_text.proofs.line_end.first_line.Goals as goal

pub returns-in-Some : goal.returns-in-Some
returns-in-Some c = line_then c.args.bytes.now c.in-Some.end c.in-Some.ensures
    ∙ ap (λ (x : List ℕ). x ∷ lines (take (length c.args.bytes.now - (c.in-Some.end + 1)) (drop (c.in-Some.end + 1) c.args.bytes.now))) (sym c.cut_return.ensures)

pub returns-in-None : goal.returns-in-None
returns-in-None c = line_alone c.args.bytes.now c.requires c.in-None.ensures
