use Rattle.std.proofs.Common.{List, ℕ, length, sym, ap, ◌∙◌, arith}
use Rattle.script_text.specs.Script.{IsScript}
use Rattle.script_text.proofs.Progress.{read_skipped, read_line, first_bad, still_few, none_left, read_all}
use Rattle.script_text.proofs.SoFar.{all_so_far, script_ordered}
use Rattle.script_text.proofs.parsing.parse.Goals as goal

pub overflow_add-number : goal.overflow_add-number
overflow_add-number c = omega (arith, still_few _ _ _ c.first_line.result.1.now _ _ _ _ c.lines.invariant.short c.lines.invariant.read c.first_line.ensures)

pub lines-smaller-in-Skipped : goal.lines-smaller-in-Skipped
lines-smaller-in-Skipped c = omega (arith, ap (λ (x : List (List ℕ)). length x) c.first_line.ensures)

pub lines-preserved-in-Skipped : goal.lines-preserved-in-Skipped
lines-preserved-in-Skipped c = record {
  read = read_skipped _ _ _ _ _ _ _ _ _ c.lines.invariant.read c.first_line.ensures c.reading_of.ensures c.in-Skipped.ensures;
  short = c.lines.invariant.short;
}

pub lines-smaller : goal.lines-smaller
lines-smaller c = omega (arith, ap (λ (x : List (List ℕ)). length x) c.first_line.ensures)

pub lines-preserved : goal.lines-preserved
lines-preserved c = record {
  read = rw (c.in_ok-push-in-Says.ensures.items, c.after-phase.ensures) (read_line _ _ _ _ _ _ _ _ _ _ c.lines.invariant.read c.first_line.ensures c.reading_of.ensures c.in-Says.ensures);
  short = c.lines.invariant.short;
}

-- what has been read at the end is the whole script
whole : (c : goal.After-new) → IsScript c.args.mode c.args.bytes.now c.new.result
whole c = rw c.new.ensures (read_all _ _ _ _ _ _ c.lines.invariant.short c.lines.invariant.read (none_left _ (sym c.is_empty.ensures ∙ c.lines-test.false)))

pub returns-clause-good : goal.returns-clause-good
returns-clause-good c = whole c

pub returns-clause-so_far : goal.returns-clause-so_far
returns-clause-so_far c = all_so_far _ _ c.new.result (whole c)

pub returns-clause-ordered : goal.returns-clause-ordered
returns-clause-ordered c = script_ordered _ _ c.new.result (whole c)

pub returns-in-BadWord-clause-refused : goal.returns-in-BadWord-clause-refused
returns-in-BadWord-clause-refused c = first_bad _ _ _ c.first_line.result.1.now _ _ _ _ _ _ c.lines.invariant.short c.lines.invariant.read c.first_line.ensures c.reading_of.ensures c.in-BadWord.ensures

pub returns-in-BadNumber-clause-refused : goal.returns-in-BadNumber-clause-refused
returns-in-BadNumber-clause-refused c = first_bad _ _ _ c.first_line.result.1.now _ _ _ _ _ _ c.lines.invariant.short c.lines.invariant.read c.first_line.ensures c.reading_of.ensures c.in-BadNumber.ensures

pub returns-in-BadCaller-clause-refused : goal.returns-in-BadCaller-clause-refused
returns-in-BadCaller-clause-refused c = first_bad _ _ _ c.first_line.result.1.now _ _ _ _ _ _ c.lines.invariant.short c.lines.invariant.read c.first_line.ensures c.reading_of.ensures c.in-BadCaller.ensures

pub returns-in-BadOrder-clause-refused : goal.returns-in-BadOrder-clause-refused
returns-in-BadOrder-clause-refused c = first_bad _ _ _ c.first_line.result.1.now _ _ _ _ _ _ c.lines.invariant.short c.lines.invariant.read c.first_line.ensures c.reading_of.ensures c.in-BadOrder.ensures
