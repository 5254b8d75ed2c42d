-- One line more.
use Rattle.std.proofs.Common.{rules, List, length, ap, sym, ◌∙◌, subst, arith}
use Rattle.std.specs.Prelude.{All}
use Rattle.std.proofs.lemmas.List.Elements.{All-push}
use Rattle.script_text.specs.declared.line.Line.{Line}
use Rattle.script_text.specs.Calls.{IsLineSoFar}
use Rattle.storm.specs.Scripts.{step_at, step_line}
use Rattle.storm.proofs.Streams.{behind_none, behind_turn}
use Rattle.storm.proofs.Lines.{one_line_more, one_longer}
use Rattle.storm.proofs.scripts.add_steps.Goals as goal

pub loop-step-init : goal.loop-step-init
loop-step-init c = record { lines = search rules; count = omega arith; state = behind_none c.args.state.now; so_far = c.requires.so_far }

pub loop-step-preserved : goal.loop-step-preserved
loop-step-preserved c =
    let at = c.loop-step in
    let first = c.args.state.now in
    let items = c.in_ok-push.ensures.items in
    record {
      lines = one_line_more (step_line first) at._step c.args.lines.now.items at.lines.items c.push.new.self.items c.next_step.result items at.invariant.lines
          (c.next_step.ensures.line ∙ ap step_at at.invariant.state);
      count = one_longer (length c.args.lines.now.items) at._step at.lines.items c.push.new.self.items c.next_step.result items at.invariant.count;
      state = behind_turn first 2 at._step at.state c.next_step.new.state at.invariant.state c.next_step.ensures.state;
      so_far = subst (λ (ls : List Line). All IsLineSoFar ls) (sym items)
          (All-push IsLineSoFar at.lines.items c.next_step.result at.invariant.so_far c.next_step.ensures.so_far);
    }
