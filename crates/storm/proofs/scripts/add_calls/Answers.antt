-- One call more.
use Rattle.std.proofs.Common.{rules, ◌+◌, ◌%◌, List, length, ap, sym, ◌∙◌, subst, arith}
use Rattle.std.specs.Prelude.{All}
use Rattle.std.proofs.lemmas.List.Elements.{All-push}
use Rattle.script_text.specs.declared.line.Line.{Line}
use Rattle.script_text.specs.declared.line.Line.TheVariants.{Call as CallLine}
use Rattle.script_text.specs.Calls.{IsLineSoFar}
use Rattle.storm.specs.Scripts.{call_at, call_line}
use Rattle.storm.proofs.Streams.{behind_none, behind_turn}
use Rattle.storm.proofs.Lines.{one_line_more, one_longer}
use Rattle.storm.proofs.scripts.add_calls.Goals as goal

pub loop-turn-init : goal.loop-turn-init
loop-turn-init c = record { lines = search rules; count = omega arith; state = behind_none c.args.state.now; so_far = c.requires.so_far }

pub loop-turn-preserved : goal.loop-turn-preserved
loop-turn-preserved c =
    let at = c.loop-turn in
    let first = c.args.state.now in
    let caller = 1 + at.turn % 4 in
    let line : Line = CallLine caller c.next_call.result in
    let items = c.in_ok-push.ensures.items in
    record {
      lines = one_line_more (call_line first) at.turn c.args.lines.now.items at.lines.items c.push.new.self.items line items at.invariant.lines
          (ap (λ call. CallLine caller call) (c.next_call.ensures.call ∙ ap call_at at.invariant.state));
      count = one_longer (length c.args.lines.now.items) at.turn at.lines.items c.push.new.self.items line items at.invariant.count;
      state = behind_turn first 3 at.turn at.state c.next_call.new.state at.invariant.state c.next_call.ensures.state;
      so_far = subst (λ (ls : List Line). All IsLineSoFar ls) (sym items)
          (All-push IsLineSoFar at.lines.items line at.invariant.so_far (omega arith, omega arith, c.next_call.ensures.so_far));
    }
