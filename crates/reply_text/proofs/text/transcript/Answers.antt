use Rattle.std.proofs.Common.{rules}
use Rattle.map_model.specs.Roomed.{lists_of}
use Rattle.reply_text.proofs.Callers.{caller_written}
use Rattle.reply_text.proofs.text.transcript.Goals as goal

pub loop-i-preserved : goal.loop-i-preserved
loop-i-preserved c =
    caller_written c.loop-i.i (lists_of c.args.session.now.lists) c.args.session.now.stops c.of.result.now _ _ _ _
    c.in_ok-push_caller.ensures c.loop-i.invariant c.of.ensures (search rules) (search rules)
