use Rattle.std.proofs.Common.{arith}
use Rattle.map_model.specs.Roomed.{lists_of}
use Rattle.reply_text.proofs.Callers.{caller_counted, caller_within}
use Rattle.reply_text.proofs.left.Session.replies.Goals as goal

pub overflow_add-replies : goal.overflow_add-replies
overflow_add-replies c =
    let low = caller_within c.loop-i.i (lists_of c.args.self.now.lists) c.of.result.now _ _ c.loop-i.invariant c.of.ensures in
    let few = c.requires.few in
    omega (arith, low, few)

pub loop-i-preserved : goal.loop-i-preserved
loop-i-preserved c =
    caller_counted c.loop-i.i (lists_of c.args.self.now.lists) c.of.result.now _ _ c.loop-i.invariant c.of.ensures
