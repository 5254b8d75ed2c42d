use Rattle.std.proofs.Common.{◌≡◌, ◌+◌, drop}
use Rattle.map_model.specs.Roomed.{lists_of}
use Rattle.reply_text.specs.Told.{replies_in}
use Rattle.reply_text.proofs.left.Session.replies.Given as goal

-- with the replies of the callers that are still to come, all are counted
abbrev pub invariant-loop-i : goal.invariant-loop-i
invariant-loop-i l = l.replies + replies_in (drop l.i (lists_of l.self.lists)) ≡ replies_in (lists_of l.self.lists)
