use Rattle.std.proofs.Common.{◌≡◌, ◌+◌, ◌≤◌, drop}
use Rattle.map_model.specs.Roomed.{lists_of}
use Rattle.reply_text.specs.Told.{tolds_of, opens_in}
use Rattle.reply_text.proofs.left.Session.opens.Given as goal

-- with the open calls of the callers that are still to come, all are counted; and each caller so far has one at the most
abbrev pub invariant-loop-i : goal.invariant-loop-i
invariant-loop-i l = record {
  so_far : l.opens + opens_in (tolds_of (drop l.i (lists_of l.self.lists)) (drop l.i l.self.stops)) ≡ opens_in (tolds_of (lists_of l.self.lists) l.self.stops);
  few : l.opens ≤ l.i;
}
