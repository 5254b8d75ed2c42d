use Rattle.std.proofs.Common.{drop}
use Rattle.map_model.specs.Legal.{AreReplies}
use Rattle.map_model.proofs.plain_map.PlainMap.are_replies.Given as goal

-- the replies that are left may stand exactly where all may
abbrev pub invariant-loop-entry : goal.invariant-loop-entry
invariant-loop-entry l = record {
  forth : AreReplies l.self (drop l.entry-index l.row) → AreReplies l.fn.self l.row;
  back : AreReplies l.fn.self l.row → AreReplies l.self (drop l.entry-index l.row);
}
