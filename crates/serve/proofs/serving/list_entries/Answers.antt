-- Each entry is listed behind those before it.
use Rattle.std.proofs.Common.{length, ap, ◌∙◌, ◌-◌}
use Rattle.std.proofs.lemmas.List.{take_more}
use Rattle.serve.proofs.Lists.{length-with_entry, listed_more}
use Rattle.serve.proofs.serving.list_entries.Goals as goal

pub loop-i-preserved : goal.loop-i-preserved
loop-i-preserved c =
    let at = c.loop-i in
    let is = c.push.ensures in
    record {
      same = ap length is ∙ length-with_entry at.lists (c.args.number - 1) _ ∙ at.invariant.same;
      listed = λ before behind long old. listed_more at.lists c.push.new.self before behind (c.args.number - 1) at.i c.args.told.now _ long
          (at.invariant.listed before behind long old) (take_more c.args.told.now at.i _ c.loop-i-test.true) is;
    }
