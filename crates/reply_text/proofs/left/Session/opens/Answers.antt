use Rattle.std.proofs.Common.{rules, arith, ◌<◌, ◌≡◌, length}
use Rattle.std.proofs.lemmas.List.{length-map}
use Rattle.map_model.specs.Roomed.{Roomed, lists_of}
use Rattle.reply_text.proofs.Callers.{open_counted}
use Rattle.reply_text.proofs.left.Session.opens.Goals as goal

pub loop-i-preserved : goal.loop-i-preserved
loop-i-preserved c =
    let one = c.count_open-opens.ensures.few in
    let was = c.loop-i.invariant.few in
    let as_many : length (lists_of c.args.self.now.lists) ≡ length c.args.self.now.lists = length-map c.args.self.now.lists (λ (k : Roomed). k.entries) in
    let low : c.loop-i.i < length (lists_of c.args.self.now.lists) = omega (arith, as_many) in
    record {
      so_far = open_counted c.loop-i.i (lists_of c.args.self.now.lists) c.args.self.now.stops c.loop-i.opens c.count_open-opens.result _ c.loop-i.invariant.so_far low (search rules)
          c.count_open-opens.ensures.is;
      few = omega arith;
    }
