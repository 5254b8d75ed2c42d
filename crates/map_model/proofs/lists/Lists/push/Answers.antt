use Rattle.std.proofs.Common.{◌-◌, ap, ◌∙◌}
use Rattle.map_model.specs.Roomed.{with_entry}
use Rattle.map_model.proofs.KeptViews.{kept_of-push, all_kept-set}
use Rattle.map_model.proofs.lists.Lists.push.Goals as goal

pub returns : goal.returns
returns c =
    let pushed = kept_of-push c.index_mut-list.result.now c.push_reserved.new.self c.args.entry c.push_reserved.ensures.items c.push_reserved.ensures.len c.push_reserved.ensures.capacity in
    all_kept-set c.self.inside.lists.items (c.args.caller - 1) c.index_mut-list.result.now c.push_reserved.new.self c.args.entry c.index_mut-list.ensures.value pushed
    ∙ ap (λ kept. with_entry kept (c.args.caller - 1) c.args.entry) c.self.view_is
