-- What was loaded of the segment is what is kept, so what is reckoned of it is what is to be reckoned.
use Rattle.std.proofs.Common.{◌∙◌, rules}
use Rattle.rest_op.proofs.whole.Reckoning.{rest_made}
use Rattle.rest_op.proofs.op.RestOp.new.Goals as goal

pub returns : goal.returns
returns c =
    let rest = c.without_half-rest in
    let notes = c.rebuilt_notes-notes in
    c.begun.ensures
    ∙ rest_made c.args.whole c.loaded-loaded.result rest.result notes.result _ _ c.loaded-loaded.ensures c.capped_side_depth.ensures c.one_pattern_field.ensures rest.ensures.is rest.ensures.third rest.ensures.keys notes.ensures.is
    (search rules) (search rules)
