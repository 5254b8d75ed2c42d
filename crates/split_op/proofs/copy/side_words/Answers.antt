-- By what is made of the half.
use Rattle.split_op.proofs.sides.Loading.{words_made}
use Rattle.split_op.proofs.copy.side_words.Goals as goal

pub returns : goal.returns
returns c =
    words_made c.args.whole.now c.loaded-loaded.result c.half-half.result c.rebuilt_notes-notes.result _ _ c.loaded-loaded.ensures c.capped_side_depth.ensures c.one_pattern_field.ensures
    c.half-half.ensures.is c.half-half.ensures.third c.half-half.ensures.keys c.rebuilt_notes-notes.ensures.is _ c.with_marks.ensures _ c.thinned.ensures
