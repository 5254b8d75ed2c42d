-- The records are the same, and owners tell which are pairs.
use Rattle.segment_table.proofs.Pairs.{kept_pairs, handed_pairs}
use Rattle.segment_table.proofs.laws.pairs_stay.Goals as goal

pub returns-clause-kept : goal.returns-clause-kept
returns-clause-kept c shape word is_shape sound fit i x in_frame = kept_pairs shape is_shape.depth word i x sound in_frame fit

pub returns-clause-handed : goal.returns-clause-handed
returns-clause-handed c shape word is_shape sound fit i x in_frame = handed_pairs shape is_shape.depth word i x sound in_frame fit
