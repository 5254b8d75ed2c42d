-- The records are the same, and owners tell which count.
use Rattle.std.proofs.Common.{◌+◌, inr, refl, arith}
use Rattle.trace.specs.Events.{with_word}
use Rattle.image_layout.specs.Places.{head_at}
use Rattle.bucket_words.specs.Segments.{frame_of}
use Rattle.bucket_words.proofs.StoreLaws.{goes_live}
use Rattle.frame_facts.proofs.Owners.{owner_moves}
use Rattle.frame_facts.proofs.Records.{structure_apart, behind_apart, kept_table, handed_table}
use Rattle.frame_facts.proofs.tables.stores_keep_tables.Goals as goal

pub returns-clause-kept : goal.returns-clause-kept
returns-clause-kept c shape word is_shape sound table i x apart = kept_table shape word i x apart is_shape sound table

pub returns-clause-handed : goal.returns-clause-handed
returns-clause-handed c shape word is_shape sound table s n x may copies =
    let hands = goes_live shape word is_shape sound s n x may in
    handed_table shape word (head_at shape n + 1) x
    (structure_apart shape (head_at shape n + 1) (inr (n, 1, may.side_slot, omega arith, refl)))
    is_shape sound table s n hands
    (owner_moves shape.depth is_shape.depth (frame_of shape word) (frame_of shape (with_word word (head_at shape n + 1) x)) sound s n may.slot (inr may.splits) hands)
    copies

pub returns-clause-structure : goal.returns-clause-structure
returns-clause-structure c = structure_apart

pub returns-clause-behind : goal.returns-clause-behind
returns-clause-behind c = behind_apart
