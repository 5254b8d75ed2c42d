-- Claims tell owners; a number of more than 64 bits has none.
use Rattle.std.proofs.Common.{◌+◌, inr}
use Rattle.trace.specs.Events.{with_word}
use Rattle.image_layout.specs.Places.{head_at}
use Rattle.bucket_words.specs.Segments.{frame_of}
use Rattle.bucket_words.proofs.StoreLaws.{goes_live}
use Rattle.frame_facts.proofs.Owners.{owners_stay, owner_moves, owner_spared}
use Rattle.frame_facts.proofs.tables.stores_keep_or_move_owners.Goals as goal

pub returns-clause-kept : goal.returns-clause-kept
returns-clause-kept c = owners_stay

pub returns-clause-moved : goal.returns-clause-moved
returns-clause-moved c shape word is_shape sound s n x may =
    owner_moves shape.depth is_shape.depth (frame_of shape word) (frame_of shape (with_word word (head_at shape n + 1) x)) sound s n may.slot (inr may.splits)
    (goes_live shape word is_shape sound s n x may)

pub returns-clause-spared : goal.returns-clause-spared
returns-clause-spared c shape word is_shape sound s n x may =
    owner_spared shape.depth is_shape.depth (frame_of shape word) (frame_of shape (with_word word (head_at shape n + 1) x)) sound s n
    (goes_live shape word is_shape sound s n x may)
