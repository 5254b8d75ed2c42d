-- The hashes of the 1-side are given.
use Rattle.std.proofs.Common.{◌+◌, inr, arith}
use Rattle.trace.specs.Events.{with_word}
use Rattle.segment_head.specs.HeadWord.{splitting, fresh}
use Rattle.image_layout.specs.Places.{head_at}
use Rattle.bucket_words.specs.Segments.{frame_of}
use Rattle.bucket_words.proofs.StoreLaws.{goes_live}
use Rattle.frame_facts.proofs.Sides.{other_slot}
use Rattle.frame_facts.proofs.Told.{side_claims, segment_lacks}
use Rattle.frame_facts.proofs.learning.live_sides_tell.Goals as goal

pub returns-clause-owns : goal.returns-clause-owns
returns-clause-owns c shape version words medium is_shape sound s n x may =
    side_claims shape.depth (frame_of shape medium) (frame_of shape (with_word medium (head_at shape n + 1) x)) s n (goes_live shape medium is_shape sound s n x may)

pub returns-clause-lacks : goal.returns-clause-lacks
returns-clause-lacks c shape version words medium is_shape sound s n x may =
    let hands = goes_live shape medium is_shape sound s n x may in (
      record { slot = may.slot; live = (hands.goes_on.steady.stays s may.slot (inr may.splits)).0 },
      segment_lacks shape.depth (frame_of shape medium) (frame_of shape (with_word medium (head_at shape n + 1) x)) s n hands
          (other_slot (frame_of shape medium) s n splitting fresh may.splits may.was (λ e. omega (arith, e))),
    )
