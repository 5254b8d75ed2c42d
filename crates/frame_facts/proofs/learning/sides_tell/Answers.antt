-- A segment claims what it covers, but what a ready side has.
use Rattle.std.proofs.Common.{inl}
use Rattle.bucket_words.specs.Segments.{frame_of}
use Rattle.frame_facts.proofs.Told.{unready_claims, ready_lacks, normal_unready, unready_there, ready_in}
use Rattle.frame_facts.proofs.learning.sides_tell.Goals as goal

pub returns-clause-unready : goal.returns-clause-unready
returns-clause-unready c shape version words medium s is none = unready_claims (frame_of shape medium) s is none

pub returns-clause-normal : goal.returns-clause-normal
returns-clause-normal c shape version words medium s slot is =
    unready_claims (frame_of shape medium) s (record { slot = slot; live = inl is }) (normal_unready (frame_of shape medium) s is)

pub returns-clause-ready : goal.returns-clause-ready
returns-clause-ready c shape version words medium s is side = (is, ready_lacks (frame_of shape medium) s is side)

pub returns-clause-unready_now : goal.returns-clause-unready_now
returns-clause-unready_now c shape version words medium sound steady s is settled none =
    unready_claims (frame_of shape medium) s is
    (unready_there shape.depth sound.shape_fits.depth (frame_of shape medium) (frame_of shape words) sound.there sound.newest steady s is settled.header settled.link none)

pub returns-clause-ready_now : goal.returns-clause-ready_now
returns-clause-ready_now c shape version words medium sound steady s n is settled side lives = (
  is,
  ready_lacks (frame_of shape medium) s is
      (ready_in shape.depth sound.shape_fits.depth (frame_of shape medium) (frame_of shape words) sound.there sound.newest steady s is settled.header settled.link n lives.live side),
)
