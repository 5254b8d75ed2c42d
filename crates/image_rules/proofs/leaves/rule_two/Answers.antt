-- No prefix is noted at first.
use Rattle.std.proofs.Common.{◌∙◌, slice_index}
use Rattle.sound_image.specs.Segments.{frame_of}
use Rattle.image_rules.proofs.covered.LeafOwners.{all_zero, none_seen}
use Rattle.image_rules.proofs.leaves.rule_two.Goals as goal

pub first_unowned-requires-clause-seen : goal.first_unowned-requires-clause-seen
first_unowned-requires-clause-seen c =
    none_seen (frame_of c.args.geometry.now (slice_index c.args.words.now)) c.args.geometry.now.depth c.deref_mut.result.now
    (all_zero c.deref_mut.result.now _ (c.deref_mut.ensures.value ∙ c.in_ok-nodes.ensures.items_if_clones_equal (λ y same. same)))

pub returns-clause-none : goal.returns-clause-none
returns-clause-none c = c.first_unowned.ensures.none

pub returns-clause-some : goal.returns-clause-some
returns-clause-some c = c.first_unowned.ensures.some
