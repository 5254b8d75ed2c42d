-- A live segment that is the first of its depth and pattern shares well where it is not too deep and owns its part.
use Rattle.std.proofs.Common.{◌≤◌, refl, arith, slice_index}
use Rattle.sound_image.specs.Segments.{frame_of, depth_at}
use Rattle.image_rules.specs.Leaves.{HasTwin}
use Rattle.image_rules.proofs.Answered.{never, untrue}
use Rattle.image_rules.proofs.Within.{in_front}
use Rattle.image_rules.proofs.covered.Parts.{apart-SharesWell}
use Rattle.image_rules.proofs.leaves.shares_well.Goals as goal

pub returns-then-not-is_live-clause-shares : goal.returns-then-not-is_live-clause-shares
returns-then-not-is_live-clause-shares c =
    ((λ _ live. absurd (never c.is_live.result c.is_live.ensures c.if-not-is_live.true live)), (λ _. refl))

pub returns-then-see_segment-clause-shares : goal.returns-then-see_segment-clause-shares
returns-then-see_segment-clause-shares c =
    let twin = c.if-see_segment.ensures.twin.0 refl in (
      (λ false. untrue false),
      (λ shares. absurd ((shares (c.if-not-is_live.ensures.0 refl)).alone twin.t twin.below twin.live twin.same_depth twin.same_pattern)),
    )

pub returns-then-see_segment-clause-seen : goal.returns-then-see_segment-clause-seen
returns-then-see_segment-clause-seen c = c.see_segment.ensures.seen

pub bounds-words : goal.bounds-words
bounds-words c = in_front c.args.geometry.now _ _ c.requires.whole (omega arith)

pub returns-then-from-words-clause-shares : goal.returns-then-from-words-clause-shares
returns-then-from-words-clause-shares c = (
  (λ false. untrue false),
  (λ shares. absurd
      (omega (
        arith,
        (shares (c.if-not-is_live.ensures.0 refl)).not_deep,
        c.if-from-words.true,
        c.from.ensures,
        c.prefix_of-prefix.ensures.is.depth,
      ))),
)

pub returns-then-from-words-clause-seen : goal.returns-then-from-words-clause-seen
returns-then-from-words-clause-seen c = c.see_segment.ensures.seen

pub returns-clause-seen : goal.returns-clause-seen
returns-clause-seen c = c.see_segment.ensures.seen

pub returns-clause-shares : goal.returns-clause-shares
returns-clause-shares c =
    let frame = frame_of c.args.geometry.now (slice_index c.args.words.now) in
    let live = c.if-not-is_live.ensures.0 refl in
    let first : HasTwin frame c.args.s → ⊥ = never c.see_segment.result c.see_segment.ensures.twin c.if-see_segment.false in
    let not_deep : depth_at frame c.args.s ≤ frame.root = omega (arith, c.if-from-words.false, c.from.ensures, c.prefix_of-prefix.ensures.is.depth) in (
      (λ owns _. apart-SharesWell frame c.args.s first not_deep (c.owns_its_part.ensures.0 owns)),
      (λ shares. c.owns_its_part.ensures.1 ((shares live).part)),
    )
