-- Rule 7 is broken first in the first segment that is not repaired.
use Rattle.std.proofs.Common.{below_more, arith, slice_index}
use Rattle.image_rules.proofs.standing.CleanSegments.{segment_breaks, all_repaired}
use Rattle.image_rules.proofs.standing.SoundSegments.{standing_in}
use Rattle.image_rules.proofs.repaired.rule_seven.Goals as goal

pub segment_breach-requires-clause-standing : goal.segment_breach-requires-clause-standing
segment_breach-requires-clause-standing c = standing_in c.args.geometry.now (slice_index c.args.words.now) c.requires.standing c.loop-s.s

pub returns-in-Some-clause-some : goal.returns-in-Some-clause-some
returns-in-Some-clause-some c =
    segment_breaks c.args.geometry.now (slice_index c.args.words.now) c.loop-s.s c.in-Some.word c.in-Some.ensures.some.0 c.loop-s.invariant
    c.in-Some.ensures.some.1

pub loop-s-preserved : goal.loop-s-preserved
loop-s-preserved c = below_more _ _ c.loop-s.invariant c.in_default.ensures.none

pub returns-clause-none : goal.returns-clause-none
returns-clause-none c =
    all_repaired c.args.geometry.now (slice_index c.args.words.now)
    (λ s below. c.loop-s.invariant s (omega (arith, below, c.loop-s-test.false, c.segments-s-end.ensures.is)))
