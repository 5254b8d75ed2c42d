-- One bucket more, or the first that is not repaired.
use Rattle.std.proofs.Common.{refl, sym, subst, ◌∙◌, arith, below_more, slice_index}
use borrow.Author.Count.{below_none}
use Rattle.image_rules.specs.Repairs.{IsBrokenSegment}
use Rattle.image_rules.proofs.Answered.{never}
use Rattle.image_rules.proofs.standing.CleanSegments.{head_breaks, bucket_breaks}
use Rattle.image_rules.proofs.repaired.segment_breach.Goals as goal

pub returns-then-not-is_current-clause-none : goal.returns-then-not-is_current-clause-none
returns-then-not-is_current-clause-none c current = absurd (never c.is_current.result c.is_current.ensures c.if-not-is_current.true current)

pub returns-then-state_of-ne-NORMAL-clause-none : goal.returns-then-state_of-ne-NORMAL-clause-none
returns-then-state_of-ne-NORMAL-clause-none c = tt

pub returns-then-state_of-ne-NORMAL-clause-some : goal.returns-then-state_of-ne-NORMAL-clause-some
returns-then-state_of-ne-NORMAL-clause-some c = (
  c.if-not-is_current.ensures.0 refl,
  subst (IsBrokenSegment c.args.geometry.now (slice_index c.args.words.now) c.args.s) (sym c.header_word.ensures.is)
      (head_breaks c.args.geometry.now (slice_index c.args.words.now) c.args.s (λ is. c.if-state_of-ne-NORMAL.true (c.state_of.ensures ∙ is))),
)

pub loop-b-init : goal.loop-b-init
loop-b-init c = below_none _

pub returns-in-Some-clause-some : goal.returns-in-Some-clause-some
returns-in-Some-clause-some c = (
  c.if-not-is_current.ensures.0 refl,
  bucket_breaks c.args.geometry.now (slice_index c.args.words.now) c.args.s c.loop-b.b c.in-Some.word (sym c.state_of.ensures ∙ c.if-state_of-ne-NORMAL.false)
      c.loop-b-test.true c.loop-b.invariant c.in-Some.ensures.some,
)

pub loop-b-preserved : goal.loop-b-preserved
loop-b-preserved c = below_more _ _ c.loop-b.invariant c.in_default.ensures.none

pub returns-clause-none : goal.returns-clause-none
returns-clause-none c _ w =
    record {
      head = λ _. sym c.state_of.ensures ∙ c.if-state_of-ne-NORMAL.false;
      in_buckets = λ b below. c.loop-b.invariant b (omega (arith, below, c.loop-b-test.false)) w;
    }
