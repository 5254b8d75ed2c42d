-- The first segment with a number out of its range breaks rule 1 at its header or at its link.
use Rattle.std.proofs.Common.{◌<◌, ◌≤◌, ℕ, refl, sym, subst, arith, rules, below_more, slice_index}
use borrow.Author.Count.{below_none}
use Rattle.sound_image.specs.Segments.{frame_of, image_version}
use Rattle.sound_image.specs.Rules.{NumbersFit}
use Rattle.image_rules.specs.Breach.{IsLeast}
use Rattle.image_rules.proofs.Answered.{never}
use Rattle.image_rules.proofs.standing.HeadRules.{numbers_fit, head_astray, link_astray}
use Rattle.image_rules.proofs.rules.rule_one.Goals as goal

pub loop-s-init : goal.loop-s-init
loop-s-init c = record { heads = below_none _; links = below_none _ }

pub returns-then-not-head_in_range-clause-some : goal.returns-then-not-head_in_range-clause-some
returns-then-not-head_in_range-clause-some c =
    let shape = c.args.geometry.now in
    let word = slice_index c.args.words.now in
    let root : word 8 ≤ shape.depth = subst (λ (n : ℕ). word 8 ≤ n) c.depth.ensures.is c.if-words-depth.false in
    let version : 1 ≤ image_version (frame_of shape word) = omega (arith, c.if-version_of-lt-FIRST_VERSION.false, c.version_of.ensures) in
    let slot : c.loop-s.s < shape.segments = subst (λ (n : ℕ). c.loop-s.s < n) c.segments-s-end.ensures.is c.loop-s-test.true in
    subst (IsLeast (NumbersFit shape word)) (sym c.header_word.ensures.is)
    (head_astray shape word root version c.loop-s.s slot c.loop-s.invariant.heads c.loop-s.invariant.links
    (never c.head_in_range.result c.head_in_range.ensures c.if-not-head_in_range.true))

pub returns-then-not-link_in_range-clause-some : goal.returns-then-not-link_in_range-clause-some
returns-then-not-link_in_range-clause-some c =
    let shape = c.args.geometry.now in
    let word = slice_index c.args.words.now in
    let root : word 8 ≤ shape.depth = subst (λ (n : ℕ). word 8 ≤ n) c.depth.ensures.is c.if-words-depth.false in
    let version : 1 ≤ image_version (frame_of shape word) = omega (arith, c.if-version_of-lt-FIRST_VERSION.false, c.version_of.ensures) in
    let slot : c.loop-s.s < shape.segments = subst (λ (n : ℕ). c.loop-s.s < n) c.segments-s-end.ensures.is c.loop-s-test.true in
    subst (IsLeast (NumbersFit shape word)) (sym c.link_word.ensures.is)
    (link_astray shape word root version c.loop-s.s slot c.loop-s.invariant.heads c.loop-s.invariant.links (c.if-not-head_in_range.ensures.0 refl)
    (never c.link_in_range.result c.link_in_range.ensures c.if-not-link_in_range.true))

pub loop-s-preserved : goal.loop-s-preserved
loop-s-preserved c =
    record {
      heads = below_more _ _ c.loop-s.invariant.heads (c.if-not-head_in_range.ensures.0 refl);
      links = below_more _ _ c.loop-s.invariant.links (c.if-not-link_in_range.ensures.0 refl);
    }

pub returns-clause-none : goal.returns-clause-none
returns-clause-none c =
    let shape = c.args.geometry.now in
    let word = slice_index c.args.words.now in
    let root : word 8 ≤ shape.depth = subst (λ (n : ℕ). word 8 ≤ n) c.depth.ensures.is c.if-words-depth.false in
    let version : 1 ≤ image_version (frame_of shape word) = omega (arith, c.if-version_of-lt-FIRST_VERSION.false, c.version_of.ensures) in
    let all : shape.segments ≤ c.loop-s.s = subst (λ (n : ℕ). n ≤ c.loop-s.s) c.segments-s-end.ensures.is c.loop-s-test.false in
    numbers_fit shape word root version (λ t below. c.loop-s.invariant.heads t (omega (arith, below, all)))
    (λ t below. c.loop-s.invariant.links t (omega (arith, below, all)))

pub returns-then-words-depth-clause-some : goal.returns-then-words-depth-clause-some
returns-then-words-depth-clause-some c = search rules

pub returns-then-version_of-lt-FIRST_VERSION-clause-some : goal.returns-then-version_of-lt-FIRST_VERSION-clause-some
returns-then-version_of-lt-FIRST_VERSION-clause-some c = search rules
