-- The first segment of a version above the image's breaks rule 6 at its header.
use Rattle.std.proofs.Common.{◌≡◌, ◌<◌, ◌≤◌, ℕ, sym, subst, arith, below_more, slice_index}
use borrow.Author.Count.{below_none}
use Rattle.sound_image.specs.Rules.{VersionsArePast}
use Rattle.image_rules.specs.Breach.{IsLeast}
use Rattle.image_rules.proofs.standing.HeadRules.{not_past, version_ahead}
use Rattle.image_rules.proofs.rules.rule_six.Goals as goal

is_past : (version most v m : ℕ) → v ≡ version → m ≡ most → v ≤ m → version ≤ most
is_past version most v m one two past = omega (arith, one, two, past)

pub loop-s-init : goal.loop-s-init
loop-s-init c = below_none _

pub returns-then-version_of-version-clause-some : goal.returns-then-version_of-version-clause-some
returns-then-version_of-version-clause-some c =
    let shape = c.args.geometry.now in
    let word = slice_index c.args.words.now in
    let slot = subst (λ (n : ℕ). c.loop-s.s < n) c.segments-s-end.ensures.is c.loop-s-test.true in
    subst (IsLeast (VersionsArePast shape word)) (sym c.header_word.ensures.is)
    (version_ahead shape word c.loop-s.s slot c.loop-s.invariant
    (not_past _ _ _ _ c.version_of.ensures c.version_of-version.ensures c.if-version_of-version.true))

pub loop-s-preserved : goal.loop-s-preserved
loop-s-preserved c = below_more _ _ c.loop-s.invariant (is_past _ _ _ _ c.version_of.ensures c.version_of-version.ensures c.if-version_of-version.false)

pub returns-clause-none : goal.returns-clause-none
returns-clause-none c w s slot _ = c.loop-s.invariant s (omega (arith, slot, c.segments-s-end.ensures.is, c.loop-s-test.false))
