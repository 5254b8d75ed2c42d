-- A segment owns its part exactly where the leaves of that part have its depth.
use Rattle.std.proofs.Common.{◌≡◌, ℕ, ◌+◌, ◌*◌, ◌^◌, ◌<◌, ◌≤◌, ◌∙◌, refl, sym, subst, arith, slice_index}
use Rattle.std.proofs.lemmas.Bool.{false≢true}
use Rattle.image_layout.specs.Places.{Shape}
use Rattle.image_layout.proofs.Areas.{power_double}
use Rattle.sound_image.specs.Segments.{ImageWords, frame_of, IsReadySide, HasReadySide}
use Rattle.segment_head.specs.declared.prefix.Prefix.{Prefix}
use Rattle.image_rules.specs.Divided.{IsNumbered, IsPrefixOf}
use Rattle.image_rules.specs.Leaves.{AreDeepest}
use Rattle.image_rules.proofs.covered.Owners.{side_depth}
use Rattle.image_rules.proofs.covered.Parts.{whole-part, part-whole, sides-part, part-zeros, part-ones}
use Rattle.image_rules.proofs.leaves.owns_its_part.Goals as goal

-- a segment with a ready side is parted into halves that are no deeper than the image allows
halves_fit : (shape : Shape) (word : ImageWords) (i : IsNumbered shape word) (s n : ℕ) → IsReadySide (frame_of shape word) s n → (prefix : Prefix)
    → IsPrefixOf (frame_of shape word) s prefix → (greatest : ℕ) → greatest ≡ shape.depth → prefix.depth + 1 ≤ greatest
halves_fit shape word i s n ready prefix is greatest same = omega (arith, same, is.depth, side_depth shape word i s n ready)

-- and a half has a pattern that fits its depth
sides_fit : (depth pattern deeper half : ℕ) → deeper ≡ depth + 1 → half ≤ 2 * pattern + 1 → pattern < 2 ^ depth → half < 2 ^ deeper
sides_fit depth pattern deeper half deep low fits =
    subst (λ (d : ℕ). half < 2 ^ d) (sym deep) (omega (arith, power_double depth, low, fits))

pub returns-in_default : goal.returns-in_default
returns-in_default c =
    let frame = frame_of c.args.geometry.now (slice_index c.args.words.now) in
    let prefix = c.prefix_of-prefix.result in
    let greatest = c.depth-greatest.result in
    let are = subst (λ (g : ℕ). AreDeepest frame g c.args.geometry.now.segments c.args.leaves.now) (sym c.depth-greatest.ensures.is) c.requires.deepest in
    let deep : prefix.depth ≤ greatest = omega (arith, c.depth-greatest.ensures.is, c.prefix_of-prefix.ensures.depth) in (
      (λ all. whole-part frame greatest c.depth-greatest.ensures.most c.args.leaves.now are c.args.s prefix c.requires.slot c.requires.live
          c.prefix_of-prefix.ensures.is deep c.prefix_of-prefix.ensures.pattern c.in_default.ensures.none (c.all_have.ensures.0 all)),
      (λ part. c.all_have.ensures.1
          (part-whole frame greatest c.depth-greatest.ensures.most c.args.leaves.now are c.args.s prefix c.requires.slot c.requires.live
          c.prefix_of-prefix.ensures.is deep c.prefix_of-prefix.ensures.pattern c.in_default.ensures.none part)),
    )

pub all_have-requires-2-clause-depth : goal.all_have-requires-2-clause-depth
all_have-requires-2-clause-depth c =
    omega (arith, c.zero_side_of-zeros.ensures.depth, halves_fit c.args.geometry.now (slice_index c.args.words.now) c.requires.numbered c.args.s c.in-Some.field-0 c.in-Some.ensures.some c.prefix_of-prefix.result c.prefix_of-prefix.ensures.is c.depth-greatest.result c.depth-greatest.ensures.is)

pub none_has-requires-clause-depth : goal.none_has-requires-clause-depth
none_has-requires-clause-depth c =
    omega (arith, c.one_side_of-ones.ensures.depth, halves_fit c.args.geometry.now (slice_index c.args.words.now) c.requires.numbered c.args.s c.in-Some.field-0 c.in-Some.ensures.some c.prefix_of-prefix.result c.prefix_of-prefix.ensures.is c.depth-greatest.result c.depth-greatest.ensures.is)

pub returns-then-all_have : goal.returns-then-all_have
returns-then-all_have c =
    let frame = frame_of c.args.geometry.now (slice_index c.args.words.now) in
    let prefix = c.prefix_of-prefix.result in
    let greatest = c.depth-greatest.result in
    let are = subst (λ (g : ℕ). AreDeepest frame g c.args.geometry.now.segments c.args.leaves.now) (sym c.depth-greatest.ensures.is) c.requires.deepest in
    let deep : prefix.depth ≤ greatest = omega (arith, c.depth-greatest.ensures.is, c.prefix_of-prefix.ensures.depth) in
    let ready : HasReadySide frame c.args.s = (c.in-Some.field-0, c.in-Some.ensures.some) in
    let further : prefix.depth + 1 ≤ greatest =
    omega (arith, halves_fit c.args.geometry.now (slice_index c.args.words.now) c.requires.numbered c.args.s c.in-Some.field-0 c.in-Some.ensures.some c.prefix_of-prefix.result c.prefix_of-prefix.ensures.is c.depth-greatest.result c.depth-greatest.ensures.is) in
    let zeros : Prefix = c.zero_side_of-zeros.result in
    let zeros_fit : zeros.pattern < 2 ^ zeros.depth = sides_fit prefix.depth prefix.pattern zeros.depth zeros.pattern c.zero_side_of-zeros.ensures.depth (omega (arith, c.zero_side_of-zeros.ensures.pattern)) c.prefix_of-prefix.ensures.pattern in
    let ones : Prefix = c.one_side_of-ones.result in
    let ones_fit : ones.pattern < 2 ^ ones.depth = sides_fit prefix.depth prefix.pattern ones.depth ones.pattern c.one_side_of-ones.ensures.depth (omega (arith, c.one_side_of-ones.ensures.pattern)) c.prefix_of-prefix.ensures.pattern in (
      (λ none. sides-part frame greatest c.depth-greatest.ensures.most c.args.leaves.now are c.args.s prefix c.requires.slot c.requires.live
          c.prefix_of-prefix.ensures.is deep c.prefix_of-prefix.ensures.pattern ready zeros ones c.zero_side_of-zeros.ensures.depth c.zero_side_of-zeros.ensures.pattern c.one_side_of-ones.ensures.depth c.one_side_of-ones.ensures.pattern further zeros_fit ones_fit
          (c.if-all_have.ensures.0 refl) (c.none_has.ensures.0 none)),
      (λ part. c.none_has.ensures.1
          (part-ones frame greatest c.depth-greatest.ensures.most c.args.leaves.now are c.args.s prefix c.requires.slot c.requires.live
          c.prefix_of-prefix.ensures.is deep c.prefix_of-prefix.ensures.pattern ready zeros ones c.zero_side_of-zeros.ensures.depth c.zero_side_of-zeros.ensures.pattern c.one_side_of-ones.ensures.depth c.one_side_of-ones.ensures.pattern further zeros_fit ones_fit part)),
    )

pub returns-else-all_have : goal.returns-else-all_have
returns-else-all_have c =
    let frame = frame_of c.args.geometry.now (slice_index c.args.words.now) in
    let prefix = c.prefix_of-prefix.result in
    let greatest = c.depth-greatest.result in
    let are = subst (λ (g : ℕ). AreDeepest frame g c.args.geometry.now.segments c.args.leaves.now) (sym c.depth-greatest.ensures.is) c.requires.deepest in
    let deep : prefix.depth ≤ greatest = omega (arith, c.depth-greatest.ensures.is, c.prefix_of-prefix.ensures.depth) in
    let ready : HasReadySide frame c.args.s = (c.in-Some.field-0, c.in-Some.ensures.some) in
    let further : prefix.depth + 1 ≤ greatest =
    omega (arith, halves_fit c.args.geometry.now (slice_index c.args.words.now) c.requires.numbered c.args.s c.in-Some.field-0 c.in-Some.ensures.some c.prefix_of-prefix.result c.prefix_of-prefix.ensures.is c.depth-greatest.result c.depth-greatest.ensures.is) in
    let zeros : Prefix = c.zero_side_of-zeros.result in
    let zeros_fit : zeros.pattern < 2 ^ zeros.depth = sides_fit prefix.depth prefix.pattern zeros.depth zeros.pattern c.zero_side_of-zeros.ensures.depth (omega (arith, c.zero_side_of-zeros.ensures.pattern)) c.prefix_of-prefix.ensures.pattern in
    let ones : Prefix = c.one_side_of-ones.result in
    let ones_fit : ones.pattern < 2 ^ ones.depth = sides_fit prefix.depth prefix.pattern ones.depth ones.pattern c.one_side_of-ones.ensures.depth (omega (arith, c.one_side_of-ones.ensures.pattern)) c.prefix_of-prefix.ensures.pattern in (
      (λ all. absurd (false≢true (sym c.if-all_have.false ∙ all))),
      (λ part. c.all_have-2.ensures.1
          (part-zeros frame greatest c.depth-greatest.ensures.most c.args.leaves.now are c.args.s prefix c.requires.slot c.requires.live
          c.prefix_of-prefix.ensures.is deep c.prefix_of-prefix.ensures.pattern ready zeros ones c.zero_side_of-zeros.ensures.depth c.zero_side_of-zeros.ensures.pattern c.one_side_of-ones.ensures.depth c.one_side_of-ones.ensures.pattern further zeros_fit ones_fit part)),
    )
