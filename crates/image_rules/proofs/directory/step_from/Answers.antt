-- What a segment covers and does not give away is its own.
use Rattle.std.proofs.Common.{◌^◌, ◌<◌, ◌≤◌, ℕ, refl, subst, arith, slice_index}
use Rattle.sound_image.specs.Segments.{frame_of}
use Rattle.image_rules.proofs.Answered.{never}
use Rattle.image_rules.proofs.covered.Owners.{kept-Owns, prefix-covers, covers-prefix, prefix-side, side-prefix}
use Rattle.image_rules.proofs.directory.step_from.Goals as goal

pub returns-then-s-segments : goal.returns-then-s-segments
returns-then-s-segments c over =
    let past : c.args.geometry.now.segments ≤ c.args.s = subst (λ (n : ℕ). n ≤ c.args.s) c.segments.ensures.is c.if-s-segments.true in
    absurd (omega (arith, past, over.slot))

pub returns-then-not-is_live : goal.returns-then-not-is_live
returns-then-not-is_live c over = never c.is_live.result c.is_live.ensures c.if-not-is_live.true over.live

pub returns-then-not-covers : goal.returns-then-not-covers
returns-then-not-covers c over =
    never c.covers.result c.covers.ensures c.if-not-covers.true
    (covers-prefix (frame_of c.args.geometry.now (slice_index c.args.words.now)) c.args.s c.prefix_of-prefix.result c.prefix_of-prefix.ensures.is
    c.args.hash over.covers)

pub returns-then-not-in_one_side : goal.returns-then-not-in_one_side
returns-then-not-in_one_side c =
    let shape = c.args.geometry.now in
    let word = slice_index c.args.words.now in
    let slot : c.args.s < shape.segments = subst (λ (n : ℕ). c.args.s < n) c.segments.ensures.is c.if-s-segments.false in
    let fits : c.args.hash < 2 ^ 64 = omega arith in
    let covers = prefix-covers (frame_of shape word) c.args.s c.prefix_of-prefix.result c.prefix_of-prefix.ensures.is c.args.hash
    (c.if-not-covers.ensures.0 refl) in
    kept-Owns shape word c.requires.divided c.args.s c.args.hash slot fits (c.if-not-is_live.ensures.0 refl) covers
    (λ gives. never c.in_one_side.result c.in_one_side.ensures c.if-not-in_one_side.true
    (side-prefix (frame_of shape word) c.args.s c.prefix_of-prefix.result c.prefix_of-prefix.ensures.is c.args.hash gives.in_side))

pub returns-in-Some : goal.returns-in-Some
returns-in-Some c =
    let frame = frame_of c.args.geometry.now (slice_index c.args.words.now) in
    let is = c.prefix_of-prefix.ensures.is in
    record {
      over = record {
        slot = subst (λ (n : ℕ). c.args.s < n) c.segments.ensures.is c.if-s-segments.false;
        live = c.if-not-is_live.ensures.0 refl;
        covers = prefix-covers frame c.args.s c.prefix_of-prefix.result is c.args.hash (c.if-not-covers.ensures.0 refl);
      };
      ready = c.in-Some.ensures.some;
      in_side = prefix-side frame c.args.s c.prefix_of-prefix.result is c.args.hash (c.if-not-in_one_side.ensures.0 refl);
    }

pub returns-in-None : goal.returns-in-None
returns-in-None c =
    let shape = c.args.geometry.now in
    let word = slice_index c.args.words.now in
    let slot : c.args.s < shape.segments = subst (λ (n : ℕ). c.args.s < n) c.segments.ensures.is c.if-s-segments.false in
    let fits : c.args.hash < 2 ^ 64 = omega arith in
    let covers = prefix-covers (frame_of shape word) c.args.s c.prefix_of-prefix.result c.prefix_of-prefix.ensures.is c.args.hash
    (c.if-not-covers.ensures.0 refl) in
    kept-Owns shape word c.requires.divided c.args.s c.args.hash slot fits (c.if-not-is_live.ensures.0 refl) covers
    (λ gives. c.in-None.ensures.none gives.ready)
