-- What a segment covers and does not give away is its own.
use Rattle.std.proofs.Common.{ℕ, ◌^◌, ◌<◌, ◌∙◌, sym, subst, refl, arith, slice_index}
use Rattle.hash_word.specs.Hash.{Covers}
use Rattle.sound_image.specs.Segments.{frame_of, pattern_at, CoversHash}
use Rattle.image_rules.proofs.Answered.{refused, denied, never, untrue}
use Rattle.image_rules.proofs.covered.Owners.{kept-Owns, Owns-kept, covers-prefix}
use Rattle.image_rules.proofs.heads.owns.Goals as goal

pub returns-then-not-is_live : goal.returns-then-not-is_live
returns-then-not-is_live c = (
  (λ false. untrue false),
  (λ own. absurd (never c.is_live.result c.is_live.ensures c.if-not-is_live.true own.own.live)),
)

pub returns-then-covers : goal.returns-then-covers
returns-then-covers c =
    let shape = c.args.geometry.now in
    let word = slice_index c.args.words.now in
    let fits : c.args.hash < 2 ^ 64 = omega arith in
    let live = c.if-not-is_live.ensures.0 refl in
    let here : Covers c.prefix_of-prefix.result.depth c.prefix_of-prefix.result.pattern c.args.hash = c.if-covers.ensures.0 refl in
    let covers : CoversHash (frame_of shape word) c.args.s c.args.hash =
    subst (λ (d : ℕ). Covers d (pattern_at (frame_of shape word) c.args.s) c.args.hash) c.prefix_of-prefix.ensures.is.depth
    (here ∙ c.prefix_of-prefix.ensures.is.pattern) in (
      (λ kept. kept-Owns shape word c.requires.divided c.args.s c.args.hash c.requires.slot fits live covers
          (refused c.gives_away.result c.gives_away.ensures kept)),
      (λ own. denied c.gives_away.result c.gives_away.ensures (Owns-kept shape word c.requires.divided c.args.s c.args.hash c.requires.slot fits live own)),
    )

pub returns-else-covers : goal.returns-else-covers
returns-else-covers c = (
  (λ over. untrue (sym c.if-covers.false ∙ over)),
  (λ own. c.covers.ensures.1
      (covers-prefix (frame_of c.args.geometry.now (slice_index c.args.words.now)) c.args.s c.prefix_of-prefix.result c.prefix_of-prefix.ensures.is
      c.args.hash own.own.covers)),
)
