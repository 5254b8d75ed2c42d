-- A live segment of a clean image is current where its version is the image's.
use Rattle.std.proofs.Common.{refl, sym, ◌∙◌, arith}
use Rattle.std.proofs.lemmas.Bool.{eqb-true, eq-eqb}
use Rattle.image_rules.proofs.Answered.{fails}
use Rattle.image_rules.proofs.Within.{in_front}
use Rattle.image_rules.proofs.repaired.is_current.Goals as goal

pub bounds-words : goal.bounds-words
bounds-words c = in_front c.args.geometry.now _ _ c.requires.whole (omega arith)

pub returns-then-is_live : goal.returns-then-is_live
returns-then-is_live c = (
  (λ same. record {
    clean = c.requires.clean;
    slot = c.requires.segment;
    live = c.if-is_live.ensures.0 refl;
    same_version = sym c.version_of.ensures ∙ eqb-true c.version_of.result c.version_of-then-is_live.result same ∙ c.version_of-then-is_live.ensures;
  }),
  (λ current. eq-eqb c.version_of.result c.version_of-then-is_live.result
      (c.version_of.ensures ∙ current.same_version ∙ sym c.version_of-then-is_live.ensures)),
)

pub returns-else-is_live : goal.returns-else-is_live
returns-else-is_live c = fails c.is_live.result c.if-is_live.false (λ current. c.is_live.ensures.1 current.live)
