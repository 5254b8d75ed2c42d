-- A record that is taken is stashed where its home is the one.
use Rattle.std.proofs.Common.{refl, sym, ap, ◌∙◌}
use Rattle.std.proofs.lemmas.Bool.{eqb-true, eq-eqb}
use Rattle.hash_word.specs.Hash.{home_of}
use Rattle.image_rules.proofs.Answered.{fails}
use Rattle.image_rules.proofs.notes.is_stashed.Goals as goal

pub returns-then-is_taken : goal.returns-then-is_taken
returns-then-is_taken c =
    let home = c.home.ensures.of ∙ ap home_of c.hash_in.ensures in (
      (λ same. record { taken = c.if-is_taken.ensures.0 refl; home = sym home ∙ eqb-true c.home.result c.args.b same }),
      (λ stashed. eq-eqb c.home.result c.args.b (home ∙ stashed.home)),
    )

pub returns-else-is_taken : goal.returns-else-is_taken
returns-else-is_taken c = fails c.is_taken.result c.if-is_taken.false (λ stashed. c.is_taken.ensures.1 stashed.taken)
