-- A record that is taken is a twin where its key is the other's.
use Rattle.std.proofs.Common.{refl, sym, ◌∙◌}
use Rattle.std.proofs.lemmas.Bool.{eqb-true, eq-eqb}
use Rattle.image_rules.proofs.Answered.{fails}
use Rattle.image_rules.proofs.records.is_twin.Goals as goal

pub returns-then-is_taken : goal.returns-then-is_taken
returns-then-is_taken c = (
  (λ same. record {
    same_segment = c.requires.segment;
    taken = c.if-is_taken.ensures.0 refl;
    same_key = sym c.key_in.ensures ∙ eqb-true c.key_in.result c.key_in-then-is_taken.result same ∙ c.key_in-then-is_taken.ensures;
  }),
  (λ twin. eq-eqb c.key_in.result c.key_in-then-is_taken.result (c.key_in.ensures ∙ twin.same_key ∙ sym c.key_in-then-is_taken.ensures)),
)

pub returns-else-is_taken : goal.returns-else-is_taken
returns-else-is_taken c = fails c.is_taken.result c.if-is_taken.false (λ twin. c.is_taken.ensures.1 twin.taken)
