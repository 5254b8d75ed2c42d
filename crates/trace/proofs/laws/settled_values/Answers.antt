-- The laws are lemmas, said of the definition.
use Rattle.std.proofs.Common.{◌∷◌, ◌∙◌, sym}
use Rattle.trace.specs.Events.Event.{fenced}
use Rattle.trace.proofs.SettledValues.{is_settled, settled_here, settled_value_is, settled_value_more, settled_value_earlier, settled_value_later}
use Rattle.trace.proofs.laws.settled_values.Goals as goal

pub returns : goal.returns
returns c = record {
  is = settled_value_is;
  kept = λ start e es i x n s. settled_here start (e ∷ es) i x (is_settled start es i x s ∙ sym (settled_value_more start e es i n));
  later = λ start es d i h. settled_here start (fenced d ∷ es) i _ (sym (settled_value_later start es d i h));
  earlier = λ start es d i x h s. settled_here start (fenced d ∷ es) i x (is_settled start es i x s ∙ sym (settled_value_earlier start es d i h));
}
