-- No bit is in the result that the mode has not.
use Rattle.std.proofs.Common.{◌≡◌, ℕ, sym, ◌∙◌, ap}
use Rattle.std.specs.Int.Bits.{bit_and, and_self}
use Rattle.std.proofs.lemmas.Nat.{and_comm, and_assoc}
use Rattle.outside.proofs.file.rights.kept_mode.Goals as goal

and_within : (a b : ℕ) → bit_and (bit_and a b) a ≡ bit_and a b
and_within a b = and_assoc a a b ∙ (ap (bit_and a) (and_comm b a) ∙ (sym (and_assoc b a a) ∙ ap (λ x. bit_and x b) (and_self a)))

pub returns-clause-within : goal.returns-clause-within
returns-clause-within c = and_within _ _
