-- A test for none is true where there is none.
use Rattle.std.proofs.Common.{◌≡◌, Bool, true, false, not, Option, ◌↔◌, IsTrue, IsNone, is_some, refl}

pub none_is : {A : Type 0} (o : Option A) (b : Bool) → is_some o ≡ not b → IsTrue b ↔ IsNone o
none_is o true e = (λ _. e, λ _. refl)
none_is o false e = (λ h. absurd (cc), λ h. absurd (cc))
