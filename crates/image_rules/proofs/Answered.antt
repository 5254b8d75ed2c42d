-- What follows from what an optional answer says.
use Rattle.std.proofs.Common.{◌≡◌, ◌↔◌, ◌∙◌, refl, sym, subst, Bool, true, false, not, IsTrue, Option, Some, None, IfSome, IfNone, Result, Ok, Err, IfErr}

pub if_none : {X : Type 0} {P Q : Type 0} (o : Option X) → (P → Q) → IfNone o P → IfNone o Q
if_none None f h = f h
if_none (Some x) f h = tt

pub if_err : {X E : Type 0} {P Q : E → Type 0} (r : Result X E) → ((e : E) → P e → Q e) → IfErr r P → IfErr r Q
if_err (Ok x) f h = tt
if_err (Err e) f h = f e h

-- and from what a test says
pub refused : {P : Type 0} (b : Bool) → (IsTrue b ↔ P) → IsTrue (not b) → P → ⊥
refused true test is p = absurd (cc)
refused false test is p = let there : false ≡ true = test.1 p in absurd (cc)

pub denied : {P : Type 0} (b : Bool) → (IsTrue b ↔ P) → (P → ⊥) → IsTrue (not b)
denied true test never = absurd (never (test.0 refl))
denied false test never = refl

pub never : {P : Type 0} (b : Bool) → (IsTrue b ↔ P) → b ≡ false → P → ⊥
never b test is p = let there : b ≡ true = test.1 p in absurd (cc)

pub fails : {P : Type 0} (b : Bool) → b ≡ false → (P → b ≡ true) → IsTrue b ↔ P
fails b is test = ((λ there. let apart : true ≡ false = sym there ∙ is in absurd (cc)), test)

pub untrue : {P : Type 0} → IsTrue false → P
untrue h = let there : false ≡ true = h in absurd (cc)

-- and from what an optional answer is
pub told_some : {X : Type 0} (P : X → Type 0) (o : Option X) (x : X) → o ≡ Some x → IfSome o P → P x
told_some {X} P o x is says = subst (λ (o : Option X). IfSome o P) is says

pub told_none : {X : Type 0} (P : Type 0) (o : Option X) → o ≡ None → IfNone o P → P
told_none {X} P o is says = subst (λ (o : Option X). IfNone o P) is says
