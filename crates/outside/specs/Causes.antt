-- Counts of faults, and what may be answered only where such a count rose.
use Rattle.std.specs.Prelude.{◌≡◌, ℕ, ◌+◌, ◌-◌, ◌^◌, ◌<◌, ◌≤◌, min, List, length, Result, OnErr, IfOk, Option, take}
use Rattle.std.specs.Io.KnownBytes.{Appends, Consumes}

-- a count after one more: it stands still at the last number of 64 bits
abbrev pub count_after : ℕ → ℕ
count_after before = min (before + 1) (2 ^ 64 - 1)

-- the count rose, or stands at its end
abbrev pub Rose : ℕ → ℕ → Type 0
Rose before now = count_after before ≤ now

-- the count does not fall, and an error is answered only where it rose
pub record HasCause {T E : Type 0} (before now : ℕ) (result : Result T E) : Type 0 where
  pub later : before ≤ now
  pub failed : OnErr result (Rose before now)

-- nothing is taken of a piece that is not empty only where the count rose
abbrev pub TakesSome : {E : Type 0} → ℕ → ℕ → Result ℕ E → List ℕ → Type 0
TakesSome before now result piece = IfOk result (λ n. n ≡ 0 → 0 < length piece → Rose before now)

-- known bytes grow by a front of these
abbrev pub AppendsFront : Option (List ℕ) → Option (List ℕ) → List ℕ → Type 0
AppendsFront old new bytes = (n : ℕ) × Appends old new (take n bytes)

-- known bytes lose some from their front, and nothing else
abbrev pub LosesFront : Option (List ℕ) → Option (List ℕ) → Type 0
LosesFront old new = (bytes : List ℕ) × Consumes old new bytes
