-- Gates, and the state of each caller's gate.
use Rattle.std.specs.Prelude.{◌≡◌, ◌≢◌, ℕ, ⊤, None, Some, Option, suc, zero}
use Rattle.outside.specs.declared.gates.Power.{Power}
use Rattle.outside.specs.declared.gates.Power.TheVariants.{On, Off}
use Rattle.outside.specs.declared.gates.GateState.{GateState}
use Rattle.outside.specs.declared.gates.GateState.TheVariants.{Unmade, Made, Back}

-- the count of cuts: it rises exactly at the first Off, and only a gate that has not cut answers On
abbrev pub Cuts : ℕ → Power → ℕ → Type 0
Cuts before On now = (before ≡ 0) × (now ≡ 0)
Cuts zero Off now = now ≡ 1
Cuts (suc n) Off now = now ≡ suc n

-- the passes left, where told: no limit lets through, a number falls by one, and Off comes exactly at 0
abbrev pub Passes : Option (Option ℕ) → Power → Option (Option ℕ) → Type 0
Passes None power new = ⊤
Passes (Some None) power new = (power ≡ On) × (new ≡ Some None)
Passes (Some (Some zero)) power new = (power ≡ Off) × (new ≡ Some (Some zero))
Passes (Some (Some (suc n))) power new = (power ≡ On) × (new ≡ Some (Some n))

-- a gate that tells the passes left tells this fuse
abbrev pub TellsLeft : Option (Option ℕ) → Option ℕ → Type 0
TellsLeft None fuse = ⊤
TellsLeft (Some left) fuse = left ≡ fuse

-- the state of this caller's gate becomes this one, and every other caller's stays
pub record Moves (old new : ℕ → GateState) (caller : ℕ) (state : GateState) : Type 0 where
  pub here : new caller ≡ state
  pub others : (c : ℕ) → c ≢ caller → new c ≡ old c

-- the gate was made, and is not back
abbrev pub IsMade : GateState → Type 0
IsMade Unmade = ⊥
IsMade (Made fuse) = ⊤
IsMade (Back fuse cut) = ⊥

-- the fuse that a gate was made with
abbrev pub fuse_of : GateState → Option ℕ
fuse_of Unmade = None
fuse_of (Made fuse) = fuse
fuse_of (Back fuse cut) = fuse
