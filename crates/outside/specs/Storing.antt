-- What a store that tells its bytes reads and holds, and when a read may fail.
use Rattle.std.specs.Prelude.{◌≡◌, ℕ, ◌+◌, ◌-◌, ◌^◌, ◌≤◌, List, take, codes, ⊤, None, Some, Option, Result, IsErrOf}
use Rattle.outside.specs.Causes.{Rose}
use Rattle.outside.specs.declared.parts.StoreFault.{StoreFault}
use Rattle.outside.specs.declared.parts.StoreFault.TheVariants.{Failed, NoMemory}

-- these are all of the bytes held, or the first limit + 1 where there are more
abbrev pub IsFront : Option (List ℕ) → ℕ → List ℕ → Type 0
IsFront None limit bytes = ⊤
IsFront (Some held) limit bytes = bytes ≡ take (limit + 1) held

-- a store that tells its bytes holds these now
abbrev pub Holds : Option (List ℕ) → Option (List ℕ) → List ℕ → Type 0
Holds None new bytes = ⊤
Holds (Some held) new bytes = new ≡ Some bytes

-- the most writes that a store counts, by a number of 64 bits: no write is made past them, so that the count is exact
abbrev pub most_writes : ℕ
most_writes = 2 ^ 64 - 1

-- the count does not fall, and a read fails only where it rose; want of memory is free
pub record HasReadCause {T : Type 0} (before now : ℕ) (result : Result T StoreFault) : Type 0 where
  pub later : before ≤ now
  pub failed : IsErrOf result Failed → Rose before now

-- the sentence that is printed where the outside failed
abbrev pub failed_text : List ℕ
failed_text = codes "the outside failed"

-- the sentence that is printed for a fault
abbrev pub fault_text : StoreFault → List ℕ
fault_text Failed = failed_text
fault_text NoMemory = codes "memory was wanting"
