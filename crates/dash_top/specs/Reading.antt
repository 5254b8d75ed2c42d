-- Why a script or an image could not be read.
use Rattle.std.specs.Prelude.{ℕ, List, Option, ⊤}
use Rattle.outside.specs.Causes.{Rose}
use Rattle.script_text.specs.declared.line.Mode.{Mode}
use Rattle.dash_top.specs.declared.work.Refused.{Refused}
use Rattle.dash_top.specs.declared.work.Refused.TheVariants.{Words, Script, Image, Source, Store, NoMemory}
use Rattle.dash_top.specs.Bytes.{RefusesScript, RefusesImage}

-- by the mode, by what the source has left before and after, and by its counts of faults
abbrev pub HasScriptCause : Mode → Option (List ℕ) → Option (List ℕ) → ℕ → ℕ → Refused → Type 0
HasScriptCause mode left_old left_new faults_old faults_new Words = ⊥
HasScriptCause mode left_old left_new faults_old faults_new (Script fault) = RefusesScript left_old left_new mode fault
HasScriptCause mode left_old left_new faults_old faults_new (Image fault) = ⊥
HasScriptCause mode left_old left_new faults_old faults_new Source = Rose faults_old faults_new
HasScriptCause mode left_old left_new faults_old faults_new Store = ⊥
HasScriptCause mode left_old left_new faults_old faults_new NoMemory = ⊤

-- by what the store has, and by its counts of faults
abbrev pub HasImageCause : Option (List ℕ) → ℕ → ℕ → Refused → Type 0
HasImageCause store faults_old faults_new Words = ⊥
HasImageCause store faults_old faults_new (Script fault) = ⊥
HasImageCause store faults_old faults_new (Image fault) = RefusesImage store fault
HasImageCause store faults_old faults_new Source = ⊥
HasImageCause store faults_old faults_new Store = Rose faults_old faults_new
HasImageCause store faults_old faults_new NoMemory = ⊤
