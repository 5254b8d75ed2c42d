-- No step of a caller's kinds stores to a word of the structure, whatever number its caller has.
use Rattle.std.proofs.Common.{ℕ, ◌+◌, ◌%◌, ◌^◌, Bool, true, false, cond, eqb, List, refl}
use Rattle.trace.specs.Events.{Words, after}
use Rattle.trace.specs.Events.Event.{loaded, exchanged}
use Rattle.image_layout.specs.Volatile.{counter_word}
use Rattle.frame_facts.specs.Owners.{HasStructure}
use Rattle.world.specs.Ground.{Ground, IsLockWord}
use Rattle.world.specs.Views.{View, At}
use Rattle.world.specs.Parts.{Locks}
use Rattle.world.specs.Kinds.{Kind, peeks, asks_power, meets_root, meets_entry, meets_head, pins, finds_room, refuses, places, looks, glances_word, validates, learns, meets_lock, tries, stores, copies, clears, repays, publishes, stashes, flushes, fences, draws_place, unlocks, cuts_power}
use Rattle.world.specs.Conditions.{May}
use Rattle.world.specs.StepKinds.{of_call}
use Rattle.world.specs.StepLaws.{words_of_step, CallsSpareTheStructure}
use Rattle.world.proofs.basics.Structures.{known_lock, lock_structure, counter_structure, power_structure}
use Rattle.world.proofs.basics.Seats.{guarded_structure}

module _ (site : Ground) (words : Words) (views : List View) (j number : ℕ) (v : View) (l : Locks site words views) (at : At views j v) where
  tried : (lock free : ℕ) → IsLockWord site.shape lock → (t : Bool) → HasStructure site.shape words (after (cond t (exchanged number lock (free + 1)) (loaded number lock)) words)
  tried lock free is true = lock_structure site.shape words lock (free + 1) is
  tried lock free is false = λ i s. refl

  spares : (kind : Kind) → May site kind v → HasStructure site.shape words (words_of_step site (of_call kind) number words)
  spares (peeks n) may = λ i s. refl
  spares asks_power may = λ i s. refl
  spares meets_root may = λ i s. refl
  spares (meets_entry e n) may = λ i s. refl
  spares (meets_head t version) may = λ i s. refl
  spares (pins t b) may = λ i s. refl
  spares (finds_room call) may = λ i s. refl
  spares (refuses call reply) may = λ i s. refl
  spares (places k a) may = λ i s. refl
  spares (looks lock) may = λ i s. refl
  spares (glances_word lock n) may = λ i s. refl
  spares (validates lock) may = λ i s. refl
  spares (learns n) may = λ i s. refl
  spares (meets_lock lock) may = λ i s. refl
  spares (tries lock free) may = tried lock free (known_lock site v lock may.0) (eqb (words lock) free)
  spares (stores n x) may = guarded_structure site words views l j v n x at may.0.guarded words
  spares (copies n x m) may = guarded_structure site words views l j v n x at may.0.guarded words
  spares (clears n x m) may = guarded_structure site words views l j v n x at may.0.guarded words
  spares (repays n x o) may = guarded_structure site words views l j v n x at may.0.guarded words
  spares (publishes n x call) may = guarded_structure site words views l j v n x at may.0.guarded words
  spares (stashes n x call o) may = guarded_structure site words views l j v n x at may.0.guarded words
  spares (flushes line) may = λ i s. refl
  spares fences may = λ i s. refl
  spares (draws_place call) may = counter_structure site.shape words ((words (counter_word site.shape) + 1) % 2 ^ 64)
  spares (unlocks lock next) may = lock_structure site.shape words lock next (l.locked j v lock may.0 at may.1).0
  spares cuts_power may = power_structure site.shape words 1

pub calls_spare : CallsSpareTheStructure
calls_spare site words views j v kind number h at may = spares site words views j number v h.locks at kind may
