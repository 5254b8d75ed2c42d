-- No kind of step of a caller stores to a word of the structure, or changes what its view has beside locks.
use Rattle.std.proofs.Common.{◌≡◌, ℕ, ◌+◌, ◌%◌, ◌^◌, Bool, true, false, cond, eqb, List, Option, None, Some, refl}
use Rattle.std.specs.Prelude.{nat_lt}
use Rattle.trace.specs.Events.{Words, after}
use Rattle.trace.specs.Events.Event.{loaded, exchanged}
use Rattle.image_layout.specs.Places.{Shape}
use Rattle.image_layout.specs.Volatile.{counter_word}
use Rattle.map_model.specs.declared.call.Call.{Call}
use Rattle.frame_facts.specs.Owners.{HasStructure}
use Rattle.world.specs.Ground.{Ground, IsLockWord}
use Rattle.world.specs.Views.{Answer, View, At}
use Rattle.world.specs.Parts.{Locks}
use Rattle.world.specs.Kinds.{Kind, peeks, asks_power, meets_root, meets_entry, meets_head, pins, finds_room, refuses, places, looks, glances_word, validates, learns, meets_lock, tries, stores, copies, clears, repays, publishes, stashes, flushes, fences, draws_place, unlocks, cuts_power, marked, all_again, with_answer, with_look, with_count, with_lock, view_after}
use Rattle.world.specs.Conditions.{May}
use Rattle.world.specs.Laws.{words_by}
use Rattle.world.proofs.basics.Structures.{known_lock, lock_structure, counter_structure, power_structure}
use Rattle.world.proofs.basics.Seats.{guarded_structure}

module _ (site : Ground) (words : Words) (views : List View) (j : ℕ) (v : View) (l : Locks site words views) (at : At views j v) where
  tried : (lock free : ℕ) → IsLockWord site.shape lock → (t : Bool) → HasStructure site.shape words (after (cond t (exchanged j lock (free + 1)) (loaded j lock)) words)
  tried lock free is true = lock_structure site.shape words lock (free + 1) is
  tried lock free is false = λ i s. refl

  pub structure_stays : (kind : Kind) → May site kind v → HasStructure site.shape words (words_by site kind j words)
  structure_stays (peeks n) may = λ i s. refl
  structure_stays asks_power may = λ i s. refl
  structure_stays meets_root may = λ i s. refl
  structure_stays (meets_entry e n) may = λ i s. refl
  structure_stays (meets_head t version) may = λ i s. refl
  structure_stays (pins t b) may = λ i s. refl
  structure_stays (finds_room call) may = λ i s. refl
  structure_stays (refuses call reply) may = λ i s. refl
  structure_stays (places k a) may = λ i s. refl
  structure_stays (looks lock) may = λ i s. refl
  structure_stays (glances_word lock n) may = λ i s. refl
  structure_stays (validates lock) may = λ i s. refl
  structure_stays (learns n) may = λ i s. refl
  structure_stays (meets_lock lock) may = λ i s. refl
  structure_stays (tries lock free) may = tried lock free (known_lock site v lock may.0) (eqb (words lock) free)
  structure_stays (stores n x) may = guarded_structure site words views l j v n x at may.0.guarded words
  structure_stays (copies n x m) may = guarded_structure site words views l j v n x at may.0.guarded words
  structure_stays (clears n x m) may = guarded_structure site words views l j v n x at may.0.guarded words
  structure_stays (repays n x o) may = guarded_structure site words views l j v n x at may.0.guarded words
  structure_stays (publishes n x call) may = guarded_structure site words views l j v n x at may.0.guarded words
  structure_stays (stashes n x call o) may = guarded_structure site words views l j v n x at may.0.guarded words
  structure_stays (flushes line) may = λ i s. refl
  structure_stays fences may = λ i s. refl
  structure_stays (draws_place call) may = counter_structure site.shape words ((words (counter_word site.shape) + 1) % 2 ^ 64)
  structure_stays (unlocks lock next) may = lock_structure site.shape words lock next (l.locked j v lock may.0 at may.1).0
  structure_stays cuts_power may = power_structure site.shape words 1

looked : (t : Bool) (lock n : ℕ) (v : View) → (with_look t lock n v).areas ≡ v.areas
looked true lock n v = refl
looked false lock n v = refl

counted : (t : Bool) (call : Call) (n : ℕ) (v : View) → (with_count t call n v).areas ≡ v.areas
counted true call n v = refl
counted false call n v = refl

answered : (t : Bool) (a : Option Answer) (v : View) → (with_answer t a v).areas ≡ v.areas
answered false a v = refl
answered true None v = refl
answered true (Some a) v = refl

won : (t : Bool) (lock free : ℕ) (v : View) → (with_lock t lock free v).areas ≡ v.areas
won true lock free v = refl
won false lock free v = refl

pub areas_stay : (shape : Shape) (kind : Kind) (n : ℕ) (v : View) → (view_after shape kind n v).areas ≡ v.areas
areas_stay shape (peeks i) n v = refl
areas_stay shape asks_power n v = refl
areas_stay shape meets_root n v = refl
areas_stay shape (meets_entry e i) n v = refl
areas_stay shape (meets_head s version) n v = refl
areas_stay shape (pins s b) n v = refl
areas_stay shape (finds_room call) n v = counted (nat_lt n (2 ^ 63)) call n v
areas_stay shape (refuses call reply) n v = refl
areas_stay shape (places k a) n v = refl
areas_stay shape (looks lock) n v = looked (eqb (n % 2) 0) lock n v
areas_stay shape (glances_word lock i) n v = refl
areas_stay shape (validates lock) n v = answered (all_again (marked lock n v.notes)) v.answer (record v { notes = marked lock n v.notes })
areas_stay shape (learns i) n v = refl
areas_stay shape (meets_lock lock) n v = refl
areas_stay shape (tries lock free) n v = won (eqb n free) lock free v
areas_stay shape (stores i x) n v = refl
areas_stay shape (copies i x m) n v = refl
areas_stay shape (clears i x m) n v = refl
areas_stay shape (repays i x o) n v = refl
areas_stay shape (publishes i x call) n v = refl
areas_stay shape (stashes i x call o) n v = refl
areas_stay shape (flushes l) n v = refl
areas_stay shape fences n v = refl
areas_stay shape (draws_place call) n v = refl
areas_stay shape (unlocks lock next) n v = refl
areas_stay shape cuts_power n v = refl
