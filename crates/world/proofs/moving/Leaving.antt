-- What a step at the structure does to it, whatever number its caller has: nothing, or it is a store to a held word that is no header, or a row.
use Rattle.std.proofs.Common.{◌≡◌, ℕ, Bool, true, false, cond, eqb, List, refl}
use Rattle.trace.specs.Events.{Words, with_word, after}
use Rattle.trace.specs.Events.Event.{loaded, exchanged}
use Rattle.frame_facts.specs.Owners.{HasStructure}
use Rattle.world.specs.Ground.{Ground}
use Rattle.world.specs.Views.{View, At}
use Rattle.world.specs.Wants.{words_after}
use Rattle.world.specs.Invariant.{Holds}
use Rattle.world.specs.areas.Areas.{header_word}
use Rattle.world.specs.areas.Rows.{Row}
use Rattle.world.specs.areas.Kinds.{Guard, of_free_slots, guard_word, StructureKind, takes, takes_for_side, gives, finds_stale, closes, finds_free, finds_link, finds_side, finds_entry, finds_begin, reads, sets, moves, settles, settles_side, opens, wanted_at}
use Rattle.world.specs.areas.Asking.{MaySet, MayAt}
use Rattle.world.proofs.basics.Structures.{lock_structure}
use Rattle.world.proofs.basics.Tables.{core_structure_same}
use Rattle.world.proofs.moving.Stepping.{guard_cores}

module _ (site : Ground) (words : Words) (views : List View) (j : ℕ) (v : View) (h : Holds site words views) (at : At views j v) (number : ℕ) where
  guard_apart : (guard : Guard) (x : ℕ) → HasStructure site.shape words (with_word words (guard_word site.shape guard) x)
  guard_apart guard x = core_structure_same site words (with_word words (guard_word site.shape guard) x) (λ n near. guard_cores site words guard x n near)

  taken : (guard : Guard) (caller : ℕ) (t : Bool)
      → HasStructure site.shape words (after (cond t (exchanged number (guard_word site.shape guard) caller) (loaded number (guard_word site.shape guard))) words)
  taken guard caller true = guard_apart guard caller
  taken guard caller false = λ i is. refl

  module _ (P : Words → Type 0) (same : (later : Words) → HasStructure site.shape words later → P later) (set_does : (i x : ℕ) → MaySet site v i x → P (with_word words i x)) where
    pub by_structure : (kind : StructureKind) → MayAt site kind v
        → ((row : Row) (s x : ℕ) → kind ≡ moves row s x → MayAt site (moves row s x) v → P (with_word words (header_word site.shape s) x))
        → P (words_after site.shape (wanted_at site.shape kind) number words)
    by_structure (takes guard caller) may row_does = same _ (taken guard caller (eqb (words (guard_word site.shape guard)) 0))
    by_structure (takes_for_side n caller) may row_does = same _ (taken of_free_slots caller (eqb (words (guard_word site.shape of_free_slots)) 0))
    by_structure (gives guard) may row_does = same _ (guard_apart guard 0)
    by_structure (finds_stale s version) may row_does = same words (λ i is. refl)
    by_structure (closes s i) may row_does = same words (λ i is. refl)
    by_structure (finds_free n) may row_does = same words (λ i is. refl)
    by_structure (finds_link p depth pattern) may row_does = same words (λ i is. refl)
    by_structure (finds_side p n depth pattern) may row_does = same words (λ i is. refl)
    by_structure (finds_entry e i) may row_does = same words (λ i is. refl)
    by_structure (finds_begin s) may row_does = same words (λ i is. refl)
    by_structure (reads i) may row_does = same words (λ i is. refl)
    by_structure (sets i x) may row_does = set_does i x may
    by_structure (moves row s x) may row_does = row_does row s x refl may
    by_structure (settles facts) may row_does = same words (λ i is. refl)
    by_structure (settles_side n depth pattern) may row_does = same words (λ i is. refl)
    by_structure (opens s lock next) may row_does = same _ (lock_structure site.shape words lock next (h.locks.locked j v lock may.2.0 at may.2.1).0)
