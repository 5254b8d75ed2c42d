-- A lock word of a live segment that is free with its last version stays so, at each kind of step.
use Rattle.std.proofs.Common.{◌≡◌, ◌≢◌, ℕ, ◌+◌, ◌-◌, ◌^◌, Bool, true, false, cond, eqb, List, sym, ap, ◌∙◌, refl, arith}
use Rattle.std.proofs.lemmas.Bool.{eqb-true}
use Rattle.trace.specs.Events.{Words, with_word, after}
use Rattle.trace.specs.Events.Event.{loaded, exchanged}
use Rattle.trace.proofs.Replaced.{replaced_other}
use Rattle.image_layout.specs.Volatile.{counter_word, power_word}
use Rattle.world.specs.Ground.{Ground, IsLockWord, IsSpentLock}
use Rattle.world.specs.Views.{View, At, IsGuarded}
use Rattle.world.specs.Kinds.{Kind, peeks, asks_power, meets_root, meets_entry, meets_head, pins, finds_room, refuses, places, looks, glances_word, validates, learns, meets_lock, tries, stores, copies, clears, repays, publishes, stashes, flushes, fences, draws_place, unlocks, cuts_power}
use Rattle.world.specs.Conditions.{May}
use Rattle.world.specs.areas.SpentNumbers.{SpendingParts}
use Rattle.world.specs.Laws.{words_by}
use Rattle.world.proofs.basics.Grounds.{lock_within}
use Rattle.world.proofs.basics.Structures.{lock_of_live, live_lock, lives_there}
use Rattle.world.proofs.basics.Seats.{guarded_no_lock}
use Rattle.world.proofs.invariant.Stays.{structure_stays}

module _ (site : Ground) (words : Words) (views : List View) (j : ℕ) (v : View) (h : SpendingParts site words views) (at : At views j v) (lock : ℕ) (is : IsLockWord site.shape lock)
    (spent : words lock ≡ 2 ^ 64 - 2) where
  stored : (i x : ℕ) → IsGuarded v.held i → with_word words i x lock ≡ 2 ^ 64 - 2
  stored i x g = replaced_other words i x lock (λ e. guarded_no_lock site words views h.locks j v i lock at g is (sym e)) ∙ spent

  behind : (i x : ℕ) → (lock ≡ i → ⊥) → with_word words i x lock ≡ 2 ^ 64 - 2
  behind i x other = replaced_other words i x lock other ∙ spent

  tried : (l free : ℕ) → free ≢ 2 ^ 64 - 2 → (t : Bool) → eqb (words l) free ≡ t → after (cond t (exchanged j l (free + 1)) (loaded j l)) words lock ≡ 2 ^ 64 - 2
  tried l free other true e = behind l (free + 1) (λ same. other (sym (eqb-true (words l) free e) ∙ (ap words (sym same) ∙ spent)))
  tried l free other false e = spent

  pub spent_stays : (kind : Kind) → May site kind v → words_by site kind j words lock ≡ 2 ^ 64 - 2
  spent_stays (peeks i) may = spent
  spent_stays asks_power may = spent
  spent_stays meets_root may = spent
  spent_stays (meets_entry e i) may = spent
  spent_stays (meets_head s version) may = spent
  spent_stays (pins s b) may = spent
  spent_stays (finds_room call) may = spent
  spent_stays (refuses call reply) may = spent
  spent_stays (places k a) may = spent
  spent_stays (looks l) may = spent
  spent_stays (glances_word l i) may = spent
  spent_stays (validates l) may = spent
  spent_stays (learns i) may = spent
  spent_stays (meets_lock l) may = spent
  spent_stays (tries l free) may = tried l free may.2 (eqb (words l) free) refl
  spent_stays (stores i x) may = stored i x may.0.guarded
  spent_stays (copies i x m) may = stored i x may.0.guarded
  spent_stays (clears i x m) may = stored i x may.0.guarded
  spent_stays (repays i x o) may = stored i x may.0.guarded
  spent_stays (publishes i x call) may = stored i x may.0.guarded
  spent_stays (stashes i x call o) may = stored i x may.0.guarded
  spent_stays (flushes l) may = spent
  spent_stays fences may = spent
  spent_stays (draws_place call) may = behind (counter_word site.shape) _ (λ e. let near = lock_within site.shape lock is in omega (arith, near, e))
  spent_stays (unlocks l next) may = behind l next (λ same. let k = h.locks.locked j v l may.0 at may.1 in let now = ap words same in absurd (omega (arith, k.1, k.2, now, spent)))
  spent_stays cuts_power may = behind (power_word site.shape) 1 (λ e. let near = lock_within site.shape lock is in omega (arith, near, e))

-- and its segment stays live
pub spent_lock_stays : (site : Ground) (words : Words) (views : List View) (j : ℕ) (v : View) → SpendingParts site words views → At views j v → (lock : ℕ) (kind : Kind) → May site kind v
    → IsSpentLock site.shape words lock → IsSpentLock site.shape (words_by site kind j words) lock
spent_lock_stays site words views j v h at lock kind may s = (
  live_lock site.shape words (words_by site kind j words) lock (lives_there site.shape words (words_by site kind j words) (structure_stays site words views j v h.locks at kind may)) s.0,
  spent_stays site words views j v h at lock (lock_of_live site.shape words lock s.0) s.1 kind may,
)
