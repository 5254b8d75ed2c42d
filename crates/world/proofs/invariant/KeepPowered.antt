-- The power is off only where some view stored the power word, at each kind of step.
use Rattle.std.proofs.Common.{◌≡◌, ℕ, ◌+◌, ◌%◌, ◌^◌, Bool, true, false, cond, eqb, List, set, Option, None, Some, refl, sym, ◌∙◌, arith}
use Rattle.trace.specs.Events.{Words, with_word, after}
use Rattle.trace.specs.Events.Event.{loaded, exchanged}
use Rattle.trace.proofs.Replaced.{replaced_other}
use Rattle.image_layout.specs.Volatile.{counter_word, power_word}
use Rattle.map_model.specs.declared.call.Call.{Call}
use Rattle.world.specs.Ground.{Ground, IsLockWord}
use Rattle.world.specs.Views.{Answer, View, At, IsGuarded}
use Rattle.world.proofs.holding.Backing.{Backing}
use Rattle.world.specs.Parts.{Powered}
use Rattle.world.specs.Kinds.{Kind, peeks, asks_power, meets_root, meets_entry, meets_head, pins, finds_room, refuses, places, looks, glances_word, validates, learns, meets_lock, tries, stores, copies, clears, repays, publishes, stashes, flushes, fences, draws_place, unlocks, cuts_power, marked, with_answer, with_look, with_count, with_lock}
use Rattle.world.specs.Conditions.{May}
use Rattle.world.specs.Laws.{words_by, views_by}
use Rattle.world.proofs.basics.Structures.{known_lock}
use Rattle.world.proofs.basics.Grounds.{lock_within}
use Rattle.world.proofs.basics.Lists.{set_here}
use Rattle.world.proofs.basics.Seats.{carry, guarded_within}

module _ (site : Ground) (words : Words) (views : List View) (j : ℕ) (v : View) (h : Backing site words views j v) (at : At views j v) where
  abbrev power : ℕ
  power = power_word site.shape

  -- a step that leaves the power word, and does not forget that it was stored
  calm : (after : Words) (w : View) → after power ≡ words power → w.stored_power ≡ v.stored_power → Powered site after (set views j w)
  calm after w same keeps off =
      let o = h.powered (λ none. off (same ∙ none)) in
      let c = carry views j v w at (λ i (u : View). u.stored_power ≡ true) (λ was. keeps ∙ was) o.0 o.1 o.2 o.3 in
      (o.0, c.0, c.1, c.2)

  elsewhere : (i x : ℕ) (w : View) → (i ≡ power → ⊥) → w.stored_power ≡ v.stored_power → Powered site (with_word words i x) (set views j w)
  elsewhere i x w other = calm (with_word words i x) w (replaced_other words i x power (λ q. other (sym q)))

  lock_apart : (lock : ℕ) → IsLockWord site.shape lock → lock ≡ power → ⊥
  lock_apart lock is same = let near = lock_within site.shape lock is in omega (arith, near, same)

  guarded_apart : (i : ℕ) → IsGuarded v.held i → i ≡ power → ⊥
  guarded_apart i g same = let near = guarded_within site words views h.locks j v i at g in omega (arith, near, same)

  tried : (lock free : ℕ) → IsLockWord site.shape lock → (t : Bool) → Powered site (after (cond t (exchanged j lock (free + 1)) (loaded j lock)) words) (set views j (with_lock t lock free v))
  tried lock free is true = elsewhere lock (free + 1) _ (lock_apart lock is) refl
  tried lock free is false = calm words v refl refl

  looked : (lock n : ℕ) (t : Bool) → (with_look t lock n v).stored_power ≡ v.stored_power
  looked lock n true = refl
  looked lock n false = refl

  counted : (call : Call) (n : ℕ) (t : Bool) → (with_count t call n v).stored_power ≡ v.stored_power
  counted call n true = refl
  counted call n false = refl

  answered : (o : View) (t : Bool) (a : Option Answer) → (with_answer t a o).stored_power ≡ o.stored_power
  answered o false a = refl
  answered o true None = refl
  answered o true (Some a) = refl

  pub keep_powered : (kind : Kind) → May site kind v → Powered site (words_by site kind j words) (views_by site kind j v words views)
  keep_powered (peeks i) may = calm words _ refl refl
  keep_powered asks_power may = calm words _ refl refl
  keep_powered meets_root may = calm words _ refl refl
  keep_powered (meets_entry e i) may = calm words _ refl refl
  keep_powered (meets_head s version) may = calm words _ refl refl
  keep_powered (pins s b) may = calm words _ refl refl
  keep_powered (finds_room call) may = calm words _ refl (counted call (words (counter_word site.shape)) _)
  keep_powered (refuses call reply) may = calm words _ refl refl
  keep_powered (places k a) may = calm words _ refl refl
  keep_powered (looks lock) may = calm words _ refl (looked lock (words lock) _)
  keep_powered (glances_word lock i) may = calm words _ refl refl
  keep_powered (validates lock) may = calm words _ refl (answered (record v { notes = marked lock (words lock) v.notes }) _ _)
  keep_powered (learns i) may = calm words _ refl refl
  keep_powered (meets_lock lock) may = calm words _ refl refl
  keep_powered (tries lock free) may = tried lock free (known_lock site v lock may.0) (eqb (words lock) free)
  keep_powered (stores i x) may = elsewhere i x _ (guarded_apart i may.0.guarded) refl
  keep_powered (copies i x m) may = elsewhere i x _ (guarded_apart i may.0.guarded) refl
  keep_powered (clears i x m) may = elsewhere i x _ (guarded_apart i may.0.guarded) refl
  keep_powered (repays i x o) may = elsewhere i x _ (guarded_apart i may.0.guarded) refl
  keep_powered (publishes i x call) may = elsewhere i x _ (guarded_apart i may.0.guarded) refl
  keep_powered (stashes i x call o) may = elsewhere i x _ (guarded_apart i may.0.guarded) refl
  keep_powered (flushes l) may = calm words _ refl refl
  keep_powered fences may = calm words _ refl refl
  keep_powered (draws_place call) may = elsewhere (counter_word site.shape) ((words (counter_word site.shape) + 1) % 2 ^ 64) _ (λ e. omega (arith, e)) refl
  keep_powered (unlocks lock next) may = elsewhere lock next _ (lock_apart lock (h.locks.locked j v lock may.0 at may.1).0) refl
  keep_powered cuts_power may = λ off. (j, record v { stored_power = true }, set_here views j v (record v { stored_power = true }) at, refl)
