-- A step of any kind but the publishing one leaves what every key has as it was.
use Rattle.std.proofs.Common.{◌≡◌, ℕ, ◌+◌, cond, eqb, Bool, true, false, List, refl}
use Rattle.trace.specs.Events.{Words, with_word, after}
use Rattle.trace.specs.Events.Event.{loaded, exchanged}
use Rattle.image_layout.specs.Volatile.{counter_word, power_word}
use Rattle.frame_facts.specs.Hits.{find}
use Rattle.world.specs.Ground.{Ground, IsLockWord}
use Rattle.world.specs.Views.{View, At}
use Rattle.world.specs.Kinds.{Kind, peeks, asks_power, meets_root, meets_entry, meets_head, pins, finds_room, refuses, places, looks, glances_word, validates, learns, meets_lock, tries, stores, copies, clears, repays, publishes, stashes, flushes, fences, draws_place, unlocks, cuts_power}
use Rattle.world.specs.Conditions.{May}
use Rattle.world.specs.Laws.{words_by}
use Rattle.world.specs.Pairs.{IsPublishingKind}
use Rattle.world.proofs.basics.Structures.{known_lock}
use Rattle.world.proofs.basics.Tables.{same_find, lock_cores, counter_cores, power_cores}
use Rattle.world.proofs.holding.Backing.{Backing}

-- a lock word has no part in any pair
relocked : (site : Ground) (words : Words) (lock x : ℕ) → IsLockWord site.shape lock → (k : ℕ) → find site.shape (with_word words lock x) k ≡ find site.shape words k
relocked site words lock x l k = same_find site (with_word words lock x) words k (λ n _. lock_cores site words lock x l n)

tried : (site : Ground) (words : Words) (number lock free : ℕ) → IsLockWord site.shape lock → (won : Bool)
    → (k : ℕ) → find site.shape (after (cond won (exchanged number lock (free + 1)) (loaded number lock)) words) k ≡ find site.shape words k
tried site words number lock free l true k = relocked site words lock (free + 1) l k
tried site words number lock free l false k = refl

-- ---- by what such a step rests on
module _ (site : Ground) (words : Words) (views : List View) (j : ℕ) (v : View) (h : Backing site words views j v) (at : At views j v) (number : ℕ) where
  pub pairs_kept : (kind : Kind) → May site kind v → (IsPublishingKind kind → ⊥) → (k : ℕ) → find site.shape (words_by site kind number words) k ≡ find site.shape words k
  pairs_kept (peeks i) may other k = refl
  pairs_kept asks_power may other k = refl
  pairs_kept meets_root may other k = refl
  pairs_kept (meets_entry e i) may other k = refl
  pairs_kept (meets_head s version) may other k = refl
  pairs_kept (pins s b) may other k = refl
  pairs_kept (finds_room call) may other k = refl
  pairs_kept (refuses call reply) may other k = refl
  pairs_kept (places key a) may other k = refl
  pairs_kept (looks lock) may other k = refl
  pairs_kept (glances_word lock i) may other k = refl
  pairs_kept (validates lock) may other k = refl
  pairs_kept (learns i) may other k = refl
  pairs_kept (meets_lock lock) may other k = refl
  pairs_kept (tries lock free) may other k = tried site words number lock free (known_lock site v lock may.0) (eqb (words lock) free) k
  pairs_kept (stores i x) may other k = (may.1 words words h.newest h.itself).pairs k
  pairs_kept (copies i x m) may other k = (may.1 words words h.newest h.itself).pairs k
  pairs_kept (clears i x m) may other k = (may.1 words words h.newest h.itself).pairs k
  pairs_kept (repays i x o) may other k = (may.1 words words h.newest h.itself).pairs k
  pairs_kept (publishes i x call) may other k = absurd (other tt)
  pairs_kept (stashes i x call o) may other k = absurd (other tt)
  pairs_kept (flushes l) may other k = refl
  pairs_kept fences may other k = refl
  pairs_kept (draws_place call) may other k = same_find site (with_word words (counter_word site.shape) _) words k (counter_cores site words _)
  pairs_kept (unlocks lock next) may other k = relocked site words lock next (h.locks.locked j v lock may.0 at may.1).0 k
  pairs_kept cuts_power may other k = same_find site (with_word words (power_word site.shape) 1) words k (power_cores site words 1)
