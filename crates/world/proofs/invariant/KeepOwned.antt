-- A current segment owns each record in it, at each kind of step.
use Rattle.std.proofs.Common.{◌≡◌, ℕ, ◌+◌, ◌<◌, Bool, true, false, cond, eqb, List, Some, inl, inr, ◌∙◌}
use Rattle.trace.specs.Events.{Words, with_word, after}
use Rattle.trace.specs.Events.Event.{loaded, exchanged}
use Rattle.image_layout.specs.Places.{words_of}
use Rattle.image_layout.specs.Volatile.{counter_word, power_word}
use Rattle.sound_image.specs.Records.{key_hash}
use Rattle.frame_facts.specs.Core.{core}
use Rattle.frame_facts.proofs.segments.Places.{owner_kept}
use Rattle.world.specs.Ground.{Ground, IsLockWord}
use Rattle.world.specs.Views.{View, At, IsGuarded}
use Rattle.frame_facts.specs.Hits.{Hit}
use Rattle.frame_facts.specs.Owners.{owner_of}
use Rattle.world.specs.Kinds.{Kind, peeks, asks_power, meets_root, meets_entry, meets_head, pins, finds_room, refuses, places, looks, glances_word, validates, learns, meets_lock, tries, stores, copies, clears, repays, publishes, stashes, flushes, fences, draws_place, unlocks, cuts_power}
use Rattle.world.specs.Conditions.{AddsHeld, May}
use Rattle.world.specs.Laws.{words_by}
use Rattle.world.proofs.basics.Structures.{known_lock}
use Rattle.world.proofs.basics.Tables.{core_structure_same, same_hit, lock_cores, counter_cores, power_cores}
use Rattle.world.proofs.basics.Seats.{guarded_structure}
use Rattle.world.proofs.holding.Backing.{Backing}

-- a segment of those that P names owns each record in it
pub record OwnedOf (site : Ground) (P : ℕ → Type 0) (words : Words) : Type 0 where
  pub own : (s b r k : ℕ) → P s → Hit site.shape words s b r k → owner_of site.shape words (key_hash site.shape k) ≡ Some s

module _ (site : Ground) (words : Words) (views : List View) (j : ℕ) (v : View) (h : Backing site words views j v) (at : At views j v) (P W : ℕ → Type 0)
    (back : (s : ℕ) → W s → P s) (o : OwnedOf site P words) where
  -- no core of the image changes
  quiet : (us : Words) → ((n : ℕ) → n < words_of site.shape → core site.shape us n ≡ core site.shape words n) → OwnedOf site W us
  quiet us same = let structure = core_structure_same site words us same in record {
    own = λ s b r k current hit. owner_kept site.shape words us structure (key_hash site.shape k)
        ∙ o.own s b r k (back s current) (same_hit site us words same s b r k hit);
  }

  relocked : (lock x : ℕ) → IsLockWord site.shape lock → OwnedOf site W (with_word words lock x)
  relocked lock x is = quiet (with_word words lock x) (λ n _. lock_cores site words lock x is n)

  tried : (lock free : ℕ) → IsLockWord site.shape lock → (t : Bool) → OwnedOf site W (after (cond t (exchanged j lock (free + 1)) (loaded j lock)) words)
  tried lock free is true = relocked lock (free + 1) is
  tried lock free is false = record { own = λ s b r k current hit. o.own s b r k (back s current) hit }

  -- a store, by which a record comes only to the segment that owns it
  stored : (i x : ℕ) → IsGuarded v.held i → AddsHeld site v i x → OwnedOf site W (with_word words i x)
  stored i x g adds = let structure = guarded_structure site words views h.locks j v i x at g words in record {
    own = λ s b r k current hit. owner_kept site.shape words (with_word words i x) structure (key_hash site.shape k)
        ∙ elim (adds words h.newest s b r k hit) [
          | inl old ↦ o.own s b r k (back s current) old
          | inr new ↦ new.2
        ];
  }

  pub keep_owned : (kind : Kind) → May site kind v → OwnedOf site W (words_by site kind j words)
  keep_owned (peeks i) may = record { own = λ s b r k current hit. o.own s b r k (back s current) hit }
  keep_owned asks_power may = record { own = λ s b r k current hit. o.own s b r k (back s current) hit }
  keep_owned meets_root may = record { own = λ s b r k current hit. o.own s b r k (back s current) hit }
  keep_owned (meets_entry e i) may = record { own = λ s b r k current hit. o.own s b r k (back s current) hit }
  keep_owned (meets_head s version) may = record { own = λ s b r k current hit. o.own s b r k (back s current) hit }
  keep_owned (pins s b) may = record { own = λ s b r k current hit. o.own s b r k (back s current) hit }
  keep_owned (finds_room call) may = record { own = λ s b r k current hit. o.own s b r k (back s current) hit }
  keep_owned (refuses call reply) may = record { own = λ s b r k current hit. o.own s b r k (back s current) hit }
  keep_owned (places k a) may = record { own = λ s b r k current hit. o.own s b r k (back s current) hit }
  keep_owned (looks lock) may = record { own = λ s b r k current hit. o.own s b r k (back s current) hit }
  keep_owned (glances_word lock i) may = record { own = λ s b r k current hit. o.own s b r k (back s current) hit }
  keep_owned (validates lock) may = record { own = λ s b r k current hit. o.own s b r k (back s current) hit }
  keep_owned (learns i) may = record { own = λ s b r k current hit. o.own s b r k (back s current) hit }
  keep_owned (meets_lock lock) may = record { own = λ s b r k current hit. o.own s b r k (back s current) hit }
  keep_owned (tries lock free) may = tried lock free (known_lock site v lock may.0) (eqb (words lock) free)
  keep_owned (stores i x) may = stored i x may.0.guarded may.0.adds
  keep_owned (copies i x m) may = stored i x may.0.guarded may.0.adds
  keep_owned (clears i x m) may = stored i x may.0.guarded may.0.adds
  keep_owned (repays i x o) may = stored i x may.0.guarded may.0.adds
  keep_owned (publishes i x call) may = stored i x may.0.guarded may.0.adds
  keep_owned (stashes i x call o) may = stored i x may.0.guarded may.0.adds
  keep_owned (flushes l) may = record { own = λ s b r k current hit. o.own s b r k (back s current) hit }
  keep_owned fences may = record { own = λ s b r k current hit. o.own s b r k (back s current) hit }
  keep_owned (draws_place call) may = quiet (with_word words (counter_word site.shape) _) (counter_cores site words _)
  keep_owned (unlocks lock next) may = relocked lock next (h.locks.locked j v lock may.0 at may.1).0
  keep_owned cuts_power may = quiet (with_word words (power_word site.shape) 1) (power_cores site words 1)
