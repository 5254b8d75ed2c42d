-- What is so while a lock is free: nobody holds it, so nobody has its segment whole, owes its home a note, or has
-- a change of a key of that home planned.
use Rattle.std.proofs.Common.{◌≡◌, ℕ, ◌%◌, ◌<◌, List, inl, inr, ap, ◌∙◌, subst, arith}
use Rattle.trace.specs.Events.{Words}
use Rattle.image_layout.specs.Places.{bucket_at, homes, buckets}
use Rattle.sound_image.specs.Records.{HasExactNotes}
use Rattle.frame_facts.specs.Hits.{find}
use Rattle.frame_facts.specs.Owners.{home_at}
use Rattle.world.specs.Ground.{Ground, IsCurrentIn}
use Rattle.world.specs.Views.{View, At, HasLock}
use Rattle.world.specs.History.{map_now}
use Rattle.world.specs.Invariant.{IsWatched, Holds}
use Rattle.world.proofs.holding.Beside.{newest}

module _ (site : Ground) (words : Words) (views : List View) (h : Holds site words views) where
  nobody_holds : (lock : ℕ) → words lock % 2 ≡ 0 → (i : ℕ) (u : View) → At views i u → HasLock u.held lock → ⊥
  nobody_holds lock even i u a has = let l = h.locks.locked i u lock has.0 a has.1 in odd (words lock) has.0 l.1 l.2 even
    where
      odd : (a x : ℕ) → a ≡ x → x % 2 ≡ 1 → a % 2 ≡ 0 → ⊥
      odd a x e is even = omega (arith, e, is, even)

  -- a current segment is watched: who has it whole holds all its locks
  pub free_watched : (s b : ℕ) → b < buckets → words (bucket_at site.shape s b) % 2 ≡ 0 → IsCurrentIn site words s → IsWatched site words views s
  free_watched s b near even current = (current, λ i u a whole. nobody_holds (bucket_at site.shape s b) even i u a ((h.structure.fits.whole i u s a whole).1 b near))

  -- the notes of the home are exact
  pub free_exact : (s b : ℕ) → b < homes → words (bucket_at site.shape s b) % 2 ≡ 0 → IsCurrentIn site words s → HasExactNotes site.shape words s b
  free_exact s b near even current = h.notes_of_homes.exact s b (free_watched s b (omega (arith, near)) even current) near (λ i u o a has e f.
      nobody_holds (bucket_at site.shape s b) even i u a (subst (λ (z : ℕ). HasLock u.held z) (ap (λ z. bucket_at site.shape z o.home) e ∙ ap (bucket_at site.shape s) f)
      (h.notes_of_homes.held i u o a has)))

  -- and a key of it has what the history gives it
  pub free_is_map : (k : ℕ) → words (home_at site.shape words k) % 2 ≡ 0 → find site.shape words k ≡ map_now site.start h.log k
  free_is_map k even = elim (h.media.stands words (newest site words views) k) [
    | inl e ↦ e
    | inr s ↦ absurd (nobody_holds (home_at site.shape words k) even s.0 s.1 s.3
        (subst (λ (z : ℕ). HasLock s.1.held (home_at site.shape words z)) s.5 (h.plans.held s.0 s.1 s.2 s.3 s.4)))
  ]
