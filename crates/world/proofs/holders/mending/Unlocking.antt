-- The store that frees a lock of a stale segment, which a cut has left taken.
use Rattle.std.proofs.Common.{◌≡◌, ℕ, suc, ◌+◌, ◌-◌, ◌%◌, ◌^◌, ◌<◌, sym, ap, subst, ◌∙◌, arith}
use Rattle.std.proofs.Math.Nat.{add-zero}
use Rattle.trace.specs.Events.{Words}
use Rattle.image_layout.specs.Places.{Shape, bucket_at, buckets}
use Rattle.frame_facts.proofs.segments.changes.Prepared.{core_keeps}
use Rattle.world.specs.Ground.{Ground, IsGround, IsLockWord, IsSpentLock}
use Rattle.world.specs.Views.{View}
use Rattle.world.specs.Holders.{KnowsWord}
use Rattle.world.specs.areas.Rows.{HasNoSides}
use Rattle.world.specs.areas.Kinds.{sets}
use Rattle.world.specs.areas.Asking.{MayBeNewest, MayAt}
use Rattle.world.specs.areas.Repairing.{HasStale}
use Rattle.world.proofs.basics.Grounds.{lock_core}
use Rattle.world.proofs.holders.directing.Clearing.{set_any}
use Rattle.world.proofs.holders.mending.Stale.{holds_bucket}

module _ (site : Ground) (ground : IsGround site) (v : View) (s b x w : ℕ) (word : Words) (mine : HasStale site v s word) (sides : HasNoSides v.areas) (near : b < buckets)
    (known : KnowsWord v (bucket_at site.shape s b) w) (taken : w ≡ suc x) (even : x % 2 ≡ 0) where
  abbrev shape : Shape
  shape = site.shape

  abbrev at : ℕ
  at = bucket_at shape s b

  is_lock : IsLockWord shape (at + 0)
  is_lock = (s, b, mine.slot, near, add-zero at)

  -- a spent lock is free, and this one is taken
  not_spent : (words : Words) → MayBeNewest site v words → IsSpentLock shape words (at + 0) → ⊥
  not_spent words new spent = odd x even (sym taken ∙ sym (new.knows at w known.known) ∙ ap words (sym (add-zero at)) ∙ spent.1)
    where
      odd : (x : ℕ) → x % 2 ≡ 0 → suc x ≡ 2 ^ 64 - 2 → ⊥
      odd x even is = omega (arith, even, is)

  pub unlock : MayAt site (sets at x) v
  unlock = subst (λ (i : ℕ). MayAt site (sets i x) v) (add-zero at)
      (set_any site ground v mine.holder s b mine.slot near (sides s) 0 x (omega arith) (holds_bucket site v s word mine b 0 near (omega arith)) (λ _. even)
      (λ words new spent. absurd (not_spent words new spent))
      (λ words medium new side. core_keeps shape medium (at + 0) x side.table (lock_core shape (at + 0) x is_lock ∙ sym (lock_core shape (at + 0) (medium (at + 0)) is_lock))))
