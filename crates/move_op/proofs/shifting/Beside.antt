-- The stores of a record in one bucket leave the words of the others.
use Rattle.std.proofs.Common.{◌≡◌, ◌≢◌, ℕ, ◌+◌, ◌*◌, ◌<◌, ◌≤◌, sym, ap, ◌∙◌, subst, arith, slice_index}
use Rattle.bucket_meta.specs.Bucket.{record_slots}
use Rattle.bucket_meta.specs.Marks.{finger_place}
use Rattle.trace.specs.Events.{Words}
use Rattle.trace.proofs.Replaced.{replaced_other}
use Rattle.image_layout.specs.Places.{head_at, bucket_at}
use Rattle.world.specs.Ground.{Ground}
use Rattle.phase.specs.declared.role.Role.{Role}
use Rattle.phase.specs.declared.make.Record.{Record}
use Rattle.phase.specs.declared.kept.Kept.{Kept}
use Rattle.phase.specs.Places.{bucket_of_role}
use Rattle.phase.specs.Buckets.{words_in}
use Rattle.phase.specs.Makes.{key_at, value_at, fingers_at, published_at}
use Rattle.phase.specs.Giving.{IsLocated}
use Rattle.phase.specs.Making.{with_key, with_value, with_record, with_mark}
use Rattle.phase.specs.Keeps.{kept_words}
use Rattle.phase.proofs.locks.Giving.{lock_at, locks_apart}
use Rattle.phase.proofs.locks.Finding.{words_stand}
use Rattle.phase.proofs.locks.Storing.{place_near}
use Rattle.move_op.specs.Steps.{lock_of}

pub key_place : (a t : ℕ) → a + 4 + 2 * t ≡ a + (4 + 2 * t)
key_place a t = omega arith

pub value_place : (a t : ℕ) → a + 5 + 2 * t ≡ a + (5 + 2 * t)
value_place a t = omega arith

one_bucket : (f b c m n : ℕ) → m < 32 → n < 32 → f + 32 + 32 * b + m ≡ f + 32 + 32 * c + n → b ≡ c
one_bucket f b c m n lm ln e = omega (arith, lm, ln, e)

module _ (site : Ground) (kept : Kept) (l : IsLocated site kept.site kept.segment) where
  -- where a bucket begins
  abbrev pub at : Role → ℕ
  at place = bucket_at site.shape kept.segment (bucket_of_role kept.hash place)

  pub at_is : (place : Role) → lock_of kept place ≡ at place
  at_is place = lock_at site kept.site kept.hash kept.segment l place

  -- the words as they are kept
  pub kept_here : (place : Role) (j : ℕ) → 1 ≤ j → j < 32 → kept_words kept (lock_of kept place + j) ≡ slice_index (words_in kept.buckets place) j
  kept_here place j from low = words_stand site kept.site kept.hash kept.segment kept.buckets place l j from low

  pub kept_at : (place : Role) (j : ℕ) → 1 ≤ j → j < 32 → kept_words kept (at place + j) ≡ slice_index (words_in kept.buckets place) j
  kept_at place j from low = subst (λ z. kept_words kept (z + j) ≡ slice_index (words_in kept.buckets place) j) (at_is place) (kept_here place j from low)

  -- a word of one bucket is none of another
  pub apart : (place other : Role) (j n : ℕ) → place ≢ other → j < 32 → n < 32 → at place + j ≡ lock_of kept other + n → ⊥
  apart place other j n differ lj ln e =
      let same : bucket_of_role kept.hash place ≡ bucket_of_role kept.hash other =
      one_bucket (head_at site.shape kept.segment) (bucket_of_role kept.hash place) (bucket_of_role kept.hash other) j n lj ln (e ∙ ap (λ z. z + n) (at_is other)) in
      locks_apart site kept.site kept.hash kept.segment l place other differ (at_is place ∙ ap (λ b. bucket_at site.shape kept.segment b) same ∙ sym (at_is other))

  -- ---- a record is prepared in the bucket of a place
  module _ (other : Role) (written : Record) (slot : written.slot < record_slots) (word : Words) where
    pub recorded_beside : (place : Role) (j : ℕ) → place ≢ other → j < 32 → with_record (lock_of kept other) written word (at place + j) ≡ word (at place + j)
    recorded_beside place j differ low =
        let near = place_near written.slot in
        replaced_other (with_value (lock_of kept other) written word) (fingers_at (lock_of kept other) written) written.fingers (at place + j)
        (apart place other j (finger_place written.slot) differ low (let n = near.1 in omega (arith, n)))
        ∙ replaced_other (with_key (lock_of kept other) written word) (value_at (lock_of kept other) written) written.value (at place + j)
        (λ e. apart place other j (5 + 2 * written.slot) differ low (omega (arith, slot)) (e ∙ value_place (lock_of kept other) written.slot))
        ∙ replaced_other word (key_at (lock_of kept other) written) written.key (at place + j)
        (λ e. apart place other j (4 + 2 * written.slot) differ low (omega (arith, slot)) (e ∙ key_place (lock_of kept other) written.slot))

  -- ---- and counts
  module _ (other : Role) (written : Record) (one : written.published ≡ 1) (word : Words) where
    pub marked_beside : (place : Role) (j : ℕ) → place ≢ other → j < 32 → with_mark (lock_of kept other) written word (at place + j) ≡ word (at place + j)
    marked_beside place j differ low = replaced_other word (published_at (lock_of kept other) written) written.mark (at place + j)
        (λ e. apart place other j 1 differ low (omega arith) (e ∙ ap (λ n. lock_of kept other + n) one))
