-- Where the words of an enclosed segment stand: its guard, its header, its lock words, and the words that are kept.
use Rattle.std.proofs.Common.{◌≡◌, ℕ, ◌+◌, ◌-◌, ◌*◌, ◌%◌, ◌<◌, slice_index, sym, ap, ◌∙◌, subst, arith}
use Rattle.std.specs.Prelude.{if◌then◌else◌}
use Rattle.std.proofs.lemmas.Bool.{eq-eqb, ne_eqb, lt-ltb}
use Rattle.image_layout.specs.Places.{Shape, root_word, first_segment, head_at, bucket_at, buckets, block}
use Rattle.image_layout.specs.Volatile.{segment_guard}
use Rattle.way.specs.Ways.{head_word, bucket_word}
use Rattle.world.specs.DeadSlots.{IsInSlot}
use Rattle.world.specs.Ground.{Ground, IsLockWord}
use Rattle.world.specs.Views.{View}
use Rattle.world.specs.Conditions.{IsKnownLock}
use Rattle.world.specs.areas.Areas.{header_word}
use Rattle.phase.specs.Stands.{IsThere}
use Rattle.phase.specs.Giving.{IsLocated}
use Rattle.enclose_op.specs.declared.enclosed.Enclosed.{Enclosed}
use Rattle.enclose_op.specs.Whole.{kept_word, kept_words}
use Rattle.enclose_op.specs.Giving.{guard_of, lock_of, free_value}

-- a number of a bucket stays as it is
pub near_is : (b : ℕ) → b < buckets → b % buckets ≡ b
near_is b near = omega (arith, near)

pub free_is : (e : Enclosed) (b : ℕ) → b < buckets → free_value e b ≡ slice_index e.locks b
free_is e b near = ap (slice_index e.locks) (near_is b near)

-- lock words are apart
pub same_bucket : (shape : Shape) (s b c : ℕ) → bucket_at shape s b ≡ bucket_at shape s c → b ≡ c
same_bucket shape s b c e = by (head_at shape s) b c e
  where
    by : (f b c : ℕ) → f + 32 + 32 * b ≡ f + 32 + 32 * c → b ≡ c
    by f b c e = omega (arith, e)

-- a word of a bucket lies in the slot
pub in_slot : (shape : Shape) (s b n : ℕ) → b < buckets → n < block → IsInSlot shape s (bucket_at shape s b + n)
in_slot shape s b n near low = record { from = omega arith; to = by (head_at shape s) b n near low }
  where
    by : (f b n : ℕ) → b < 66 → n < 32 → f + 32 + 32 * b + n < f + 2144
    by f b n near low = omega (arith, near, low)

pub head_in_slot : (shape : Shape) (s : ℕ) → IsInSlot shape s (header_word shape s)
head_in_slot shape s = record { from = omega arith; to = by (head_at shape s) }
  where
    by : (f : ℕ) → f + 1 < f + 2144
    by f = omega arith

-- a guard is no lock word
pub guard_apart : (site : Ground) (s b : ℕ) → s < site.shape.segments → b < buckets → bucket_at site.shape s b ≡ segment_guard site.shape s → ⊥
guard_apart site s b within near same = by (first_segment site.shape) s site.shape.segments b within near same
  where
    by : (f s n b : ℕ) → s < n → b < 66 → f + 2144 * s + 32 + 32 * b ≡ f + 2144 * n + 4 + s → ⊥
    by f s n b within near same = omega (arith, within, near, same)

module _ (site : Ground) (e : Enclosed) (l : IsLocated site e.site e.segment) where
  within_here : e.segment < e.site.geometry.segments
  within_here = subst (λ (g : Shape). e.segment < g.segments) (sym l.shape) l.within

  pub bucket_is : (b : ℕ) → bucket_word e.site.geometry e.segment b ≡ bucket_at site.shape e.segment b
  bucket_is b =
      ap (λ t. if t then bucket_at e.site.geometry e.segment b else root_word) (lt-ltb e.segment e.site.geometry.segments within_here)
      ∙ ap (λ (g : Shape). bucket_at g e.segment b) l.shape

  pub lock_is : (b : ℕ) → b < buckets → lock_of e b ≡ bucket_at site.shape e.segment b
  lock_is b near = bucket_is (b % buckets) ∙ ap (bucket_at site.shape e.segment) (near_is b near)

  pub head_is : head_word e.site.geometry e.segment ≡ header_word site.shape e.segment
  head_is =
      ap (λ t. if t then head_at e.site.geometry e.segment + 1 else root_word) (lt-ltb e.segment e.site.geometry.segments within_here)
      ∙ ap (λ (g : Shape). head_at g e.segment + 1) l.shape

  pub guard_is : guard_of e ≡ segment_guard site.shape e.segment
  guard_is =
      ap (λ t. if t then segment_guard e.site.geometry e.segment else root_word) (lt-ltb e.segment e.site.geometry.segments within_here)
      ∙ ap (λ (g : Shape). segment_guard g e.segment) l.shape

  pub is_lock : (b : ℕ) → b < buckets → IsLockWord site.shape (lock_of e b)
  is_lock b near = (e.segment, b, l.within, near, lock_is b near)

  pub known_lock : (b : ℕ) (v : View) → b < buckets → IsThere site e.segment v.facts → IsKnownLock site v (lock_of e b)
  known_lock b v near there = (e.segment, b, l.within, near, lock_is b near, there.lives, there.current)

  -- ---- the words that are kept
  pub kept_head : kept_words e (header_word site.shape e.segment) ≡ e.head
  kept_head =
      ap (λ t. if t then e.head else slice_index e.buckets (header_word site.shape e.segment - bucket_word e.site.geometry e.segment 0))
      (eq-eqb (header_word site.shape e.segment) (head_word e.site.geometry e.segment) (sym head_is))

  past_head : (f b n : ℕ) → f + 32 + 32 * b + n ≡ f + 1 → ⊥
  past_head f b n e = omega (arith, e)

  number_is : (f b n : ℕ) → f + 32 + 32 * b + n - (f + 32 + 32 * 0) ≡ 32 * b + n
  number_is f b n = omega arith

  pub kept_there : (b n : ℕ) → kept_words e (bucket_at site.shape e.segment b + n) ≡ kept_word e b n
  kept_there b n =
      let i : ℕ = bucket_at site.shape e.segment b + n in
      ap (λ t. if t then e.head else slice_index e.buckets (i - bucket_word e.site.geometry e.segment 0))
      (ne_eqb i (head_word e.site.geometry e.segment) (λ same. past_head (head_at site.shape e.segment) b n (same ∙ head_is)))
      ∙ ap (λ (z : ℕ). slice_index e.buckets (i - z)) (bucket_is 0)
      ∙ ap (slice_index e.buckets) (number_is (head_at site.shape e.segment) b n)
