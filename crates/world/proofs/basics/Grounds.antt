-- Where lock words stand, what lies under them, and that they have no core.
use Rattle.std.proofs.Common.{◌≡◌, ℕ, ◌+◌, ◌*◌, ◌-◌, ◌/◌, ◌%◌, ◌^◌, ◌<◌, ◌≤◌, ap, ◌∙◌, arith}
use Rattle.hash_word.specs.Hash.{home_of}
use Rattle.image_layout.specs.Places.{Shape, first_segment, bucket_at, words_of, homes}
use Rattle.sound_image.specs.Records.{key_hash}
use Rattle.frame_facts.specs.Core.{core_of}
use Rattle.frame_facts.proofs.segments.Cores.{core_in}
use Rattle.world.specs.Ground.{IsLockWord, IsUnder}

-- a home is one of the buckets before the stash
pub home_near : (shape : Shape) (k : ℕ) → home_of (key_hash shape k) < homes
home_near shape k = let h = key_hash shape k in let r : h / 2 ^ 8 % 64 < 64 = omega arith in r

one_start : (f s q b c lock other i : ℕ) → b < 66 → c < 66 → lock ≡ f + 2144 * s + 32 + 32 * b → other ≡ f + 2144 * q + 32 + 32 * c
    → lock < i → i < lock + 32 → other < i → i < other + 32 → lock ≡ other
one_start f s q b c lock other i nb nc e g u0 u1 v0 v1 = omega arith

no_start : (f s q b c lock other : ℕ) → b < 66 → c < 66 → lock ≡ f + 2144 * s + 32 + 32 * b → other ≡ f + 2144 * q + 32 + 32 * c → lock < other → other < lock + 32 → ⊥
no_start f s q b c lock other nb nc e g u0 u1 = omega arith

module _ (shape : Shape) where
  -- two locks over one word are one
  pub one_lock : (lock other i : ℕ) → IsLockWord shape lock → IsLockWord shape other → IsUnder lock i → IsUnder other i → lock ≡ other
  one_lock lock other i (s, b, seg, near, is) (q, c, seg', near', is') (u0, u1) (v0, v1) = one_start (first_segment shape) s q b c lock other i near near' is is' u0 u1 v0 v1

  -- no lock word lies under a lock
  pub lock_apart : (lock other : ℕ) → IsLockWord shape lock → IsLockWord shape other → IsUnder lock other → ⊥
  lock_apart lock other (s, b, seg, near, is) (q, c, seg', near', is') (u0, u1) = no_start (first_segment shape) s q b c lock other near near' is is' u0 u1

  -- a bucket lies within the image
  pub lock_within : (lock : ℕ) → IsLockWord shape lock → lock + 32 ≤ words_of shape
  lock_within lock (s, b, seg, near, is) = omega (arith, is, near, seg)

  pub under_within : (lock i : ℕ) → IsLockWord shape lock → IsUnder lock i → i < words_of shape
  under_within lock i l u = let w = lock_within lock l in let h = u.1 in omega (arith, w, h)

  -- a lock word has no core
  pub lock_core : (lock x : ℕ) → IsLockWord shape lock → core_of shape lock x ≡ 0
  lock_core lock x (s, b, seg, near, is) =
      let there : lock ≡ bucket_at shape s b + 0 = omega (arith, is) in
      ap (λ z. core_of shape z x) there ∙ core_in shape s b 0 x seg near (omega arith)

  -- a word under a lock is one of its bucket
  pub under_lock : (s b i : ℕ) → IsUnder (bucket_at shape s b) i → (n : ℕ) × (1 ≤ n) × (n < 32) × (i ≡ bucket_at shape s b + n)
  under_lock s b i (above, below) = (i - bucket_at shape s b, omega (arith, above), omega (arith, below), omega (arith, above))
