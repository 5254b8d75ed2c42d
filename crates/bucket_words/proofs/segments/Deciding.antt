-- What a key has depends on the buckets where it may stand.
use Rattle.std.proofs.Common.{◌≡◌, ℕ, ◌+◌, ◌-◌, ◌<◌, ◌≤◌, Some, subst, sym, arith, inl, inr, ◌⊎◌}
use Rattle.hash_word.specs.Hash.{home_of, probing_of}
use Rattle.trace.specs.Events.{Words}
use Rattle.image_layout.specs.Places.{Shape, homes, stash_buckets, buckets}
use Rattle.image_layout.specs.Standing.{StandsAt}
use Rattle.segment_table.specs.Records.{key_hash}
use Rattle.bucket_words.specs.Core.{SameCoresIn}
use Rattle.bucket_words.specs.Owners.{owner_of}
use Rattle.bucket_words.specs.Hits.{HasNoneIn, find}
use Rattle.bucket_words.specs.Standing.{IsTable}
use Rattle.bucket_words.proofs.segments.Places.{owner_within}
use Rattle.bucket_words.proofs.segments.Finding.{find_alike}
use Rattle.bucket_words.proofs.segments.Cores.{slots_of_cores, hit_of_cores}

-- a stash bucket by its number among them
stash_number : (b : ℕ) → b < buckets → homes ≤ b → (c : ℕ) × (c < stash_buckets) × (b ≡ homes + c)
stash_number b near above = (b - 64, omega (arith, near, above), omega (arith, above))

module _ (shape : Shape) (word other : Words) (table : IsTable shape word) (other_table : IsTable shape other) (s k : ℕ)
    (own : owner_of shape word (key_hash shape k) ≡ Some s) (other_own : owner_of shape other (key_hash shape k) ≡ Some s)
    (home : SameCoresIn shape word other s (home_of (key_hash shape k)))
    (probing : SameCoresIn shape word other s (probing_of (home_of (key_hash shape k))))
    (stash : (c : ℕ) → c < stash_buckets
    → SameCoresIn shape word other s (homes + c) ⊎ (HasNoneIn shape word s (homes + c) k × HasNoneIn shape other s (homes + c) k)) where
  -- a bucket where the key may stand has the same cores, or the key stands there in neither
  abbrev AtPlace : ℕ → Type 0
  AtPlace b = SameCoresIn shape word other s b ⊎ (HasNoneIn shape word s b k × HasNoneIn shape other s b k)

  at_place : (b bit : ℕ) → b < buckets → StandsAt shape b k bit → AtPlace b
  at_place b bit near stands = elim stands [
    | inl a ↦ inl (subst (SameCoresIn shape word other s) (sym a.0) home)
    | inr e ↦ elim e [
      | inl a ↦ inl (subst (SameCoresIn shape word other s) (sym a.0) probing)
      | inr a ↦ (let c = stash_number b near a in subst AtPlace (sym c.2) (stash c.0 c.1))
    ]
  ]

  pub find_places : find shape other k ≡ find shape word k
  find_places = find_alike shape word other table other_table k s (owner_within shape word (key_hash shape k) s own) own other_own
      (λ b r h. elim (at_place b _ h.bucket (table.stands s b r k h own).bucket) [
        | inl same ↦ (b, r, hit_of_cores shape word other s b h.segment h.bucket same r k h, (slots_of_cores shape word other s b h.segment h.bucket same r h.slot).value h.taken)
        | inr none ↦ absurd (none.0 r h)
      ])
      (λ b r h. elim (at_place b _ h.bucket (other_table.stands s b r k h other_own).bucket) [
        | inl same ↦ (b, r, hit_of_cores shape other word s b h.segment h.bucket (λ n above inside. sym (same n above inside)) r k h)
        | inr none ↦ absurd (none.1 r h)
      ])
