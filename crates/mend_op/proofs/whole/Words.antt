-- The words of the segment, as one function of all words, and by the words of its buckets.
use Rattle.std.proofs.Common.{◌≡◌, ℕ, ◌+◌, ◌*◌, ◌-◌, ◌<◌, List, slice_index, refl, sym, ap, ◌∙◌, arith}
use Rattle.std.specs.Prelude.{◌==◌, if◌then◌else◌}
use Rattle.std.proofs.lemmas.Bool.{eq-eqb, ne_eqb}
use Rattle.trace.specs.Events.{Words}
use Rattle.bucket_meta.specs.Bucket.{allocated}
use Rattle.image_layout.specs.Places.{Shape, head_at, bucket_at, block}
use Rattle.bucket_words.specs.Buckets.{key_in}
use Rattle.bucket_words.specs.Hits.{Hit}
use Rattle.frame_facts.specs.DeadSlots.{IsInSlot}
use Rattle.whole_segment.specs.Records.{Stands}
use Rattle.world.specs.areas.Areas.{header_word, link_word}
use Rattle.mend_op.specs.Words.{first_of, key_of}

module _ (shape : Shape) (s : ℕ) where
  abbrev bucket : ℕ → ℕ
  bucket b = bucket_at shape s b

  -- the word of a number of the buckets, and of a bucket
  pub number_is : (b n : ℕ) → bucket b + n ≡ bucket 0 + (block * b + n)
  number_is b n = by (head_at shape s) b n
    where
      by : (f b n : ℕ) → f + 32 + 32 * b + n ≡ f + 32 + 32 * 0 + (32 * b + n)
      by f b n = omega arith

  -- header and buckets are apart
  pub no_header : (i : ℕ) → bucket 0 + i ≡ header_word shape s → ⊥
  no_header i same = by (head_at shape s) i same
    where
      by : (f i : ℕ) → f + 32 + 32 * 0 + i ≡ f + 1 → ⊥
      by f i same = omega (arith, same)

  -- all lie in the slot
  pub in_slot : (i : ℕ) → i < 2112 → IsInSlot shape s (bucket 0 + i)
  in_slot i low = record { from = omega arith; to = by (head_at shape s) i low }
    where
      by : (f i : ℕ) → i < 2112 → f + 32 + 32 * 0 + i < f + 2144
      by f i low = omega (arith, low)

  pub head_in_slot : IsInSlot shape s (header_word shape s)
  head_in_slot = record { from = omega arith; to = by (head_at shape s) }
    where
      by : (f : ℕ) → f + 1 < f + 2144
      by f = omega arith

  pub link_in_slot : IsInSlot shape s (link_word shape s)
  link_in_slot = record { from = omega arith; to = by (head_at shape s) }
    where
      by : (f : ℕ) → f + 2 < f + 2144
      by f = omega arith

  -- ---- ALL WORDS
  module _ (words : List ℕ) (head : ℕ) where
    abbrev pub mend_words : Words
    mend_words i = if i == header_word shape s then head else slice_index words (i - bucket 0)

    pub header_here : mend_words (header_word shape s) ≡ head
    header_here = ap (λ t. if t then head else slice_index words (header_word shape s - bucket 0)) (eq-eqb (header_word shape s) (header_word shape s) refl)

    pub place_here : (i : ℕ) → mend_words (bucket 0 + i) ≡ slice_index words i
    place_here i =
        ap (λ t. if t then head else slice_index words (bucket 0 + i - bucket 0)) (ne_eqb (bucket 0 + i) (header_word shape s) (no_header i))
        ∙ ap (slice_index words) (by (bucket 0) i)
      where
        by : (f i : ℕ) → f + i - f ≡ i
        by f i = omega arith

    pub bucket_here : (b n : ℕ) → mend_words (bucket b + n) ≡ slice_index words (block * b + n)
    bucket_here b n = ap mend_words (number_is b n) ∙ place_here (block * b + n)

    -- ---- its records
    pub key_here : (b r : ℕ) → key_in mend_words (bucket b) r ≡ key_of words b r
    key_here b r = ap mend_words (by (bucket b) r) ∙ bucket_here b (4 + 2 * r)
      where
        by : (i r : ℕ) → i + 4 + 2 * r ≡ i + (4 + 2 * r)
        by i r = omega arith

    pub hit_stands : (b r k : ℕ) → Hit shape mend_words s b r k → Stands (first_of words) (key_of words) b r k
    hit_stands b r k hit = record {
      bucket = hit.bucket;
      slot = hit.slot;
      taken = ap (allocated r) (sym (bucket_here b 1)) ∙ hit.taken;
      has_key = sym (key_here b r) ∙ hit.key;
    }

    pub stands_hit : s < shape.segments → (b r k : ℕ) → Stands (first_of words) (key_of words) b r k → Hit shape mend_words s b r k
    stands_hit within b r k stands = record {
      segment = within;
      bucket = stands.bucket;
      slot = stands.slot;
      taken = ap (allocated r) (bucket_here b 1) ∙ stands.taken;
      key = key_here b r ∙ stands.has_key;
    }
