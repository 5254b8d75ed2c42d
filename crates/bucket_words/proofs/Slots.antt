-- A bucket whose words another image has alike has its slots alike too.
use Rattle.std.proofs.Common.{◌≡◌, ℕ, ◌+◌, ◌*◌, ◌<◌, ap, sym, ◌∙◌, arith}
use Rattle.bucket_meta.specs.Bucket.{allocated, member, finger}
use Rattle.trace.specs.Events.{Words}
use Rattle.bucket_words.specs.Slots.{SameSlots}

module _ (word other : Words) (at : ℕ) where
  -- a bucket of the same words
  pub same_words : ((n : ℕ) → n < 32 → other (at + n) ≡ word (at + n)) → SameSlots word other at
  same_words same t slot = record {
    taken = ap (allocated t) (same 1 (omega arith));
    membership = λ _. ap (member t) (same 1 (omega arith));
    key = λ _. at_number (4 + 2 * t) (at + 4 + 2 * t) (omega arith) (omega arith);
    value = λ _. at_number (5 + 2 * t) (at + 5 + 2 * t) (omega arith) (omega arith);
    fingerprint = λ _. ap (λ w. finger t w (other (at + 3))) (same 2 (omega arith)) ∙ ap (finger t (word (at + 2))) (same 3 (omega arith));
  }
    where
      at_number : (n i : ℕ) → n < 32 → at + n ≡ i → other i ≡ word i
      at_number n i inside e = sym (ap other e) ∙ same n inside ∙ ap word e
