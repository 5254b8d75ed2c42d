-- No segment lives in a slot: so no owner, no record of an owner and no fact looks at its words, but its header and its link.
use Rattle.std.proofs.Common.{◌≡◌, ◌≢◌, ℕ, ◌+◌, ◌*◌, ◌<◌, ◌≤◌, inl, inr, Some, refl, sym, ap, subst, ◌∙◌, arith}
use Rattle.image_layout.specs.Bucket.{record_slots}
use Rattle.trace.specs.Events.{Words, with_word}
use Rattle.trace.proofs.Replaced.{replaced_other}
use Rattle.image_layout.specs.Places.{Shape, first_segment, root_word, head_at, bucket_at, buckets}
use Rattle.image_layout.specs.Standing.{StandsAt}
use Rattle.image_layout.proofs.Areas.{entry_before}
use Rattle.bucket_words.specs.Segments.{frame_of, IsLive}
use Rattle.bucket_words.specs.Records.{key_hash}
use Rattle.bucket_words.proofs.frames.Owner.{found_owns, same_owner}
use Rattle.bucket_words.specs.Stores.{IsFrameWord}
use Rattle.bucket_words.specs.Buckets.{value_in}
use Rattle.bucket_words.specs.Slots.{SameSlot}
use Rattle.bucket_words.specs.Owners.{SameOwners, owner_of}
use Rattle.bucket_words.specs.Hits.{Hit}
use Rattle.bucket_words.specs.Standing.{IsTable}
use Rattle.bucket_words.specs.TableChanges.{KeepsTable}
use Rattle.bucket_words.proofs.Slots.{same_words}
use Rattle.bucket_words.proofs.segments.Finding.{find_alike_any}
use Rattle.frame_facts.specs.Keeping.{IsEntry}
use Rattle.frame_facts.specs.DeadSlots.{IsInSlot, IsPlainInSlot}

-- WHERE the words of a slot lie
one_slot : (f n t w i : ℕ) → f + 2144 * n ≤ i → i < f + 2144 * n + 2144 → w < 2144 → i ≡ f + 2144 * t + w → t ≡ n
one_slot f n t w i from to inside e = omega arith

module _ (shape : Shape) (n i : ℕ) (plain : IsPlainInSlot shape n i) where
  header_is : (t w : ℕ) → w < 2144 → i ≡ head_at shape t + w → t ≡ n
  header_is t w inside e = one_slot (first_segment shape) n t w i plain.inside.from plain.inside.to inside e

  pub plain_apart : (word : Words) → word root_word ≤ shape.depth → IsFrameWord shape word i → ⊥
  plain_apart word low (inl is) = omega (arith, is, plain.inside.from)
  plain_apart word low (inr (inl is)) = omega (arith, is, plain.inside.from)
  plain_apart word low (inr (inr (inl (t, slot, inl is)))) = plain.no_header (is ∙ ap (λ u. head_at shape u + 1) (header_is t 1 (omega arith) is))
  plain_apart word low (inr (inr (inl (t, slot, inr is)))) = plain.no_link (is ∙ ap (λ u. head_at shape u + 2) (header_is t 2 (omega arith) is))
  plain_apart word low (inr (inr (inr (j, below, is)))) = omega (arith, is, plain.inside.from, entry_before shape (word root_word) j low below)

  pub plain_no_entry : (word : Words) → word root_word ≤ shape.depth → IsEntry word i → ⊥
  plain_no_entry word low is = omega (arith, is.4, plain.inside.from, entry_before shape is.0 is.1 (omega (arith, is.2, low)) is.3)

-- A STORE to any word of the slot but the header word
module _ (shape : Shape) (word : Words) (n i x : ℕ) (inside : IsInSlot shape n i) (no_header : i ≢ head_at shape n + 1) where
  abbrev other : Words
  other = with_word word i x

  pub owners_same : SameOwners shape word other
  owners_same h = same_owner (frame_of shape word) (frame_of shape other) h refl (λ s slot. replaced_other word i x (head_at shape s + 1) (λ e. apart s (sym e)))
    where
      apart : (s : ℕ) → i ≡ head_at shape s + 1 → ⊥
      apart s e = no_header (e ∙ ap (λ u. head_at shape u + 1) (one_slot (first_segment shape) n s 1 i inside.from inside.to (omega arith) e))

  module _ (dead : IsLive (frame_of shape word) n → ⊥) (table : IsTable shape word) where
    -- what owns a hash lives, so it is another slot
    not_here : (h q : ℕ) → owner_of shape word h ≡ Some q → q ≢ n
    not_here h q own same = dead (subst (IsLive (frame_of shape word)) same (found_owns (frame_of shape word) h q own).own.live)

    same_slots : (q c t : ℕ) → q ≢ n → c < buckets → t < record_slots → SameSlot word other (bucket_at shape q c) t
    same_slots q c t apart bucket place =
        same_words word other (bucket_at shape q c) (λ m near. replaced_other word i x (bucket_at shape q c + m) (λ e. apart (here m near e))) t place
      where
        here : (m : ℕ) → m < 32 → bucket_at shape q c + m ≡ i → q ≡ n
        here m near e = one_slot (first_segment shape) n q (32 + 32 * c + m) i inside.from inside.to (omega (arith, bucket, near)) (omega (arith, e))

    hit_there : (q c t l : ℕ) → q ≢ n → Hit shape word q c t l → Hit shape other q c t l
    hit_there q c t l apart h = let o = same_slots q c t apart h.bucket h.slot in
        record { segment = h.segment; bucket = h.bucket; slot = h.slot; taken = o.taken ∙ h.taken; key = o.key h.taken ∙ h.key }

    hit_back : (q c t l : ℕ) → q ≢ n → Hit shape other q c t l → Hit shape word q c t l
    hit_back q c t l apart h =
        let o = same_slots q c t apart h.bucket h.slot in
        let taken = sym o.taken ∙ h.taken in
        record { segment = h.segment; bucket = h.bucket; slot = h.slot; taken = taken; key = sym (o.key taken) ∙ h.key }

    same_value : (q c t l : ℕ) → q ≢ n → Hit shape word q c t l → value_in other (bucket_at shape q c) t ≡ value_in word (bucket_at shape q c) t
    same_value q c t l apart h = (same_slots q c t apart h.bucket h.slot).value h.taken

    was_own : (k q : ℕ) → owner_of shape other (key_hash shape k) ≡ Some q → owner_of shape word (key_hash shape k) ≡ Some q
    was_own k q own = sym (owners_same (key_hash shape k)) ∙ own

    table_stays : IsTable shape other
    table_stays = record {
      stands = λ q c t l h own.
          let apart = not_here (key_hash shape l) q (was_own l q own) in
          let w = hit_back q c t l apart h in
          let o = same_slots q c t apart h.bucket h.slot in
          let right = table.stands q c t l w (was_own l q own) in
          record {
            bucket = subst (λ (z : ℕ). StandsAt shape c l z) (sym (o.membership w.taken)) right.bucket;
            fingerprint = o.fingerprint w.taken ∙ right.fingerprint;
          };
      one_value = λ q c t d u l h g own.
          let apart = not_here (key_hash shape l) q (was_own l q own) in
          let a = hit_back q c t l apart h in
          let b = hit_back q d u l apart g in
          same_value q c t l apart a ∙ table.one_value q c t d u l a b (was_own l q own) ∙ sym (same_value q d u l apart b);
    }

    pub dead_store : KeepsTable shape word other
    dead_store = record {
      table = table_stays;
      pairs = λ k. find_alike_any shape word other table table_stays k (owners_same (key_hash shape k))
          (λ q c t own h. let apart = not_here (key_hash shape k) q own in (c, t, hit_there q c t k apart h, same_value q c t k apart h))
          (λ q c t own h. (c, t, hit_back q c t k (not_here (key_hash shape k) q own) h));
    }
