-- No slot is another, and each hash has the owner that it had: so a table stays one, and each key has what it had.
use Rattle.std.proofs.Common.{◌≡◌, ℕ, ◌<◌, sym, subst, ◌∙◌}
use Rattle.bucket_meta.specs.Bucket.{record_slots}
use Rattle.trace.specs.Events.{Words}
use Rattle.image_layout.specs.Places.{Shape, bucket_at, buckets}
use Rattle.image_layout.specs.Standing.{StandsAt}
use Rattle.segment_table.specs.Records.{key_hash}
use Rattle.bucket_words.specs.Buckets.{value_in}
use Rattle.bucket_words.specs.Slots.{SameSlot}
use Rattle.bucket_words.specs.Owners.{SameOwners}
use Rattle.bucket_words.specs.Hits.{Hit}
use Rattle.bucket_words.specs.Standing.{IsTable}
use Rattle.bucket_words.specs.TableChanges.{KeepsTable}
use Rattle.bucket_words.proofs.segments.Finding.{find_alike_any}

module _ (shape : Shape) (word other : Words) (table : IsTable shape word) (owners : SameOwners shape word other)
    (same : (q c t : ℕ) → q < shape.segments → c < buckets → t < record_slots → SameSlot word other (bucket_at shape q c) t) where
  pub same_there : (q c t l : ℕ) → Hit shape word q c t l → Hit shape other q c t l
  same_there q c t l h = let o = same q c t h.segment h.bucket h.slot in record { segment = h.segment; bucket = h.bucket; slot = h.slot; taken = o.taken ∙ h.taken; key = o.key h.taken ∙ h.key }

  pub same_back : (q c t l : ℕ) → Hit shape other q c t l → Hit shape word q c t l
  same_back q c t l h = let o = same q c t h.segment h.bucket h.slot in let taken = sym o.taken ∙ h.taken in
      record { segment = h.segment; bucket = h.bucket; slot = h.slot; taken = taken; key = sym (o.key taken) ∙ h.key }

  same_value : (q c t l : ℕ) → Hit shape word q c t l → value_in other (bucket_at shape q c) t ≡ value_in word (bucket_at shape q c) t
  same_value q c t l h = (same q c t h.segment h.bucket h.slot).value h.taken

  kept_table : IsTable shape other
  kept_table = record {
    stands = λ q c t l h own.
        let w = same_back q c t l h in
        let o = same q c t h.segment h.bucket h.slot in
        let p = table.stands q c t l w (sym (owners (key_hash shape l)) ∙ own) in
        record {
          bucket = subst (λ (z : ℕ). StandsAt shape c l z) (sym (o.membership w.taken)) p.bucket;
          fingerprint = o.fingerprint w.taken ∙ p.fingerprint;
        };
    one_value = λ q c t d u l h g own.
        let x = same_back q c t l h in
        let y = same_back q d u l g in
        same_value q c t l x ∙ table.one_value q c t d u l x y (sym (owners (key_hash shape l)) ∙ own) ∙ sym (same_value q d u l y);
  }

  pub keeps : KeepsTable shape word other
  keeps = record {
    table = kept_table;
    pairs = λ l. find_alike_any shape word other table kept_table l (owners (key_hash shape l))
        (λ q c t own h. (c, t, same_there q c t l h, same_value q c t l h)) (λ q c t own h. (c, t, same_back q c t l h));
  }
