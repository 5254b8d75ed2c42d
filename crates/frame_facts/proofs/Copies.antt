-- What is copied slot by slot has the records, each where it is looked for.
use Rattle.std.proofs.Common.{◌≡◌, ℕ, ◌<◌, Some, sym, subst, ◌∙◌}
use Rattle.trace.specs.Events.{Words}
use Rattle.image_layout.specs.Places.{Shape}
use Rattle.image_layout.specs.Standing.{StandsAt}
use Rattle.bucket_words.specs.Segments.{frame_of, InOneSide}
use Rattle.bucket_words.specs.Records.{key_hash}
use Rattle.bucket_words.specs.Pairs.{Holds, IsCopied}
use Rattle.bucket_words.specs.Owners.{owner_of}
use Rattle.bucket_words.specs.Hits.{Hit}
use Rattle.bucket_words.specs.Standing.{IsTable}
use Rattle.frame_facts.specs.Copies.{HasCopies, IsSlotCopy}
use Rattle.frame_facts.proofs.Records.{holds_of, hit_of}

module _ (shape : Shape) (word : Words) (table : IsTable shape word) (s n : ℕ) (slot_s : s < shape.segments) (slot_n : n < shape.segments)
    (owned : (h : ℕ) → InOneSide (frame_of shape word) s h → owner_of shape word h ≡ Some s) (copy : IsSlotCopy shape word s n) where
  -- a record of the side stands in the same place of s
  hit_back : (b r k : ℕ) → Hit shape word n b r k → Hit shape word s b r k
  hit_back b r k hit = record {
    segment = slot_s;
    bucket = hit.bucket;
    slot = hit.slot;
    taken = ((copy.taken b r hit.bucket hit.slot).0 hit.taken).taken;
    key = sym (copy.same b r hit.bucket hit.slot hit.taken).key ∙ hit.key;
  }

  -- and one of s whose hash is in the 1-side stands in the same place of the side
  hit_there : (b r k : ℕ) → InOneSide (frame_of shape word) s (key_hash shape k) → Hit shape word s b r k → Hit shape word n b r k
  hit_there b r k inside hit =
      let taken = (copy.taken b r hit.bucket hit.slot).1
      (record { taken = hit.taken; inside = subst (λ l. InOneSide (frame_of shape word) s (key_hash shape l)) (sym hit.key) inside }) in
      record {
        segment = slot_n;
        bucket = hit.bucket;
        slot = hit.slot;
        taken = taken;
        key = (copy.same b r hit.bucket hit.slot taken).key ∙ hit.key;
      }

  records : IsCopied shape word s n
  records k v inside = (
    λ holds.
        let hit = hit_there holds.b holds.r k inside (hit_of shape word s k v holds) in
        subst (Holds shape word n k) ((copy.same holds.b holds.r hit.bucket hit.slot hit.taken).value ∙ holds.value_is) (holds_of shape word n holds.b holds.r k hit),
    λ holds.
        let hit = hit_of shape word n k v holds in
        subst (Holds shape word s k) (sym (copy.same holds.b holds.r hit.bucket hit.slot hit.taken).value ∙ holds.value_is)
        (holds_of shape word s holds.b holds.r k (hit_back holds.b holds.r k hit)),
  )

  pub slot_copies : HasCopies shape word s n
  slot_copies = record {
    records = records;
    right = λ b r k hit inside.
        let same = copy.same b r hit.bucket hit.slot hit.taken in
        let right = table.stands s b r k (hit_back b r k hit) (owned (key_hash shape k) inside) in
        record {
          bucket = subst (λ (z : ℕ). StandsAt shape b k z) (sym same.membership) right.bucket;
          fingerprint = same.fingerprint ∙ right.fingerprint;
        };
  }
