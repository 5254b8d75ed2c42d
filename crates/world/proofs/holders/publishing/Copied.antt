-- A side that has the records of the 1-side slot by slot has them in all words that have the buckets of the segment and the records of the side.
use Rattle.std.proofs.Common.{◌≡◌, ℕ, ◌+◌, ◌*◌, ◌<◌, arith, ap, sym, subst, ◌∙◌}
use Rattle.hash_word.specs.Hash.{Covers}
use Rattle.bucket_meta.specs.Bucket.{allocated, member, record_slots}
use Rattle.segment_head.specs.HeadWord.{depth_in, pattern_in}
use Rattle.trace.specs.Events.{Words}
use Rattle.image_layout.specs.Places.{Shape, head_at, bucket_at, homes, buckets}
use Rattle.sound_image.specs.Segments.{frame_of, InOneSide}
use Rattle.sound_image.specs.Records.{key_hash, HasExactNotes}
use Rattle.frame_facts.specs.Buckets.{IsTaken, key_in}
use Rattle.frame_facts.specs.Slots.{SameSlot}
use Rattle.frame_facts.specs.Hits.{Hit}
use Rattle.frame_facts.proofs.segments.Noted.{exact_same}
use Rattle.frame_facts.specs.Copies.{HasRecordOf, IsRecordOfOneSide, IsSlotCopy}
use Rattle.world.specs.Ground.{IsUnder}
use Rattle.world.proofs.holding.Known.{meta, same_key, same_value, same_finger, hit_to}
use Rattle.world.proofs.holding.Owing.{same_notes}
use Rattle.world.proofs.holders.publishing.Shown.{HasBuckets, under_same}
use Rattle.world.proofs.holders.publishing.Sides.{HasRecords}

-- ---- one segment
module _ (shape : Shape) (word w : Words) (s : ℕ) (same : HasBuckets shape word w s) where
  -- a record stood there before
  pub hit_before : (b r k : ℕ) → Hit shape w s b r k → Hit shape word s b r k
  hit_before b r k hit = hit_to shape word w s b (under_same shape word w s b hit.bucket same) r k hit

  -- exact notes stay exact
  pub exact_there : (b : ℕ) → s < shape.segments → b < homes → HasExactNotes shape word s b → HasExactNotes shape w s b
  exact_there b slot near exact = exact_same shape word w s b (same_notes shape word w s b slot near same) exact

-- ---- a segment and its side
module _ (shape : Shape) (word : Words) (s n : ℕ) (slot : s < shape.segments) (copy : IsSlotCopy shape word s n) where
  -- a record of the side is one of the segment, in the same place
  pub hit_in_segment : (b r k : ℕ) → Hit shape word n b r k → Hit shape word s b r k
  hit_in_segment b r k hit = record {
    segment = slot;
    bucket = hit.bucket;
    slot = hit.slot;
    taken = ((copy.taken b r hit.bucket hit.slot).0 hit.taken).taken;
    key = sym (copy.same b r hit.bucket hit.slot hit.taken).key ∙ hit.key;
  }

  -- and its hash is in the 1-side
  pub hit_in_side : (b r k : ℕ) → Hit shape word n b r k → InOneSide (frame_of shape word) s (key_hash shape k)
  hit_in_side b r k hit =
      let key = hit_in_segment b r k hit in
      subst (λ l. InOneSide (frame_of shape word) s (key_hash shape l)) key.key ((copy.taken b r hit.bucket hit.slot).0 hit.taken).inside

module _ (shape : Shape) (word w : Words) (s n : ℕ) (head : w (head_at shape s + 1) ≡ word (head_at shape s + 1)) (whole : HasBuckets shape word w s) (side : HasRecords shape word w n) where
  -- the 1-side is the same
  pub inside_there : (h : ℕ) → InOneSide (frame_of shape word) s h → InOneSide (frame_of shape w) s h
  inside_there h inside = subst (λ z. Covers (depth_in z + 1) (2 * pattern_in z + 1) h) (sym head) inside

  inside_back : (h : ℕ) → InOneSide (frame_of shape w) s h → InOneSide (frame_of shape word) s h
  inside_back h inside = subst (λ z. Covers (depth_in z + 1) (2 * pattern_in z + 1) h) head inside

  module _ (b r : ℕ) (near : b < buckets) (small : r < record_slots) where
    of_whole : (i : ℕ) → IsUnder (bucket_at shape s b) i → w i ≡ word i
    of_whole = under_same shape word w s b near whole

    of_side : SameSlot word w (bucket_at shape n b) r
    of_side = side.slots b r near small

    whole_meta : w (bucket_at shape s b + 1) ≡ word (bucket_at shape s b + 1)
    whole_meta = meta shape word w s b of_whole

    side_meta : w (bucket_at shape n b + 1) ≡ word (bucket_at shape n b + 1)
    side_meta = side.meta b 1 near (omega arith) (omega arith)

    whole_key : key_in w (bucket_at shape s b) r ≡ key_in word (bucket_at shape s b) r
    whole_key = same_key shape word w s b of_whole r small

    record_there : IsTaken word (bucket_at shape n b) r → HasRecordOf shape word (bucket_at shape n b) (bucket_at shape s b) r → HasRecordOf shape w (bucket_at shape n b) (bucket_at shape s b) r
    record_there t o = record {
      key = of_side.key t ∙ o.key ∙ sym whole_key;
      value = of_side.value t ∙ o.value ∙ sym (same_value shape word w s b of_whole r small);
      membership = ap (member r) side_meta ∙ o.membership ∙ sym (ap (member r) whole_meta);
      fingerprint = of_side.fingerprint t ∙ o.fingerprint ∙ sym (same_finger shape word w s b of_whole r);
    }

    taken_there : IsRecordOfOneSide shape word s b r → IsRecordOfOneSide shape w s b r
    taken_there o = record {
      taken = ap (allocated r) whole_meta ∙ o.taken;
      inside = subst (λ k. InOneSide (frame_of shape w) s (key_hash shape k)) (sym whole_key) (inside_there (key_hash shape (key_in word (bucket_at shape s b) r)) o.inside);
    }

    taken_back : IsRecordOfOneSide shape w s b r → IsRecordOfOneSide shape word s b r
    taken_back o = record {
      taken = sym (ap (allocated r) whole_meta) ∙ o.taken;
      inside = inside_back (key_hash shape (key_in word (bucket_at shape s b) r)) (subst (λ k. InOneSide (frame_of shape w) s (key_hash shape k)) whole_key o.inside);
    }

  pub copy_there : IsSlotCopy shape word s n → IsSlotCopy shape w s n
  copy_there copy = record {
    taken = λ b r near small. (
      (λ t. taken_there b r near small ((copy.taken b r near small).0 (sym (ap (allocated r) (side_meta b r near small)) ∙ t))),
      (λ o. ap (allocated r) (side_meta b r near small) ∙ (copy.taken b r near small).1 (taken_back b r near small o)),
    );
    same = λ b r near small t.
        let before : IsTaken word (bucket_at shape n b) r = sym (ap (allocated r) (side_meta b r near small)) ∙ t in
        record_there b r near small before (copy.same b r near small before);
  }
