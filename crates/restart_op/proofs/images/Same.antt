-- Words of an image that differ in versions alone have the same records, notes and pairs.
use Rattle.std.proofs.Common.{◌≡◌, ℕ, ◌+◌, ◌<◌, sym, ap, ◌∙◌, arith}
use Rattle.bucket_meta.specs.Bucket.{lock_bit, overflow_count, record_slots}
use Rattle.hash_word.specs.Hash.{probing_of}
use Rattle.trace.specs.Events.{Words}
use Rattle.image_layout.specs.Places.{Shape, IsShape, first_segment, bucket_at, block, homes, buckets}
use Rattle.sound_image.specs.Records.{key_hash}
use Rattle.segment_table.specs.Claims.{HasSoundFrame}
use Rattle.bucket_words.specs.Slots.{SameSlot}
use Rattle.bucket_words.specs.Hits.{Hit}
use Rattle.bucket_words.specs.HomeNotes.{SameHomeNotes}
use Rattle.bucket_words.specs.Standing.{IsTable}
use Rattle.bucket_words.specs.TableChanges.{KeepsTable}
use Rattle.bucket_words.proofs.Slots.{same_words}
use Rattle.bucket_words.proofs.segments.Cores.{within_image}
use Rattle.bucket_words.proofs.segments.Noted.{notes_same, exact_same}
use Rattle.bucket_words.proofs.segments.Stashed.{stashed_same}
use Rattle.bucket_words.proofs.segments.changes.NoSlot.{keeps}
use Rattle.restart_op.specs.AtRest.{IsCurrent, IsAtRest, HasOwnRecords}
use Rattle.restart_op.proofs.images.Frames.{IsReversioned, owners}
use Rattle.world.proofs.moving.beginning.Restarting.{no_head}

module _ (shape : Shape) (word other : Words) (is : IsShape shape) (sound : HasSoundFrame shape word) (of : IsReversioned shape word other) where
  in_bucket : (s b n : ℕ) → s < shape.segments → b < buckets → n < block → other (bucket_at shape s b + n) ≡ word (bucket_at shape s b + n)
  in_bucket s b n slot near inside =
      of.same (bucket_at shape s b + n) (within_image shape s b n slot near inside) (λ e. omega (arith, e)) (λ t _ e. no_head (first_segment shape) s b n t near inside e)

  slots : (s b t : ℕ) → s < shape.segments → b < buckets → t < record_slots → SameSlot word other (bucket_at shape s b) t
  slots s b t slot near below = same_words word other (bucket_at shape s b) (λ n inside. in_bucket s b n slot near inside) t below

  pub kept : IsTable shape word → KeepsTable shape word other
  kept table = keeps shape word other table (owners shape word other is sound of) slots

  hit_back : (s b r k : ℕ) → Hit shape other s b r k → Hit shape word s b r k
  hit_back s b r k h =
      let same = slots s b r h.segment h.bucket h.slot in
      let taken = sym same.taken ∙ h.taken in
      record { segment = h.segment; bucket = h.bucket; slot = h.slot; taken = taken; key = sym (same.key taken) ∙ h.key }

  same_notes : (s b : ℕ) → s < shape.segments → b < homes → SameHomeNotes shape word other s b
  same_notes s b slot near = record {
    notes = notes_same shape word other s b (λ n above below. in_bucket s b n slot (omega (arith, near)) (omega (arith, below)))
        (λ n above below. in_bucket s (probing_of b) n slot (omega arith) (omega (arith, below)));
    count = ap overflow_count (in_bucket s b 1 slot (omega (arith, near)) (omega arith));
    stashed = stashed_same shape word other s b (λ c t small below. slots s (homes + c) t slot (omega (arith, small)) below);
  }

  pub same_rest : (s : ℕ) → s < shape.segments → IsAtRest shape word s → IsAtRest shape other s
  same_rest s slot rest = record {
    free = λ b near. ap lock_bit (first b near) ∙ rest.free b near;
    once = λ b r c t k h g. rest.once b r c t k (hit_back s b r k h) (hit_back s c t k g);
    exact = λ b near. exact_same shape word other s b (same_notes s b slot near) (rest.exact b near);
  }
    where
      first : (b : ℕ) → b < buckets → other (bucket_at shape s b) ≡ word (bucket_at shape s b)
      first b near = of.same (bucket_at shape s b) (omega (arith, slot, near)) (λ e. omega (arith, e)) (λ t _ e. no_head (first_segment shape) s b 0 t near (omega arith) (omega (arith, e)))

  -- where each current segment was so before
  pub same_own : ((s : ℕ) → IsCurrent shape other s → IsCurrent shape word s) → HasOwnRecords shape word → HasOwnRecords shape other
  same_own back own s b r k current h = owners shape word other is sound of (key_hash shape k) ∙ own s b r k (back s current) (hit_back s b r k h)
