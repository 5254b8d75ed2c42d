-- What an image that is left has in common with the words that callers shared.
use Rattle.std.proofs.Common.{◌≡◌, ◌≢◌, ℕ, ◌+◌, ◌*◌, ◌<◌, List, sym, ap, ◌∙◌, arith}
use Rattle.std.specs.Prelude.{slice_index}
use Rattle.trace.specs.Events.{Words}
use Rattle.segment_head.specs.HeadWord.{state_in, free}
use Rattle.bucket_meta.specs.Bucket.{lock_version}
use Rattle.image_layout.specs.Places.{Shape, bucket_at, buckets, state_word, words_of}
use Rattle.sound_image.specs.Segments.{frame_of, state_at}
use Rattle.segment_table.proofs.stores.Moved.{live_same}
use Rattle.session.specs.Session.{HasSpentBucket}
use Rattle.shared_image.proofs.Beginning.{is_restart}
use Rattle.vlock.specs.Refused.{HasNoFreeSlot}
use Rattle.world.specs.Ground.{Ground, HasSpentLock}
use Rattle.world.specs.areas.Areas.{header_word}
use Rattle.serve.specs.Served.{WasPoweredOn}

lock_within : (first s b n : ℕ) → s < n → b < buckets → first + 2144 * s + 32 + 32 * b < first + 2144 * n
lock_within first s b n q h = omega (arith, q, h)

module _ (site : Ground) (first last : List ℕ) (on : WasPoweredOn site first) (words : Words)
    (same : (i : ℕ) → i < words_of site.shape → i ≢ state_word → slice_index last i ≡ words i) where
  abbrev shape : Shape
  shape = site.shape

  same_head : (s : ℕ) → s < shape.segments → slice_index last (header_word shape s) ≡ words (header_word shape s)
  same_head s slot = same (header_word shape s) (omega (arith, slot)) (λ e. omega (arith, e))

  same_lock : (s b : ℕ) → s < shape.segments → b < buckets → slice_index last (bucket_at shape s b) ≡ words (bucket_at shape s b)
  same_lock s b slot near = same (bucket_at shape s b) (lock_within _ s b shape.segments slot near) (λ e. omega (arith, e))

  -- a slot that was free in the image is so at the start
  free_still : (s : ℕ) → s < shape.segments → state_in (slice_index first (header_word shape s)) ≡ free → state_in (site.front (header_word shape s)) ≡ free
  free_still s slot was =
      ap (λ (ws : Words). state_in (ws (header_word shape s))) on.restarted ∙ ((is_restart shape first 0 on.image (omega arith)).left.heads s slot).state ∙ was

  -- so where no slot is free any more that was free at the start, none is in the image that is left
  pub none_free : HasNoFreeSlot site words → (s : ℕ) → s < shape.segments → state_at (frame_of shape (slice_index first)) s ≡ free → state_at (frame_of shape (slice_index last)) s ≢ free
  none_free none s slot was now = none s slot (free_still s slot was) (sym (ap state_in (same_head s slot)) ∙ now)

  -- and a lock word that has the last version has it there
  pub spent_bucket : HasSpentLock shape words → HasSpentBucket shape last
  spent_bucket (lock, ((s, b, slot, near, at, lives), is_last)) = record {
    s = s;
    b = b;
    slot = slot;
    bucket = near;
    live = live_same (frame_of shape words) (frame_of shape (slice_index last)) s (same_head s slot) lives.live;
    spent = ap lock_version (same_lock s b slot near ∙ ap words (sym at) ∙ is_last);
  }
