-- The header of a slot that is not live is stored, and is not live then.
use Rattle.std.proofs.Common.{◌≡◌, ◌≢◌, ℕ, ◌<◌, ◌≤◌, ◌⊎◌, inl, inr, sym, ap, subst, arith}
use Rattle.segment_head.specs.HeadWord.{version_in, state_in, depth_in, pattern_in, free, normal, splitting, fresh}
use Rattle.sound_image.specs.Segments.{Frame, image_version, IsLive}
use Rattle.segment_table.specs.Claims.{IsSoundFrame}
use Rattle.segment_table.specs.Stores.{Keeps, TakesSlot, FreesSlot}
use Rattle.segment_table.proofs.stores.Moved.{HeaderStored, HeadFits, numbers, numbers_stored, live_same, ready_kept}
use Rattle.segment_table.proofs.stores.Alike.{alike_keeps}
use Rattle.segment_table.proofs.stores.SameRegion.{same_entries}

module _ (greatest : ℕ) (most : greatest ≤ 16) (before after : Frame) (n x : ℕ) (sound : IsSoundFrame greatest before) (stored : HeaderStored before after n x) where
  module _ (dead : IsLive before n → ⊥) (stays_dead : IsLive after n → ⊥) (fits : HeadFits greatest x) (past : version_in x ≤ image_version before)
      (link : state_in x ≢ free → before.link n ≤ before.segments) where
    lives_apart : (s : ℕ) → IsLive before s → s ≢ n
    lives_apart s live e = dead (subst (IsLive before) e live)

    lives_apart_after : (s : ℕ) → IsLive after s → s ≢ n
    lives_apart_after s live e = stays_dead (subst (IsLive after) e live)

    pub dead_keeps : Keeps greatest before after
    dead_keeps = alike_keeps greatest before after sound (record {
      segments = stored.segments;
      there = λ s slot live. live_same before after s (stored.others s slot (lives_apart s live)) live;
      back = λ s slot live. live_same after before s (sym (stored.others s slot (lives_apart_after s live))) live;
      depth = λ s slot live. ap depth_in (stored.others s slot (lives_apart s live));
      pattern = λ s slot live. ap pattern_in (stored.others s slot (lives_apart s live));
      ready = λ s m slot side.
          ready_kept before after s m stored.segments (stored.links s slot) (stored.others s slot (lives_apart s (inr side.splits)))
          (stored.others m side.slot (lives_apart m side.live)) side;
      unready = λ s m slot side.
          let slot_m = subst (λ k. m < k) stored.segments side.slot in
          ready_kept after before s m (sym stored.segments) (sym (stored.links s slot)) (sym (stored.others s slot (lives_apart_after s (inr side.splits))))
          (sym (stored.others m slot_m (lives_apart_after m side.live))) side;
      entries = same_entries greatest most before after sound stored.root stored.entries;
      root = omega (arith, stored.root);
      numbers = numbers_stored greatest before after n x (numbers greatest before sound) stored fits past link;
    })

  dead_state : (w : ℕ) → (state_in w ≡ free) ⊎ (state_in w ≡ fresh) → (state_in w ≡ normal) ⊎ (state_in w ≡ splitting) → ⊥
  dead_state w (inl a) (inl b) = omega (arith, a, b)
  dead_state w (inl a) (inr b) = omega (arith, a, b)
  dead_state w (inr a) (inl b) = omega (arith, a, b)
  dead_state w (inr a) (inr b) = omega (arith, a, b)

  dead_after : (state_in x ≡ free) ⊎ (state_in x ≡ fresh) → IsLive after n → ⊥
  dead_after state live = dead_state x state (subst (λ h1. (state_in h1 ≡ normal) ⊎ (state_in h1 ≡ splitting)) stored.here live)

  -- FREE TO NEW
  pub takes_keeps : TakesSlot before greatest n x → Keeps greatest before after
  takes_keeps may =
      dead_keeps (dead_state (before.header n) (inl may.was)) (dead_after (inr may.becomes))
      (record { known = omega (arith, may.becomes); depth = λ is. may.depth; pattern = λ is. may.pattern }) may.past (λ is. omega (arith, may.unlinked))

  -- NEW TO FREE
  pub frees_keeps : FreesSlot before n x → Keeps greatest before after
  frees_keeps may =
      dead_keeps (dead_state (before.header n) (inr may.was)) (dead_after (inl may.becomes))
      (record { known = omega (arith, may.becomes); depth = λ is. absurd (is may.becomes); pattern = λ is. absurd (is may.becomes) }) may.past
      (λ is. absurd (is may.becomes))
