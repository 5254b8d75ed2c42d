-- A live segment has a depth and a pattern that fit, and owns what it covers and does not give away.
use Rattle.std.proofs.Common.{◌≡◌, ℕ, ◌+◌, ◌*◌, ◌^◌, ◌<◌, ◌≤◌, ◌⊎◌, ◌∙◌, refl, sym, ap, subst, arith, inl, inr}
use Rattle.segment_head.specs.HeadWord.{free}
use Rattle.image_layout.specs.Places.{Shape, head_at}
use Rattle.sound_image.specs.Segments.{ImageWords, Frame, frame_of, state_at, depth_at, pattern_at, IsLive, CoversHash, InOneSide, IsReadySide, HasReadySide, Owns}
use Rattle.sound_image.specs.Directory.{HeadInRange, SharesWell}
use Rattle.hash_word.specs.Hash.{Covers}
use Rattle.segment_head.specs.declared.prefix.Prefix.{Prefix}
use Rattle.image_rules.specs.Divided.{IsNumbered, IsDivided, IsPrefixOf, IsGivenAway}

not_free : (frame : Frame) (s : ℕ) → IsLive frame s → state_at frame s ≡ free → ⊥
not_free frame s (inl is) none = absurd (omega (arith, is, none))
not_free frame s (inr is) none = absurd (omega (arith, is, none))

module _ (shape : Shape) (word : ImageWords) (i : IsNumbered shape word) where
  head_there : (s : ℕ) → s < shape.segments → HeadInRange (frame_of shape word) shape.depth s
  head_there s slot = (i.numbers_fit (head_at shape s + 1)).head s slot refl

  pub live_depth : (s : ℕ) → s < shape.segments → IsLive (frame_of shape word) s → depth_at (frame_of shape word) s ≤ shape.depth
  live_depth s slot live = (head_there s slot).depth_fits (not_free (frame_of shape word) s live)

  pub live_pattern : (s : ℕ) → s < shape.segments → IsLive (frame_of shape word) s
      → pattern_at (frame_of shape word) s < 2 ^ depth_at (frame_of shape word) s
  live_pattern s slot live = (head_there s slot).pattern_fits (not_free (frame_of shape word) s live)

module _ (shape : Shape) (word : ImageWords) (i : IsDivided shape word) where
  abbrev frame : Frame
  frame = frame_of shape word

  pub shares : (s : ℕ) → s < shape.segments → IsLive frame s → SharesWell frame s
  shares s slot live = (i.hashes_owned (head_at shape s + 1)).head s slot refl live

  pub kept-Owns : (s h : ℕ) → s < shape.segments → h < 2 ^ 64 → IsLive frame s → CoversHash frame s h → (IsGivenAway frame s h → ⊥) → Owns frame s h
  kept-Owns s h slot fits live covers kept = from ((shares s slot live).part.owns_or_splits_off h fits covers)
    where
      from : Owns frame s h ⊎ (HasReadySide frame s × InOneSide frame s h) → Owns frame s h
      from (inl owns) = owns
      from (inr gives) = absurd (kept (record { ready = gives.0; in_side = gives.1 }))

  pub Owns-kept : (s h : ℕ) → s < shape.segments → h < 2 ^ 64 → IsLive frame s → Owns frame s h → IsGivenAway frame s h → ⊥
  Owns-kept s h slot fits live owns gives = (shares s slot live).part.gave_away gives.ready h fits gives.in_side owns

-- A READY SIDE is deeper than the segment, and no deeper than the image allows
pub side_depth : (shape : Shape) (word : ImageWords) (i : IsNumbered shape word) (s n : ℕ) → IsReadySide (frame_of shape word) s n
    → depth_at (frame_of shape word) s + 1 ≤ shape.depth
side_depth shape word i s n ready = omega (arith, ready.deeper, live_depth shape word i n ready.slot ready.live)

-- A PREFIX covers what its segment covers
module _ (frame : Frame) (s : ℕ) (prefix : Prefix) (is : IsPrefixOf frame s prefix) (h : ℕ) where
  pub prefix-covers : Covers prefix.depth prefix.pattern h → CoversHash frame s h
  prefix-covers covers = subst (λ (d : ℕ). Covers d (pattern_at frame s) h) is.depth (covers ∙ is.pattern)

  pub covers-prefix : CoversHash frame s h → Covers prefix.depth prefix.pattern h
  covers-prefix covers = subst (λ (d : ℕ). Covers d prefix.pattern h) (sym is.depth) (covers ∙ sym is.pattern)

  pub prefix-side : Covers (prefix.depth + 1) (2 * prefix.pattern + 1) h → InOneSide frame s h
  prefix-side covers =
      subst (λ (d : ℕ). Covers (d + 1) (2 * pattern_at frame s + 1) h) is.depth (covers ∙ ap (λ (p : ℕ). 2 * p + 1) is.pattern)

  pub side-prefix : InOneSide frame s h → Covers (prefix.depth + 1) (2 * prefix.pattern + 1) h
  side-prefix side =
      subst (λ (d : ℕ). Covers (d + 1) (2 * prefix.pattern + 1) h) (sym is.depth) (side ∙ ap (λ (p : ℕ). 2 * p + 1) (sym is.pattern))
