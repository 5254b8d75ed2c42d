-- Claims tell whether a segment has a ready side, and a store that keeps them keeps owners.
use Rattle.std.proofs.Common.{◌≡◌, ℕ, ◌+◌, ◌*◌, ◌^◌, ◌<◌, ◌≤◌, inl, inr, Some, sym, subst, ◌∙◌, ◌↔◌, arith}
use Rattle.sound_image.specs.Segments.{Frame, depth_at, pattern_at, IsLive, IsLiveFor, InOneSide, HasReadySide}
use Rattle.segment_table.specs.Claims.{Claims, ClaimsNoOneSide, ClaimsOneSide, IsSoundFrame}
use Rattle.segment_table.specs.Owner.{owner}
use Rattle.segment_table.specs.Stores.{Keeps, HandsOver}
use Rattle.segment_table.proofs.frames.Regions.{top_of_first, first_fits, doubled_fits}
use Rattle.segment_table.proofs.frames.Deciding.{claims_or_gave}
use Rattle.segment_table.proofs.frames.SoundFrames.{live_low, live_pattern, side_covered}
use Rattle.segment_table.proofs.frames.Owner.{claimer_found}
use Rattle.segment_table.proofs.Media.{middle}

module _ (greatest : ℕ) (most : greatest ≤ 16) (frame : Frame) (sound : IsSoundFrame greatest frame) (s : ℕ) (slot : s < frame.segments) (live : IsLive frame s) where
  middle_inside : InOneSide frame s (middle frame s)
  middle_inside = top_of_first (depth_at frame s + 1) (2 * pattern_at frame s + 1)

  middle_fits : middle frame s < 2 ^ 64
  middle_fits =
      first_fits (depth_at frame s + 1) (2 * pattern_at frame s + 1) (omega (arith, live_low greatest most frame sound s slot live))
      (doubled_fits (depth_at frame s) (pattern_at frame s) (live_pattern greatest most frame sound s slot live))

  covers : (h : ℕ) → InOneSide frame s h → IsLiveFor frame h s
  covers h inside = record { slot = slot; live = live; covers = side_covered greatest most frame sound s h slot live inside }

  pub ready_claims_none : HasReadySide frame s ↔ ClaimsNoOneSide frame s
  ready_claims_none = (
    λ side h fits inside claims. claims.kept side inside,
    λ none. elim (claims_or_gave frame s (middle frame s) (covers (middle frame s) middle_inside)) [
      | inl claims ↦ absurd (none (middle frame s) middle_fits middle_inside claims)
      | inr gave ↦ gave.0
    ],
  )

  pub unready_claims_all : (HasReadySide frame s → ⊥) ↔ ClaimsOneSide frame s
  unready_claims_all = (
    λ none h fits inside. elim (claims_or_gave frame s h (covers h inside)) [ inl claims ↦ claims | inr gave ↦ absurd (none gave.0) ],
    λ all side. (all (middle frame s) middle_fits middle_inside).kept side middle_inside,
  )

-- A STORE THAT KEEPS CLAIMS
module _ (greatest : ℕ) (most : greatest ≤ 16) (before after : Frame) (sound : IsSoundFrame greatest before) where
  pub kept_back : Keeps greatest before after → (s h : ℕ) → h < 2 ^ 64 → Claims after s h → Claims before s h
  kept_back keeps s h fits claims =
      let c = sound.some h fits in
      subst (λ t. Claims before t h) (keeps.goes_on.sound.one h c.0 s fits (keeps.claims c.0 h fits c.1) claims) c.1

  pub kept_owner : Keeps greatest before after → (h : ℕ) → h < 2 ^ 64 → owner after h ≡ owner before h
  kept_owner keeps h fits =
      let c = sound.some h fits in
      claimer_found greatest after most keeps.goes_on.sound c.0 h fits (keeps.claims c.0 h fits c.1) ∙ sym (claimer_found greatest before most sound c.0 h fits c.1)

  -- and one that hands a side over
  pub handed_owner : (s n : ℕ) → HandsOver greatest before after s n → (h : ℕ) → h < 2 ^ 64 → InOneSide before s h
      → (owner before h ≡ Some s) × (owner after h ≡ Some n)
  handed_owner s n hands h fits inside =
      let given = hands.given h fits inside in
      (claimer_found greatest before most sound s h fits given.0, claimer_found greatest after most hands.goes_on.sound n h fits given.1)

  pub unhanded_owner : (s n : ℕ) → HandsOver greatest before after s n → (h : ℕ) → h < 2 ^ 64 → (InOneSide before s h → ⊥) → owner after h ≡ owner before h
  unhanded_owner s n hands h fits outside =
      let c = sound.some h fits in
      claimer_found greatest after most hands.goes_on.sound c.0 h fits (hands.claims c.0 h fits c.1 (λ is. outside))
      ∙ sym (claimer_found greatest before most sound c.0 h fits c.1)
