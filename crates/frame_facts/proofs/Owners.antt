-- Which hashes have an owner, and what a store does to that.
use Rattle.std.proofs.Common.{◌≡◌, ℕ, ◌+◌, ◌*◌, ◌-◌, ◌^◌, ◌<◌, ◌≤◌, inl, inr, Option, None, Some, refl, sym, ap, ◌∙◌, arith}
use Rattle.std.proofs.lemmas.Bool.{cases_lt}
use Rattle.std.proofs.lemmas.Nat.{pow_pos, pow-add, le-div}
use Rattle.hash_word.specs.Hash.{top}
use Rattle.trace.specs.Events.{Words, with_word}
use Rattle.image_layout.specs.Places.{Shape, IsShape}
use Rattle.bucket_words.specs.Segments.{Frame, frame_of, depth_at, pattern_at, IsLive, InOneSide}
use Rattle.bucket_words.specs.Claims.{IsSoundFrame, HasSoundFrame}
use Rattle.bucket_words.specs.Owner.{owner}
use Rattle.bucket_words.specs.Stores.{Keeps, HandsOver, StoreKeeps}
use Rattle.bucket_words.proofs.frames.Regions.{doubled_fits}
use Rattle.bucket_words.proofs.frames.SoundFrames.{live_low, live_pattern}
use Rattle.bucket_words.proofs.frames.Owner.{found_owns}
use Rattle.bucket_words.proofs.Claimers.{kept_owner, handed_owner, unhanded_owner}
use Rattle.bucket_words.specs.Owners.{SameOwners}

-- what has the top bits of a pattern has 64 bits
pub region_fits : (d p h : ℕ) → d ≤ 64 → p < 2 ^ d → top d h ≡ p → h < 2 ^ 64
region_fits d p h most small is = elim (cases_lt h (2 ^ 64)) [
  | inl below ↦ below
  | inr above ↦
      let parts : 64 ≡ d + (64 - d) = omega (arith, most) in
      let whole : 2 ^ 64 ≡ 2 ^ d * 2 ^ (64 - d) = ap (λ n. 2 ^ n) parts ∙ pow-add 2 d (64 - d) in
      absurd (omega (arith, is, small, le-div (2 ^ d) h (2 ^ (64 - d)) (pow_pos (64 - d)) (omega (arith, whole, above))))
]

module _ (greatest : ℕ) (most : greatest ≤ 16) (frame : Frame) (sound : IsSoundFrame greatest frame) where
  -- a hash of a 1-side has 64 bits
  pub side_fits : (s h : ℕ) → s < frame.segments → IsLive frame s → InOneSide frame s h → h < 2 ^ 64
  side_fits s h slot live inside =
      region_fits (depth_at frame s + 1) (2 * pattern_at frame s + 1) h (omega (arith, live_low greatest most frame sound s slot live))
      (doubled_fits (depth_at frame s) (pattern_at frame s) (live_pattern greatest most frame sound s slot live)) inside

  -- what has an owner has 64 bits
  pub owned_fits : (s h : ℕ) → owner frame h ≡ Some s → h < 2 ^ 64
  owned_fits s h own =
      let is = (found_owns frame h s own).own in
      region_fits (depth_at frame s) (pattern_at frame s) h (omega (arith, live_low greatest most frame sound s is.slot is.live))
      (live_pattern greatest most frame sound s is.slot is.live) is.covers

  pub beyond : (h : ℕ) → 2 ^ 64 ≤ h → owner frame h ≡ None
  beyond h above = go (owner frame h) refl
    where
      go : (o : Option ℕ) → owner frame h ≡ o → owner frame h ≡ None
      go None none = none
      go (Some s) own = absurd (omega (arith, above, owned_fits s h own))

module _ (greatest : ℕ) (most : greatest ≤ 16) (before after : Frame) (sound : IsSoundFrame greatest before) where
  pub owner_stays : Keeps greatest before after → (h : ℕ) → owner after h ≡ owner before h
  owner_stays keeps h = elim (cases_lt h (2 ^ 64)) [
    | inl below ↦ kept_owner greatest most before after sound keeps h below
    | inr above ↦ beyond greatest most after keeps.goes_on.sound h above ∙ sym (beyond greatest most before sound h above)
  ]

  pub owner_moves : (s n : ℕ) → s < before.segments → IsLive before s → HandsOver greatest before after s n → (h : ℕ) → InOneSide before s h
      → (owner before h ≡ Some s) × (owner after h ≡ Some n)
  owner_moves s n slot live hands h inside = handed_owner greatest most before after sound s n hands h (side_fits greatest most before sound s h slot live inside) inside

  pub owner_spared : (s n : ℕ) → HandsOver greatest before after s n → (h : ℕ) → (InOneSide before s h → ⊥) → owner after h ≡ owner before h
  owner_spared s n hands h outside = elim (cases_lt h (2 ^ 64)) [
    | inl below ↦ unhanded_owner greatest most before after sound s n hands h below outside
    | inr above ↦ beyond greatest most after hands.goes_on.sound h above ∙ sym (beyond greatest most before sound h above)
  ]

-- over words
pub owners_stay : (shape : Shape) (word : Words) → IsShape shape → HasSoundFrame shape word → (i x : ℕ) → StoreKeeps shape word i x → SameOwners shape word (with_word word i x)
owners_stay shape word is_shape sound i x keeps h =
    owner_stays shape.depth is_shape.depth (frame_of shape word) (frame_of shape (with_word word i x)) sound keeps h
