-- Where the segment in slot 0 alone is live, and is normal and of depth 0, it owns every hash.
use Rattle.std.proofs.Common.{◌≡◌, ℕ, ◌*◌, ◌-◌, ◌^◌, ◌<◌, ◌≤◌, sym, ap, subst, ◌∙◌, arith, inl}
use Rattle.std.proofs.Math.Nat.{div-eq_of_lt}
use Rattle.hash_word.specs.Hash.{top}
use Rattle.segment_head.specs.HeadWord.{normal}
use Rattle.sound_image.specs.Segments.{Frame, state_at, depth_at, pattern_at, IsLive, IsLiveFor, Owns, HasReadySide, LeadsToOwner, arrived, on}
use Rattle.sound_image.specs.Directory.{HasOwners, SharesWell, EntryLeads}

-- slot 0 alone is live, and covers every hash
pub record IsOneLive (frame : Frame) : Type 0 where
  pub some : 0 < frame.segments
  pub is_normal : state_at frame 0 ≡ normal
  pub no_depth : depth_at frame 0 ≡ 0
  pub no_pattern : pattern_at frame 0 ≡ 0
  pub alone : (s : ℕ) → s < frame.segments → IsLive frame s → s ≡ 0
  pub root : frame.root ≡ 0

module _ (frame : Frame) (f : IsOneLive frame) where
  live_for : (h : ℕ) → h < 2 ^ 64 → IsLiveFor frame h 0
  live_for h fits =
      record {
        slot = f.some;
        live = inl f.is_normal;
        covers = ap (λ d. top d h) f.no_depth ∙ div-eq_of_lt fits ∙ sym f.no_pattern;
      }

  pub owns_each : (h : ℕ) → h < 2 ^ 64 → Owns frame 0 h
  owns_each h fits =
      record {
        own = live_for h fits;
        deepest = λ t o. subst (λ s. depth_at frame s ≤ depth_at frame 0) (sym (f.alone t o.slot o.live)) (omega arith);
      }

  not_splitting : HasReadySide frame 0 → ⊥
  not_splitting side = absurd (omega (arith, side.1.splits, f.is_normal))

  pub has_owners : (i : ℕ) → HasOwners frame i
  has_owners i h fits at = (0, live_for h fits)

  first_shares : SharesWell frame 0
  first_shares =
      record {
        not_deep = omega (arith, f.no_depth);
        alone = λ t below. absurd (omega (arith, below));
        part = record { owns_or_splits_off = λ h fits covers. inl (owns_each h fits); gave_away = λ side. absurd (not_splitting side) };
      }

  pub shares_well : (s : ℕ) → s < frame.segments → IsLive frame s → SharesWell frame s
  shares_well s h live = subst (λ s. SharesWell frame s) (sym (f.alone s h live)) first_shares

  -- AN ENTRY leads to the owner exactly where it is 0
  pub leads_to_first : (h s : ℕ) → LeadsToOwner frame h s → s ≡ 0
  leads_to_first h s (arrived o) = f.alone s o.own.slot o.own.live
  leads_to_first h s (on l ready side rest) = f.alone s l.slot l.live

  first_place : (i : ℕ) → i < 2 ^ frame.root → i ≡ 0
  first_place i h = let below : i < 2 ^ 0 = subst (λ g. i < 2 ^ g) f.root h in omega (arith, below)

  pub entry_leads : frame.entry 0 ≡ 0 → (i : ℕ) → i < 2 ^ frame.root → EntryLeads frame i
  entry_leads zero i h =
      subst (λ i. EntryLeads frame i) (sym (first_place i h))
      (subst (λ s. LeadsToOwner frame (0 * 2 ^ (64 - frame.root)) s) (sym zero)
      (arrived (owns_each (0 * 2 ^ (64 - frame.root)) (omega arith))))
