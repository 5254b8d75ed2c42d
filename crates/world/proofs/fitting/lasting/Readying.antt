-- A guarded segment has a ready side in whatever a cut may leave, or in nothing of it.
use Rattle.std.proofs.Common.{◌≡◌, ℕ, ◌+◌, ◌*◌, ◌-◌, ◌^◌, ◌<◌, ◌≤◌, inl, inr, List, refl, sym, ap, ◌∙◌, subst, arith}
use Rattle.trace.specs.Events.{Words}
use Rattle.sound_image.specs.Segments.{Frame, frame_of, depth_at, pattern_at, IsReadySide, HasReadySide}
use Rattle.frame_facts.proofs.frames.Regions.{odd_power}
use Rattle.frame_facts.proofs.frames.SoundFrames.{apart}
use Rattle.frame_facts.proofs.Media.{ready_now, ready_there}
use Rattle.frame_facts.specs.Facts.{IsLiveSlot}
use Rattle.world.specs.Ground.{Ground}
use Rattle.world.specs.Views.{View, Has}
use Rattle.world.specs.Media.{IsPossible}
use Rattle.world.specs.areas.Areas.{Segment, Side}
use Rattle.world.proofs.basics.Seats.{is_v}
use Rattle.world.specs.areas.Ready.{IsGuardedFirm, SidesAreReadyEverywhere, SidesAreReadyNowhere}

module _ (site : Ground) (words : Words) (views : List View) (c : ℕ) (v : View) (s : ℕ) (g : IsGuardedFirm site words views c v s) where
  abbrev U : Frame
  U = frame_of site.shape words

  most : site.shape.depth ≤ 16
  most = g.grounds.site_is.shape.depth

  slot : s < site.shape.segments
  slot = (g.fits.segment c v s g.at g.guarded words (λ i within. inl refl)).slot

  -- a side of s that another has not settled would be under the guard of s
  side_lives : (n : ℕ) → (Has (Side n) v.areas → ⊥) → IsReadySide U s n → (m : Words) → IsPossible site words views m → IsLiveSlot (frame_of site.shape m) n
  side_lives n none r = elim (g.lasting.living n (record { slot = r.slot; live = r.live })) [
    | inl lives ↦ lives
    | inr a ↦ absurd (
        let f = (g.fits.side a.0 a.1 n a.2 a.3).0 in
        let p = f.parent in
        let z : 2 * pattern_at U p + 1 ≡ (2 * pattern_at U s + 1) * 2 ^ (depth_at U n - depth_at U s - 1) = sym f.pattern ∙ r.zeros in
        let k = odd_power (2 * pattern_at U s + 1) (pattern_at U p) (depth_at U n - depth_at U s - 1) z in
        let same_depth : depth_at U p ≡ depth_at U s = omega (arith, k, f.depth, r.deeper) in
        let same_odd : 2 * pattern_at U p + 1 ≡ (2 * pattern_at U s + 1) * 1 = z ∙ ap (λ y. (2 * pattern_at U s + 1) * 2 ^ y) k in
        let same_pattern : pattern_at U p ≡ pattern_at U s = omega (arith, same_odd) in
        let e : p ≡ s = apart site.shape.depth most U g.grounds.sound p s f.parent_slot (inr f.splits) slot (inr r.splits) same_depth same_pattern in
        let d : a.0 ≡ c = g.fits.one_segment a.0 c a.1 v s a.2 g.at (subst (λ y. Has (Segment y) a.1.areas) e f.guarded) g.guarded in
        none (subst (λ (u : View). Has (Side n) u.areas) (is_v views c v v g.at a.0 a.1 a.2 d) a.3))
  ]

  pub everywhere : (n : ℕ) → (Has (Side n) v.areas → ⊥) → IsReadySide U s n → (m : Words) → IsPossible site words views m → IsReadySide (frame_of site.shape m) s n
  everywhere n none r m p = ready_there site.shape.depth most (frame_of site.shape m) U (g.sound m p) g.grounds.sound (g.lasting.steady m p) s slot (sym (g.head m p)) n (sym (g.link m p))
      (side_lives n none r m p).live r

  pub nowhere : (HasReadySide U s → ⊥) → (m : Words) → IsPossible site words views m → HasReadySide (frame_of site.shape m) s → ⊥
  nowhere none m p r = none (
    r.0,
    ready_now site.shape.depth most (frame_of site.shape m) U (g.sound m p) g.grounds.sound (g.lasting.steady m p) s slot (sym (g.head m p)) r.0
        (sym (g.link m p)) r.1,
  )

pub ready_everywhere : SidesAreReadyEverywhere
ready_everywhere site words views c v s n g = everywhere site words views c v s g n

pub ready_nowhere : SidesAreReadyNowhere
ready_nowhere site words views c v s g = nowhere site words views c v s g
