-- The entries of a 1-side by their numbers, and which segments are deeper than a stale one: those that begin behind it.
use Rattle.std.proofs.Common.{◌≡◌, ℕ, suc, ◌+◌, ◌*◌, ◌-◌, ◌/◌, ◌^◌, ◌<◌, ◌≤◌, inl, inr, sym, ap, subst, ◌∙◌, arith, add-one}
use Rattle.std.proofs.lemmas.Bool.{cases_lt}
use Rattle.std.proofs.lemmas.Nat.{pow_pos}
use Rattle.hash_word.specs.Hash.{index_of}
use Rattle.sound_image.specs.Segments.{Frame, depth_at, pattern_at, IsLive, CoversHash, IsLiveFor, InOneSide}
use Rattle.frame_facts.specs.Claims.{IsSoundFrame, IsSideEntry}
use Rattle.frame_facts.specs.Media.{first_hash}
use Rattle.frame_facts.proofs.frames.Regions.{fewer, first, top_of_first, top_below, first_least, zero_side_begins}
use Rattle.frame_facts.proofs.frames.SideEntries.{side_entry}
use Rattle.frame_facts.proofs.frames.SoundFrames.{first_covered, nested, side_covered}
use Rattle.world.specs.areas.Repairing.{IsEntryOfSide}

module _ (frame : Frame) (s : ℕ) (small : frame.root ≤ 64) where
  abbrev d : ℕ
  d = depth_at frame s

  abbrev below_side : ℕ
  below_side = frame.root - suc d

  whole : d < frame.root → suc d + below_side ≡ frame.root
  whole less = omega (arith, less)

  -- the top bits of a hash, by its entry
  top_is : d < frame.root → (h : ℕ) → index_of (suc d) h ≡ index_of frame.root h / 2 ^ below_side
  top_is less h = fewer (suc d) below_side h (omega (arith, whole less, small)) ∙ ap (λ (z : ℕ). index_of z h / 2 ^ below_side) (whole less)

  one_more : (h : ℕ) → index_of (d + 1) h ≡ index_of (suc d) h
  one_more h = ap (λ (z : ℕ). index_of z h) (add-one d)

  -- an entry of the 1-side stands in its row
  pub stands_in_row : (i : ℕ) → IsEntryOfSide frame.root d (pattern_at frame s) i → IsSideEntry frame s i
  stands_in_row i entry =
      let h = first frame.root i in
      let at : index_of frame.root h ≡ i = top_of_first frame.root i in
      let inside : InOneSide frame s h = one_more h ∙ top_is entry.deep h ∙ ap (λ (z : ℕ). z / 2 ^ below_side) at ∙ entry.inside in
      subst (IsSideEntry frame s) at ((side_entry frame s h entry.deep small).0 inside)

  -- and so does that of each hash of it
  pub entry_of : d < frame.root → (h : ℕ) → h < 2 ^ 64 → InOneSide frame s h → IsEntryOfSide frame.root d (pattern_at frame s) (index_of frame.root h)
  entry_of less h fits inside = record { deep = less; index = top_below frame.root h small fits; inside = sym (top_is less h) ∙ sym (one_more h) ∙ inside }

-- THE 1-SIDE OF A REGION begins behind its first hash
pub side_later : (d p : ℕ) → d < 64 → first d p < first (suc d) (2 * p + 1)
side_later d p low =
    let half : first (suc d) (2 * p) ≡ first d p = ap (λ (k : ℕ). first k (2 * p)) (sym (add-one d)) ∙ zero_side_begins d p low in
    subst (λ (z : ℕ). z < first (suc d) (2 * p + 1)) half (next (2 * p) (2 ^ (64 - suc d)) (pow_pos (64 - suc d)))
  where
    next_times : (q m : ℕ) → (q + 1) * m ≡ q * m + m
    next_times q m = grind arith

    next : (q m : ℕ) → 0 < m → q * m < (q + 1) * m
    next q m some = omega (arith, some, next_times q m)

-- A SEGMENT THAT BEGINS BEHIND the first hash of another, and covers a hash of its 1-side, is deeper
pub behind_deeper : (greatest : ℕ) → greatest ≤ 16 → (frame : Frame) → IsSoundFrame greatest frame → (s t h : ℕ) → s < frame.segments → IsLive frame s → InOneSide frame s h
    → IsLiveFor frame h t → first_hash frame s < first_hash frame t → depth_at frame s < depth_at frame t
behind_deeper greatest most frame sound s t h slot live inside other behind = elim (cases_lt (depth_at frame s) (depth_at frame t)) [
  | inl deeper ↦ deeper
  | inr up ↦
      let covered : CoversHash frame s h = side_covered greatest most frame sound s h slot live inside in
      let first : CoversHash frame t (first_hash frame s) = nested greatest most frame sound t s h (first_hash frame s) slot live up other.covers covered (first_covered frame s) in
      absurd (omega (arith, behind, first_least (depth_at frame t) (pattern_at frame t) (first_hash frame s) first))
]
