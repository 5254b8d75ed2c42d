-- A medium and the newest words: what is live, and which sides are ready, when the one has stores that the other has not.
use Rattle.std.proofs.Common.{◌≡◌, ℕ, ◌+◌, ◌-◌, ◌*◌, ◌/◌, ◌^◌, ◌<◌, ◌≤◌, inl, inr, refl, sym, ap, subst, ◌∙◌, arith}
use Rattle.std.proofs.lemmas.Bool.{cases_lt}
use Rattle.std.proofs.lemmas.Nat.{pow-add, shl-shr}
use Rattle.segment_head.specs.HeadWord.{state_in, depth_in, pattern_in}
use Rattle.sound_image.specs.Segments.{Frame, depth_at, pattern_at, IsLive, CoversHash, IsLiveFor, InOneSide, IsReadySide}
use Rattle.segment_table.specs.Claims.{IsSoundFrame}
use Rattle.segment_table.specs.Media.{first_hash, IsSteady}
use Rattle.segment_table.proofs.frames.Regions.{first, top_of_first, next_top_of_first, first_least, less_top}
use Rattle.segment_table.proofs.frames.SoundFrames.{first_covered, live_low, nested, nested_side, side_covered}
use Rattle.segment_table.proofs.stores.Moved.{side_same}

pub steady_self : (frame : Frame) → IsSteady frame frame
steady_self frame = record { slots = refl; stays = λ s slot live. (live, refl, omega arith) }

pub steady_on : (medium newest later : Frame) → IsSteady medium newest → IsSteady newest later → IsSteady medium later
steady_on medium newest later one two = record {
  slots = two.slots ∙ one.slots;
  stays = λ s slot live.
      let a = one.stays s slot live in
      let b = two.stays s (subst (λ m. s < m) (sym one.slots) slot) a.0 in
      (b.0, b.1 ∙ a.1, omega (arith, a.2, b.2));
}

-- A READY SIDE begins at the middle of its segment's region, and nothing else that is live does
abbrev pub middle : Frame → ℕ → ℕ
middle frame s = first (depth_at frame s + 1) (2 * pattern_at frame s + 1)

product : (a b c : ℕ) → a * (b * c) ≡ a * b * c
product a b c = grind arith

powers : (w d e : ℕ) → d < e → e ≤ 64 → w * 2 ^ (e - d - 1) * 2 ^ (64 - e) ≡ w * 2 ^ (64 - (d + 1))
powers w d e less most =
    let places : e - d - 1 + (64 - e) ≡ 64 - (d + 1) = omega arith in
    sym (product w (2 ^ (e - d - 1)) (2 ^ (64 - e))) ∙ ap (λ n. w * n) (sym (pow-add 2 (e - d - 1) (64 - e))) ∙ ap (λ n. w * 2 ^ n) places

cancel : (a b k : ℕ) → a * 2 ^ k ≡ b * 2 ^ k → a ≡ b
cancel a b k e = sym (shl-shr a k) ∙ ap (λ n. n / 2 ^ k) e ∙ shl-shr b k

module _ (greatest : ℕ) (most : greatest ≤ 16) (frame : Frame) (sound : IsSoundFrame greatest frame) where
  ready_begins : (s n : ℕ) → IsReadySide frame s n → first_hash frame n ≡ middle frame s
  ready_begins s n side =
      ap (λ p. p * 2 ^ (64 - depth_at frame n)) side.zeros
      ∙ powers (2 * pattern_at frame s + 1) (depth_at frame s) (depth_at frame n) side.deeper
      (omega (arith, live_low greatest most frame sound n side.slot side.live))

  begins_zeros : (s n : ℕ) → n < frame.segments → IsLive frame n → depth_at frame s < depth_at frame n → first_hash frame n ≡ middle frame s
      → pattern_at frame n ≡ (2 * pattern_at frame s + 1) * 2 ^ (depth_at frame n - depth_at frame s - 1)
  begins_zeros s n slot live deeper begins =
      cancel _ _ (64 - depth_at frame n)
      (begins ∙ sym (powers (2 * pattern_at frame s + 1) (depth_at frame s) (depth_at frame n) deeper
      (omega (arith, live_low greatest most frame sound n slot live))))

  -- a live segment that covers a hash of the 1-side of s, and begins in it, is deeper
  begins_deeper : (s n h : ℕ) → s < frame.segments → IsLive frame s → n < frame.segments → IsLive frame n → InOneSide frame s h → CoversHash frame n h
      → InOneSide frame s (first_hash frame n) → depth_at frame s < depth_at frame n
  begins_deeper s n h slot_s live_s slot_n live_n inside covers begins = elim (cases_lt (depth_at frame s) (depth_at frame n)) [
    | inl less ↦ less
    | inr up ↦
        let low = live_low greatest most frame sound s slot_s live_s in
        let k = first_hash frame s in
        let covers_s = side_covered greatest most frame sound s h slot_s live_s inside in
        let covers_k : CoversHash frame n k = nested greatest most frame sound n s h k slot_s live_s up covers covers_s (first_covered frame s) in
        let at_most = first_least (depth_at frame n) (pattern_at frame n) k covers_k in
        let next = next_top_of_first (depth_at frame s) (pattern_at frame s) (omega (arith, low)) in
        let less = less_top (depth_at frame s + 1) k (first_hash frame n) (omega (arith, next, begins)) in
        absurd (omega (arith, at_most, less))
  ]

module _ (greatest : ℕ) (most : greatest ≤ 16) (medium newest : Frame) (sound_m : IsSoundFrame greatest medium) (sound_n : IsSoundFrame greatest newest)
    (steady : IsSteady medium newest) (s : ℕ) (slot : s < medium.segments) (header : newest.header s ≡ medium.header s) where
  same_middle : middle newest s ≡ middle medium s
  same_middle = ap (λ h1. first (depth_in h1 + 1) (2 * pattern_in h1 + 1)) header

  -- READY IN A MEDIUM, ready now
  pub ready_now : (n : ℕ) → newest.link s ≡ medium.link s → IsReadySide medium s n → IsReadySide newest s n
  ready_now n link side =
      let stays = steady.stays n side.slot side.live in
      let slot_n = subst (λ m. n < m) (sym steady.slots) side.slot in
      let deeper : depth_at newest s < depth_at newest n = omega (arith, stays.2, side.deeper, ap depth_in header) in
      record {
        splits = ap state_in header ∙ side.splits;
        named = link ∙ side.named;
        slot = slot_n;
        live = stays.0;
        deeper = deeper;
        zeros = begins_zeros greatest most newest sound_n s n slot_n stays.0 deeper (stays.1 ∙ ready_begins greatest most medium sound_m s n side ∙ sym same_middle);
      }

  -- READY NOW, ready in each medium in which the side lives
  pub ready_there : (n : ℕ) → newest.link s ≡ medium.link s → IsLive medium n → IsReadySide newest s n → IsReadySide medium s n
  ready_there n link live side =
      let slot_n = subst (λ m. n < m) steady.slots side.slot in
      let splits = sym (ap state_in header) ∙ side.splits in
      let begins : first_hash medium n ≡ middle medium s =
      sym (steady.stays n slot_n live).1 ∙ ready_begins greatest most newest sound_n s n side ∙ same_middle in
      let inside : InOneSide medium s (middle medium s) = top_of_first (depth_at medium s + 1) (2 * pattern_at medium s + 1) in
      let deeper = begins_deeper greatest most medium sound_m s n (middle medium s) slot (inr splits) slot_n live inside
      (subst (CoversHash medium n) begins (first_covered medium n)) (subst (InOneSide medium s) (sym begins) inside) in
      record {
        splits = splits;
        named = sym link ∙ side.named;
        slot = slot_n;
        live = live;
        deeper = deeper;
        zeros = begins_zeros greatest most medium sound_m s n slot_n live deeper begins;
      }

  -- DEEPER NOW than s, at a hash of its 1-side, deeper in each medium in which it covers the hash
  pub deeper_there : (n h : ℕ) → IsLive medium s → InOneSide medium s h → IsLiveFor medium h n → CoversHash newest n h
      → depth_at newest s < depth_at newest n → depth_at medium s < depth_at medium n
  deeper_there n h live_s inside is covers deeper =
      let stays = steady.stays n is.slot is.live in
      let slot_n = subst (λ m. n < m) (sym steady.slots) is.slot in
      let inside_b = nested_side greatest most newest sound_n s n h (first_hash newest n) slot_n stays.0 deeper (side_same medium newest s h header inside) covers
      (first_covered newest n) in
      let begins = subst (InOneSide medium s) stays.1 (side_same newest medium s (first_hash newest n) (sym header) inside_b) in
      begins_deeper greatest most medium sound_m s n h slot live_s is.slot is.live inside is.covers begins
