-- The header of a segment is stored with the same region, while it has no ready side, or with the same state.
use Rattle.std.proofs.Common.{◌*◌, ◌+◌, ◌-◌, ◌≡◌, ◌≢◌, ℕ, ◌^◌, ◌<◌, ◌≤◌, inl, inr, sym, ap, subst, ◌∙◌, arith}
use Rattle.std.proofs.lemmas.Bool.{cases_eq}
use Rattle.segment_head.specs.HeadWord.{version_in, state_in, depth_in, pattern_in, free, normal, splitting}
use Rattle.hash_word.specs.Hash.{index_of}
use Rattle.sound_image.specs.Segments.{Frame, image_version, state_at, depth_at, pattern_at, IsLive, IsReadySide}
use Rattle.segment_table.specs.Claims.{named_for, IsSoundFrame}
use Rattle.segment_table.specs.Stores.{Keeps, HasRegionOf, BeginsSplit, DropsSplit, Renews}
use Rattle.segment_table.proofs.frames.Regions.{top_below}
use Rattle.segment_table.proofs.frames.SoundFrames.{side_begins, normal_is_whole}
use Rattle.segment_table.proofs.stores.Moved.{HeaderStored, HeadFits, numbers, numbers_stored, live_same, ready_same}
use Rattle.segment_table.proofs.stores.Alike.{alike_keeps}

-- what entries name is the same where root and entries are
pub same_entries : (greatest : ℕ) → greatest ≤ 16 → (before after : Frame) → IsSoundFrame greatest before → after.root ≡ before.root
    → ((i : ℕ) → i < 2 ^ before.root → after.entry i ≡ before.entry i) → (h : ℕ) → h < 2 ^ 64 → named_for after h ≡ named_for before h
same_entries greatest most before after sound root entries h fits =
    ap (λ r. after.entry (index_of r h)) root ∙ entries (index_of before.root h) (top_below before.root h (omega (arith, sound.root, most)) fits)

module _ (greatest : ℕ) (most : greatest ≤ 16) (before after : Frame) (s x : ℕ) (sound : IsSoundFrame greatest before) (stored : HeaderStored before after s x)
    (slot : s < before.segments) (region : HasRegionOf before s x) (past : version_in x ≤ image_version before) (known : state_in x ≤ 3)
    (taken : state_in x ≢ free → state_at before s ≢ free) (lives : IsLive before s → IsLive after s) (lived : IsLive after s → IsLive before s)
    (splits : (n : ℕ) → IsReadySide before s n → state_in x ≡ splitting) (split : (n : ℕ) → IsReadySide after s n → state_at before s ≡ splitting) where
  depth : (t : ℕ) → t < before.segments → depth_at after t ≡ depth_at before t
  depth t slot_t = elim (cases_eq t s) [
    | inl same ↦ ap (λ u. depth_at after u) same ∙ ap depth_in stored.here ∙ region.depth ∙ ap (λ u. depth_at before u) (sym same)
    | inr other ↦ ap depth_in (stored.others t slot_t other)
  ]

  pattern : (t : ℕ) → t < before.segments → pattern_at after t ≡ pattern_at before t
  pattern t slot_t = elim (cases_eq t s) [
    | inl same ↦ ap (λ u. pattern_at after u) same ∙ ap pattern_in stored.here ∙ region.pattern ∙ ap (λ u. pattern_at before u) (sym same)
    | inr other ↦ ap pattern_in (stored.others t slot_t other)
  ]

  there : (t : ℕ) → t < before.segments → IsLive before t → IsLive after t
  there t slot_t live = elim (cases_eq t s) [
    | inl same ↦ subst (IsLive after) (sym same) (lives (subst (IsLive before) same live))
    | inr other ↦ live_same before after t (stored.others t slot_t other) live
  ]

  back : (t : ℕ) → t < before.segments → IsLive after t → IsLive before t
  back t slot_t live = elim (cases_eq t s) [
    | inl same ↦ subst (IsLive before) (sym same) (lived (subst (IsLive after) same live))
    | inr other ↦ live_same after before t (sym (stored.others t slot_t other)) live
  ]

  ready : (t n : ℕ) → t < before.segments → IsReadySide before t n → IsReadySide after t n
  ready t n slot_t side =
      let splits_t : state_at after t ≡ splitting = elim (cases_eq t s) [
        | inl same ↦ ap (λ u. state_at after u) same ∙ ap state_in stored.here ∙ splits n (subst (λ u. IsReadySide before u n) same side)
        | inr other ↦ ap state_in (stored.others t slot_t other) ∙ side.splits
      ] in
      ready_same before after t n stored.segments (stored.links t slot_t) splits_t (there n side.slot side.live) (depth t slot_t) (pattern t slot_t)
      (depth n side.slot) (pattern n side.slot) side

  unready : (t n : ℕ) → t < before.segments → IsReadySide after t n → IsReadySide before t n
  unready t n slot_t side =
      let slot_n = subst (λ m. n < m) stored.segments side.slot in
      let splits_t : state_at before t ≡ splitting = elim (cases_eq t s) [
        | inl same ↦ ap (λ u. state_at before u) same ∙ split n (subst (λ u. IsReadySide after u n) same side)
        | inr other ↦ sym (ap state_in (stored.others t slot_t other)) ∙ side.splits
      ] in
      ready_same after before t n (sym stored.segments) (sym (stored.links t slot_t)) splits_t (back n slot_n side.live) (sym (depth t slot_t)) (sym (pattern t slot_t))
      (sym (depth n slot_n)) (sym (pattern n slot_n)) side

  fits : HeadFits greatest x
  fits = record {
    known = known;
    depth = λ is. subst (λ d. d ≤ greatest) (sym region.depth) ((sound.head s slot).depth_fits (taken is));
    pattern = λ is. subst (λ p. p < 2 ^ depth_in x) (sym region.pattern)
        (subst (λ d. pattern_at before s < 2 ^ d) (sym region.depth) ((sound.head s slot).pattern_fits (taken is)));
  }

  pub same_region_keeps : Keeps greatest before after
  same_region_keeps = alike_keeps greatest before after sound (record {
    segments = stored.segments;
    there = there;
    back = back;
    depth = λ t slot_t live. depth t slot_t;
    pattern = λ t slot_t live. pattern t slot_t;
    ready = ready;
    unready = unready;
    entries = same_entries greatest most before after sound stored.root stored.entries;
    root = omega (arith, stored.root);
    numbers = numbers_stored greatest before after s x (numbers greatest before sound) stored fits past (λ is. sound.link s slot (taken is));
  })

module _ (greatest : ℕ) (most : greatest ≤ 16) (before after : Frame) (s x : ℕ) (sound : IsSoundFrame greatest before) (stored : HeaderStored before after s x) where
  -- NORMAL TO SPLITTING
  pub begins_split_keeps : BeginsSplit before s x → Keeps greatest before after
  begins_split_keeps may =
      same_region_keeps greatest most before after s x sound stored may.slot may.region may.past (omega (arith, may.becomes))
      (λ is e. clash (may.was) e) (λ live. inr (ap state_in stored.here ∙ may.becomes)) (λ live. inl may.was)
      (λ m side. absurd (apart may.was side.splits)) (λ m side. absurd (whole m side))
    where
      clash : state_at before s ≡ normal → state_at before s ≡ free → ⊥
      clash a b = omega (arith, a, b)

      apart : state_at before s ≡ normal → state_at before s ≡ splitting → ⊥
      apart a b = omega (arith, a, b)

      level : {a b : ℕ} → a < b → b ≡ a → ⊥
      level less same = omega (arith, less, same)

      whole : (m : ℕ) → IsReadySide after s m → ⊥
      whole m side =
          let depth_s : depth_at after s ≡ depth_at before s = ap depth_in stored.here ∙ may.region.depth in
          let pattern_s : pattern_at after s ≡ pattern_at before s = ap pattern_in stored.here ∙ may.region.pattern in
          let other : m ≢ s = λ e. level side.deeper (ap (depth_at after) e) in
          let slot_m = subst (λ k. m < k) stored.segments side.slot in
          let same = stored.others m slot_m other in
          let live_m = live_same after before m (sym same) side.live in
          let deeper : depth_at before s < depth_at before m = omega (arith, side.deeper, depth_s, ap depth_in same) in
          let zeros = sym (ap pattern_in same) ∙ side.zeros
          ∙ ap (λ p. (2 * p + 1) * 2 ^ (depth_at after m - depth_at after s - 1)) pattern_s
          ∙ ap (λ d. (2 * pattern_at before s + 1) * 2 ^ (depth_at after m - d - 1)) depth_s
          ∙ ap (λ h1. (2 * pattern_at before s + 1) * 2 ^ (depth_in h1 - depth_at before s - 1)) same in
          normal_is_whole greatest most before sound s m may.slot may.was slot_m live_m deeper
          (side_begins greatest most before sound s m slot_m live_m deeper zeros)

  -- SPLITTING TO NORMAL, as deep as before
  pub drops_split_keeps : DropsSplit before s x → Keeps greatest before after
  drops_split_keeps may =
      same_region_keeps greatest most before after s x sound stored may.slot may.region may.past (omega (arith, may.becomes))
      (λ is e. clash may.was e) (λ live. inl (ap state_in stored.here ∙ may.becomes)) (λ live. inr may.was)
      (λ m side. absurd (may.unready (m, side)))
      (λ m side. absurd (apart (sym side.splits ∙ ap state_in stored.here ∙ may.becomes)))
    where
      clash : state_at before s ≡ splitting → state_at before s ≡ free → ⊥
      clash a b = omega (arith, a, b)

      apart : splitting ≡ normal → ⊥
      apart e = omega (arith, e)

  -- THE VERSION BYTE
  pub renews_keeps : Renews before s x → Keeps greatest before after
  renews_keeps may =
      same_region_keeps greatest most before after s x sound stored may.slot may.region may.past (omega (arith, may.becomes, (sound.head s may.slot).known))
      (λ is e. is (may.becomes ∙ e))
      (λ live. elim live [ inl is ↦ inl (ap state_in stored.here ∙ may.becomes ∙ is) | inr is ↦ inr (ap state_in stored.here ∙ may.becomes ∙ is) ])
      (λ live. elim live [
        | inl is ↦ inl (sym may.becomes ∙ sym (ap state_in stored.here) ∙ is)
        | inr is ↦ inr (sym may.becomes ∙ sym (ap state_in stored.here) ∙ is)
      ])
      (λ m side. may.becomes ∙ side.splits)
      (λ m side. sym may.becomes ∙ sym (ap state_in stored.here) ∙ side.splits)
