-- The fence after the last entry: each of the 1-side names the side, which has it, so it is deeper than its segment, which has none of it.
use Rattle.std.proofs.Common.{◌≡◌, ◌≢◌, ℕ, suc, ◌+◌, ◌*◌, ◌-◌, ◌/◌, ◌^◌, ◌<◌, ◌≤◌, [], ◌∷◌, inl, inr, sym, ap, subst, ◌∙◌, arith, add-one}
use Rattle.trace.specs.Events.{Words}
use Rattle.hash_word.specs.Hash.{Covers, index_of}
use Rattle.segment_head.specs.HeadWord.{state_in, depth_in, pattern_in, splitting}
use Rattle.image_layout.specs.Places.{Shape, IsShape, root_word, entry_at}
use Rattle.sound_image.specs.Segments.{Frame, frame_of, depth_at, IsLive, HasReadySide}
use Rattle.frame_facts.specs.Claims.{HasSoundFrame, ClaimsNoOneSide, named_for, ClaimsAll, ClaimsNone}
use Rattle.frame_facts.proofs.Claimers.{ready_claims_none}
use Rattle.frame_facts.proofs.frames.Regions.{fewer, top_below}
use Rattle.frame_facts.specs.Facts.{Fact, Owns, Lacks, Deep, IsLiveSlot, NamesDeeper, HoldsFact}
use Rattle.world.specs.Ground.{Ground, IsGround, version_of}
use Rattle.world.specs.Views.{View, Has}
use Rattle.world.specs.Holders.{KnowsWord}
use Rattle.world.specs.areas.Areas.{header_word}
use Rattle.world.specs.areas.Rows.{HasNoSides}
use Rattle.world.specs.areas.Kinds.{settles}
use Rattle.world.specs.areas.Asking.{MaySay, MayBeNewest, MayStandBeside, once_fenced, MayAt}
use Rattle.world.specs.areas.Splitting.{link_word, KnowsHead}
use Rattle.world.proofs.holders.filling.Known.{known_there}
use Rattle.world.proofs.holders.directing.Known.{still_firm, fenced}

-- ---- one frame
module _ (shape : Shape) (is : IsShape shape) (us : Words) (sound : HasSoundFrame shape us) (s n g head : ℕ) (slot : s < shape.segments) (apart : s ≢ n)
    (header : us (header_word shape s) ≡ head) (splits : state_in head ≡ splitting) (link : us (link_word shape s) ≡ suc n) (root : us root_word ≡ g) (shallow : depth_in head < g)
    (owns : ClaimsAll (frame_of shape us) n (suc (depth_in head)) (2 * pattern_in head + 1))
    (named : (i : ℕ) → i < 2 ^ g → i / 2 ^ (g - suc (depth_in head)) ≡ 2 * pattern_in head + 1 → us (entry_at g i) ≡ n) where
  abbrev frame : Frame
  frame = frame_of shape us

  abbrev d : ℕ
  d = depth_in head

  abbrev p : ℕ
  p = 2 * pattern_in head + 1

  small : g ≤ 64
  small = omega (arith, sym root, sound.root, is.depth)

  live : IsLive frame s
  live = inr (ap state_in header ∙ splits)

  -- the segment has none of the 1-side
  none : ClaimsNone frame s (suc d) p
  none h fits covers claims = apart (sound.one h s n fits claims (owns h fits covers))

  none_of_side : ClaimsNoOneSide frame s
  none_of_side = subst (λ (k : ℕ). ClaimsNone frame s k (2 * pattern_in (us (header_word shape s)) + 1)) (sym (add-one (depth_in (us (header_word shape s)))))
      (subst (λ (z : ℕ). ClaimsNone frame s (suc (depth_in z)) (2 * pattern_in z + 1)) (sym header) none)

  pub lacks : IsLiveSlot frame s × ClaimsNone frame s (suc d) p
  lacks = (record { slot = slot; live = live }, none)

  -- so its side is ready, which is the slot that it has linked
  ready : HasReadySide frame s
  ready = (ready_claims_none shape.depth is.depth frame sound s slot live).1 none_of_side

  deeper : d < depth_at frame n
  deeper =
      let same : ready.0 ≡ n = one_less ready.0 n (sym ready.1.named ∙ link) in
      subst (λ (z : ℕ). depth_in z < depth_at frame n) header (subst (λ (m : ℕ). depth_at frame s < depth_at frame m) same ready.1.deeper)
    where
      one_less : (a b : ℕ) → suc a ≡ suc b → a ≡ b
      one_less a b e = omega (arith, e)

  -- and each entry of the 1-side names it
  names : (h : ℕ) → h < 2 ^ 64 → Covers (suc d) p h → named_for frame h ≡ n
  names h fits covers = subst (λ (r : ℕ). us (entry_at r (index_of r h)) ≡ n) (sym root) (named (index_of g h) (top_below g h small fits) part)
    where
      whole : suc d + (g - suc d) ≡ g
      whole = omega (arith, shallow)

      part : index_of g h / 2 ^ (g - suc d) ≡ p
      part = ap (λ (z : ℕ). index_of z h / 2 ^ (g - suc d)) (sym whole) ∙ sym (fewer (suc d) (g - suc d) h (omega (arith, whole, small))) ∙ covers

  pub deep : NamesDeeper frame d (suc d) p
  deep h fits covers = subst (λ (z : ℕ). d < depth_at frame z) (sym (names h fits covers)) deeper

-- ---- the fence
module _ (site : Ground) (ground : IsGround site) (v : View) (s n g : ℕ) (word : Words) (sides : HasNoSides v.areas) (apart : s ≢ n) (head : KnowsHead site.shape v s word)
    (splits : state_in (word (header_word site.shape s)) ≡ splitting) (linked : word (link_word site.shape s) ≡ suc n) (root : KnowsWord v root_word g)
    (shallow : depth_in (word (header_word site.shape s)) < g)
    (owns : Has (Owns n (suc (depth_in (word (header_word site.shape s)))) (2 * pattern_in (word (header_word site.shape s)) + 1)) v.facts)
    (named : (i : ℕ) → i < 2 ^ g → i / 2 ^ (g - suc (depth_in (word (header_word site.shape s)))) ≡ 2 * pattern_in (word (header_word site.shape s)) + 1
    → Has (entry_at g i, n) v.known × ((y : ℕ) → Has (entry_at g i, y) v.dirty → ⊥)) where
  abbrev floor : ℕ
  floor = depth_in (word (header_word site.shape s))

  abbrev pattern : ℕ
  pattern = 2 * pattern_in (word (header_word site.shape s)) + 1

  module _ (words medium : Words) (new : MayBeNewest site (once_fenced v) words) (side : MayStandBeside site (once_fenced v) words medium) where
    known : (i x : ℕ) → KnowsWord (once_fenced v) i x → medium i ≡ x
    known = known_there site ground (once_fenced v) words medium new side

    header : medium (header_word site.shape s) ≡ word (header_word site.shape s)
    header = known (header_word site.shape s) (word (header_word site.shape s)) (still_firm v (header_word site.shape s) (word (header_word site.shape s)) head.header)

    link : medium (link_word site.shape s) ≡ suc n
    link = known (link_word site.shape s) (word (link_word site.shape s)) (still_firm v (link_word site.shape s) (word (link_word site.shape s)) head.link) ∙ linked

    is_root : medium root_word ≡ g
    is_root = known root_word g (still_firm v root_word g root)

    claims : ClaimsAll (frame_of site.shape medium) n (suc floor) pattern
    claims = side.says (Owns n (suc floor) pattern) owns

    entries : (i : ℕ) → i < 2 ^ g → i / 2 ^ (g - suc floor) ≡ pattern → medium (entry_at g i) ≡ n
    entries i below inside = let e = named i below inside in known (entry_at g i) n (fenced v (entry_at g i) n e.0 e.1)

    lacks_there : HoldsFact site.shape (version_of site) words (Lacks s (suc floor) pattern) medium
    lacks_there = lacks site.shape ground.shape medium side.structure.sound s n g (word (header_word site.shape s)) head.slot apart header splits link is_root shallow claims entries

    deep_there : HoldsFact site.shape (version_of site) words (Deep floor (suc floor) pattern) medium
    deep_there = deep site.shape ground.shape medium side.structure.sound s n g (word (header_word site.shape s)) head.slot apart header splits link is_root shallow claims entries

  -- each of the two facts may be said
  abbrev IsTold : Fact → Type 0
  IsTold fact = MaySay v.areas fact × ((words medium : Words) → MayBeNewest site (once_fenced v) words → MayStandBeside site (once_fenced v) words medium
      → HoldsFact site.shape (version_of site) words fact medium)

  told : (fact : Fact) → Has fact (Deep floor (suc floor) pattern ∷ Lacks s (suc floor) pattern ∷ []) → IsTold fact
  told fact has = elim has [
    | inl e ↦ subst IsTold (sym e) (tt, deep_there)
    | inr more ↦ elim more [
      | inl e ↦ subst IsTold (sym e) (tt, lacks_there)
      | inr f ↦ absurd f
    ]
  ]

  pub settle : MayAt site (settles (Deep floor (suc floor) pattern ∷ Lacks s (suc floor) pattern ∷ [])) v
  settle = ((λ m has. absurd (sides m has)), told)
