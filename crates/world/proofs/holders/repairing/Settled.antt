-- The fence after the last entry of a ready side: each names a segment that begins behind the stale one, so a deeper one.
use Rattle.std.proofs.Common.{◌≡◌, ℕ, suc, ◌+◌, ◌*◌, ◌^◌, ◌<◌, ◌≤◌, [], ◌∷◌, inl, inr, sym, ap, subst, ◌∙◌, add-one}
use Rattle.trace.specs.Events.{Words}
use Rattle.hash_word.specs.Hash.{index_of, first_hash_of}
use Rattle.segment_head.specs.HeadWord.{depth_in, pattern_in}
use Rattle.image_layout.specs.Places.{Shape, root_word, entry_at}
use Rattle.sound_image.specs.Segments.{Frame, frame_of, depth_at, IsLive, InOneSide}
use Rattle.frame_facts.specs.Claims.{named_for, ClaimsNone}
use Rattle.frame_facts.specs.Media.{first_hash}
use Rattle.frame_facts.proofs.frames.SoundFrames.{way_begins}
use Rattle.frame_facts.specs.Facts.{Fact, Begins, NamesDeeper, HoldsFact}
use Rattle.world.specs.Ground.{Ground, IsGround, version_of, IsStructured}
use Rattle.world.specs.Views.{View, Has}
use Rattle.world.specs.Holders.{KnowsWord}
use Rattle.world.specs.areas.Areas.{header_word, link_word}
use Rattle.world.specs.areas.Kinds.{settles}
use Rattle.world.specs.areas.Asking.{MaySay, MayBeNewest, MayStandBeside, once_fenced, MayAt}
use Rattle.world.specs.areas.Repairing.{deep_side, lacks_side, HasReadySideOf, IsEntryOfSide}
use Rattle.world.proofs.holders.filling.Known.{known_there}
use Rattle.world.proofs.holders.directing.Known.{still_firm, fenced}
use Rattle.world.proofs.holders.repairing.SideEntries.{entry_of, behind_deeper}
use Rattle.world.proofs.holders.repairing.Ready.{live, deeper, small}

-- ---- one frame
-- an entry names a segment that begins at a hash
abbrev NamesAt : Frame → ℕ → ℕ → Type 0
NamesAt frame i begin = first_hash frame (frame.entry i) ≡ begin

module _ (site : Ground) (ground : IsGround site) (word us : Words) (s n g : ℕ) (v : View) (has : HasReadySideOf site v s n g word)
    (structure : IsStructured site us) (header : us (header_word site.shape s) ≡ word (header_word site.shape s)) (link : us (link_word site.shape s) ≡ suc n) (root : us root_word ≡ g)
    (none : ClaimsNone (frame_of site.shape us) s (suc (depth_in (word (header_word site.shape s)))) (2 * pattern_in (word (header_word site.shape s)) + 1))
    (behind : (i : ℕ) → IsEntryOfSide g (depth_in (word (header_word site.shape s))) (pattern_in (word (header_word site.shape s))) i
    → (begin : ℕ) × NamesAt (frame_of site.shape us) i begin × (first_hash_of (depth_in (word (header_word site.shape s))) (pattern_in (word (header_word site.shape s))) < begin)) where
  abbrev frame : Frame
  frame = frame_of site.shape us

  abbrev head : ℕ
  head = us (header_word site.shape s)

  abbrev known_head : ℕ
  known_head = word (header_word site.shape s)

  is_live : IsLive frame s
  is_live = live site ground word us s n g has.mine.slot has.into.splits structure header link root none

  is_small : us root_word ≤ 64
  is_small = small site ground word us s n g has.mine.slot has.into.splits structure header link root none

  low : depth_in head < us root_word
  low = subst (λ (r : ℕ). depth_in head < r) (sym root)
      (subst (λ (z : ℕ). depth_in z < g) (sym header) (deeper site ground word us s n g has.mine.slot has.into.splits structure header link root none))

  -- the entry of a hash of the 1-side names a deeper segment
  named_deeper : (h : ℕ) → h < 2 ^ 64 → InOneSide frame s h → depth_at frame s < depth_at frame (named_for frame h)
  named_deeper h fits inside =
      let entry : IsEntryOfSide (us root_word) (depth_in head) (pattern_in head) (index_of (us root_word) h) = entry_of frame s is_small low h fits inside in
      let known = subst (λ (r : ℕ). IsEntryOfSide r (depth_in known_head) (pattern_in known_head) (index_of (us root_word) h)) root
      (subst (λ (z : ℕ). IsEntryOfSide (us root_word) (depth_in z) (pattern_in z) (index_of (us root_word) h)) header entry) in
      let b = behind (index_of (us root_word) h) known in
      behind_deeper site.shape.depth ground.shape.depth frame structure.sound s (named_for frame h) h has.mine.slot is_live inside (way_begins frame h (named_for frame h) (structure.sound.leads h fits))
      (subst (λ (z : ℕ). first_hash frame s < z) (sym b.1) (subst (λ (z : ℕ). first_hash_of (depth_in z) (pattern_in z) < b.0) (sym header) b.2))

  pub deep : NamesDeeper frame (depth_in known_head) (suc (depth_in known_head)) (2 * pattern_in known_head + 1)
  deep = subst (λ (z : ℕ). NamesDeeper frame (depth_in z) (suc (depth_in z)) (2 * pattern_in z + 1)) header
      (subst (λ (k : ℕ). NamesDeeper frame (depth_in head) k (2 * pattern_in head + 1)) (add-one (depth_in head)) named_deeper)

-- ---- the fence
module _ (site : Ground) (ground : IsGround site) (v : View) (s n g : ℕ) (word : Words) (has : HasReadySideOf site v s n g word)
    (named : (i : ℕ) → IsEntryOfSide g (depth_in (word (header_word site.shape s))) (pattern_in (word (header_word site.shape s))) i
    → (t : ℕ) × (begin : ℕ) × Has (entry_at g i, t) v.known × ((y : ℕ) → Has (entry_at g i, y) v.dirty → ⊥) × Has (Begins t begin) v.facts
    × (first_hash_of (depth_in (word (header_word site.shape s))) (pattern_in (word (header_word site.shape s))) < begin)) where
  abbrev shape : Shape
  shape = site.shape

  module _ (words medium : Words) (new : MayBeNewest site (once_fenced v) words) (side : MayStandBeside site (once_fenced v) words medium) where
    known : (i x : ℕ) → KnowsWord (once_fenced v) i x → medium i ≡ x
    known = known_there site ground (once_fenced v) words medium new side

    -- what was settled stays so
    settled : (i x : ℕ) → KnowsWord v i x → medium i ≡ x
    settled i x k = known i x (still_firm v i x k)

    is_root : medium root_word ≡ g
    is_root = settled root_word g has.root

    behind : (i : ℕ) → IsEntryOfSide g (depth_in (word (header_word shape s))) (pattern_in (word (header_word shape s))) i
        → (begin : ℕ) × NamesAt (frame_of shape medium) i begin × (first_hash_of (depth_in (word (header_word shape s))) (pattern_in (word (header_word shape s))) < begin)
    behind i entry =
        let e = named i entry in
        let is : medium (entry_at (medium root_word) i) ≡ e.0 = ap (λ (r : ℕ). medium (entry_at r i)) is_root ∙ known (entry_at g i) e.0 (fenced v (entry_at g i) e.0 e.2 e.3) in
        (e.1, ap (first_hash (frame_of shape medium)) is ∙ (side.says (Begins e.0 e.1) e.4).1, e.5)

    lacks_there : HoldsFact shape (version_of site) words (lacks_side site s word) medium
    lacks_there = side.says (lacks_side site s word) has.lacks

    deep_there : HoldsFact shape (version_of site) words (deep_side site s word) medium
    deep_there = deep site ground word medium s n g v has side.structure (settled (header_word shape s) (word (header_word shape s)) has.mine.header)
        (settled (link_word shape s) (suc n) has.into.linked) is_root lacks_there.1 behind

  -- each of the two facts may be said
  abbrev IsTold : Fact → Type 0
  IsTold fact = MaySay v.areas fact × ((words medium : Words) → MayBeNewest site (once_fenced v) words → MayStandBeside site (once_fenced v) words medium
      → HoldsFact shape (version_of site) words fact medium)

  told : (fact : Fact) → Has fact (deep_side site s word ∷ lacks_side site s word ∷ []) → IsTold fact
  told fact is = elim is [
    | inl e ↦ subst IsTold (sym e) (tt, deep_there)
    | inr more ↦ elim more [
      | inl e ↦ subst IsTold (sym e) (tt, lacks_there)
      | inr f ↦ absurd f
    ]
  ]

  pub settle_side : MayAt site (settles (deep_side site s word ∷ lacks_side site s word ∷ [])) v
  settle_side = ((λ m side. absurd (has.no_sides m side)), told)
