-- Each event may be taken by the view that stands for it.
use Rattle.std.proofs.Common.{◌≡◌, ℕ, suc, ◌+◌, ◌-◌, ◌*◌, ◌/◌, ◌^◌, ◌<◌, ◌≤◌, inl, inr, List, [], ◌∷◌, refl, sym, ap, ◌∙◌, subst, arith}
use Rattle.trace.specs.Events.{Words}
use Rattle.segment_head.specs.HeadWord.{version_in, state_in, depth_in, pattern_in, normal}
use Rattle.image_layout.specs.Places.{Shape, root_word, entry_at, bucket_at}
use Rattle.frame_facts.specs.Facts.{Owns, Lacks, Deep}
use Rattle.frame_facts.specs.DeadSlots.{IsInSlot}
use Rattle.map_model.specs.declared.call.Call.{Call}
use Rattle.world.specs.declared.site.Site.{Site}
use Rattle.world.specs.Ground.{Ground, IsGround, version_of}
use Rattle.world.specs.Views.{View, Has, IsLoose}
use Rattle.world.specs.Holders.{KnowsWord}
use Rattle.world.specs.areas.Areas.{Area, Side, Whole, Directory, header_word}
use Rattle.world.specs.areas.Rows.{HasNoSides, goes_live}
use Rattle.world.specs.areas.Kinds.{sets, moves, settles, settles_side}
use Rattle.world.specs.areas.Asking.{KnowsDead, MayAt}
use Rattle.world.specs.areas.Splitting.{IsHeader, IsSettledHolder, IsReadyToLive, MayPublish}
use Rattle.world.proofs.holders.directing.Directing.{may_direct}
use Rattle.split_op.specs.Copied.{split_head, side_head, copied_words}
use Rattle.directory_op.specs.declared.op.Stage.TheVariants.{Fill, Deepen, GoLive, Live, Enter, Entered}
use Rattle.directory_op.specs.declared.op.DirectoryOp.{DirectoryOp}
use Rattle.directory_op.specs.Places.{entry_word_at, live_head}
use Rattle.directory_op.specs.DirectoryPart.{facts_of}
use Rattle.directory_op.specs.Fits.{side_depth, side_pattern, with_side, without_side, IsSideWord, SplitStands, SideIsNew, SuitsStore}
use Rattle.directory_op.proofs.Words.{doubled, entry_is, entry_no_root, entry_no_slot, slot_behind, live_header}
use Rattle.directory_op.proofs.Keeping.{kept_in_slot, holder, knows_head, knows_buckets}
use Rattle.directory_op.proofs.Sides.{split_state, split_depth, split_pattern, side_new, side_dead, head_kept, link_kept, side_kept}

module _ (site : Ground) (here : Site) (call : Call) (op : DirectoryOp) (v : View) (ground : IsGround site) where
  abbrev shape : Shape
  shape = site.shape

  abbrev s : ℕ
  s = op.copied.whole.segment

  abbrev n : ℕ
  n = op.copied.side

  -- ---- what is held
  has_area : (areas : List Area) (a : Area) → v.areas ≡ areas → Has a areas → Has a v.areas
  has_area areas a e has = subst (λ (l : List Area). Has a l) (sym e) has

  -- of sides there is this one, or none
  one_side : (m : ℕ) → v.areas ≡ with_side site here call op.copied → Has (Side m) v.areas → m ≡ n
  one_side m e has = elim (subst (λ (l : List Area). Has (Side m) l) e has) [
    | inl f ↦ cc
    | inr has ↦ elim has [
      | inl f ↦ cc
      | inr has ↦ elim has [ inl f ↦ cc | inr has ↦ elim has [ inl f ↦ cc | inr has ↦ absurd has ] ]
    ]
  ]

  pub no_sides : v.areas ≡ without_side site here call op.copied → HasNoSides v.areas
  no_sides e m has = elim (subst (λ (l : List Area). Has (Side m) l) e has) [
    | inl f ↦ cc
    | inr has ↦ elim has [ inl f ↦ cc | inr has ↦ elim has [ inl f ↦ cc | inr has ↦ absurd has ] ]
  ]

  -- ---- what is loose lies elsewhere
  -- entries are no words of a slot, and no root
  abbrev AreEntries : Type 0
  AreEntries = (p : ℕ × ℕ) → IsLoose v p → (j : ℕ) × (j < 2 ^ op.root) × (p.0 ≡ entry_at op.root j)

  entries_no_root : AreEntries → (y : ℕ) → IsLoose v (root_word, y) → ⊥
  entries_no_root are y loose = let e = are (root_word, y) loose in entry_no_root op.root e.0 e.2

  entries_no_slot : op.root ≤ shape.depth → AreEntries → (t i y : ℕ) → IsInSlot shape t i → IsLoose v (i, y) → ⊥
  entries_no_slot deep are t i y inside loose = let e = are (i, y) loose in entry_no_slot shape op.root e.0 i deep e.1 (slot_behind shape t i inside) e.2

  -- ---- a side that is new is known to be dead
  pub new_dead : SideIsNew site here call op.copied v → (m : ℕ) → Has (Side m) v.areas → KnowsDead site v m
  new_dead new m has = subst (λ k. KnowsDead site v k) (sym (one_side m new.split.areas has)) (
    side_head op.copied.whole,
    subst (λ x. Has (header_word shape n, x) v.known) (side_kept site ground here call op.copied new.split.is new.split.whole new.split.copy) (new.side (header_word shape n) (inl refl)),
    side_dead site ground here call op.copied new.split.is new.split.whole,
  )

  pub fence_may : ((m : ℕ) → Has (Side m) v.areas → KnowsDead site v m) → MayAt site (settles []) v
  fence_may dead = (dead, λ fact has. absurd has)

  new_holder : SideIsNew site here call op.copied v → IsSettledHolder shape v
  new_holder new = holder site here call op.copied (with_side site here call op.copied) v new.split (inr (inr (inl refl)))

  -- ---- the stores
  module _ (place value : ℕ) (t : SuitsStore site here op call (Fill place value) v) where
    pub fill_may : MayAt site (sets (entry_word_at op.copied.whole.site.geometry op.root place) value) v
    fill_may =
        let new = t.at.filling.new in
        let doubles = t.at.filling.doubles in
        let root = doubles.root in
        subst (λ w. MayAt site (sets w value) v) (sym (entry_is op.copied.whole.site.geometry shape op.root place new.split.is.located.shape doubles.deep ground.shape.depth t.at.low))
        ((may_direct site v ground).fill (depth_in op.copied.whole.head) op.root place value (new_holder new) (has_area (with_side site here call op.copied) Directory new.split.areas (inl refl))
        (record { known = doubles.known; firm = entries_no_root t.storing.loose }) (omega (arith, root)) doubles.deep t.at.low)

  -- ---- the root
  module _ (words : Words) (knows : (i x : ℕ) → Has (i, x) v.known → words i ≡ x) (t : SuitsStore site here op call Deepen v) where
    abbrev d : ℕ
    d = depth_in op.copied.whole.head

    known_word : (i x : ℕ) → Has (i, x) v.known → KnowsWord v i (words i)
    known_word i x has = record { known = subst (λ y. Has (i, y) v.known) (sym (knows i x has)) has; firm = λ y loose. t.storing.loose (i, y) loose }

    root_is : op.root ≡ suc d
    root_is = t.at.doubles.root

    twice : 2 ^ op.root ≡ 2 * 2 ^ d
    twice = ap (λ k. 2 ^ k) root_is ∙ doubled d

    old_known : (i : ℕ) → i < 2 ^ d → KnowsWord v (entry_at d i) (words (entry_at d i))
    old_known i low =
        let f = t.at.filled (2 * i) (let both = twice in omega (arith, low, both)) in
        subst (λ k. KnowsWord v (entry_at d k) (words (entry_at d k))) (halved i) (known_word (entry_at d (2 * i / 2)) f.0 f.1)
      where
        halved : (i : ℕ) → 2 * i / 2 ≡ i
        halved i = omega arith

    new_known : (i : ℕ) → i < 2 ^ suc d → KnowsWord v (entry_at (suc d) i) (words (entry_at (suc d) i))
    new_known i low =
        let f = t.at.filled i (subst (λ k. i < 2 ^ k) (sym root_is) low) in
        subst (λ k. KnowsWord v (entry_at k i) (words (entry_at k i))) root_is (known_word (entry_at op.root i) f.0 f.2)

    same : (i : ℕ) → i < 2 ^ suc d → words (entry_at (suc d) i) ≡ words (entry_at d (i / 2))
    same i low =
        let f = t.at.filled i (subst (λ k. i < 2 ^ k) (sym root_is) low) in
        ap (λ k. words (entry_at k i)) (sym root_is) ∙ knows (entry_at op.root i) f.0 f.2 ∙ sym (knows (entry_at d (i / 2)) f.0 f.1)

    pub root_may : MayAt site (sets root_word op.root) v
    root_may = subst (λ k. MayAt site (sets root_word k) v) (sym root_is)
        ((may_direct site v ground).root d words (new_holder t.at.new) (has_area (with_side site here call op.copied) Directory t.at.new.split.areas (inl refl))
        (record { known = t.at.doubles.known; firm = λ y loose. t.storing.loose (root_word, y) loose }) t.at.new.split.whole.shallow old_known new_known same)

  -- ---- the side goes live
  module _ (publish : MayPublish site v) (t : SuitsStore site here op call GoLive v) where
    abbrev new : SideIsNew site here call op.copied v
    new = t.at.new

    firm : (i y : ℕ) → IsLoose v (i, y) → ⊥
    firm i y loose = t.storing.loose (i, y) loose

    side_word : (i : ℕ) → IsSideWord shape op.copied i → KnowsWord v i (copied_words op.copied i)
    side_word i is = record { known = new.side i is; firm = λ y loose. firm i y loose }

    head_is : copied_words op.copied (header_word shape s) ≡ split_head op.copied.whole
    head_is = head_kept site ground here call op.copied new.split.is new.split.whole new.split.copy

    side_is : copied_words op.copied (header_word shape n) ≡ side_head op.copied.whole
    side_is = side_kept site ground here call op.copied new.split.is new.split.whole new.split.copy

    ready : IsReadyToLive site v s n (copied_words op.copied)
    ready = record {
      holder = new_holder new;
      whole = has_area (with_side site here call op.copied) (Whole s) new.split.areas (inr (inr (inl refl)));
      side = has_area (with_side site here call op.copied) (Side n) new.split.areas (inr (inl refl));
      directory = has_area (with_side site here call op.copied) Directory new.split.areas (inl refl);
      head = knows_head site here call op.copied (with_side site here call op.copied) v new.split (λ i y is loose. firm i y loose);
      splits = ap state_in head_is ∙ split_state site ground here call op.copied new.split.is new.split.whole;
      linked = link_kept site ground here call op.copied new.split.is new.split.whole new.split.copy;
      side_slot = new.split.copy.slot;
      side_head = side_word (header_word shape n) (inl refl);
      new = subst (λ z. IsHeader (copied_words op.copied (header_word shape n)) 3 (suc (depth_in z)) (2 * pattern_in z + 1) (version_of site)) (sym head_is)
          (subst (λ y. IsHeader y 3 (suc (depth_in (split_head op.copied.whole))) (2 * pattern_in (split_head op.copied.whole) + 1) (version_of site)) (sym side_is)
          (side_new site ground here call op.copied new.split.is new.split.whole));
      root_depth = op.root;
      root = record { known = t.at.root.known; firm = λ y loose. firm root_word y loose };
      shallow = (let deep = t.at.root.deeper in let e = ap depth_in head_is ∙ split_depth site ground here call op.copied new.split.is new.split.whole in omega (arith, deep, e));
      buckets_are = knows_buckets site here call op.copied (with_side site here call op.copied) v new.split (λ i y is loose. firm i y loose);
      side_buckets = record {
        meta = λ b m near above low. side_word (bucket_at shape n b + m) (inr (inl (b, m, near, above, low, refl)));
        key = λ b r near small taken. side_word (bucket_at shape n b + 4 + 2 * r) (inr (inr (b, r, near, small, taken, inl refl)));
        value = λ b r near small taken. side_word (bucket_at shape n b + 5 + 2 * r) (inr (inr (b, r, near, small, taken, inr refl)));
      };
      copied = new.split.copy.copied;
      once = new.split.copy.once;
      exact = new.split.copy.exact;
      free = new.free;
      firm = λ p loose inside. firm p.0 p.1 loose;
    }

    pub live_may : MayAt site (moves (goes_live s) n (live_head op.side_head)) v
    live_may = publish.live s n (live_head op.side_head) (copied_words op.copied) ready
        (subst (λ y. IsHeader (live_head op.side_head) normal (depth_in y) (pattern_in y) (version_in y)) (t.storing.heads.side ∙ sym side_is) (live_header op.side_head))

  -- ---- the fence that settles it
  module _ (t : SuitsStore site here op call Live v) (dirty : v.dirty ≡ []) where
    pub live_fence_may : MayAt site (settles_side n (depth_in op.side_head) (pattern_in op.side_head)) v
    live_fence_may =
        let is = live_header op.side_head in (
          has_area (with_side site here call op.copied) (Side n) t.at.split.areas (inr (inl refl)),
          has_area (with_side site here call op.copied) Directory t.at.split.areas (inl refl),
          (λ p has inside. subst (λ (l : List (ℕ × ℕ)). Has p l) dirty has),
          (live_head op.side_head, t.at.known, is.state_is, is.depth_is, is.pattern_is),
          (λ m has other. absurd (other (one_side m t.at.split.areas has))),
        )

  -- ---- the entries
  module _ (index : ℕ) (t : SuitsStore site here op call (Enter index) v) where
    pub enter_may : MayAt site (sets (entry_word_at op.copied.whole.site.geometry op.root index) n) v
    enter_may =
        let live = t.at.entering.live in
        let root = t.at.entering.root in
        subst (λ w. MayAt site (sets w n) v) (sym (entry_is op.copied.whole.site.geometry shape op.root index live.split.is.located.shape root.deep ground.shape.depth t.at.low))
        ((may_direct site v ground).enter op.root index n (side_depth op.copied) (side_pattern op.copied)
        (holder site here call op.copied (without_side site here call op.copied) v live.split (inr (inl refl)))
        (has_area (without_side site here call op.copied) Directory live.split.areas (inl refl))
        (record { known = root.known; firm = entries_no_root t.storing.loose }) root.deep root.deeper t.at.low t.at.of_side live.owns)

  module _ (t : SuitsStore site here op call Entered v) (dirty : v.dirty ≡ []) where
    abbrev word : Words
    word = copied_words op.copied

    abbrev live_split : SplitStands site here call op.copied (without_side site here call op.copied) v
    live_split = t.at.live.split

    kept_head : word (header_word shape s) ≡ split_head op.copied.whole
    kept_head = head_kept site ground here call op.copied live_split.is live_split.whole live_split.copy

    depth_is : depth_in (word (header_word shape s)) ≡ depth_in op.copied.whole.head
    depth_is = ap depth_in kept_head ∙ split_depth site ground here call op.copied live_split.is live_split.whole

    region_is : pattern_in (word (header_word shape s)) ≡ pattern_in op.copied.whole.head
    region_is = ap pattern_in kept_head ∙ split_pattern site ground here call op.copied live_split.is live_split.whole

    -- by the header that is kept
    abbrev ByHead : (ℕ → ℕ → Type 0) → Type 0
    ByHead P = P (depth_in (word (header_word shape s))) (pattern_in (word (header_word shape s)))

    by_head : (P : ℕ → ℕ → Type 0) → P (depth_in op.copied.whole.head) (pattern_in op.copied.whole.head) → ByHead P
    by_head P p = subst (λ d. P d (pattern_in (word (header_word shape s)))) (sym depth_is) (subst (λ q. P (depth_in op.copied.whole.head) q) (sym region_is) p)

    pub last_fence_may : MayAt site (settles (facts_of op Entered)) v
    last_fence_may =
        subst (λ h. MayAt site (settles (Deep (depth_in h) (suc (depth_in h)) (2 * pattern_in h + 1) ∷ Lacks s (suc (depth_in h)) (2 * pattern_in h + 1) ∷ [])) v) (kept_head ∙ sym t.storing.heads.head)
        ((may_direct site v ground).settled s n op.root word
        (no_sides live_split.areas)
        (λ e. live_split.copy.apart (sym e))
        (knows_head site here call op.copied (without_side site here call op.copied) v live_split
        (λ i y is loose. entries_no_slot t.at.root.deep t.storing.loose s i y (kept_in_slot shape op.copied i is) loose))
        (ap state_in kept_head ∙ split_state site ground here call op.copied live_split.is live_split.whole)
        (link_kept site ground here call op.copied live_split.is live_split.whole live_split.copy)
        (record { known = t.at.root.known; firm = entries_no_root t.storing.loose })
        (let deep = t.at.root.deeper in let e = depth_is in omega (arith, deep, e))
        (by_head (λ d p. Has (Owns n (suc d) (2 * p + 1)) v.facts) t.at.live.owns)
        (λ i low is. (
          t.at.entered i low low (by_region i is),
          (λ y has. subst (λ (l : List (ℕ × ℕ)). Has (entry_at op.root i, y) l) dirty has),
        )))
      where
        by_region : (i : ℕ) → i / 2 ^ (op.root - suc (depth_in (word (header_word shape s)))) ≡ 2 * pattern_in (word (header_word shape s)) + 1 → i / 2 ^ (op.root - side_depth op.copied) ≡ side_pattern op.copied
        by_region i is = ap (λ d. i / 2 ^ (op.root - suc d)) (sym depth_is) ∙ is ∙ ap (λ p. 2 * p + 1) region_is
