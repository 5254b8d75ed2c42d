-- Rule 2 by the leaves: a segment owns its part exactly where the leaves of that part have its depth, and entries have
-- owners exactly where no leaf is bare.
use Rattle.std.proofs.Common.{◌≡◌, ◌≢◌, ℕ, ◌+◌, ◌-◌, ◌*◌, ◌/◌, ◌^◌, ◌<◌, ◌≤◌, ◌⊎◌, refl, sym, ap, subst, ◌∙◌, arith, inl, inr, ⊎_elim, List}
use Rattle.std.specs.Prelude.{slice_index}
use Rattle.std.proofs.lemmas.Bool.{cases_lt, cases_eq}
use Rattle.std.proofs.lemmas.Nat.{pow_pos, pow-add, le-div}
use Rattle.std.proofs.Math.Nat.{div-mul-le_self, div-lt_iff_lt-mul}
use Rattle.image_layout.specs.Places.{Shape, entry_at, head_at}
use Rattle.image_layout.proofs.Areas.{entry_before}
use Rattle.hash_word.specs.Hash.{top, Covers, index_of}
use Rattle.sound_image.specs.Segments.{ImageWords, Frame, frame_of, depth_at, pattern_at, IsLive, CoversHash, IsLiveFor, Owns, InOneSide, HasReadySide}
use Rattle.sound_image.specs.Directory.{HasOwners, OwnsItsPart, SharesWell}
use Rattle.sound_image.specs.Rules.{HashesAreOwned}
use Rattle.segment_head.specs.declared.prefix.Prefix.{Prefix}
use Rattle.image_rules.specs.Breach.{IsLeast}
use Rattle.image_rules.specs.Divided.{IsNumbered, IsPrefixOf}
use Rattle.image_rules.specs.Leaves.{IsLeafUnder, AreDeepest, HasTwin, ShareWellBelow, IsFirstAtFault}
use Rattle.image_rules.proofs.covered.Tops.{top_of_top, one_fewer, covered_under, under_covered, under_below, leaf_hash, leaf_hash-index, leaf_hash-fits, index-below}

module _ (frame : Frame) (greatest : ℕ) (most : greatest ≤ 16) (leaves : List ℕ) (are : AreDeepest frame greatest frame.segments leaves) where
  -- AN OWNER is as deep as the leaf says
  from_owns : (s h : ℕ) → h < 2 ^ 64 → Owns frame s h → slice_index leaves (index_of greatest h) ≡ depth_at frame s + 1
  from_owns s h fits owns =
      let above = (are h fits).each s owns.own.slot owns.own in
      let deep = (are h fits).some (omega (arith, above)) in
      let level = owns.deepest deep.0 deep.1 in
      omega (arith, above, deep.2, level)

  owns_from : (s h : ℕ) → h < 2 ^ 64 → IsLiveFor frame h s → slice_index leaves (index_of greatest h) ≡ depth_at frame s + 1 → Owns frame s h
  owns_from s h fits over is =
      record { own = over; deepest = λ t other. omega (arith, is, (are h fits).each t other.slot other) }

  -- the leaves under a prefix, by hashes
  at_leaf : (l : ℕ) (P : ℕ → Type 0) → P l → P (index_of greatest (leaf_hash greatest l))
  at_leaf l P p = subst P (sym (leaf_hash-index greatest l)) p

  module _ (s : ℕ) (prefix : Prefix) (slot : s < frame.segments) (live : IsLive frame s) (is : IsPrefixOf frame s prefix) (deep : prefix.depth ≤ greatest)
      (small : prefix.pattern < 2 ^ prefix.depth) where
    covers_prefix : (h : ℕ) → CoversHash frame s h → Covers prefix.depth prefix.pattern h
    covers_prefix h covers = subst (λ (d : ℕ). Covers d prefix.pattern h) (sym is.depth) (covers ∙ sym is.pattern)

    prefix_covers : (h : ℕ) → Covers prefix.depth prefix.pattern h → CoversHash frame s h
    prefix_covers h covers = subst (λ (d : ℕ). Covers d (pattern_at frame s) h) is.depth (covers ∙ is.pattern)

    -- a longer prefix, below the segment's
    module _ (longer : Prefix) (further : longer.depth ≤ greatest) (fits : longer.pattern < 2 ^ longer.depth) where
      pub owned_under : ((h : ℕ) → h < 2 ^ 64 → Covers longer.depth longer.pattern h → Owns frame s h)
          → (l : ℕ) → IsLeafUnder greatest longer l → slice_index leaves l ≡ prefix.depth + 1
      owned_under owned l under =
          let below = under_below greatest longer most further l fits under in
          let hash_fits = leaf_hash-fits greatest l (omega arith) below in
          let covers = under_covered greatest longer most further (leaf_hash greatest l) (at_leaf l (IsLeafUnder greatest longer) under) in
          let here = from_owns s (leaf_hash greatest l) hash_fits (owned (leaf_hash greatest l) hash_fits covers) in
          ap (slice_index leaves) (sym (leaf_hash-index greatest l)) ∙ here ∙ ap (λ (n : ℕ). n + 1) (sym is.depth)

      pub under_owned : ((l : ℕ) → IsLeafUnder greatest longer l → slice_index leaves l ≡ prefix.depth + 1)
          → (h : ℕ) → h < 2 ^ 64 → Covers longer.depth longer.pattern h → CoversHash frame s h → Owns frame s h
      under_owned each h hash_fits covers over =
          owns_from s h hash_fits (record { slot = slot; live = live; covers = over })
          (each (index_of greatest h) (covered_under greatest longer most further h covers) ∙ ap (λ (n : ℕ). n + 1) is.depth)

      pub left_under : ((h : ℕ) → h < 2 ^ 64 → Covers longer.depth longer.pattern h → CoversHash frame s h × (Owns frame s h → ⊥))
          → (l : ℕ) → IsLeafUnder greatest longer l → slice_index leaves l ≢ prefix.depth + 1
      left_under left l under same =
          let below = under_below greatest longer most further l fits under in
          let hash_fits = leaf_hash-fits greatest l (omega arith) below in
          let covers = under_covered greatest longer most further (leaf_hash greatest l) (at_leaf l (IsLeafUnder greatest longer) under) in
          let other = left (leaf_hash greatest l) hash_fits covers in
          other.1 (owns_from s (leaf_hash greatest l) hash_fits (record { slot = slot; live = live; covers = other.0 })
          (ap (slice_index leaves) (leaf_hash-index greatest l) ∙ same ∙ ap (λ (n : ℕ). n + 1) is.depth))

      pub under_left : ((l : ℕ) → IsLeafUnder greatest longer l → slice_index leaves l ≢ prefix.depth + 1)
          → (h : ℕ) → h < 2 ^ 64 → Covers longer.depth longer.pattern h → Owns frame s h → ⊥
      under_left none h hash_fits covers owns =
          none (index_of greatest h) (covered_under greatest longer most further h covers)
          (from_owns s h hash_fits owns ∙ ap (λ (n : ℕ). n + 1) (sym is.depth))

    -- WITHOUT A READY SIDE
    pub whole-part : (HasReadySide frame s → ⊥) → ((l : ℕ) → IsLeafUnder greatest prefix l → slice_index leaves l ≡ prefix.depth + 1) → OwnsItsPart frame s
    whole-part unready each =
        record {
          owns_or_splits_off = λ h fits covers. inl (under_owned prefix deep small each h fits (covers_prefix h covers) covers);
          gave_away = λ ready. absurd (unready ready);
        }

    pub part-whole : (HasReadySide frame s → ⊥) → OwnsItsPart frame s → (l : ℕ) → IsLeafUnder greatest prefix l → slice_index leaves l ≡ prefix.depth + 1
    part-whole unready part =
        owned_under prefix deep small (λ h fits covers. own h (part.owns_or_splits_off h fits (prefix_covers h covers)))
      where
        own : (h : ℕ) → Owns frame s h ⊎ (HasReadySide frame s × InOneSide frame s h) → Owns frame s h
        own h (inl owns) = owns
        own h (inr gives) = absurd (unready gives.0)

    -- WITH ONE
    module _ (ready : HasReadySide frame s) (zeros ones : Prefix) (zeros_depth : zeros.depth ≡ prefix.depth + 1)
        (zeros_pattern : zeros.pattern ≡ 2 * prefix.pattern)
        (ones_depth : ones.depth ≡ prefix.depth + 1) (ones_pattern : ones.pattern ≡ 2 * prefix.pattern + 1) (further : prefix.depth + 1 ≤ greatest)
        (zeros_fit : zeros.pattern < 2 ^ zeros.depth) (ones_fit : ones.pattern < 2 ^ ones.depth) where
      -- the bit that follows
      shorter : (h : ℕ) → top (prefix.depth + 1) h / 2 ≡ prefix.pattern → CoversHash frame s h
      shorter h is_half = prefix_covers h (one_fewer prefix.depth h (omega arith) ∙ is_half)

      zeros_there : (h : ℕ) → Covers zeros.depth zeros.pattern h → top (prefix.depth + 1) h ≡ 2 * prefix.pattern
      zeros_there h covers = ap (λ (d : ℕ). top d h) (sym zeros_depth) ∙ covers ∙ zeros_pattern

      ones_there : (h : ℕ) → Covers ones.depth ones.pattern h → top (prefix.depth + 1) h ≡ 2 * prefix.pattern + 1
      ones_there h covers = ap (λ (d : ℕ). top d h) (sym ones_depth) ∙ covers ∙ ones_pattern

      one_side : (h : ℕ) → top (prefix.depth + 1) h ≡ 2 * prefix.pattern + 1 → InOneSide frame s h
      one_side h is_one =
          ap (λ (d : ℕ). top (d + 1) h) (sym is.depth) ∙ is_one ∙ ap (λ (p : ℕ). 2 * p + 1) is.pattern

      side_one : (h : ℕ) → InOneSide frame s h → top (prefix.depth + 1) h ≡ 2 * prefix.pattern + 1
      side_one h side =
          ap (λ (d : ℕ). top (d + 1) h) is.depth ∙ side ∙ ap (λ (p : ℕ). 2 * p + 1) (sym is.pattern)

      ones_cover : (h : ℕ) → top (prefix.depth + 1) h ≡ 2 * prefix.pattern + 1 → Covers ones.depth ones.pattern h
      ones_cover h is_one = ap (λ (d : ℕ). top d h) ones_depth ∙ is_one ∙ sym ones_pattern

      zeros_cover : (h : ℕ) → top (prefix.depth + 1) h ≡ 2 * prefix.pattern → Covers zeros.depth zeros.pattern h
      zeros_cover h is_zero = ap (λ (d : ℕ). top d h) zeros_depth ∙ is_zero ∙ sym zeros_pattern

      next : (h : ℕ) → CoversHash frame s h → (top (prefix.depth + 1) h ≡ 2 * prefix.pattern) ⊎ (top (prefix.depth + 1) h ≡ 2 * prefix.pattern + 1)
      next h covers =
          let half : top (prefix.depth + 1) h / 2 ≡ prefix.pattern = sym (one_fewer prefix.depth h (omega arith)) ∙ covers_prefix h covers in
          ⊎_elim (λ (even : top (prefix.depth + 1) h ≡ 2 * prefix.pattern). inl even)
          (λ (odd : top (prefix.depth + 1) h ≢ 2 * prefix.pattern). inr (omega (arith, half, odd)))
          (cases_eq (top (prefix.depth + 1) h) (2 * prefix.pattern))

      pub sides-part : ((l : ℕ) → IsLeafUnder greatest zeros l → slice_index leaves l ≡ prefix.depth + 1)
          → ((l : ℕ) → IsLeafUnder greatest ones l → slice_index leaves l ≢ prefix.depth + 1) → OwnsItsPart frame s
      sides-part each none =
          record {
            owns_or_splits_off = λ h fits covers.
                ⊎_elim
                (λ (even : top (prefix.depth + 1) h ≡ 2 * prefix.pattern).
                inl (under_owned zeros (omega arith) zeros_fit each h fits (zeros_cover h even) covers))
                (λ (odd : top (prefix.depth + 1) h ≡ 2 * prefix.pattern + 1). inr (ready, one_side h odd))
                (next h covers);
            gave_away = λ _ h fits side owns. under_left ones (omega arith) ones_fit none h fits (ones_cover h (side_one h side)) owns;
          }

      pub part-zeros : OwnsItsPart frame s → (l : ℕ) → IsLeafUnder greatest zeros l → slice_index leaves l ≡ prefix.depth + 1
      part-zeros part =
          owned_under zeros (omega arith) zeros_fit
          (λ h fits covers. own h (zeros_there h covers) (part.owns_or_splits_off h fits (shorter h (omega (arith, zeros_there h covers)))))
        where
          own : (h : ℕ) → top (prefix.depth + 1) h ≡ 2 * prefix.pattern → Owns frame s h ⊎ (HasReadySide frame s × InOneSide frame s h) → Owns frame s h
          own h even (inl owns) = owns
          own h even (inr gives) = absurd (omega (arith, even, side_one h gives.1))

      pub part-ones : OwnsItsPart frame s → (l : ℕ) → IsLeafUnder greatest ones l → slice_index leaves l ≢ prefix.depth + 1
      part-ones part =
          left_under ones (omega arith) ones_fit
          (λ h fits covers. (
            shorter h (omega (arith, ones_there h covers)),
            (λ owns. part.gave_away ready h fits (one_side h (ones_there h covers)) owns),
          ))

  -- ENTRIES have owners where no leaf is bare
  owner_there : (h : ℕ) → h < 2 ^ 64 → slice_index leaves (index_of greatest h) ≢ 0 → (s : ℕ) × IsLiveFor frame h s
  owner_there h fits some = let deep = (are h fits).some (omega (arith, some)) in (deep.0, deep.1)

  module _ (shallow : frame.root ≤ greatest) where
    entry_of : (h : ℕ) → index_of frame.root h ≡ index_of greatest h / 2 ^ (greatest - frame.root)
    entry_of h = top_of_top frame.root greatest h shallow (omega arith)

    pub all_owned : ((l : ℕ) → l < 2 ^ greatest → slice_index leaves l ≢ 0) → (i : ℕ) → HasOwners frame i
    all_owned none i h fits at = owner_there h fits (none (index_of greatest h) (index-below greatest h (omega arith) fits))

    pub owned_before : (l : ℕ) → ((k : ℕ) → k < l → slice_index leaves k ≢ 0) → (i : ℕ) → i < l / 2 ^ (greatest - frame.root) → HasOwners frame i
    owned_before l none i less h fits at =
        owner_there h fits
        (⊎_elim (λ (lower : index_of greatest h < l). none (index_of greatest h) lower)
        (λ (higher : l ≤ index_of greatest h).
        let order : l / 2 ^ (greatest - frame.root) ≤ index_of greatest h / 2 ^ (greatest - frame.root) =
        le-div (l / 2 ^ (greatest - frame.root)) (index_of greatest h) (2 ^ (greatest - frame.root)) (pow_pos (greatest - frame.root))
        (omega (arith, higher, div-mul-le_self l (2 ^ (greatest - frame.root)))) in
        absurd (omega (arith, order, entry_of h, at, less)))
        (cases_lt (index_of greatest h) l))

    pub bare_unowned : (l : ℕ) → l < 2 ^ greatest → slice_index leaves l ≡ 0 → HasOwners frame (l / 2 ^ (greatest - frame.root)) → ⊥
    bare_unowned l below bare owners =
        let fits = leaf_hash-fits greatest l (omega arith) below in
        let at : index_of frame.root (leaf_hash greatest l) ≡ l / 2 ^ (greatest - frame.root) =
        entry_of (leaf_hash greatest l) ∙ ap (λ (n : ℕ). n / 2 ^ (greatest - frame.root)) (leaf_hash-index greatest l) in
        let owner = owners (leaf_hash greatest l) fits at in
        let above = (are (leaf_hash greatest l) fits).each owner.0 owner.1.slot owner.1 in
        let none : slice_index leaves (index_of greatest (leaf_hash greatest l)) ≡ 0 = ap (slice_index leaves) (leaf_hash-index greatest l) ∙ bare in
        absurd (omega (arith, above, none))

-- A SEGMENT among the others
module _ (frame : Frame) (s : ℕ) where
  pub apart-SharesWell : (HasTwin frame s → ⊥) → depth_at frame s ≤ frame.root → OwnsItsPart frame s → SharesWell frame s
  apart-SharesWell first not_deep part =
      record {
        not_deep = not_deep;
        alone = λ t less live depth pattern. first (record { t = t; below = less; live = live; same_depth = depth; same_pattern = pattern });
        part = part;
      }

  pub SharesWell-first : SharesWell frame s → HasTwin frame s → ⊥
  SharesWell-first shares twin = shares.alone twin.t twin.below twin.live twin.same_depth twin.same_pattern

-- THE LEAST WORD of rule 2
module _ (shape : Shape) (word : ImageWords) (i : IsNumbered shape word) where
  pub root_fits : word 8 ≤ shape.depth
  root_fits = (i.numbers_fit 8).root refl

  pub entry_below : (greatest : ℕ) → greatest ≡ shape.depth → (l : ℕ) → l < 2 ^ shape.depth → l / 2 ^ (greatest - word 8) < 2 ^ word 8
  entry_below greatest is l below =
      let parts : shape.depth ≡ word 8 + (greatest - word 8) = omega (arith, root_fits, is) in
      let whole : 2 ^ shape.depth ≡ 2 ^ word 8 * 2 ^ (greatest - word 8) = ap (λ (n : ℕ). 2 ^ n) parts ∙ pow-add 2 (word 8) (greatest - word 8) in
      (div-lt_iff_lt-mul (pow_pos (greatest - word 8))).1 (omega (arith, below, whole))

  entry_first : (e s : ℕ) → e < 2 ^ word 8 → entry_at (word 8) e < head_at shape s + 1
  entry_first e s below = omega (arith, entry_before shape (word 8) e root_fits below)

  pub entry_breaks : (e : ℕ) → e < 2 ^ word 8 → (HasOwners (frame_of shape word) e → ⊥) → ((k : ℕ) → k < e → HasOwners (frame_of shape word) k)
      → IsLeast (HashesAreOwned shape word) (entry_at (word 8) e)
  entry_breaks e below none before =
      record {
        broken = λ owned. none (owned.entry e below refl);
        words_before = λ v less. record {
          entry = λ k fits at. before k (omega (arith, less, at));
          head = λ s slot at. absurd (omega (arith, less, at, entry_first e s below));
        };
      }

  pub segment_breaks : (s : ℕ) → ((e : ℕ) → HasOwners (frame_of shape word) e) → IsFirstAtFault (frame_of shape word) s
      → IsLeast (HashesAreOwned shape word) (head_at shape s + 1)
  segment_breaks s all fault =
      record {
        broken = λ owned. fault.broken (owned.head s fault.slot refl fault.live);
        words_before = λ v less. record {
          entry = λ k fits at. all k;
          head = λ t slot at live. fault.before t (omega (arith, less, at)) live;
        };
      }

  pub none_breaks : ((e : ℕ) → HasOwners (frame_of shape word) e) → ShareWellBelow (frame_of shape word) shape.segments → (w : ℕ) → HashesAreOwned shape word w
  none_breaks all shares w = record { entry = λ k fits at. all k; head = λ t slot at live. shares t slot live }
