-- The leaves say of each hash how deep the deepest live segment is that covers it: by one live segment more each time.
use Rattle.std.proofs.Common.{◌≡◌, ◌≢◌, ℕ, ◌+◌, ◌^◌, ◌<◌, ◌≤◌, sym, ap, subst, ◌∙◌, arith, ⊎_elim, List, length, get_or-set_same, get_or-set_other}
use Rattle.std.proofs.Math.ListN.{replicate}
use Rattle.std.specs.Prelude.{slice_index, slice_set}
use Rattle.std.proofs.lemmas.Bool.{cases_lt, cases_eq}
use Rattle.std.proofs.lemmas.List.{get_or-replicate, get_or_past, length-replicate}
use Rattle.hash_word.specs.Hash.{top, Covers, index_of}
use Rattle.sound_image.specs.Segments.{Frame, depth_at, pattern_at, IsLive, CoversHash, IsLiveFor}
use Rattle.segment_head.specs.declared.prefix.Prefix.{Prefix}
use Rattle.image_rules.specs.Divided.{IsPrefixOf}
use Rattle.image_rules.specs.Leaves.{AreRaised, IsDeepest, AreDeepest, HasPrefix, HasTwin, AreSeen}
use Rattle.image_rules.proofs.covered.Tops.{covered_under, under_covered, node-depth, node-pattern}

-- a list of zeros has its length, and 0 everywhere
pub zero_length : (leaves : List ℕ) (n : ℕ) → leaves ≡ replicate n 0 → length leaves ≡ n
zero_length leaves n is = ap length is ∙ length-replicate {A = ℕ} n 0

pub all_zero : (leaves : List ℕ) (n : ℕ) → leaves ≡ replicate n 0 → (l : ℕ) → slice_index leaves l ≡ 0
all_zero leaves n is l = ap (λ (xs : List ℕ). slice_index xs l) is ∙ zeros
  where
    zeros : slice_index (replicate n 0) l ≡ 0
    zeros =
        ⊎_elim (λ (within : l < n). get_or-replicate n l 0 0 within)
        (λ (past : n ≤ l).
        let short : length (replicate n 0) ≤ l = omega (arith, past, length-replicate {A = ℕ} n 0) in
        get_or_past (replicate n 0) l 0 short)
        (cases_lt l n)

module _ (frame : Frame) (greatest : ℕ) where
  -- NO SEGMENT yet
  pub none_deepest : (leaves : List ℕ) → ((l : ℕ) → slice_index leaves l ≡ 0) → AreDeepest frame greatest 0 leaves
  none_deepest leaves zero h fits =
      record { each = λ t less live. absurd (omega (arith, less)); some = λ more. absurd (omega (arith, more, zero (index_of greatest h))) }

  pub none_seen : (nodes : List ℕ) → ((l : ℕ) → slice_index nodes l ≡ 0) → AreSeen frame greatest 0 nodes
  none_seen nodes zero =
      record { each = λ t less live. absurd (omega (arith, less)); alone = λ d p most fits one. absurd (omega (arith, one, zero (2 ^ d + p))) }

  -- ONE SLOT MORE
  module _ (s : ℕ) where
    raised : (d p : ℕ) → HasPrefix frame s d p → HasPrefix frame (s + 1) d p
    raised d p has =
        record { t = has.t; below = omega (arith, has.below); live = has.live; same_depth = has.same_depth; same_pattern = has.same_pattern }

    -- without a live segment
    module _ (dead : IsLive frame s → ⊥) where
      below_dead : (t : ℕ) → t < s + 1 → IsLive frame t → t < s
      below_dead t less live =
          ⊎_elim (λ (earlier : t < s). earlier)
          (λ (last : s ≤ t). let same : t ≡ s = omega arith in absurd (dead (subst (IsLive frame) same live)))
          (cases_lt t s)

      pub dead_deepest : (leaves : List ℕ) → AreDeepest frame greatest s leaves → AreDeepest frame greatest (s + 1) leaves
      dead_deepest leaves are h fits =
          record { each = λ t less live. (are h fits).each t (below_dead t less live.live) live; some = (are h fits).some }

      pub dead_seen : (nodes : List ℕ) → AreSeen frame greatest s nodes → AreSeen frame greatest (s + 1) nodes
      dead_seen nodes are =
          record {
            each = λ t less live. are.each t (below_dead t less live) live;
            alone = λ d p most fits one. raised d p (are.alone d p most fits one);
          }

    -- with one that has the prefix of one before it
    module _ (slot : s < frame.segments) (has : HasTwin frame s) where
      twin_covers : (h : ℕ) → CoversHash frame s h → CoversHash frame has.t h
      twin_covers h covers =
          subst (λ (d : ℕ). Covers d (pattern_at frame has.t) h) (sym has.same_depth) (covers ∙ sym has.same_pattern)

      pub twin_deepest : (leaves : List ℕ) → AreDeepest frame greatest s leaves → AreDeepest frame greatest (s + 1) leaves
      twin_deepest leaves are h below =
          record {
            each = λ t less there.
                ⊎_elim (λ (earlier : t < s). (are h below).each t earlier there)
                (λ (last : s ≤ t).
                let same : t ≡ s = omega arith in
                let over : IsLiveFor frame h s = subst (IsLiveFor frame h) same there in
                let twin : IsLiveFor frame h has.t = record { slot = omega (arith, has.below, slot); live = has.live; covers = twin_covers h over.covers } in
                let above = (are h below).each has.t has.below twin in
                subst (λ (t : ℕ). depth_at frame t < slice_index leaves (index_of greatest h)) (sym same) (omega (arith, above, has.same_depth)))
                (cases_lt t s);
            some = (are h below).some;
          }

    -- with another one
    module _ (prefix : Prefix) (slot : s < frame.segments) (live : IsLive frame s) (is : IsPrefixOf frame s prefix) (most : greatest ≤ 16)
        (deep : prefix.depth ≤ greatest) (fits : prefix.pattern < 2 ^ prefix.depth) where
      node_is : 2 ^ prefix.depth + prefix.pattern ≡ 2 ^ depth_at frame s + pattern_at frame s
      node_is = ap (λ (n : ℕ). 2 ^ n + prefix.pattern) is.depth ∙ ap (λ (n : ℕ). 2 ^ depth_at frame s + n) is.pattern

      covers_prefix : (h : ℕ) → CoversHash frame s h → Covers prefix.depth prefix.pattern h
      covers_prefix h covers = subst (λ (d : ℕ). Covers d prefix.pattern h) (sym is.depth) (covers ∙ sym is.pattern)

      prefix_covers : (h : ℕ) → Covers prefix.depth prefix.pattern h → CoversHash frame s h
      prefix_covers h covers = subst (λ (d : ℕ). Covers d (pattern_at frame s) h) is.depth (covers ∙ is.pattern)

      module _ (nodes : List ℕ) (within : 2 ^ prefix.depth + prefix.pattern < length nodes) (are : AreSeen frame greatest s nodes) where
        abbrev after : List ℕ
        after = slice_set nodes (2 ^ prefix.depth + prefix.pattern) 1

        here : slice_index after (2 ^ prefix.depth + prefix.pattern) ≡ 1
        here = get_or-set_same nodes (2 ^ prefix.depth + prefix.pattern) 1 0 within

        elsewhere : (j : ℕ) → j ≢ 2 ^ prefix.depth + prefix.pattern → slice_index after j ≡ slice_index nodes j
        elsewhere j other = get_or-set_other nodes (2 ^ prefix.depth + prefix.pattern) j 1 0 other

        stays : (j : ℕ) → slice_index nodes j ≡ 1 → slice_index after j ≡ 1
        stays j one =
            ⊎_elim (λ (same : j ≡ 2 ^ prefix.depth + prefix.pattern). ap (slice_index after) same ∙ here)
            (λ (other : j ≢ 2 ^ prefix.depth + prefix.pattern). elsewhere j other ∙ one)
            (cases_eq j (2 ^ prefix.depth + prefix.pattern))

        seen_each : (t : ℕ) → t < s + 1 → IsLive frame t → slice_index after (2 ^ depth_at frame t + pattern_at frame t) ≡ 1
        seen_each t less there =
            ⊎_elim (λ (earlier : t < s). stays (2 ^ depth_at frame t + pattern_at frame t) (are.each t earlier there))
            (λ (last : s ≤ t).
            let same : s ≡ t = omega arith in
            subst (λ (t : ℕ). slice_index after (2 ^ depth_at frame t + pattern_at frame t) ≡ 1) same (ap (slice_index after) (sym node_is) ∙ here))
            (cases_lt t s)

        seen_alone : (d p : ℕ) → d ≤ greatest → p < 2 ^ d → slice_index after (2 ^ d + p) ≡ 1 → HasPrefix frame (s + 1) d p
        seen_alone d p at_most below one =
            ⊎_elim
            (λ (same : 2 ^ d + p ≡ 2 ^ prefix.depth + prefix.pattern).
            record {
              t = s;
              below = omega arith;
              live = live;
              same_depth = sym is.depth ∙ sym (node-depth d p prefix.depth prefix.pattern below fits same);
              same_pattern = sym is.pattern ∙ sym (node-pattern d p prefix.depth prefix.pattern below fits same);
            })
            (λ (other : 2 ^ d + p ≢ 2 ^ prefix.depth + prefix.pattern).
            raised d p (are.alone d p at_most below (sym (elsewhere (2 ^ d + p) other) ∙ one)))
            (cases_eq (2 ^ d + p) (2 ^ prefix.depth + prefix.pattern))

        pub live_seen : AreSeen frame greatest (s + 1) after
        live_seen = record { each = seen_each; alone = seen_alone }

        pub seen_twin : slice_index nodes (2 ^ prefix.depth + prefix.pattern) ≡ 1 → HasTwin frame s
        seen_twin one =
            let has = are.alone prefix.depth prefix.pattern deep fits one in
            record {
              t = has.t;
              below = has.below;
              live = has.live;
              same_depth = has.same_depth ∙ is.depth;
              same_pattern = has.same_pattern ∙ is.pattern;
            }

        pub twin_seen : HasTwin frame s → slice_index nodes (2 ^ prefix.depth + prefix.pattern) ≡ 1
        twin_seen has =
            ap (slice_index nodes) node_is
            ∙ ap (λ (n : ℕ). slice_index nodes (2 ^ n + pattern_at frame s)) (sym has.same_depth)
            ∙ ap (λ (n : ℕ). slice_index nodes (2 ^ depth_at frame has.t + n)) (sym has.same_pattern) ∙ are.each has.t has.below has.live

      -- which is the first of its prefix
      module _ (old new : List ℕ) (up : AreRaised greatest prefix (prefix.depth + 1) old new) (are : AreDeepest frame greatest s old) where
        module _ (h : ℕ) (below : h < 2 ^ 64) where
          abbrev leaf : ℕ
          leaf = index_of greatest h

          outside : (CoversHash frame s h → ⊥) → IsDeepest frame (s + 1) h (slice_index new leaf)
          outside other =
              let same : slice_index new leaf ≡ slice_index old leaf =
              up.others leaf (λ under. other (prefix_covers h (under_covered greatest prefix most deep h under))) in
              subst (IsDeepest frame (s + 1) h) (sym same)
              (record {
                each = λ t less there.
                    ⊎_elim (λ (earlier : t < s). (are h below).each t earlier there)
                    (λ (last : s ≤ t). let at : t ≡ s = omega arith in absurd (other (subst (λ (t : ℕ). CoversHash frame t h) at there.covers)))
                    (cases_lt t s);
                some = (are h below).some;
              })

          deeper : prefix.depth + 1 < slice_index old leaf → IsDeepest frame (s + 1) h (slice_index new leaf)
          deeper more =
              subst (IsDeepest frame (s + 1) h) (sym (up.higher leaf more))
              (record {
                each = λ t less there.
                    ⊎_elim (λ (earlier : t < s). (are h below).each t earlier there)
                    (λ (last : s ≤ t).
                    let at : t ≡ s = omega arith in
                    subst (λ (t : ℕ). depth_at frame t < slice_index old leaf) (sym at) (omega (arith, more, is.depth)))
                    (cases_lt t s);
                some = (are h below).some;
              })

          risen : CoversHash frame s h → slice_index old leaf ≤ prefix.depth + 1 → IsDeepest frame (s + 1) h (slice_index new leaf)
          risen covers low =
              subst (IsDeepest frame (s + 1) h) (sym (up.under leaf (covered_under greatest prefix most deep h (covers_prefix h covers)) low))
              (record {
                each = λ t less there.
                    ⊎_elim (λ (earlier : t < s). omega (arith, (are h below).each t earlier there, low))
                    (λ (last : s ≤ t).
                    let at : t ≡ s = omega arith in
                    subst (λ (t : ℕ). depth_at frame t < prefix.depth + 1) (sym at) (omega (arith, is.depth)))
                    (cases_lt t s);
                some = λ more. (s, record { slot = slot; live = live; covers = covers }, omega (arith, is.depth));
              })

        pub live_deepest : AreDeepest frame greatest (s + 1) new
        live_deepest h below =
            ⊎_elim (λ (covers : CoversHash frame s h).
            ⊎_elim (λ (more : prefix.depth + 1 < slice_index old (index_of greatest h)). deeper h below more)
            (λ (low : slice_index old (index_of greatest h) ≤ prefix.depth + 1). risen h below covers low)
            (cases_lt (prefix.depth + 1) (slice_index old (index_of greatest h))))
            (λ (other : CoversHash frame s h → ⊥). outside h below other)
            (cases_eq (top (depth_at frame s) h) (pattern_at frame s))
