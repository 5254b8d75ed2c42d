-- What the link of a stale segment and the slot that it names tell of whatever a cut may leave: that the segment has none of its 1-side, or all of it.
use Rattle.std.proofs.Common.{◌≡◌, ℕ, suc, ◌+◌, ◌*◌, ◌-◌, ◌/◌, ◌^◌, ◌<◌, ◌≤◌, Bool, true, false, eqb, List, inl, inr, refl, sym, ap, ◌∙◌, subst, arith}
use Rattle.std.specs.Prelude.{nat_lt, ◌&&◌}
use Rattle.std.proofs.lemmas.Bool.{eq-eqb, eqb-true, lt-ltb, ltb-true, and_parts, true≢false, and_from}
use Rattle.std.proofs.lemmas.Nat.{pow-add}
use Rattle.trace.specs.Events.{Words}
use Rattle.hash_word.specs.Hash.{top, first_hash_of, Covers}
use Rattle.segment_head.specs.HeadWord.{state_in, depth_in, pattern_in, is_live, HasLiveState}
use Rattle.segment_head.specs.Prefixes.{one_side_down_to}
use Rattle.segment_head.proofs.Headers.{live_test, live_by_test}
use Rattle.sound_image.specs.Segments.{frame_of, depth_at, pattern_at, IsReadySide, HasReadySide}
use Rattle.frame_facts.proofs.frames.Regions.{fewer}
use Rattle.frame_facts.proofs.frames.SoundFrames.{live_low}
use Rattle.frame_facts.specs.Owners.{IsStructure}
use Rattle.frame_facts.proofs.segments.Cores.{core_structure}
use Rattle.frame_facts.specs.Facts.{Fact, Begins, Owns, Lacks, IsLiveSlot}
use Rattle.frame_facts.proofs.Told.{unready_claims, ready_lacks}
use Rattle.world.specs.Ground.{Ground}
use Rattle.world.specs.Views.{View, Has, At, IsLoose}
use Rattle.world.specs.Media.{IsPossible}
use Rattle.world.specs.Invariant.{Holds}
use Rattle.world.specs.areas.Areas.{Stale, Side, header_word, link_word}
use Rattle.world.specs.areas.Fitting.{HoldsWord}
use Rattle.world.specs.areas.Ready.{IsGuardedFirm}
use Rattle.world.specs.areas.Saying.{IsSaid}
use Rattle.world.specs.areas.Kinds.{finds_link, finds_side, is_ready_side, told_by_side, told_by_link}
use Rattle.world.specs.areas.Asking.{IsStaleSplit, MayAt}
use Rattle.world.proofs.basics.Structures.{header_is, link_is}
use Rattle.world.proofs.fitting.OneHolder.{head_in_slot, link_in_slot}
use Rattle.world.proofs.fitting.lasting.Readying.{ready_everywhere, ready_nowhere}
use Rattle.world.proofs.moving.Known.{grounds, possible_now, own_leaves}

-- ---- the test of a ready side
-- a header is that of a ready side of a segment of this depth and pattern
record IsReadyHead (depth pattern head : ℕ) : Type 0 where
  live : HasLiveState head
  deeper : depth < depth_in head
  zeros : pattern_in head ≡ one_side_down_to (depth_in head) depth pattern

ready_by_test : (depth pattern head : ℕ) → is_ready_side depth pattern head ≡ true → IsReadyHead depth pattern head
ready_by_test depth pattern head e =
    let a = and_parts (is_live head) (nat_lt depth (depth_in head) && eqb (pattern_in head) (one_side_down_to (depth_in head) depth pattern)) e in
    let b = and_parts (nat_lt depth (depth_in head)) (eqb (pattern_in head) (one_side_down_to (depth_in head) depth pattern)) a.1 in record {
      live = live_by_test head a.0;
      deeper = ltb-true depth (depth_in head) b.0;
      zeros = eqb-true (pattern_in head) (one_side_down_to (depth_in head) depth pattern) b.1;
    }

test_of_ready : (depth pattern head : ℕ) → IsReadyHead depth pattern head → is_ready_side depth pattern head ≡ true
test_of_ready depth pattern head r = and_from (is_live head) _ (live_test head r.live)
    (and_from (nat_lt depth (depth_in head)) _ (lt-ltb depth (depth_in head) r.deeper) (eq-eqb (pattern_in head) (one_side_down_to (depth_in head) depth pattern) r.zeros))

-- ---- the first hash of a ready side
powers : (w d e : ℕ) → d < e → e ≤ 64 → w * 2 ^ (e - d - 1) * 2 ^ (64 - e) ≡ w * 2 ^ (64 - suc d)
powers w d e less most =
    let places : e - d - 1 + (64 - e) ≡ 64 - suc d = omega arith in
    sym (product w (2 ^ (e - d - 1)) (2 ^ (64 - e))) ∙ ap (λ n. w * n) (sym (pow-add 2 (e - d - 1) (64 - e))) ∙ ap (λ n. w * 2 ^ n) places
  where
    product : (a b c : ℕ) → a * (b * c) ≡ a * b * c
    product a b c = grind arith

one_more : (d : ℕ) → d + 1 ≡ suc d
one_more d = omega arith

-- an odd pattern is that of a 1-side
halved : (q : ℕ) → (2 * q + 1) / 2 ^ 1 ≡ q
halved q = omega arith

module _ (site : Ground) (words : Words) (views : List View) (j : ℕ) (v : View) (h : Holds site words views) (at : At views j v) where
  -- a word of the structure that the view holds and has not loose is the newest in whatever a cut may leave
  firm_there : (i : ℕ) → IsStructure site.shape i → HoldsWord site.shape v i → ((y : ℕ) → IsLoose v (i, y) → ⊥) → (m : Words) → IsPossible site words views m → m i ≡ words i
  firm_there i is holds firm m p = elim (own_leaves site words views h j v at m p i holds) [
    | inl e ↦ sym (core_structure site.shape i (m i) is) ∙ e ∙ core_structure site.shape i (words i) is
    | inr e ↦ absurd (firm e.0 e.1)
  ]

  module _ (p d q : ℕ) (k : IsStaleSplit site v p d q) (firm : (y : ℕ) → IsLoose v (link_word site.shape p, y) → ⊥) where
    slot : p < site.shape.segments
    slot = (h.structure.fits.segment j v p at (h.structure.fits.stale j v p at k.stale).0 words (possible_now site words views h)).slot

    guarded : IsGuardedFirm site words views j v p
    guarded = record {
      grounds = grounds site words views h;
      fits = h.structure.fits;
      sound = λ m pos. (h.structure.sound m pos).sound;
      lasting = h.structure.lasting;
      at = at;
      guarded = (h.structure.fits.stale j v p at k.stale).0;
      head = firm_there (header_word site.shape p) (header_is site.shape p slot) (inr (Stale p, k.stale, head_in_slot site.shape p)) k.knows.firm;
      link = firm_there (link_word site.shape p) (link_is site.shape p slot) (inr (Stale p, k.stale, link_in_slot site.shape p)) firm;
    }

    head_now : words (header_word site.shape p) ≡ k.head
    head_now = (h.known.knows j v (header_word site.shape p) k.head at k.knows.known).0

    head_there : (m : Words) → IsPossible site words views m → m (header_word site.shape p) ≡ k.head
    head_there m pos = guarded.head m pos ∙ head_now

    depth_there : (m : Words) → IsPossible site words views m → depth_at (frame_of site.shape m) p ≡ d
    depth_there m pos = ap depth_in (head_there m pos) ∙ k.depth_is

    pattern_there : (m : Words) → IsPossible site words views m → pattern_at (frame_of site.shape m) p ≡ q
    pattern_there m pos = ap pattern_in (head_there m pos) ∙ k.pattern_is

    low : (m : Words) → IsPossible site words views m → depth_at (frame_of site.shape m) p ≤ 16
    low m pos = live_low site.shape.depth h.site_is.shape.depth (frame_of site.shape m) (h.structure.sound m pos).sound p slot (inr (ap state_in (head_there m pos) ∙ k.splits))

    -- WITHOUT A READY SIDE it has all of its 1-side
    owns_said : (HasReadySide (frame_of site.shape words) p → ⊥) → IsSaid site words views (Owns p (suc d) (2 * q + 1))
    owns_said none m pos hash fits covers =
        let f = frame_of site.shape m in
        let small : d + 1 ≤ 64 = (let l = low m pos in let e = depth_there m pos in omega (arith, l, e)) in
        let whole : Covers (depth_at f p) (pattern_at f p) hash =
        ap (λ z. top z hash) (depth_there m pos) ∙ fewer d 1 hash small ∙ ap (λ z. top z hash / 2 ^ 1) (one_more d) ∙ ap (λ z. z / 2 ^ 1) covers ∙ halved q ∙ sym (pattern_there m pos) in
        unready_claims f p (record { slot = slot; live = inr (ap state_in (head_there m pos) ∙ k.splits) })
        (ready_nowhere site words views j v p guarded none m pos) hash fits whole

    -- WITH ONE, which is so in whatever a cut may leave, it has none of it, and that begins where the 1-side does
    module _ (n : ℕ) (none : Has (Side n) v.areas → ⊥) (ready : IsReadySide (frame_of site.shape words) p n) where
      ready_there : (m : Words) → IsPossible site words views m → IsReadySide (frame_of site.shape m) p n
      ready_there = ready_everywhere site words views j v p n guarded none ready

      lacks_said : IsSaid site words views (Lacks p (suc d) (2 * q + 1))
      lacks_said m pos =
          let f = frame_of site.shape m in
          let live : IsLiveSlot f p = record { slot = slot; live = inr (ap state_in (head_there m pos) ∙ k.splits) } in (
            live,
            λ hash fits covers. ready_lacks f p live (n, ready_there m pos) hash fits
                (ap (λ z. top z hash) (ap (λ z. z + 1) (depth_there m pos) ∙ one_more d) ∙ covers ∙ ap (λ z. 2 * z + 1) (sym (pattern_there m pos))),
          )

      begins_said : IsSaid site words views (Begins n (first_hash_of (suc d) (2 * q + 1)))
      begins_said m pos =
          let f = frame_of site.shape m in
          let r = ready_there m pos in
          let small : depth_at f n ≤ 64 = (let l = live_low site.shape.depth h.site_is.shape.depth f (h.structure.sound m pos).sound n r.slot r.live in omega (arith, l)) in (
            record { slot = r.slot; live = r.live },
            ap (λ z. z * 2 ^ (64 - depth_at f n)) r.zeros ∙ powers (2 * pattern_at f p + 1) (depth_at f p) (depth_at f n) r.deeper small
                ∙ ap (λ z. (2 * z + 1) * 2 ^ (64 - suc (depth_at f p))) (pattern_there m pos) ∙ ap (λ z. (2 * q + 1) * 2 ^ (64 - suc z)) (depth_there m pos),
          )

    -- the linked slot has a ready side by the test, or nothing is one
    module _ (n : ℕ) (linked : words (link_word site.shape p) ≡ suc n) where
      ready_now : n < site.shape.segments → is_ready_side d q (words (header_word site.shape n)) ≡ true → IsReadySide (frame_of site.shape words) p n
      ready_now near e =
          let head = words (header_word site.shape n) in
          let r = ready_by_test d q head e in
          let depth_is : depth_at (frame_of site.shape words) p ≡ d = ap depth_in head_now ∙ k.depth_is in
          let pattern_is : pattern_at (frame_of site.shape words) p ≡ q = ap pattern_in head_now ∙ k.pattern_is in
          record {
            splits = ap state_in head_now ∙ k.splits;
            named = linked;
            slot = near;
            live = r.live;
            deeper = subst (λ z. z < depth_in head) (sym depth_is) r.deeper;
            zeros = r.zeros ∙ ap (λ z. one_side_down_to (depth_in head) d z) (sym pattern_is)
                ∙ ap (λ z. one_side_down_to (depth_in head) z (pattern_at (frame_of site.shape words) p)) (sym depth_is);
          }

      unready_now : is_ready_side d q (words (header_word site.shape n)) ≡ false → HasReadySide (frame_of site.shape words) p → ⊥
      unready_now e r = true≢false (sym (test_of_ready d q (words (header_word site.shape n)) by_side) ∙ e)
        where
          same : r.0 ≡ n
          same = (let a = r.1.named in omega (arith, a, linked))

          side : IsReadySide (frame_of site.shape words) p n
          side = subst (IsReadySide (frame_of site.shape words) p) same r.1

          by_side : IsReadyHead d q (words (header_word site.shape n))
          by_side =
              let head = words (header_word site.shape n) in
              let depth_is : depth_at (frame_of site.shape words) p ≡ d = ap depth_in head_now ∙ k.depth_is in
              let pattern_is : pattern_at (frame_of site.shape words) p ≡ q = ap pattern_in head_now ∙ k.pattern_is in
              record {
                live = side.live;
                deeper = subst (λ z. z < depth_in head) depth_is side.deeper;
                zeros = side.zeros ∙ ap (λ z. one_side_down_to (depth_in head) (depth_at (frame_of site.shape words) p) z) pattern_is
                    ∙ ap (λ z. one_side_down_to (depth_in head) z q) depth_is;
              }

  -- WHAT THE LINKED SLOT TELLS
  pub side_said : (p n d q : ℕ) → MayAt site (finds_side p n d q) v → (fact : Fact) → Has fact (told_by_side (is_ready_side d q (words (header_word site.shape n))) p n d q) → IsSaid site words views fact
  side_said p n d q may fact = by (is_ready_side d q (words (header_word site.shape n))) refl
    where
      linked : words (link_word site.shape p) ≡ suc n
      linked = (h.known.knows j v (link_word site.shape p) (suc n) at may.1.known).0

      by : (t : Bool) → is_ready_side d q (words (header_word site.shape n)) ≡ t → Has fact (told_by_side t p n d q) → IsSaid site words views fact
      by true e has = let r = ready_now p d q may.0 may.1.firm n linked may.2 e in elim has [
        | inl is ↦ subst (IsSaid site words views) (sym is) (begins_said p d q may.0 may.1.firm n (may.3 n) r)
        | inr rest ↦ elim rest [ inl is ↦ subst (IsSaid site words views) (sym is) (lacks_said p d q may.0 may.1.firm n (may.3 n) r) | inr more ↦ absurd more ]
      ]
      by false e has = elim has [
        | inl is ↦ subst (IsSaid site words views) (sym is) (owns_said p d q may.0 may.1.firm (unready_now p d q may.0 may.1.firm n linked e))
        | inr more ↦ absurd more
      ]

  -- AND A LINK, where it names no slot
  pub link_said : (p d q : ℕ) → MayAt site (finds_link p d q) v → (fact : Fact) → Has fact (told_by_link (eqb (words (link_word site.shape p)) 0) p d q) → IsSaid site words views fact
  link_said p d q may fact = by (eqb (words (link_word site.shape p)) 0) refl
    where
      unlinked : words (link_word site.shape p) ≡ 0 → HasReadySide (frame_of site.shape words) p → ⊥
      unlinked e r = (let a = r.1.named in omega (arith, a, e))

      by : (t : Bool) → eqb (words (link_word site.shape p)) 0 ≡ t → Has fact (told_by_link t p d q) → IsSaid site words views fact
      by true e has = elim has [
        | inl is ↦ subst (IsSaid site words views) (sym is) (owns_said p d q may.0 may.1 (unlinked (eqb-true (words (link_word site.shape p)) 0 e)))
        | inr more ↦ absurd more
      ]
      by false e has = absurd has
