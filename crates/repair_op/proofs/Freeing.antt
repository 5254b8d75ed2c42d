-- The new side becomes free, under the guard of free slots, which is given back.
use Rattle.std.proofs.Common.{◌≡◌, ◌≢◌, ℕ, suc, ◌+◌, ◌*◌, true, false, cond, List, [], ◌∷◌, inl, inr, ◌⊎◌, refl, sym, ap, ◌∙◌, subst, arith}
use Rattle.std.specs.Prelude.{◌==◌, not, if◌then◌else◌}
use Rattle.std.proofs.lemmas.Bool.{eq-eqb, ne_eqb, eqb-true, and_parts, both_ways}
use Rattle.trace.specs.Events.{Words, line_of}
use Rattle.segment_head.specs.HeadWord.{version_in, state_in, depth_in, pattern_in, free, fresh, HasLiveState}
use Rattle.way.specs.Ways.{head_word}
use Rattle.map_model.specs.declared.call.Call.{Call}
use Rattle.frame_facts.specs.Facts.{Fact}
use Rattle.frame_facts.specs.DeadSlots.{IsInSlot}
use Rattle.world.specs.declared.site.Site.{Site}
use Rattle.world.specs.Ground.{Ground, IsGround}
use Rattle.world.specs.Views.{View, Has}
use Rattle.world.specs.Kinds.{flushes, view_after}
use Rattle.world.specs.Holders.{KnowsWord}
use Rattle.world.specs.areas.Areas.{Area, Segment, Stale, Side, Free as FreeSlot, Allocation, header_word, all_but, is_side_at, is_of_allocation}
use Rattle.world.specs.areas.Rows.{frees}
use Rattle.world.specs.areas.Kinds.{of_free_slots, takes_for_side, with_guard_for, is_new_side, is_taken, is_taken_at, known_without, out_of_slot, moves, settles, gives, view_then}
use Rattle.world.specs.areas.Asking.{MayAt}
use Rattle.world.specs.areas.Splitting.{IsHeader}
use Rattle.world.specs.areas.Repairing.{HasStale}
use Rattle.world.proofs.basics.Seats.{without_has, without_stays}
use Rattle.world.proofs.fitting.Filtered.{has_filtered}
use Rattle.world.proofs.fitting.Rows.{but_before, but_after}
use Rattle.world.proofs.moving.Holding.{out_of_slot_has}
use Rattle.world.proofs.holders.repairing.TakingBack.{may_take_back}
use Rattle.rounds.specs.Stands.{IsSettled}
use Rattle.rounds.proofs.Settling.{settled_firm}
use Rattle.repair_op.specs.declared.guarded.Guarded.{Guarded}
use Rattle.repair_op.specs.declared.step.Settling.TheVariants as settling
use Rattle.repair_op.specs.declared.step.RepairStep.{RepairStep}
use Rattle.repair_op.specs.declared.step.RepairStep.TheVariants.{Slots, Free, GiveSlots, Unmark}
use Rattle.repair_op.specs.Guarded.{RunsHere, IsOfHead}
use Rattle.repair_op.specs.Steps.{with_state}
use Rattle.repair_op.specs.Stands.{owned_side, IsSideFound, HasFreed, HoldsGuard, SuitsStep}
use Rattle.repair_op.proofs.Words.{one_header, header_no_link, head_is}
use Rattle.repair_op.proofs.Holding.{settled_knows, has_area, was_area, no_sides_freed, stale_held}
use Rattle.repair_op.proofs.Finding.{new_is_fresh}
use Rattle.repair_op.proofs.Storing.{state_header, stays_out, header_out, stored_loose, flushed_none, fence_may}
use Rattle.world.proofs.fitting.OneHolder.{head_in_slot}

-- what a header says that is that of a new side
pub new_depth : (depth pattern head : ℕ) → is_new_side depth pattern head ≡ true → depth_in head ≡ suc depth
new_depth depth pattern head new =
    eqb-true (depth_in head) (suc depth) (and_parts (depth_in head == suc depth) _ (and_parts (state_in head == fresh) _ new).1).0

pub new_pattern : (depth pattern head : ℕ) → is_new_side depth pattern head ≡ true → pattern_in head ≡ 2 * pattern + 1
new_pattern depth pattern head new =
    eqb-true (pattern_in head) (2 * pattern + 1) (and_parts (depth_in head == suc depth) _ (and_parts (state_in head == fresh) _ new).1).1

pub new_is_dead : (depth pattern head : ℕ) → is_new_side depth pattern head ≡ true → HasLiveState head → ⊥
new_is_dead depth pattern head new live =
    let state = new_is_fresh depth pattern head new in
    elim live [ inl normal ↦ omega (arith, state, normal) | inr splits ↦ omega (arith, state, splits) ]

-- the side is no more, and its slot is free
free_areas : (s slot : ℕ) → FreeSlot slot ∷ all_but (is_side_at slot) (Allocation ∷ Side slot ∷ Stale s ∷ Segment s ∷ []) ≡ FreeSlot slot ∷ Allocation ∷ Stale s ∷ Segment s ∷ []
free_areas s slot = ap (λ t. FreeSlot slot ∷ Allocation ∷ cond (not t) (Side slot ∷ Stale s ∷ Segment s ∷ []) (Stale s ∷ Segment s ∷ [])) (eq-eqb slot slot refl)

module _ (site : Ground) (ground : IsGround site) (here : Site) (call : Call) (g : Guarded) (runs : RunsHere site here g) (v : View) where
  abbrev Suited : RepairStep → Type 0
  Suited s = SuitsStep site here call g s v

  -- nobody finds that a fact of the segment is one of a slot that is taken
  owns_free : (slot : ℕ) (fact : Fact) → fact ≡ owned_side site g → not (is_taken_at slot fact) ≡ true
  owns_free slot fact is = ap (λ (f : Fact). not (is_taken_at slot f)) is

  -- ---- the store
  module _ (slot side : ℕ) where
    abbrev word : Words
    word i = if i == header_word site.shape g.segment then g.head else side

    module _ (f : IsSideFound site g slot side v) where
      segment_word : word (header_word site.shape g.segment) ≡ g.head
      segment_word = ap (λ t. if t then g.head else side) (eq-eqb (header_word site.shape g.segment) _ refl)

      slot_word : word (header_word site.shape slot) ≡ side
      slot_word = ap (λ t. if t then g.head else side) (ne_eqb (header_word site.shape slot) (header_word site.shape g.segment) (λ same. f.apart (one_header site.shape slot g.segment same)))

      side_fields : IsHeader (with_state side free) free (depth_in (word (header_word site.shape slot))) (pattern_in (word (header_word site.shape slot))) (version_in (word (header_word site.shape slot)))
      side_fields = subst (λ x. IsHeader (with_state side free) free (depth_in x) (pattern_in x) (version_in x)) (sym slot_word) (state_header side free f.fits (omega arith))

    pub free_store_may : Suited (Free slot side settling.Store) → MayAt site (moves (frees g.segment) slot (with_state side free)) v
    free_store_may s =
        let f = s.0 in
        let settled : IsSettled v = s.2 in
        let stale : HasStale site v g.segment word = stale_held site g v _ word f.cut.old s.1.0 (inr (inr (inr (inl refl)))) (inr (inr (inl refl))) (segment_word f) (settled_knows v _ _ settled f.knows.header) in
        (may_take_back site v ground).frees g.segment slot (with_state side free) word stale
        (has_area v _ Allocation s.1.0.areas_are (inl refl)) (has_area v _ (Side slot) s.1.0.areas_are (inr (inl refl)))
        (record { splits = ap state_in (segment_word f) ∙ f.cut.splits; linked = settled_knows v _ _ settled f.knows.link })
        (subst (λ x. KnowsWord v (header_word site.shape slot) x) (sym (slot_word f)) (settled_knows v _ _ settled s.1.1))
        (ap state_in (slot_word f) ∙ new_is_fresh _ _ side f.new)
        (ap depth_in (slot_word f) ∙ new_depth _ _ side f.new ∙ sym (ap (λ h. suc (depth_in h)) (segment_word f)))
        (ap pattern_in (slot_word f) ∙ new_pattern _ _ side f.new ∙ sym (ap (λ h. 2 * pattern_in h + 1) (segment_word f)))
        (side_fields f)

    -- what is known and claimed of the segment stays
    found_stays : (u : View) → ((p : ℕ × ℕ) → Has p u.known → Has p v.known ⊎ (p.0 ≡ header_word site.shape slot))
        → ((i x : ℕ) → i ≢ header_word site.shape slot → Has (i, x) v.known → Has (i, x) u.known) → Has (owned_side site g) u.facts → IsSideFound site g slot side v → IsSideFound site g slot side u
    found_stays u less more owns f = record {
      cut = f.cut;
      within = f.within;
      apart = f.apart;
      fits = f.fits;
      new = f.new;
      owns = owns;
      knows = record {
        header = more _ g.head (λ same. f.apart (sym (one_header site.shape g.segment slot same))) f.knows.header;
        link = more _ (suc slot) (λ same. header_no_link site.shape slot g.segment (sym same)) f.knows.link;
        only = λ p has. elim (less p has) [ inl was ↦ f.knows.only p was | inr same ↦ inr same ];
      };
    }

    pub free_store_stands : (n : ℕ) → Suited (Free slot side settling.Store) → SuitsStep site here call g (Free slot side settling.Flush) (view_then site.shape (moves (frees g.segment) slot (with_state side free)) n v)
    free_store_stands n s =
        let u : View = view_then site.shape (moves (frees g.segment) slot (with_state side free)) n v in (
          found_stays u
              (λ p has. elim has [ inl same ↦ inr (ap (λ (q : ℕ × ℕ). q.0) same) | inr has ↦ inl (without_has (header_word site.shape slot) p.0 p.1 v.known has).1 ])
              (λ i x other has. inr (without_stays (header_word site.shape slot) i x v.known other has))
              (has_filtered (λ fact. not (is_taken_at slot fact)) v.facts (owned_side site g) s.0.owns (owns_free slot (owned_side site g) refl)) s.0,
          record {
            areas_are = ap (λ (l : List Area). FreeSlot slot ∷ all_but (is_side_at slot) l) s.1.0.areas_are ∙ free_areas g.segment slot;
            no_locks = s.1.0.no_locks;
            planned = s.1.0.planned;
            moving = s.1.0.moving;
            owed = s.1.0.owed;
          },
          stored_loose site.shape (header_word site.shape slot) n (with_state side free) v u s.2 refl refl,
        )

    -- ---- its flush, and its fence
    abbrev line : ℕ
    line = line_of (head_word g.site.geometry slot)

    pub free_flush_stands : (n : ℕ) → Suited (Free slot side settling.Flush) → SuitsStep site here call g (Free slot side settling.Fence) (view_after site.shape (flushes line) n v)
    free_flush_stands n s = (
      found_stays (view_after site.shape (flushes line) n v) (λ p has. inl has) (λ i x other has. has) s.0.owns s.0,
      record { areas_are = s.1.areas_are; no_locks = s.1.no_locks; planned = s.1.planned; moving = s.1.moving; owed = s.1.owed },
      flushed_none line (header_word site.shape slot) v (ap line_of (sym (head_is site g runs.shape slot s.0.within))) s.2,
    )

    pub free_fence_may : Suited (Free slot side settling.Fence) → MayAt site (settles []) v
    free_fence_may s = fence_may site v (no_sides_freed g.segment slot v s.1.areas_are)

    pub free_fence_stands : (n : ℕ) → Suited (Free slot side settling.Fence) → HasFreed site g (view_then site.shape (settles []) n v)
    free_fence_stands n s =
        let f = found_stays (view_then site.shape (settles []) n v) (λ p has. inl has) (λ i x other has. has) s.0.owns s.0 in
        record {
          cut = f.cut;
          slot = slot;
          apart = f.apart;
          holds = record { areas_are = s.1.areas_are; no_locks = s.1.no_locks; planned = s.1.planned; moving = s.1.moving; owed = s.1.owed };
          settled = record { dirty = s.2; flushed = refl };
          owns = f.owns;
          knows = f.knows;
        }

  -- ---- the guard of free slots is taken
  module _ (slot side : ℕ) (s : Suited (Slots slot side)) where
    pub slots_take_may : MayAt site (takes_for_side slot g.site.caller) v
    slots_take_may = (runs.numbered, λ p loose inside. settled_firm v s.3 p loose, (side, s.2, new_is_dead _ _ side s.0.new))

    -- where it is lost, the side is left
    lost_known : (p : ℕ × ℕ) → Has p (out_of_slot site.shape slot v.known) → IsOfHead site g p.0
    lost_known p has =
        let q = out_of_slot_has site.shape p.0 slot p.1 v.known has in
        elim (s.0.knows.only p q.1) [ inl head ↦ head | inr same ↦ absurd (q.0 (subst (λ i. IsInSlot site.shape slot i) (sym same) (head_in_slot site.shape slot))) ]

    lost_areas : (a : Area) → Has a (all_but (is_side_at slot) v.areas) → (a ≡ Segment g.segment) ⊎ (a ≡ Stale g.segment)
    lost_areas a has =
        let was = but_before (is_side_at slot) v.areas a has in
        elim (was_area v _ a s.1.areas_are was.0) [
          | inl same ↦ absurd (both_ways (is_side_at slot a) was.1 (ap (is_side_at slot) same ∙ eq-eqb slot slot refl))
          | inr has ↦ elim has [ inl same ↦ inr same | inr has ↦ elim has [ inl same ↦ inl same | inr none ↦ absurd none ] ]
        ]

    pub slots_won : SuitsStep site here call g (Free slot side settling.Store) (with_guard_for site.shape true slot v)
    slots_won = (
      found_stays slot side (with_guard_for site.shape true slot v) (λ p has. inl has) (λ i x other has. has) s.0.owns s.0,
      (
        record { areas_are = ap (λ (l : List Area). Allocation ∷ l) s.1.areas_are; no_locks = s.1.no_locks; planned = s.1.planned; moving = s.1.moving; owed = s.1.owed },
        s.2,
      ),
      record { dirty = s.3.dirty; flushed = s.3.flushed },
    )

    pub slots_lost : HoldsGuard site g (with_guard_for site.shape false slot v)
    slots_lost = record {
      within = s.0.cut.old.within;
      guard = but_after (is_side_at slot) v.areas (Segment g.segment) (has_area v _ (Segment g.segment) s.1.areas_are (inr (inr (inl refl)))) refl;
      areas = lost_areas;
      no_locks = s.1.no_locks;
      known = lost_known;
      quiet = record { dirty = s.3.dirty; flushed = s.3.flushed; planned = s.1.planned; moving = s.1.moving; owed = s.1.owed };
    }

  -- ---- the guard of free slots is given back
  pub slots_may : Suited GiveSlots → MayAt site (gives of_free_slots) v
  slots_may s = (
    has_area v _ Allocation s.holds.areas_are (inr (inl refl)),
    λ p loose of_it. settled_firm v s.settled p loose,
    λ n side. absurd (no_sides_freed g.segment s.slot v s.holds.areas_are n side),
  )

  pub slots_stands : (n : ℕ) → Suited GiveSlots → SuitsStep site here call g (Unmark settling.Store) (view_then site.shape (gives of_free_slots) n v)
  slots_stands n s = record {
    cut = s.cut;
    holds = record {
      areas_are = ap (all_but is_of_allocation) s.holds.areas_are;
      no_locks = s.holds.no_locks;
      planned = s.holds.planned;
      moving = s.holds.moving;
      owed = s.holds.owed;
    };
    knows = record {
      header = subst (λ (l : List (ℕ × ℕ)). Has (header_word site.shape g.segment, g.head) l) (sym known_is)
          (stays_out site.shape s.slot (header_word site.shape g.segment) g.head v.known (header_out site.shape g.segment s.slot s.apart) s.knows.header);
      only = λ p has.
          (let q = out_of_slot_has site.shape p.0 s.slot p.1 v.known (subst (λ (l : List (ℕ × ℕ)). Has p l) known_is has) in
          elim (s.knows.only p q.1) [
            | inl head ↦ head
            | inr same ↦ absurd (q.0 (subst (λ i. IsInSlot site.shape s.slot i) (sym same) (head_in_slot site.shape s.slot)))
          ]);
    };
    settling_is = record { dirty = s.settled.dirty; flushed = s.settled.flushed };
    owns = has_filtered (λ fact. not (is_taken fact)) v.facts (owned_side site g) s.owns refl;
  }
    where
      known_is : known_without site.shape of_free_slots v.areas v.known ≡ out_of_slot site.shape s.slot v.known
      known_is = ap (λ (l : List Area). known_without site.shape of_free_slots l v.known) s.holds.areas_are
