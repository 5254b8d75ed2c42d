-- The guard of the segment is given back, with which nothing is held or known.
use Rattle.std.proofs.Common.{◌≡◌, ℕ, true, [], inl, inr, refl, sym, ap, ◌∙◌, subst}
use Rattle.std.proofs.lemmas.Bool.{eq-eqb, both_ways}
use Rattle.frame_facts.specs.DeadSlots.{IsInSlot}
use Rattle.world.specs.Ground.{Ground}
use Rattle.world.specs.Views.{View, Has}
use Rattle.world.specs.Attempts.{HoldsOnly}
use Rattle.world.specs.areas.Areas.{Area, Segment, Stale, Side, Whole, all_but, is_of_segment}
use Rattle.world.specs.areas.Kinds.{of_segment, gives, view_then}
use Rattle.world.specs.areas.Asking.{MayAt}
use Rattle.world.proofs.fitting.Rows.{but_before}
use Rattle.world.proofs.moving.Holding.{out_of_slot_has}
use Rattle.phase.proofs.Handing.{none_loose}
pub use Rattle.phase.proofs.locks.Giving.{nothing_left}
use Rattle.repair_op.specs.declared.guarded.Guarded.{Guarded}
use Rattle.repair_op.specs.Guarded.{IsOfHead}
use Rattle.repair_op.specs.Stands.{HoldsGuard}
use Rattle.world.proofs.fitting.OneHolder.{head_in_slot, link_in_slot}

module _ (site : Ground) (g : Guarded) (v : View) (h : HoldsGuard site g v) where
  -- each area goes with the guard
  goes : (a : Area) → Has a v.areas → is_of_segment g.segment a ≡ true
  goes a has = elim (h.areas a has) [
    | inl same ↦ ap (is_of_segment g.segment) same ∙ eq-eqb g.segment g.segment refl
    | inr same ↦ ap (is_of_segment g.segment) same ∙ eq-eqb g.segment g.segment refl
  ]

  no_side_held : (n : ℕ) → Has (Side n) v.areas → ⊥
  no_side_held n has = elim (h.areas (Side n) has) [
    | inl same ↦ (let e : Side n ≡ Segment g.segment = same in cc)
    | inr same ↦ (let e : Side n ≡ Stale g.segment = same in cc)
  ]

  none_whole : (s : ℕ) → Has (Whole s) v.areas → ⊥
  none_whole s has = elim (h.areas (Whole s) has) [
    | inl same ↦ (let e : Whole s ≡ Segment g.segment = same in cc)
    | inr same ↦ (let e : Whole s ≡ Stale g.segment = same in cc)
  ]

  in_slot : (i : ℕ) → IsOfHead site g i → IsInSlot site.shape g.segment i
  in_slot i of_head = elim of_head [
    | inl same ↦ subst (λ n. IsInSlot site.shape g.segment n) (sym same) (head_in_slot site.shape g.segment)
    | inr same ↦ subst (λ n. IsInSlot site.shape g.segment n) (sym same) (link_in_slot site.shape g.segment)
  ]

  pub give_may : MayAt site (gives (of_segment g.segment)) v
  give_may = (h.guard, λ p loose of_it. none_loose v h.quiet p loose, (no_side_held, none_whole g.segment))

  pub give_stands : (n : ℕ) → HoldsOnly [] (view_then site.shape (gives (of_segment g.segment)) n v)
  give_stands n = record {
    held = h.no_locks;
    known = nothing_left _ (λ p has. (let was = out_of_slot_has site.shape p.0 g.segment p.1 v.known has in was.0 (in_slot p.0 (h.known p was.1))));
    dirty = h.quiet.dirty;
    flushed = h.quiet.flushed;
    planned = h.quiet.planned;
    moving = h.quiet.moving;
    owed = h.quiet.owed;
    areas = nothing_left (all_but (is_of_segment g.segment) v.areas) (λ a has. (let was = but_before (is_of_segment g.segment) v.areas a has in both_ways (is_of_segment g.segment a) was.1 (goes a was.0)));
  }
