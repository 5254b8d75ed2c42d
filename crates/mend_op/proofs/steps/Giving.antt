-- The last fence, and the guard, which is given back.
use Rattle.std.proofs.Common.{◌≡◌, ℕ, List, [], ◌∷◌, inl, inr, refl, sym, ap, ◌∙◌, subst}
use Rattle.std.specs.Prelude.{not, if◌then◌else◌}
use Rattle.std.proofs.lemmas.Bool.{eq-eqb}
use Rattle.map_model.specs.declared.call.Call.{Call}
use Rattle.world.specs.declared.site.Site.{Site}
use Rattle.world.specs.Ground.{Ground, IsGround}
use Rattle.world.specs.Views.{View, Has}
use Rattle.world.specs.areas.Areas.{Area, Segment, Side, Whole, all_but, is_of_segment}
use Rattle.world.specs.areas.Rows.{HasNoSides}
use Rattle.world.specs.areas.Kinds.{of_segment, gives, settles, view_then, out_of_slot}
use Rattle.world.specs.areas.Asking.{MayAt}
use Rattle.world.proofs.moving.Holding.{out_of_slot_has}
use Rattle.repair_op.proofs.Giving.{nothing_left}
use Rattle.rounds.proofs.Keeping.{rounds_may}
use Rattle.rounds.proofs.Settling.{settled_firm}
use Rattle.mend_op.specs.declared.op.MendStep.TheVariants.{RenewFence, Give, Ended}
use Rattle.mend_op.specs.declared.op.MendOp.{MendOp}
use Rattle.mend_op.specs.Steps.{at_step}
use Rattle.mend_op.specs.Stands.{HasGuard, SuitsStep}
use Rattle.mend_op.specs.MendPart.{IsOf, MendStands}
use Rattle.mend_op.proofs.rounds.Beginning.{is_at}

module _ (site : Ground) (ground : IsGround site) (here : Site) (call : Call) (op : MendOp) (is : IsOf site here op) (v : View) where
  abbrev s : ℕ
  s = op.guarded.segment

  only_guard : (a : Area) → Has a (Segment s ∷ []) → a ≡ Segment s
  only_guard a has = elim has [ inl same ↦ same | inr none ↦ absurd none ]

  guard_alone : HasGuard site op.guarded v → (a : Area) → Has a v.areas → a ≡ Segment s
  guard_alone c a has = only_guard a (subst (λ (l : List Area). Has a l) c.areas has)

  no_sides : HasGuard site op.guarded v → HasNoSides v.areas
  no_sides c n has = let no : Side n ≡ Segment s = guard_alone c (Side n) has in absurd (cc)

  -- ---- the last fence
  module _ (c : SuitsStep site op RenewFence v) where
    pub last_fence_may : MayAt site (settles []) v
    last_fence_may = rounds_may.fence site v (λ n side. absurd (no_sides c.0 n side))

    pub last_fenced : (n : ℕ) → MendStands site here call (at_step op Give) (view_then site.shape (settles []) n v)
    last_fenced n = record {
      is = is_at site here call op is op.next is.next_small Give;
      view = (
        record { areas = c.0.areas; no_locks = c.0.no_locks; current = record { head = c.0.current.head; header = c.0.current.header; version = c.0.current.version }; known = c.0.known; idle = record { planned = c.0.idle.planned; moving = c.0.idle.moving; owed = c.0.idle.owed } },
        record { dirty = c.1; flushed = refl },
      );
    }

  -- ---- the guard
  module _ (c : SuitsStep site op Give v) where
    guard_held : Has (Segment s) v.areas
    guard_held = subst (λ (l : List Area). Has (Segment s) l) (sym c.0.areas) (inl refl)

    pub give_may : MayAt site (gives (of_segment s)) v
    give_may = (guard_held, (λ p loose of_it. settled_firm v c.1 p loose), (no_sides c.0, λ whole. (let no : Whole s ≡ Segment s = guard_alone c.0 (Whole s) whole in absurd (cc))))

    none_held : all_but (is_of_segment s) v.areas ≡ []
    none_held =
        let guard : List Area = Segment s ∷ [] in
        ap (all_but (is_of_segment s)) c.0.areas ∙ ap (λ t. if not t then guard else []) (eq-eqb s s refl)

    pub give_stands : (n : ℕ) → MendStands site here call (at_step op Ended) (view_then site.shape (gives (of_segment s)) n v)
    give_stands n = record {
      is = is_at site here call op is op.next is.next_small Ended;
      view = record {
        held = c.0.no_locks;
        known = nothing_left (out_of_slot site.shape s v.known) (λ p has. (let was = out_of_slot_has site.shape p.0 s p.1 v.known has in was.0 (c.0.known p was.1)));
        dirty = c.1.dirty;
        flushed = c.1.flushed;
        planned = c.0.idle.planned;
        moving = c.0.idle.moving;
        owed = c.0.idle.owed;
        areas = none_held;
      };
    }
