-- The segment becomes normal again.
use Rattle.std.proofs.Common.{ℕ, Option, [], inl, inr, refl, sym, ap, ◌∙◌, subst, arith}
use Rattle.trace.specs.Events.{line_of}
use Rattle.segment_head.specs.HeadWord.{version_in, depth_in, pattern_in, normal}
use Rattle.way.specs.Ways.{head_word}
use Rattle.map_model.specs.declared.call.Call.{Call}
use Rattle.world.specs.declared.site.Site.{Site}
use Rattle.world.specs.Ground.{Ground, IsGround}
use Rattle.world.specs.Views.{View}
use Rattle.world.specs.Kinds.{flushes, view_after}
use Rattle.world.specs.areas.Areas.{header_word}
use Rattle.world.specs.areas.Rows.{unmarks}
use Rattle.world.specs.areas.Kinds.{moves, settles, view_then}
use Rattle.world.specs.areas.Asking.{MayAt}
use Rattle.world.specs.areas.Splitting.{IsHeader}
use Rattle.world.proofs.basics.Seats.{without_has}
use Rattle.world.proofs.holders.repairing.TakingBack.{may_take_back}
use Rattle.rounds.specs.Stands.{IsSettled}
use Rattle.repair_op.specs.declared.guarded.Guarded.{Guarded}
use Rattle.repair_op.specs.declared.step.Settling.TheVariants as settling
use Rattle.repair_op.specs.declared.step.RepairStep.{RepairStep}
use Rattle.repair_op.specs.declared.step.RepairStep.TheVariants.{Unmark}
use Rattle.repair_op.specs.Guarded.{RunsHere, HasState, KeepsGuarded}
use Rattle.repair_op.specs.Steps.{with_state, with_head}
use Rattle.repair_op.specs.Stands.{stale_areas, SuitsStep}
use Rattle.repair_op.proofs.Words.{head_is}
use Rattle.repair_op.proofs.Holding.{settled_knows, no_sides, stale_held}
use Rattle.repair_op.proofs.Storing.{state_header, state_small, stored_loose, flushed_none, fence_may}

module _ (site : Ground) (ground : IsGround site) (here : Site) (call : Call) (g : Guarded) (runs : RunsHere site here g) (v : View) where
  abbrev Suited : RepairStep → Type 0
  Suited s = SuitsStep site here call g s v

  abbrev head : ℕ
  head = with_state g.head normal

  -- ---- the store
  pub unmark_store_may : Suited (Unmark settling.Store) → MayAt site (moves unmarks g.segment head) v
  unmark_store_may s =
      let settled : IsSettled v = s.settling_is in
      (may_take_back site v ground).unmarks g.segment head (λ i. g.head)
      (stale_held site g v (stale_areas site g) (λ i. g.head) s.cut.old s.holds (inr (inl refl)) (inl refl) refl (settled_knows v _ _ settled s.knows.header))
      (no_sides g.segment v s.holds.areas_are) s.cut.splits (inr s.owns) (state_header g.head normal s.cut.old.fits (omega arith))

  pub unmark_store_stands : (n : ℕ) → Suited (Unmark settling.Store) → SuitsStep site here call g (Unmark settling.Flush) (view_then site.shape (moves unmarks g.segment head) n v)
  unmark_store_stands n s =
      let u : View = view_then site.shape (moves unmarks g.segment head) n v in
      record {
        cut = s.cut;
        holds = record { areas_are = s.holds.areas_are; no_locks = s.holds.no_locks; planned = s.holds.planned; moving = s.holds.moving; owed = s.holds.owed };
        knows = record {
          header = inl refl;
          only = λ p has. elim has [
            | inl same ↦ inl (ap (λ (q : ℕ × ℕ). q.0) same)
            | inr has ↦ s.knows.only p (without_has (header_word site.shape g.segment) p.0 p.1 v.known has).1
          ];
        };
        settling_is = stored_loose site.shape (header_word site.shape g.segment) n head v u s.settling_is refl refl;
        owns = s.owns;
      }

  -- ---- its flush, and its fence
  abbrev line : ℕ
  line = line_of (head_word g.site.geometry g.segment)

  pub unmark_flush_stands : (n : ℕ) → Suited (Unmark settling.Flush) → SuitsStep site here call g (Unmark settling.Fence) (view_after site.shape (flushes line) n v)
  unmark_flush_stands n s = record {
    cut = s.cut;
    holds = record { areas_are = s.holds.areas_are; no_locks = s.holds.no_locks; planned = s.holds.planned; moving = s.holds.moving; owed = s.holds.owed };
    knows = record { header = s.knows.header; only = s.knows.only };
    settling_is = flushed_none line (header_word site.shape g.segment) v (ap line_of (sym (head_is site g runs.shape g.segment s.cut.old.within))) s.settling_is;
    owns = s.owns;
  }

  pub unmark_fence_may : Suited (Unmark settling.Fence) → MayAt site (settles []) v
  unmark_fence_may s = fence_may site v (no_sides g.segment v s.holds.areas_are)

  -- so it is handed on as a normal one
  pub unmark_fence_stands : (n : ℕ) → Suited (Unmark settling.Fence) → KeepsGuarded site here call (with_head g head) (view_then site.shape (settles []) n v)
  unmark_fence_stands n s =
      let fields : IsHeader head normal (depth_in g.head) (pattern_in g.head) (version_in g.head) = state_header g.head normal s.cut.old.fits (omega arith) in
      record {
        here_is = record { at = runs.at; shape = runs.shape; version = runs.version; numbered = runs.numbered; caller = runs.caller };
        old = record { within = s.cut.old.within; fits = state_small g.head normal s.cut.old.fits (omega arith); old = λ same. s.cut.old.old (sym fields.version_is ∙ same) };
        areas = s.holds.areas_are;
        no_locks = s.holds.no_locks;
        header = s.knows.header;
        known = s.knows.only;
        state = subst (λ (o : Option ℕ). HasState site (with_head g head) o (view_then site.shape (settles []) n v)) (sym s.cut.no_side) fields.state_is;
        quiet = record { dirty = s.settling_is; flushed = refl; planned = s.holds.planned; moving = s.holds.moving; owed = s.holds.owed };
      }
