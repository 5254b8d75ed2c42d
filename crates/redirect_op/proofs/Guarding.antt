-- The guard of the directory is taken, and given back once all is settled.
use Rattle.std.proofs.Common.{◌≡◌, ℕ, suc, inl, inr, Bool, true, false, Option, Some, List, [], ◌∷◌, refl, sym, ap, subst, arith}
use Rattle.std.specs.Prelude.{◌==◌, ◌||◌, ◌&&◌, not, nat_le, nat_lt, if◌then◌else◌}
use Rattle.op_core.specs.declared.want.Ans.TheVariants.{Won, Lost}
use Rattle.image_layout.specs.Places.{Shape, block, root_word, first_segment}
use Rattle.frame_facts.specs.Facts.{Fact}
use Rattle.frame_facts.specs.DeadSlots.{IsInSlot}
use Rattle.map_model.specs.declared.call.Call.{Call}
use Rattle.world.specs.declared.site.Site.{Site}
use Rattle.world.specs.Ground.{Ground, IsGround}
use Rattle.world.specs.Views.{View, Has}
use Rattle.world.specs.areas.Areas.{Area, Segment, Stale, Directory, header_word, link_word, is_of_directory, all_but}
use Rattle.world.specs.areas.Kinds.{of_directory, takes, gives, is_claim, with_guard, view_then}
use Rattle.world.specs.areas.Asking.{MayAt}
use Rattle.world.proofs.holders.directing.Known.{front_far}
use Rattle.world.proofs.fitting.Filtered.{has_filtered}
use Rattle.world.proofs.moving.Holding.{out_of_directory_has}
use Rattle.repair_op.specs.declared.guarded.Guarded.{Guarded}
use Rattle.repair_op.specs.Guarded.{KnowsReadySide, HasState, HasDeepEntries, KeepsGuarded, KeepsRedirected}
use Rattle.repair_op.specs.Stands.{HoldsGuard}
use Rattle.repair_op.proofs.Holding.{has_area, was_area}
use Rattle.world.proofs.fitting.OneHolder.{head_in_slot, link_in_slot}
use Rattle.rounds.proofs.Settling.{settled_firm}
use Rattle.directory_op.proofs.Words.{slot_behind}
use Rattle.directory_op.proofs.guard.Guarding.{not_directory}
use Rattle.redirect_op.specs.declared.step.RedirectStep.TheVariants.{Guard}
use Rattle.redirect_op.specs.declared.op.RedirectOp.{RedirectOp}
use Rattle.redirect_op.specs.Steps.{next_in}
use Rattle.redirect_op.specs.Stands.{deep_of, IsGuarding, AreSettled, SuitsStep}
use Rattle.redirect_op.proofs.Holding.{has_directory}

module _ (site : Ground) (ground : IsGround site) (here : Site) (call : Call) (op : RedirectOp) (v : View) where
  abbrev g : Guarded
  g = op.guarded

  abbrev shape : Shape
  shape = site.shape

  -- ---- it is taken
  module _ (k : KeepsGuarded site here call g v) (side : ℕ) (side_is : g.side ≡ Some side) where
    pub take_may : MayAt site (takes of_directory g.site.caller) v
    take_may = k.here_is.numbered

    ready : KnowsReadySide site g side v
    ready = subst (λ (o : Option ℕ). HasState site g o v) side_is k.state

    abbrev guarded_view : View
    guarded_view = with_guard true of_directory v

    won : IsGuarding site here g guarded_view
    won = record {
      here_is = k.here_is;
      old = k.old;
      side = side;
      side_is = side_is;
      small = (let a = ready.slot in let b = ground.shape.segments in omega (arith, a, b));
      ready = record { splits = ready.splits; slot = ready.slot; linked = ready.linked; begins = ready.begins; lacks = ready.lacks };
      holds = record {
        areas_are = ap (λ (l : List Area). Directory ∷ l) k.areas;
        no_locks = k.no_locks;
        planned = k.quiet.planned;
        moving = k.quiet.moving;
        owed = k.quiet.owed;
      };
      header = k.header;
      known = λ p has. inl (k.known p has);
    }

    -- another has it
    lost : HoldsGuard site g v
    lost = record {
      within = k.old.within;
      guard = has_area v (Stale g.segment ∷ Segment g.segment ∷ []) (Segment g.segment) k.areas (inr (inl refl));
      areas = λ a has. elim (was_area v (Stale g.segment ∷ Segment g.segment ∷ []) a k.areas has) [
        | inl same ↦ inr same
        | inr has ↦ elim has [ inl same ↦ inl same | inr none ↦ absurd none ]
      ];
      no_locks = k.no_locks;
      known = k.known;
      quiet = k.quiet;
    }

    pub take_stands : (taken : Bool) (n : ℕ) → SuitsStep site here call (next_in op Guard (if taken then Won else Lost n)) (next_in op Guard (if taken then Won else Lost n)).step (with_guard taken of_directory v)
    take_stands true n = (won, record { dirty = k.quiet.dirty; flushed = k.quiet.flushed })
    take_stands false n = (k.here_is, tt, lost)

  -- ---- it is given back
  module _ (s : AreSettled site here g v) where
    pub give_may : MayAt site (gives of_directory) v
    give_may = (has_directory site here g v s.guarding, (λ p loose inside. settled_firm v s.settled p loose), tt)

    module _ (n : ℕ) where
      abbrev left : View
      left = view_then shape (gives of_directory) n v

      said : (fact : Fact) → is_claim fact ≡ false → Has fact v.facts → Has fact left.facts
      said fact none has = has_filtered (λ f. not (is_claim f)) v.facts fact has (ap not none)

      known_left : (i x : ℕ) → IsInSlot shape g.segment i → Has (i, x) v.known → Has (i, x) left.known
      known_left i x inside has = has_filtered (λ (p : ℕ × ℕ). not ((p.0 == root_word) || (nat_le block p.0 && nat_lt p.0 (first_segment shape)))) v.known (i, x) has
          (not_directory (first_segment shape) i (front_far shape) (slot_behind shape g.segment i inside))

      side_left : KnowsReadySide site g s.guarding.side left
      side_left = record {
        splits = s.guarding.ready.splits;
        slot = s.guarding.ready.slot;
        linked = known_left (link_word shape g.segment) (suc s.guarding.side) (link_in_slot shape g.segment) s.guarding.ready.linked;
        begins = said _ refl s.guarding.ready.begins;
        lacks = said _ refl s.guarding.ready.lacks;
      }

      pub given_stands : KeepsRedirected site here call g left
      given_stands = record {
        guarded = record {
          here_is = s.guarding.here_is;
          old = s.guarding.old;
          areas = ap (all_but is_of_directory) s.guarding.holds.areas_are;
          no_locks = s.guarding.holds.no_locks;
          header = known_left (header_word shape g.segment) g.head (head_in_slot shape g.segment) s.guarding.header;
          known = λ p has. (let k = out_of_directory_has shape p.0 p.1 v.known has in elim (s.guarding.known p k.1) [ inl of_head ↦ of_head | inr front ↦ absurd (k.0 front) ]);
          state = subst (λ (o : Option ℕ). HasState site g o left) (sym s.guarding.side_is) side_left;
          quiet = record {
            dirty = s.settled.dirty;
            flushed = s.settled.flushed;
            planned = s.guarding.holds.planned;
            moving = s.guarding.holds.moving;
            owed = s.guarding.holds.owed;
          };
        };
        deep = subst (λ (o : Option ℕ). HasDeepEntries site g o left) (sym s.guarding.side_is) (said (deep_of g) refl s.deep);
      }
