-- Behind the last fence of a stage: the root is to be stored, the header of the side is, its entries are, or the guard is given back.
use Rattle.std.proofs.Common.{◌≡◌, ℕ, suc, ◌+◌, ◌*◌, ◌^◌, ◌<◌, ◌≤◌, inl, inr, None, Some, [], ◌∷◌, cond, refl, sym, ap, ◌∙◌, subst, arith}
use Rattle.std.specs.Prelude.{⊤, not}
use Rattle.std.proofs.lemmas.Bool.{eq-eqb}
use Rattle.std.proofs.lemmas.Option.{none-some}
use Rattle.op_core.specs.declared.want.Want.TheVariants.{Fence}
use Rattle.segment_head.specs.HeadWord.{depth_in, pattern_in}
use Rattle.image_layout.specs.Places.{Shape, root_word, first_segment, most_depth}
use Rattle.frame_facts.specs.Facts.{Owns, Lacks, Deep}
use Rattle.frame_facts.specs.DeadSlots.{IsInSlot}
use Rattle.map_model.specs.declared.call.Call.{Call}
use Rattle.world.specs.declared.site.Site.{Site}
use Rattle.world.specs.Ground.{Ground, IsGround}
use Rattle.world.specs.Views.{View, Has}
use Rattle.world.specs.areas.Areas.{Segment, Side, Whole, Directory, is_side_at, all_but}
use Rattle.world.specs.areas.Kinds.{settles, settles_side, is_in_slot, view_then}
use Rattle.world.proofs.holders.directing.Known.{front_far}
use Rattle.world.proofs.fitting.Filtered.{has_filtered}
use Rattle.rounds.specs.declared.rounds.Rounds.{Rounds}
use Rattle.rounds.specs.Steps.{begun, rounds_wanted, rounds_taken}
use Rattle.rounds.specs.Stands.{RoundStands}
use Rattle.rounds.proofs.Settling.{settled_firm, round_same, round_behind, begun_settled}
use Rattle.split_op.specs.Copied.{side_head}
use Rattle.directory_op.specs.declared.op.Stage.TheVariants.{Filled, Deepen, Deepened, GoLive, Live, Enter, Entered}
use Rattle.directory_op.specs.declared.op.DirectoryStep.{DirectoryStep}
use Rattle.directory_op.specs.declared.op.DirectoryStep.TheVariants.{Store, GiveGuard}
use Rattle.directory_op.specs.declared.op.DirectoryOp.{DirectoryOp}
use Rattle.directory_op.specs.Places.{side_first}
use Rattle.directory_op.specs.Fits.{side_depth, side_pattern, with_side, without_side, IsOfSide, SuitsStore, SuitsStep, EnteredBelow}
use Rattle.directory_op.specs.DirectoryPart.{facts_of}
use Rattle.directory_op.proofs.Words.{not_in_slot, other_slot, before_slot}
use Rattle.directory_op.proofs.Keeping.{Keeps, kept_in_slot, split_stays, live_stays, deep_stays}
use Rattle.directory_op.proofs.Sides.{split_depth, split_pattern, side_deep, side_region, is_of_side, first_of, near_of, first_last}
use Rattle.directory_op.proofs.stages.Staying.{filling_stays, rooted_stays}
use Rattle.directory_op.proofs.stages.Rounding.{storing_behind, keeps_fenced, round_fenced}

-- a side is given up
areas_without : (n s : ℕ) → all_but (is_side_at n) (Directory ∷ Side n ∷ Whole s ∷ Segment s ∷ []) ≡ Directory ∷ Whole s ∷ Segment s ∷ []
areas_without n s = ap (λ b. Directory ∷ cond (not b) (Side n ∷ Whole s ∷ Segment s ∷ []) (Whole s ∷ Segment s ∷ [])) (eq-eqb n n refl)

root_before : (shape : Shape) → root_word < first_segment shape
root_before shape = by (first_segment shape) (front_far shape)
  where
    by : (f : ℕ) → 32 ≤ f → 8 < f
    by f far = omega (arith, far)

module _ (site : Ground) (ground : IsGround site) (here : Site) (call : Call) (op : DirectoryOp) (n : ℕ) (v : View) where
  abbrev shape : Shape
  shape = site.shape

  abbrev rounds : Rounds
  rounds = rounds_taken op.rounds None

  abbrev later : DirectoryStep → DirectoryOp
  later step = record op { rounds = rounds; step = step }

  module _ (is : rounds_wanted op.rounds None ≡ Some Fence) (over : rounds_taken op.rounds None ≡ begun) where
    -- ---- the deeper area is filled
    module _ (s : SuitsStore site here op call Filled v) where
      abbrev fenced : View
      fenced = view_then shape (settles []) n v

      pub filled_stands : SuitsStep site here (later (Store Deepen)) call (Store Deepen) fenced
      filled_stands =
          let round = round_fenced site ground here call op v Filled s n is in
          record {
            storing = storing_behind site ground here call op v Filled s fenced Deepen (Store Deepen) round (settled_firm fenced (begun_settled rounds fenced over round));
            open_round = λ e none. none-some _ (sym none);
            at = filling_stays site here call op rounds (Store Deepen) v fenced (keeps_fenced site ground here call op v Filled s n is) refl (λ fact has. has) (2 ^ op.root) s.at;
          }

    -- ---- the root is deeper
    module _ (s : SuitsStore site here op call Deepened v) where
      abbrev rooted : View
      rooted = view_then shape (settles []) n v

      pub deepened_stands : SuitsStep site here (later (Store GoLive)) call (Store GoLive) rooted
      deepened_stands =
          let round = round_fenced site ground here call op v Deepened s n is in
          record {
            storing = storing_behind site ground here call op v Deepened s rooted GoLive (Store GoLive) round (settled_firm rooted (begun_settled rounds rooted over round));
            open_round = λ e none. none-some _ (sym none);
            at = rooted_stays site here call op rounds (Store GoLive) v rooted (keeps_fenced site ground here call op v Deepened s n is) refl (λ fact has. has) s.at;
          }

    -- ---- the side is settled as live
    module _ (s : SuitsStore site here op call Live v) where
      abbrev live : View
      live = view_then shape (settles_side op.copied.side (depth_in op.side_head) (pattern_in op.side_head)) n v

      abbrev Outside : ℕ → Type 0
      Outside i = IsInSlot shape op.copied.side i → ⊥

      keeps_live : Keeps Outside v live
      keeps_live = record {
        held = refl;
        planned = refl;
        moving = refl;
        owed = refl;
        facts = λ fact no has. inr has;
        known = λ i x out has. has_filtered (λ (p : ℕ × ℕ). not (is_in_slot shape op.copied.side p.0)) v.known (i, x) has (ap not (not_in_slot shape op.copied.side i out));
      }

      round_live : RoundStands rounds live
      round_live = round_same (view_then shape (settles []) n v) live refl refl rounds (round_fenced site ground here call op v Live s n is)

      not_deep : op.root ≤ most_depth
      not_deep = let most = ground.shape.depth in let deep = s.at.root.deep in omega (arith, most, deep)

      abbrev first : ℕ
      first = side_first op.root op.side_head

      first_is : first ≡ side_first op.root (side_head op.copied.whole)
      first_is = ap (side_first op.root) s.storing.heads.side

      none_before : (step : DirectoryStep) → EnteredBelow site here (later step) first live
      none_before step j low near of_side =
          let from = first_of site ground here call op.copied s.at.split.is s.at.split.whole op.root s.at.root.deeper not_deep j of_side in
          absurd (late j first (side_first op.root (side_head op.copied.whole)) low from first_is)
        where
          late : (j a b : ℕ) → j < a → b ≤ j → a ≡ b → ⊥
          late j a b low from e = omega (arith, low, from, e)

      owned : Has (Owns op.copied.side (side_depth op.copied) (side_pattern op.copied)) live.facts
      owned = inl (sym (ap (λ h. Owns op.copied.side (depth_in h) (pattern_in h)) s.storing.heads.side
          ∙ ap (λ d. Owns op.copied.side d (pattern_in (side_head op.copied.whole))) (side_deep site ground here call op.copied s.at.split.is s.at.split.whole)
          ∙ ap (λ p. Owns op.copied.side (side_depth op.copied) p) (side_region site ground here call op.copied s.at.split.is s.at.split.whole)))

      pub live_settled : SuitsStep site here (later (Store (Enter first))) call (Store (Enter first)) live
      live_settled =
          let split = s.at.split in
          let upto = first_last site ground here call op.copied split.is split.whole op.root s.at.root.deeper not_deep in
          record {
            storing = storing_behind site ground here call op v Live s live (Enter first) (Store (Enter first)) round_live (λ p loose. absurd (settled_firm live (begun_settled rounds live over round_live) p loose));
            open_round = λ e none. none-some _ (sym none);
            at = record {
              entering = record {
                live = record {
                  split = split_stays site here call op.copied Outside v live keeps_live (without_side site here call op.copied)
                      (ap (all_but (is_side_at op.copied.side)) split.areas ∙ areas_without op.copied.side op.copied.whole.segment) (with_side site here call op.copied)
                      (λ i is. other_slot shape op.copied.whole.segment op.copied.side i split.copy.apart (kept_in_slot shape op.copied i is)) split;
                  owns = owned;
                };
                root = deep_stays site here op rounds (Store (Enter first)) Outside v live keeps_live (before_slot shape op.copied.side root_word (root_before shape)) s.at.root;
                entered = none_before (Store (Enter first));
              };
              low = subst (λ k. k < 2 ^ op.root) (sym first_is) (near_of site ground here call op.copied split.is split.whole op.root s.at.root.deeper not_deep (side_first op.root (side_head op.copied.whole)) upto);
              of_side = subst (λ k. IsOfSide op.copied op.root k) (sym first_is)
                  (is_of_side site ground here call op.copied split.is split.whole op.root s.at.root.deeper not_deep (side_first op.root (side_head op.copied.whole)) (omega arith) upto);
              small = (let slot = split.copy.slot in let most = ground.shape.segments in omega (arith, slot, most));
            };
          }

    -- ---- all entries are settled
    module _ (s : SuitsStore site here op call Entered v) where
      abbrev directed : View
      directed = view_then shape (settles (facts_of op Entered)) n v

      keeps_directed : Keeps (λ i. ⊤) v directed
      keeps_directed = record { held = refl; planned = refl; moving = refl; owed = refl; facts = λ fact no has. inr (inr has); known = λ i x p has. has }

      deep_is : depth_in op.head ≡ depth_in op.copied.whole.head
      deep_is = ap depth_in s.storing.heads.head ∙ split_depth site ground here call op.copied s.at.live.split.is s.at.live.split.whole

      region_is : pattern_in op.head ≡ pattern_in op.copied.whole.head
      region_is = ap pattern_in s.storing.heads.head ∙ split_pattern site ground here call op.copied s.at.live.split.is s.at.live.split.whole

      pub entered_settled : SuitsStep site here (later GiveGuard) call GiveGuard directed
      entered_settled =
          let round = round_behind shape op.rounds None n v s.storing.round (facts_of op Entered) Fence is in
          record {
            live = live_stays site here call op.copied (λ i. ⊤) v directed keeps_directed refl (λ i far. tt) (λ has. inr (inr has)) s.at.live;
            settled = begun_settled rounds directed over round;
            lacks = inr (inl (sym (ap (λ d. Lacks op.copied.whole.segment (suc d) (2 * pattern_in op.head + 1)) deep_is
                ∙ ap (λ p. Lacks op.copied.whole.segment (side_depth op.copied) (2 * p + 1)) region_is)));
            deep = inl (sym (ap (λ d. Deep d (suc d) (2 * pattern_in op.head + 1)) deep_is ∙ ap (λ p. Deep (depth_in op.copied.whole.head) (side_depth op.copied) (2 * p + 1)) region_is));
          }
