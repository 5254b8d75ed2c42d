-- The guard of the segment is taken, and its header, its link and the header of its side are loaded.
use Rattle.std.proofs.Common.{◌≡◌, ◌≢◌, ℕ, zero, suc, ◌<◌, ◌≤◌, Bool, true, false, Option, List, ◌∷◌, inl, inr, ◌⊎◌, refl, sym, ap, ◌∙◌, subst, arith}
use Rattle.std.specs.Prelude.{◌==◌, ◌||◌, ◌^◌, not, if◌then◌else◌}
use Rattle.std.proofs.lemmas.Bool.{eqb-true, eqb-false, and_parts, both_ways}
use Rattle.trace.specs.Events.{Words}
use Rattle.op_core.specs.declared.want.Ans.TheVariants.{Won, Lost}
use Rattle.segment_head.specs.HeadWord.{version_in, state_in, depth_in, pattern_in, free, normal, splitting, fresh, is_live, HasLiveState}
use Rattle.frame_facts.specs.Facts.{Lives}
use Rattle.map_model.specs.declared.call.Call.{Call}
use Rattle.world.specs.declared.site.Site.{Site}
use Rattle.world.specs.Ground.{Ground}
use Rattle.world.specs.Views.{View, Has}
use Rattle.world.specs.areas.Areas.{Area, Segment, Stale, Side, header_word, link_word}
use Rattle.world.specs.areas.Kinds.{of_segment, takes, finds_stale, finds_link, finds_side, with_guard, with_area, with_facts, told_by_side, is_new_side, is_ready_side, view_then}
use Rattle.world.specs.areas.Asking.{MayBeNewest, IsStaleSplit, MayAt}
use Rattle.rounds.specs.Stands.{IsSettled}
use Rattle.rounds.proofs.Settling.{settled_firm}
use Rattle.repair_op.specs.declared.guarded.Guarded.{Guarded}
use Rattle.repair_op.specs.declared.op.RepairOp.{RepairOp}
use Rattle.repair_op.specs.declared.step.RepairEnd.TheVariants as ends
use Rattle.repair_op.specs.declared.step.Settling.TheVariants as settling
use Rattle.repair_op.specs.declared.step.RepairStep.{RepairStep}
use Rattle.repair_op.specs.declared.step.RepairStep.TheVariants.{Guard, Head, Link, Side as LoadSide, Slots, Unmark, Give, Ended}
use Rattle.repair_op.specs.Guarded.{RunsHere, IsOld, HasState}
use Rattle.repair_op.specs.Steps.{go, guarded_as, with_head, with_side, headed, linked, met_side, next_in}
use Rattle.repair_op.specs.Stands.{HoldsJust, stale_areas, IsCutOff, SuitsStep}
use Rattle.repair_op.proofs.Holding.{settled_knows, settled_quiet, has_area, was_area, no_sides}

-- a ready side is live, and so no new one
pub ready_not_new : (depth pattern head : ℕ) → is_ready_side depth pattern head ≡ true → is_new_side depth pattern head ≡ true → ⊥
ready_not_new depth pattern head ready new =
    let live = (and_parts (is_live head) _ ready).0 in
    let state = eqb-true (state_in head) fresh (and_parts (state_in head == fresh) _ new).0 in
    both_ways (is_live head) (ap (λ s. (s == normal) || (s == splitting)) state) live

pub new_is_fresh : (depth pattern head : ℕ) → is_new_side depth pattern head ≡ true → state_in head ≡ fresh
new_is_fresh depth pattern head new = eqb-true (state_in head) fresh (and_parts (state_in head == fresh) _ new).0

module _ (site : Ground) (here : Site) (call : Call) (op : RepairOp) (runs : RunsHere site here op.guarded) (v : View) where
  abbrev g : Guarded
  g = op.guarded

  abbrev Suited : RepairStep → Type 0
  Suited s = SuitsStep site here call g s v

  -- a machine suits a view
  abbrev Stood : RepairOp → View → Type 0
  Stood o u = SuitsStep site here call o.guarded o.step u

  -- ---- the guard
  pub guard_may : Suited Guard → MayAt site (takes (of_segment g.segment) g.site.caller) v
  guard_may s = (runs.numbered, s.1)

  pub guard_stands : (won : Bool) (n : ℕ) → g.segment < site.shape.segments → Suited Guard → Stood (next_in op Guard (if won then Won else Lost n)) (with_guard won (of_segment g.segment) v)
  guard_stands true n within s = (
    within,
    record { areas_are = ap (λ (l : List Area). Segment g.segment ∷ l) s.0.areas; no_locks = s.0.held; planned = s.0.planned; moving = s.0.moving; owed = s.0.owed },
    s.0.known,
    record { dirty = s.0.dirty; flushed = s.0.flushed },
    s.1,
    s.2,
  )
  guard_stands false n within s = s.0

  -- ---- the header
  pub head_may : Suited Head → MayAt site (finds_stale g.segment g.site.version) v
  head_may s = (has_area v _ (Segment g.segment) s.1.areas_are (inl refl), runs.version)

  module _ (words : Words) (new : MayBeNewest site v words) (n : ℕ) (small : n < 2 ^ 64) (found : n ≡ words (header_word site.shape g.segment)) (s : Suited Head) where
    abbrev met : Guarded
    met = with_head g n

    abbrev stale_view : View
    stale_view = with_area true (Stale g.segment) (header_word site.shape g.segment) n v

    met_runs : RunsHere site here met
    met_runs = record { at = runs.at; shape = runs.shape; version = runs.version; numbered = runs.numbered; caller = runs.caller }

    met_old : (version_in n == g.site.version) ≡ false → IsOld site met
    met_old other = record { within = s.0; fits = small; old = λ same. eqb-false (version_in n) g.site.version other (same ∙ sym runs.version) }

    met_known : (p : ℕ × ℕ) → Has p stale_view.known → (p.0 ≡ header_word site.shape g.segment) ⊎ (p.0 ≡ link_word site.shape g.segment)
    met_known p has = elim has [
      | inl same ↦ inl (ap (λ (q : ℕ × ℕ). q.0) same)
      | inr has ↦ absurd (subst (λ (l : List (ℕ × ℕ)). Has p l) s.2 has)
    ]

    is_normal : state_in n ≢ splitting → state_in n ≡ normal
    is_normal other =
        let live : HasLiveState n = subst (λ x. HasLiveState x) (sym found) (new.says (Lives g.segment) s.4).live in
        elim live [ inl normal ↦ normal | inr splits ↦ absurd (other splits) ]

    head_by : (t u : Bool) → (version_in n == g.site.version) ≡ t → (state_in n == splitting) ≡ u
        → SuitsStep site here call met (if t then Give ends.Current else if u then Link else Ended ends.Guarded) (with_area (not t) (Stale g.segment) (header_word site.shape g.segment) n v)
    head_by true u current state = (
      tt,
      record {
        within = s.0;
        guard = has_area v _ (Segment g.segment) s.1.areas_are (inl refl);
        areas = λ a has. elim (was_area v _ a s.1.areas_are has) [ inl same ↦ inl same | inr none ↦ absurd none ];
        no_locks = s.1.no_locks;
        known = λ p has. absurd (subst (λ (l : List (ℕ × ℕ)). Has p l) s.2 has);
        quiet = settled_quiet _ v s.1 s.3;
      },
    )
    head_by false true other state = (
      record { old = met_old other; splits = eqb-true (state_in n) splitting state; no_side = s.5 },
      record { areas_are = ap (λ (l : List Area). Stale g.segment ∷ l) s.1.areas_are; no_locks = s.1.no_locks; planned = s.1.planned; moving = s.1.moving; owed = s.1.owed },
      record { header = inl refl; only = met_known },
      record { dirty = s.3.dirty; flushed = s.3.flushed },
    )
    head_by false false other state = record {
      here_is = met_runs;
      old = met_old other;
      areas = ap (λ (l : List Area). Stale g.segment ∷ l) s.1.areas_are;
      no_locks = s.1.no_locks;
      header = inl refl;
      known = met_known;
      state = subst (λ (o : Option ℕ). HasState site met o stale_view) (sym s.5) (is_normal (eqb-false (state_in n) splitting state));
      quiet = record { dirty = s.3.dirty; flushed = s.3.flushed; planned = s.1.planned; moving = s.1.moving; owed = s.1.owed };
    }

    pub head_stands : Stood (headed op n) (view_then site.shape (finds_stale g.segment g.site.version) n v)
    head_stands = head_by (version_in n == g.site.version) (state_in n == splitting) refl refl

  -- ---- the link
  split_of : (areas : List Area) → IsCutOff site g → HoldsJust areas v → Has (Stale g.segment) areas → IsSettled v → Has (header_word site.shape g.segment, g.head) v.known
      → IsStaleSplit site v g.segment (depth_in g.head) (pattern_in g.head)
  split_of areas cut holds stale settled header = record {
    stale = has_area v areas (Stale g.segment) holds.areas_are stale;
    head = g.head;
    knows = settled_knows v _ _ settled header;
    splits = cut.splits;
    depth_is = refl;
    pattern_is = refl;
  }

  pub link_may : Suited Link → MayAt site (finds_link g.segment (depth_in g.head) (pattern_in g.head)) v
  link_may s = (split_of (stale_areas site g) s.0 s.1 (inl refl) s.3 s.2.header, λ y loose. settled_firm v s.3 _ loose)

  pub link_stands : (words : Words) (new : MayBeNewest site v words) (n : ℕ) → n ≡ words (link_word site.shape g.segment) → Suited Link
      → SuitsStep site here call g (linked n) (view_then site.shape (finds_link g.segment (depth_in g.head) (pattern_in g.head)) n v)
  link_stands words new zero found s = record {
    cut = s.0;
    holds = record { areas_are = s.1.areas_are; no_locks = s.1.no_locks; planned = s.1.planned; moving = s.1.moving; owed = s.1.owed };
    knows = record {
      header = inr s.2.header;
      only = λ p has. elim has [ inl same ↦ inr (ap (λ (q : ℕ × ℕ). q.0) same) | inr has ↦ s.2.only p has ];
    };
    settling_is = record { dirty = s.3.dirty; flushed = s.3.flushed };
    owns = inl refl;
  }
  link_stands words new (suc slot) found s = (
    s.0,
    (let near = new.structure.sound.link g.segment s.0.old.within (λ none. taken (sym (new.knows _ g.head s.2.header)) s.0.splits none) in
        low slot (words (link_word site.shape g.segment)) site.shape.segments found near),
    record { areas_are = s.1.areas_are; no_locks = s.1.no_locks; planned = s.1.planned; moving = s.1.moving; owed = s.1.owed },
    record {
      header = inr s.2.header;
      only = λ p has. elim has [ inl same ↦ inr (ap (λ (q : ℕ × ℕ). q.0) same) | inr has ↦ s.2.only p has ];
    },
    inl refl,
    record { dirty = s.3.dirty; flushed = s.3.flushed },
  )
    where
      low : (slot link most : ℕ) → suc slot ≡ link → link ≤ most → slot < most
      low slot link most is near = omega (arith, is, near)

      taken : {head x : ℕ} → head ≡ x → state_in head ≡ splitting → state_in x ≡ free → ⊥
      taken is splits none = let e : splitting ≡ free = sym splits ∙ ap state_in is ∙ none in omega (arith, e)

  -- ---- the header of the slot that is linked
  pub side_may : (slot : ℕ) → Suited (LoadSide slot) → MayAt site (finds_side g.segment slot (depth_in g.head) (pattern_in g.head)) v
  side_may slot s = (
    split_of (stale_areas site g) s.0 s.2 (inl refl) s.5 s.3.header,
    settled_knows v _ _ s.5 s.4,
    s.1,
    no_sides g.segment v s.2.areas_are,
  )

  module _ (words : Words) (new : MayBeNewest site v words) (slot n : ℕ) (small : n < 2 ^ 64) (found : n ≡ words (header_word site.shape slot)) (s : Suited (LoadSide slot)) where
    abbrev depth : ℕ
    depth = depth_in g.head

    abbrev pattern : ℕ
    pattern = pattern_in g.head

    abbrev told_view : Bool → Bool → View
    told_view r w = with_facts (told_by_side r g.segment slot depth pattern) (with_area w (Side slot) (header_word site.shape slot) n v)

    -- a new side stands in another slot
    apart : is_new_side depth pattern n ≡ true → slot ≢ g.segment
    apart is_new same =
        let one : n ≡ g.head = found ∙ ap (λ m. words (header_word site.shape m)) same ∙ new.knows _ g.head s.3.header in
        let e : fresh ≡ splitting = sym (new_is_fresh depth pattern n is_new) ∙ ap state_in one ∙ s.0.splits in
        omega (arith, e)

    side_by : (r w : Bool) → is_ready_side depth pattern n ≡ r → is_new_side depth pattern n ≡ w
        → Stood (if r then guarded_as (with_side g slot) else if w then go op (Slots slot n) else go op (Unmark settling.Store)) (told_view r w)
    side_by true true ready is_new = absurd (ready_not_new depth pattern n ready is_new)
    side_by true false ready other = record {
      here_is = record { at = runs.at; shape = runs.shape; version = runs.version; numbered = runs.numbered; caller = runs.caller };
      old = record { within = s.0.old.within; fits = s.0.old.fits; old = s.0.old.old };
      areas = s.2.areas_are;
      no_locks = s.2.no_locks;
      header = s.3.header;
      known = s.3.only;
      state = record { splits = s.0.splits; slot = s.1; linked = s.4; begins = inl refl; lacks = inr (inl refl) };
      quiet = record { dirty = s.5.dirty; flushed = s.5.flushed; planned = s.2.planned; moving = s.2.moving; owed = s.2.owed };
    }
    side_by false true unready is_new = (
      record {
        cut = s.0;
        within = s.1;
        apart = apart is_new;
        fits = small;
        new = is_new;
        owns = inl refl;
        knows = record {
          header = inr s.3.header;
          link = inr s.4;
          only = λ p has. elim has [ inl same ↦ inr (ap (λ (q : ℕ × ℕ). q.0) same) | inr has ↦ inl (s.3.only p has) ];
        };
      },
      record { areas_are = ap (λ (l : List Area). Side slot ∷ l) s.2.areas_are; no_locks = s.2.no_locks; planned = s.2.planned; moving = s.2.moving; owed = s.2.owed },
      inl refl,
      record { dirty = s.5.dirty; flushed = s.5.flushed },
    )
    side_by false false unready other = record {
      cut = s.0;
      holds = record { areas_are = s.2.areas_are; no_locks = s.2.no_locks; planned = s.2.planned; moving = s.2.moving; owed = s.2.owed };
      knows = record { header = s.3.header; only = s.3.only };
      settling_is = record { dirty = s.5.dirty; flushed = s.5.flushed };
      owns = inl refl;
    }

    pub side_stands : Stood (met_side op slot n) (view_then site.shape (finds_side g.segment slot depth pattern) n v)
    side_stands = side_by (is_ready_side depth pattern n) (is_new_side depth pattern n) refl refl
