-- What follows from what a view holds in a step: it is the holder of a stale segment, and which sides it has.
use Rattle.std.proofs.Common.{◌≡◌, ℕ, List, [], ◌∷◌, inl, inr, refl, sym, ap, ◌∙◌, subst}
use Rattle.trace.specs.Events.{Words}
use Rattle.segment_head.specs.HeadWord.{version_in}
use Rattle.world.specs.Ground.{Ground}
use Rattle.world.specs.Views.{View, Has, HasLock}
use Rattle.world.specs.Holders.{KnowsWord}
use Rattle.world.specs.areas.Areas.{Area, Segment, Stale, Side, Free, Allocation, header_word}
use Rattle.world.specs.areas.Rows.{HasNoSides}
use Rattle.world.specs.areas.Splitting.{IsSettledHolder}
use Rattle.world.specs.areas.Repairing.{HasStale}
use Rattle.phase.specs.Giving.{IsQuiet}
use Rattle.rounds.specs.Stands.{IsSettled}
use Rattle.rounds.proofs.Settling.{settled_firm}
use Rattle.repair_op.specs.declared.guarded.Guarded.{Guarded}
use Rattle.repair_op.specs.Guarded.{IsOld, GuardedAreStale}
use Rattle.repair_op.specs.Stands.{HoldsJust, stale_areas}

-- ---- where all is settled
pub settled_knows : (v : View) (i x : ℕ) → IsSettled v → Has (i, x) v.known → KnowsWord v i x
settled_knows v i x settled known = record { known = known; firm = λ y loose. settled_firm v settled (i, y) loose }

pub settled_quiet : (areas : List Area) (v : View) → HoldsJust areas v → IsSettled v → IsQuiet v
settled_quiet areas v holds settled = record { dirty = settled.dirty; flushed = settled.flushed; planned = holds.planned; moving = holds.moving; owed = holds.owed }

-- ---- areas
pub has_area : (v : View) (areas : List Area) (a : Area) → v.areas ≡ areas → Has a areas → Has a v.areas
has_area v areas a is has = subst (λ (l : List Area). Has a l) (sym is) has

pub was_area : (v : View) (areas : List Area) (a : Area) → v.areas ≡ areas → Has a v.areas → Has a areas
was_area v areas a is has = subst (λ (l : List Area). Has a l) is has

-- of a stale segment alone no side is held
no_side_here : (s n : ℕ) → Has (Side n) (Stale s ∷ Segment s ∷ []) → ⊥
no_side_here s n has = elim has [
  | inl same ↦ (let e : Side n ≡ Stale s = same in cc)
  | inr has ↦ elim has [
    | inl same ↦ (let e : Side n ≡ Segment s = same in cc)
    | inr none ↦ none
  ]
]

pub no_sides : (s : ℕ) (v : View) → v.areas ≡ Stale s ∷ Segment s ∷ [] → HasNoSides v.areas
no_sides s v is n has = no_side_here s n (was_area v _ (Side n) is has)

-- nor with a slot that was found free
pub no_sides_freed : (s slot : ℕ) (v : View) → v.areas ≡ Free slot ∷ Allocation ∷ Stale s ∷ Segment s ∷ [] → HasNoSides v.areas
no_sides_freed s slot v is n has = elim (was_area v _ (Side n) is has) [
  | inl same ↦ (let e : Side n ≡ Free slot = same in cc)
  | inr has ↦ elim has [
    | inl same ↦ (let e : Side n ≡ Allocation = same in cc)
    | inr has ↦ no_side_here s n has
  ]
]

-- ---- THE HOLDER of a stale segment
pub settled_holder : (site : Ground) (areas : List Area) (v : View) → HoldsJust areas v → IsSettledHolder site.shape v
settled_holder site areas v holds = record {
  planned = holds.planned;
  moving = holds.moving;
  owed = holds.owed;
  locks = λ lock has. absurd (subst (λ (l : List (ℕ × ℕ)). HasLock l lock) holds.no_locks has).1;
}

pub stale_held : (site : Ground) (g : Guarded) (v : View) (areas : List Area) (word : Words) → IsOld site g → HoldsJust areas v → Has (Segment g.segment) areas → Has (Stale g.segment) areas
    → word (header_word site.shape g.segment) ≡ g.head → KnowsWord v (header_word site.shape g.segment) g.head → HasStale site v g.segment word
stale_held site g v areas word old holds guard stale is header = record {
  holder = settled_holder site areas v holds;
  no_locks = holds.no_locks;
  guard = has_area v areas (Segment g.segment) holds.areas_are guard;
  stale = has_area v areas (Stale g.segment) holds.areas_are stale;
  slot = old.within;
  header = subst (λ x. KnowsWord v (header_word site.shape g.segment) x) (sym is) header;
  old = λ same. old.old (sym (ap version_in is) ∙ same);
}

-- A GUARDED SEGMENT is stale, by any words with its header
pub guarded_is_stale : GuardedAreStale
guarded_is_stale site here call g v word k is = stale_held site g v (stale_areas site g) word k.old
    (record { areas_are = k.areas; no_locks = k.no_locks; planned = k.quiet.planned; moving = k.quiet.moving; owed = k.quiet.owed }) (inr (inl refl)) (inl refl) is
    (settled_knows v _ _ (record { dirty = k.quiet.dirty; flushed = k.quiet.flushed }) k.header)
