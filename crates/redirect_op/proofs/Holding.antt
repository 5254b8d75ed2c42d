-- What the laws of the world ask for, from what a view holds under the guard of the directory; and what an event leaves of that.
use Rattle.std.proofs.Common.{◌≡◌, ℕ, suc, ◌^◌, ◌<◌, ◌≤◌, ◌⊎◌, inl, inr, List, [], ◌∷◌, refl, ◌∙◌, subst}
use Rattle.trace.specs.Events.{Words}
use Rattle.image_layout.specs.Places.{root_word, entry_at, first_segment}
use Rattle.frame_facts.specs.Facts.{Fact, Begins}
use Rattle.frame_facts.specs.DeadSlots.{IsInSlot}
use Rattle.world.specs.declared.site.Site.{Site}
use Rattle.world.specs.Ground.{Ground, IsGround}
use Rattle.world.specs.Views.{View, Has, IsLoose}
use Rattle.world.specs.areas.Areas.{Segment, Stale, Side, Directory, IsDirectoryWord, header_word, link_word}
use Rattle.world.specs.areas.Rows.{HasNoSides}
use Rattle.world.specs.areas.Kinds.{sets, settles}
use Rattle.world.specs.areas.Asking.{MayAt}
use Rattle.world.specs.areas.Repairing.{HasStale, HasReadySideOf}
use Rattle.world.proofs.holders.repairing.Redirecting.{may_redirect}
use Rattle.repair_op.specs.declared.guarded.Guarded.{Guarded}
use Rattle.repair_op.proofs.Holding.{has_area, was_area, stale_held}
use Rattle.world.proofs.fitting.OneHolder.{head_in_slot, link_in_slot}
use Rattle.repair_op.proofs.Storing.{fence_may}
use Rattle.directory_op.proofs.Words.{entry_no_root, entry_no_slot, slot_behind}
use Rattle.redirect_op.specs.Stands.{facts_of, directory_areas, IsGuarding, IsRooted, IsOfSide, Names, LeadsBehind, LeadsPast}

-- A STEP UNDER THE GUARD keeps areas, locks and plans, all that is said, and each known word that is still so; and no word gets known but one of
-- the directory
pub record GoesOn (site : Ground) (Still : ℕ → Type 0) (v u : View) : Type 0 where
  pub areas : u.areas ≡ v.areas
  pub held : u.held ≡ v.held
  pub planned : u.planned ≡ v.planned
  pub moving : u.moving ≡ v.moving
  pub owed : u.owed ≡ v.owed
  pub facts : (fact : Fact) → Has fact v.facts → Has fact u.facts
  pub known : (i x : ℕ) → Still i → Has (i, x) v.known → Has (i, x) u.known
  pub only : (p : ℕ × ℕ) → Has p u.known → Has p v.known ⊎ IsDirectoryWord site.shape p.0

module _ (site : Ground) (here : Site) (g : Guarded) (Still : ℕ → Type 0) (v u : View) (k : GoesOn site Still v u) (far : (i : ℕ) → first_segment site.shape ≤ i → Still i) where
  slot_still : (i : ℕ) → IsInSlot site.shape g.segment i → Still i
  slot_still i inside = far i (slot_behind site.shape g.segment i inside)

  pub guarding_stays : IsGuarding site here g v → IsGuarding site here g u
  guarding_stays s = record {
    here_is = s.here_is;
    old = s.old;
    side = s.side;
    side_is = s.side_is;
    small = s.small;
    ready = record {
      splits = s.ready.splits;
      slot = s.ready.slot;
      linked = k.known (link_word site.shape g.segment) (suc s.side) (slot_still (link_word site.shape g.segment) (link_in_slot site.shape g.segment)) s.ready.linked;
      begins = k.facts _ s.ready.begins;
      lacks = k.facts _ s.ready.lacks;
    };
    holds = record {
      areas_are = k.areas ∙ s.holds.areas_are;
      no_locks = k.held ∙ s.holds.no_locks;
      planned = k.planned ∙ s.holds.planned;
      moving = k.moving ∙ s.holds.moving;
      owed = k.owed ∙ s.holds.owed;
    };
    header = k.known (header_word site.shape g.segment) g.head (slot_still (header_word site.shape g.segment) (head_in_slot site.shape g.segment)) s.header;
    known = λ p has. elim (k.only p has) [ inl was ↦ s.known p was | inr new ↦ inr new ];
  }

  module _ (root : ℕ) where
    pub rooted_stays : Still root_word → IsRooted site here g root v → IsRooted site here g root u
    rooted_stays still r = record {
      guarding = guarding_stays r.guarding;
      deeper = r.deeper;
      within = r.within;
      fits = r.fits;
      known = k.known root_word root still r.known;
    }

    pub names_stays : (j segment begin : ℕ) → Still (entry_at root j) → Names site here g root j segment begin v → Names site here g root j segment begin u
    names_stays j segment begin still n = record { named = k.known (entry_at root j) segment still n.named; begins = k.facts (Begins segment begin) n.begins }

    pub behind_stays : (j : ℕ) → Still (entry_at root j) → LeadsBehind site here g root j v → LeadsBehind site here g root j u
    behind_stays j still b = (b.0, b.1, names_stays j b.0 b.1 still b.2, b.3)

    pub past_stays : (j : ℕ) → Still (entry_at root j) → LeadsPast site here g root j v → LeadsPast site here g root j u
    past_stays j still b = (b.0, b.1, names_stays j b.0 b.1 still b.2, b.3)

-- ---- what a view holds
-- of a stale segment and the directory alone no side is held
no_side_there : (s n : ℕ) → Has (Side n) (Directory ∷ Stale s ∷ Segment s ∷ []) → ⊥
no_side_there s n has = elim has [
  | inl same ↦ (let e : Side n ≡ Directory = same in cc)
  | inr has ↦ elim has [
    | inl same ↦ (let e : Side n ≡ Stale s = same in cc)
    | inr has ↦ elim has [
      | inl same ↦ (let e : Side n ≡ Segment s = same in cc)
      | inr none ↦ none
    ]
  ]
]

module _ (site : Ground) (here : Site) (g : Guarded) (v : View) (s : IsGuarding site here g v) where
  pub has_directory : Has Directory v.areas
  has_directory = has_area v (directory_areas site here g) Directory s.holds.areas_are (inl refl)

  pub none_sides : HasNoSides v.areas
  none_sides n has = no_side_there g.segment n (was_area v (directory_areas site here g) (Side n) s.holds.areas_are has)

  -- the fence of a round
  pub round_may : MayAt site (settles []) v
  round_may = fence_may site v none_sides

-- ---- under the guard, with the root known
module _ (site : Ground) (ground : IsGround site) (here : Site) (g : Guarded) (root : ℕ) (v : View) (r : IsRooted site here g root v)
    (loose : (p : ℕ × ℕ) → IsLoose v p → (j : ℕ) × (j < 2 ^ root) × (p.0 ≡ entry_at root j)) where
  abbrev guarding : IsGuarding site here g v
  guarding = r.guarding

  -- by words that have the header
  abbrev word : Words
  word = λ i. g.head

  firm_slot : (i y : ℕ) → IsInSlot site.shape g.segment i → IsLoose v (i, y) → ⊥
  firm_slot i y inside is = let e = loose (i, y) is in entry_no_slot site.shape root e.0 i r.within e.1 (slot_behind site.shape g.segment i inside) e.2

  firm_root : (y : ℕ) → IsLoose v (root_word, y) → ⊥
  firm_root y is = let e = loose (root_word, y) is in entry_no_root root e.0 e.2

  mine : HasStale site v g.segment word
  mine = stale_held site g v (directory_areas site here g) word guarding.old guarding.holds (inr (inr (inl refl))) (inr (inl refl)) refl
      (record { known = guarding.header; firm = λ y is. firm_slot (header_word site.shape g.segment) y (head_in_slot site.shape g.segment) is })

  has_side : HasReadySideOf site v g.segment guarding.side root word
  has_side = record {
    mine = mine;
    no_sides = none_sides site here g v guarding;
    into = record {
      splits = guarding.ready.splits;
      linked = record { known = guarding.ready.linked; firm = λ y is. firm_slot (link_word site.shape g.segment) y (link_in_slot site.shape g.segment) is };
    };
    directory = has_directory site here g v guarding;
    root = record { known = r.known; firm = firm_root };
    begins = guarding.ready.begins;
    lacks = guarding.ready.lacks;
  }

  -- an entry that leads past the side may be stored
  pub enter_may : (index : ℕ) → IsOfSide site here g root index → ((y : ℕ) → IsLoose v (entry_at root index, y) → ⊥) → LeadsPast site here g root index v → MayAt site (sets (entry_at root index) guarding.side) v
  enter_may index of_side firm past =
      (may_redirect site v ground).enter g.segment guarding.side root index past.0 past.1 word has_side r.within of_side (record { known = past.2.named; firm = firm }) past.2.begins past.3

  -- and the last fence settles that none does
  pub settle_may : ((j : ℕ) → j < 2 ^ root → IsOfSide site here g root j → LeadsBehind site here g root j v) → v.dirty ≡ [] → MayAt site (settles (facts_of g)) v
  settle_may behind clean = (may_redirect site v ground).settled g.segment guarding.side root word has_side (λ i is.
      let b = behind i is.index is in (b.0, b.1, b.2.named, (λ y has. subst (λ (l : List (ℕ × ℕ)). Has (entry_at root i, y) l) clean has), b.2.begins, b.3))
