-- Along the weave each reply may stand exactly where each entry, looked at alone, is right at its place.
use Rattle.std.proofs.Common.{◌≡◌, ℕ, zero, suc, ◌<◌, ◌≤◌, true, false, ◌&&◌, not, List, length, refl, sym, ap, subst, ◌∙◌, arith, inl, inr}
use Rattle.std.proofs.lemmas.Bool.{eq-eqb, eqb-true, and_parts, not-true}
use Rattle.std.proofs.lemmas.Bool.Decides.{eqb_tells}
use Rattle.std.specs.Prelude.{eqb}
use Rattle.std.specs.List.{filter, AllByRecursion}
use Rattle.map_model.specs.declared.entry.Entry.{Entry}
use Rattle.map_model.specs.Map.{Map, is_done}
use Rattle.map_model.specs.Weave.{drew_at, loaded_at, at_place, weave_below}
use Rattle.map_model.specs.Legal.{replay, AreReplies}
use Rattle.map_model.specs.ByPlaces.{draws_below, map_at}
use Rattle.map_model.proofs.Elements.{Has, All-at, All-from_each, Has-append_left, Has-append_right, Has-append_cases, Has-filter, Has-filter_parts}
use Rattle.map_model.proofs.Rows.{replay-append, AreReplies-append, AreReplies-parts, IsQuiet, replay-quiet, MayAnswer, AreReplies-at_one_map, at_one_map-AreReplies}

-- ---- each entry stands at its place, and at no other
pub drew_here : (e : Entry) → e.drew ≡ true → drew_at e.place e ≡ true
drew_here e drew = ap (λ b. b && eqb e.place e.place) drew ∙ eq-eqb e.place e.place refl

loaded_here : (e : Entry) → e.drew ≡ false → loaded_at e.place e ≡ true
loaded_here e loaded = ap (λ b. not b && eqb e.place e.place) loaded ∙ eq-eqb e.place e.place refl

pub stands : (all : List Entry) (e : Entry) → Has all e → Has (at_place all e.place) e
stands all e h =
    elim e.drew as (λ b. e.drew ≡ b → Has (at_place all e.place) e) [
      | true ↦ λ drew. Has-append_right (filter (loaded_at e.place) all) (filter (drew_at e.place) all) e (Has-filter (drew_at e.place) all e (drew_here e drew) h)
      | false ↦ λ loaded. Has-append_left (filter (loaded_at e.place) all) (filter (drew_at e.place) all) e (Has-filter (loaded_at e.place) all e (loaded_here e loaded) h)
    ] refl

pub stands_only : (all : List Entry) (n : ℕ) (e : Entry) → Has (at_place all n) e → Has all e × (e.place ≡ n)
stands_only all n e h = elim (Has-append_cases (filter (loaded_at n) all) (filter (drew_at n) all) e h) [
  | inl loaded ↦ (let parts = Has-filter_parts (loaded_at n) all e loaded in (parts.1, eqb-true e.place n (and_parts (not e.drew) (eqb e.place n) parts.0).1))
  | inr drew ↦ (let parts = Has-filter_parts (drew_at n) all e drew in (parts.1, eqb-true e.place n (and_parts e.drew (eqb e.place n) parts.0).1))
]

-- ---- the map along the weave
-- an entry drew exactly where it changes the map
abbrev pub DrewForChange : Entry → Type 0
DrewForChange e = e.drew ≡ is_done e.reply

module _ (start : Map) (all : List Entry) (drew_for_change : AllByRecursion DrewForChange all) where
  loaded-quiet : (n : ℕ) → AllByRecursion IsQuiet (filter (loaded_at n) all)
  loaded-quiet n = All-from_each IsQuiet (filter (loaded_at n) all) (λ e h.
      let parts = Has-filter_parts (loaded_at n) all e h in
      sym (All-at DrewForChange all e drew_for_change parts.1) ∙ not-true e.drew (and_parts (not e.drew) (eqb e.place n) parts.0).0)

  -- the weave leaves the map that the draws alone leave
  pub replay-weave_below : (n : ℕ) → replay start (weave_below all n) ≡ map_at start all n
  replay-weave_below zero = refl
  replay-weave_below (suc n) =
      replay-append start (weave_below all n) (at_place all n)
      ∙ ap (λ m. replay m (at_place all n)) (replay-weave_below n)
      ∙ replay-append (map_at start all n) (filter (loaded_at n) all) (filter (drew_at n) all)
      ∙ ap (λ m. replay m (filter (drew_at n) all)) (replay-quiet (map_at start all n) (filter (loaded_at n) all) (loaded-quiet n))
      ∙ sym (replay-append start (draws_below all n) (filter (drew_at n) all))

  -- the entries at place n are right at the map after n draws
  abbrev pub AreRightAt : ℕ → Type 0
  AreRightAt n = AllByRecursion (MayAnswer (map_at start all n)) (at_place all n)

  pub AreReplies-weave_below : (limit : ℕ) → ((n : ℕ) → n < limit → length (filter (drew_at n) all) ≤ 1)
      → ((n : ℕ) → n < limit → AreRightAt n) → AreReplies start (weave_below all limit)
  AreReplies-weave_below zero once right = tt
  AreReplies-weave_below (suc n) once right =
      AreReplies-append start (weave_below all n) (at_place all n)
      (AreReplies-weave_below n (λ k below. once k (omega arith)) (λ k below. right k (omega arith)))
      (subst (λ m. AreReplies m (at_place all n)) (sym (replay-weave_below n))
      (AreReplies-at_one_map (map_at start all n) (filter (loaded_at n) all) (filter (drew_at n) all) (loaded-quiet n) (once n (omega arith)) (right n (omega arith))))

  pub weave_below-AreReplies : (limit : ℕ) → ((n : ℕ) → n < limit → length (filter (drew_at n) all) ≤ 1)
      → AreReplies start (weave_below all limit) → (n : ℕ) → n < limit → AreRightAt n
  weave_below-AreReplies zero once replies n below = absurd (omega arith)
  weave_below-AreReplies (suc k) once replies n below =
      let parts = AreReplies-parts start (weave_below all k) (at_place all k) replies in
      elim (eqb_tells n k) [
        | inl same ↦ subst AreRightAt (sym same.1)
            (at_one_map-AreReplies (map_at start all k) (filter (loaded_at k) all) (filter (drew_at k) all) (loaded-quiet k) (once k (omega arith))
            (subst (λ m. AreReplies m (at_place all k)) (replay-weave_below k) parts.1))
        | inr other ↦ weave_below-AreReplies k (λ j l. once j (omega arith)) parts.0 n (omega arith)
      ]

-- ---- a fact at every place is a fact of every entry at its place
module _ (R : ℕ → Entry → Type 0) (all : List Entry) where
  pub All-from_places : (limit : ℕ) → AllByRecursion (λ e. e.place < limit) all → ((n : ℕ) → n < limit → AllByRecursion (R n) (at_place all n)) → AllByRecursion (λ e. R e.place e) all
  All-from_places limit within right = All-from_each (λ e. R e.place e) all (λ e h.
      All-at (R e.place) (at_place all e.place) e (right e.place (All-at (λ x. x.place < limit) all e within h)) (stands all e h))

  pub All-at_place : AllByRecursion (λ e. R e.place e) all → (n : ℕ) → AllByRecursion (R n) (at_place all n)
  All-at_place right n = All-from_each (R n) (at_place all n) (λ e h.
      let parts = stands_only all n e h in
      subst (λ k. R k e) parts.1 (All-at (λ x. R x.place x) all e right parts.0))
