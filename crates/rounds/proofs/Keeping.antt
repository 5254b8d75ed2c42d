-- What each event leaves of a view as it was, and that it may be taken.
use Rattle.std.proofs.Common.{◌≡◌, ◌≢◌, ℕ, ◌⊎◌, inl, inr, true, false, Option, None, Some, List, ◌++◌, refl, sym, ◌∙◌, subst}
use Rattle.std.proofs.lemmas.Bool.{true≢false}
use Rattle.op_core.specs.declared.want.Want.{Want}
use Rattle.op_core.specs.declared.want.Want.TheVariants.{Load, Store, Exchange, Flush, Fence, Draw, Power, Done}
use Rattle.image_layout.specs.Places.{Shape}
use Rattle.world.specs.Facts.{Fact}
use Rattle.world.specs.Ground.{Ground}
use Rattle.world.specs.Views.{View, Has}
use Rattle.world.specs.areas.Kinds.{sets, settles}
use Rattle.world.specs.areas.Asking.{MayAt}
use Rattle.world.specs.StepKinds.{view_by, MayTake}
use Rattle.world.proofs.basics.Seats.{has_first, without_has, without_stays}
use Rattle.rounds.specs.declared.rounds.Rounds.{Rounds}
use Rattle.rounds.specs.Steps.{rounds_stores, rounds_wanted}
use Rattle.rounds.specs.Stands.{kind_of, rounds_kind, IsButRound}
use Rattle.rounds.specs.Laws.{RoundsKeep, RoundsMay}
use Rattle.rounds.proofs.Events.{event_cases, store_wanted}

-- ---- by what is wanted
module _ (shape : Shape) (facts : List Fact) (n : ℕ) (v : View) where
  others_by : (want : Option Want) → IsButRound v (view_by shape (kind_of facts want) n v)
  others_by None = refl
  others_by (Some (Load i)) = refl
  others_by (Some (Store i x)) = refl
  others_by (Some (Exchange i x y)) = refl
  others_by (Some (Flush line)) = refl
  others_by (Some Fence) = refl
  others_by (Some Draw) = refl
  others_by (Some Power) = refl
  others_by (Some Done) = refl

  facts_by : (want : Option Want) → want ≢ Some Fence → (view_by shape (kind_of facts want) n v).facts ≡ v.facts
  facts_by None other = refl
  facts_by (Some (Load i)) other = refl
  facts_by (Some (Store i x)) other = refl
  facts_by (Some (Exchange i x y)) other = refl
  facts_by (Some (Flush line)) other = refl
  facts_by (Some Fence) other = absurd (other refl)
  facts_by (Some Draw) other = refl
  facts_by (Some Power) other = refl
  facts_by (Some Done) other = refl

  known_by : (want : Option Want) → ((i x : ℕ) → want ≡ Some (Store i x) → ⊥) → (view_by shape (kind_of facts want) n v).known ≡ v.known
  known_by None other = refl
  known_by (Some (Load i)) other = refl
  known_by (Some (Store i x)) other = absurd (other i x refl)
  known_by (Some (Exchange i x y)) other = refl
  known_by (Some (Flush line)) other = refl
  known_by (Some Fence) other = refl
  known_by (Some Draw) other = refl
  known_by (Some Power) other = refl
  known_by (Some Done) other = refl

may_by : (site : Ground) (facts : List Fact) (v : View) (want : Option Want) → ((i x : ℕ) → want ≡ Some (Store i x) → MayAt site (sets i x) v)
    → (want ≡ Some Fence → MayAt site (settles facts) v) → MayTake site (kind_of facts want) v
may_by site facts v None store fence = (tt, tt)
may_by site facts v (Some (Load i)) store fence = (tt, tt)
may_by site facts v (Some (Store i x)) store fence = store i x refl
may_by site facts v (Some (Exchange i x y)) store fence = (tt, tt)
may_by site facts v (Some (Flush line)) store fence = (tt, tt)
may_by site facts v (Some Fence) store fence = fence refl
may_by site facts v (Some Draw) store fence = (tt, tt)
may_by site facts v (Some Power) store fence = (tt, tt)
may_by site facts v (Some Done) store fence = (tt, tt)

-- ---- a store that is wanted is the one that is to come
store_comes : (rounds : Rounds) (next : Option (ℕ × ℕ)) (i x : ℕ) → rounds_wanted rounds next ≡ Some (Store i x) → (next ≡ Some (i, x)) × (rounds_stores rounds next ≡ true)
store_comes rounds next i x e = elim (event_cases rounds next (Store i x) e) [
  | inl s ↦ (s.comes ∙ same s.word s.value s.wants, s.stores)
  | inr f ↦ elim f [ inl f ↦ absurd (no_flush _ f.wants) | inr f ↦ absurd (no_fence f.wants) ]
]
  where
    same : (word value : ℕ) → Store i x ≡ Store word value → ◌≡◌ {A = Option (ℕ × ℕ)} (Some (word, value)) (Some (i, x))
    same word value e = cc

    no_flush : (line : ℕ) → Store i x ≡ Flush line → ⊥
    no_flush line e = cc

    no_fence : Store i x ≡ Fence → ⊥
    no_fence e = cc

no_store : (rounds : Rounds) (next : Option (ℕ × ℕ)) → rounds_stores rounds next ≡ false → (i x : ℕ) → rounds_wanted rounds next ≡ Some (Store i x) → ⊥
no_store rounds next other i x e = let comes = store_comes rounds next i x e in true≢false (sym comes.1 ∙ other)

-- ---- the words that are known behind a store
module _ (shape : Shape) (facts : List Fact) (rounds : Rounds) (word value n : ℕ) (v : View) (stores : rounds_stores rounds (Some (word, value)) ≡ true) where
  abbrev after : View
  after = view_by shape (rounds_kind rounds (Some (word, value)) facts) n v

  -- the view is that behind the store
  by_store : (P : View → Type 0) → P (view_by shape (kind_of facts (Some (Store word value))) n v) → P after
  by_store P p = subst (λ (o : Option Want). P (view_by shape (kind_of facts o) n v)) (sym (store_wanted rounds word value stores)) p

  from_store : (P : View → Type 0) → P after → P (view_by shape (kind_of facts (Some (Store word value))) n v)
  from_store P p = subst (λ (o : Option Want). P (view_by shape (kind_of facts o) n v)) (store_wanted rounds word value stores) p

  stored_known : Has (word, value) after.known
  stored_known = by_store (λ u. Has (word, value) u.known) (inl refl)

  still_known : (i y : ℕ) → Has (i, y) v.known → i ≢ word → Has (i, y) after.known
  still_known i y has other = by_store (λ u. Has (i, y) u.known) (inr (without_stays word i y v.known other has))

  only_known : (i y : ℕ) → Has (i, y) after.known → ((i ≡ word) × (y ≡ value)) ⊎ (Has (i, y) v.known × (i ≢ word))
  only_known i y has = elim (has_first word value i y _ (from_store (λ u. Has (i, y) u.known) has)) [
    | inl same ↦ inl same
    | inr old ↦ (let r = without_has word i y v.known old in inr (r.1, r.0))
  ]

pub rounds_keep : RoundsKeep
rounds_keep = record {
  others = λ shape facts rounds next n v. others_by shape facts n v (rounds_wanted rounds next);
  facts = λ shape facts rounds next n v other. facts_by shape facts n v (rounds_wanted rounds next) other;
  fence = λ shape facts rounds next n v e. subst (λ (o : Option Want). (view_by shape (kind_of facts o) n v).facts ≡ facts ++ v.facts) (sym e) refl;
  known = λ shape facts rounds next n v other. known_by shape facts n v (rounds_wanted rounds next) (no_store rounds next other);
  stored = λ shape facts rounds word value n v stores. stored_known shape facts rounds word value n v stores;
  still = λ shape facts rounds word value n v stores. still_known shape facts rounds word value n v stores;
  only = λ shape facts rounds word value n v stores. only_known shape facts rounds word value n v stores;
}

pub rounds_may : RoundsMay
rounds_may = record {
  may = λ site facts rounds next v store fence. may_by site facts v (rounds_wanted rounds next)
      (λ i x e. (let comes = store_comes rounds next i x e in store i x comes.0 comes.1)) fence;
  fence = λ site v dead. (dead, λ fact has. absurd has);
}
