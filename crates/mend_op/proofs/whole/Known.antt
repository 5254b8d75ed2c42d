-- What the view holds and knows of the segment, and what events leave of that.
use Rattle.std.proofs.Common.{◌≡◌, ℕ, ◌+◌, ◌<◌, List, [], ◌∷◌, length, slice_index, slice_set, inl, inr, refl, sym, ap, ◌∙◌, subst, arith}
use Rattle.std.proofs.lemmas.Bool.{cases_eq}
use Rattle.std.proofs.lemmas.List.{get_or-set_same, get_or-set_other}
use Rattle.trace.specs.Events.{Words}
use Rattle.segment_head.specs.HeadWord.{version_in}
use Rattle.image_layout.specs.Places.{bucket_at, words_of_buckets}
use Rattle.frame_facts.specs.DeadSlots.{IsInSlot}
use Rattle.world.specs.Ground.{Ground}
use Rattle.world.specs.Views.{View, Has, HasLock, IsLoose}
use Rattle.world.specs.Kinds.{with_store}
use Rattle.world.specs.Holders.{KnowsWord}
use Rattle.world.specs.areas.Areas.{Area, Segment, Stale, Side, header_word}
use Rattle.world.specs.areas.Fitting.{HoldsWord}
use Rattle.world.specs.areas.Rows.{HasNoSides}
use Rattle.world.specs.areas.Splitting.{IsSettledHolder}
use Rattle.world.specs.areas.Repairing.{HasStale}
use Rattle.world.proofs.basics.Lists.{pair_same}
use Rattle.world.proofs.basics.Seats.{without_has, without_stays}
use Rattle.repair_op.specs.declared.guarded.Guarded.{Guarded}
use Rattle.repair_op.specs.Guarded.{IsOld}
use Rattle.repair_op.specs.Steps.{with_head}
use Rattle.mend_op.specs.Stands.{place_of, HasSegment, HasAll}
use Rattle.mend_op.proofs.whole.Words.{no_header, in_slot, head_in_slot}

module _ (site : Ground) (guarded : Guarded) where
  abbrev s : ℕ
  s = guarded.segment

  -- places are apart
  place_apart : (i j : ℕ) → place_of site guarded i ≡ place_of site guarded j → i ≡ j
  place_apart i j same = by (bucket_at site.shape s 0) i j same
    where
      by : (f i j : ℕ) → f + i ≡ f + j → i ≡ j
      by f i j same = omega (arith, same)

  module _ (words : List ℕ) where
    -- a view that holds and knows the same, and plans and owes no more
    pub all_kept : (n : ℕ) (v u : View) → u.areas ≡ v.areas → u.held ≡ v.held → u.known ≡ v.known → u.planned ≡ v.planned → u.moving ≡ v.moving → u.owed ≡ v.owed
        → HasSegment site guarded words n v → HasSegment site guarded words n u
    all_kept n v u areas held known planned moving owed a = record {
      areas = areas ∙ a.areas;
      no_locks = held ∙ a.no_locks;
      header = subst (λ (l : List (ℕ × ℕ)). Has (header_word site.shape s, guarded.head) l) (sym known) a.header;
      words_are = λ i low. subst (λ (l : List (ℕ × ℕ)). Has (place_of site guarded i, slice_index words i) l) (sym known) (a.words_are i low);
      known = λ p has. a.known p (subst (λ (l : List (ℕ × ℕ)). Has p l) known has);
      idle = record { planned = planned ∙ a.idle.planned; moving = moving ∙ a.idle.moving; owed = owed ∙ a.idle.owed };
    }

    -- ---- a word is loaded, or stored
    module _ (i x : ℕ) (low : i < words_of_buckets) (long : length words ≡ words_of_buckets) where
      abbrev more : List ℕ
      more = slice_set words i x

      more_here : slice_index more i ≡ x
      more_here = get_or-set_same words i x 0 (omega (arith, low, long))

      more_other : (j : ℕ) → (j ≡ i → ⊥) → slice_index more j ≡ slice_index words j
      more_other j apart = get_or-set_other words i j x 0 apart

      -- that it has here
      pair_here : (j : ℕ) → j ≡ i → ◌≡◌ {A = ℕ × ℕ} (place_of site guarded j, slice_index more j) (place_of site guarded i, x)
      pair_here j same = pair_same (place_of site guarded j) (place_of site guarded i) (slice_index more j) x (ap (place_of site guarded) same) (ap (slice_index more) same ∙ more_here)

      in_place : (p : ℕ × ℕ) → p ≡ (place_of site guarded i, x) → IsInSlot site.shape s p.0
      in_place p same = subst (λ (j : ℕ). IsInSlot site.shape s j) (sym (ap (λ (q : ℕ × ℕ). q.0) same)) (in_slot site.shape s i low)

      pub loaded_more : (v : View) → HasSegment site guarded words i v → HasSegment site guarded more (i + 1) (record v { known = (place_of site guarded i, x) ∷ v.known })
      loaded_more v a = record {
        areas = a.areas;
        no_locks = a.no_locks;
        header = inr a.header;
        words_are = λ j below. elim (cases_eq j i) [
          | inl same ↦ inl (pair_here j same)
          | inr apart ↦ inr (subst (λ y. Has (place_of site guarded j, y) v.known) (sym (more_other j apart)) (a.words_are j (omega (arith, below, apart))))
        ];
        known = λ p has. elim has [ inl same ↦ in_place p same | inr was ↦ a.known p was ];
        idle = record { planned = a.idle.planned; moving = a.idle.moving; owed = a.idle.owed };
      }

      abbrev stored : ℕ → View → View
      stored n v = with_store site.shape (place_of site guarded i) n x v.planned v.moving v.owed v

      still : (n j y : ℕ) (v : View) → (j ≡ place_of site guarded i → ⊥) → Has (j, y) v.known → Has (j, y) (stored n v).known
      still n j y v apart has = inr (without_stays (place_of site guarded i) j y v.known apart has)

      pub all_stored : (n : ℕ) (v : View) → HasAll site guarded words v → HasAll site guarded more (stored n v)
      all_stored n v a = record {
        areas = a.areas;
        no_locks = a.no_locks;
        header = still n (header_word site.shape s) guarded.head v (λ same. no_header site.shape s i (sym same)) a.header;
        words_are = λ j below. elim (cases_eq j i) [
          | inl same ↦ inl (pair_here j same)
          | inr apart ↦ still n (place_of site guarded j) (slice_index more j) v (λ same. apart (place_apart j i same))
              (subst (λ y. Has (place_of site guarded j, y) v.known) (sym (more_other j apart)) (a.words_are j below))
        ];
        known = λ p has. elim has [ inl same ↦ in_place p same | inr was ↦ a.known p (without_has (place_of site guarded i) p.0 p.1 v.known was).1 ];
        idle = record { planned = a.idle.planned; moving = a.idle.moving; owed = a.idle.owed };
      }

    -- the header is
    pub head_stored : (x n : ℕ) (v : View) → HasAll site guarded words v
        → HasAll site (with_head guarded x) words (with_store site.shape (header_word site.shape s) n x v.planned v.moving v.owed v)
    head_stored x n v a = record {
      areas = a.areas;
      no_locks = a.no_locks;
      header = inl refl;
      words_are = λ j below. inr (without_stays (header_word site.shape s) (place_of site guarded j) (slice_index words j) v.known (no_header site.shape s j) (a.words_are j below));
      known = λ p has. elim has [
        | inl same ↦ subst (λ (j : ℕ). IsInSlot site.shape s j) (sym (ap (λ (q : ℕ × ℕ). q.0) same)) (head_in_slot site.shape s)
        | inr was ↦ a.known p (without_has (header_word site.shape s) p.0 p.1 v.known was).1
      ];
      idle = record { planned = a.idle.planned; moving = a.idle.moving; owed = a.idle.owed };
    }

    -- ---- WHAT THE HOLDER HAS
    module _ (n : ℕ) (v : View) (a : HasSegment site guarded words n v) where
      pub stale_held : Has (Stale s) v.areas
      stale_held = subst (λ (l : List Area). Has (Stale s) l) (sym a.areas) (inl refl)

      pub guard_held : Has (Segment s) v.areas
      guard_held = subst (λ (l : List Area). Has (Segment s) l) (sym a.areas) (inr (inl refl))

      no_side : (m : ℕ) → Has (Side m) (Stale s ∷ Segment s ∷ []) → ⊥
      no_side m has = elim has [ inl same ↦ absurd (cc) | inr more ↦ elim more [ inl same ↦ absurd (cc) | inr none ↦ absurd none ] ]

      pub no_sides : HasNoSides v.areas
      no_sides m has = no_side m (subst (λ (l : List Area). Has (Side m) l) a.areas has)

      pub holds_place : (i : ℕ) → i < words_of_buckets → HoldsWord site.shape v (place_of site guarded i)
      holds_place i low = inr (Stale s, stale_held, in_slot site.shape s i low)

      no_lock : (lock : ℕ) → HasLock v.held lock → ⊥
      no_lock lock has = subst (λ (l : List (ℕ × ℕ)). Has (lock, has.0) l) a.no_locks has.1

      pub settled_holder : IsSettledHolder site.shape v
      settled_holder = record { planned = a.idle.planned; moving = a.idle.moving; owed = a.idle.owed; locks = λ lock has. absurd (no_lock lock has) }

      -- a stale segment, by words that have its header
      pub has_stale : IsOld site guarded → (word : Words) → word (header_word site.shape s) ≡ guarded.head → ((y : ℕ) → IsLoose v (header_word site.shape s, y) → ⊥) → HasStale site v s word
      has_stale old word is firm = record {
        holder = settled_holder;
        no_locks = a.no_locks;
        guard = guard_held;
        stale = stale_held;
        slot = old.within;
        header = record { known = subst (λ x. Has (header_word site.shape s, x) v.known) (sym is) a.header; firm = firm };
        old = λ same. old.old (ap version_in (sym is) ∙ same);
      }

      -- a word of the buckets
      pub knows_place : (i x : ℕ) → i < n → slice_index words i ≡ x → ((y : ℕ) → IsLoose v (place_of site guarded i, y) → ⊥) → KnowsWord v (place_of site guarded i) x
      knows_place i x low is firm = record { known = subst (λ y. Has (place_of site guarded i, y) v.known) is (a.words_are i low); firm = firm }
