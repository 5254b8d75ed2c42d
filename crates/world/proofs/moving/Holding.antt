-- What a view holds after its areas are others, who holds a lock word, and what the lists of known words have.
use Rattle.std.proofs.Common.{◌≡◌, ◌⊎◌, ℕ, ◌+◌, ◌*◌, ◌<◌, ◌&&◌, ◌||◌, Bool, true, List, [], ◌∷◌, inl, inr, refl, ap, ◌∙◌, subst, arith}
use Rattle.std.specs.Prelude.{◌==◌, not, nat_lt, nat_le}
use Rattle.std.proofs.lemmas.Bool.{cases_Bool, eq-eqb, eqb-true, lt-ltb, le-leb, or_right}
use Rattle.image_layout.specs.Places.{Shape, block, root_word, first_segment, head_at, bucket_at, buckets}
use Rattle.frame_facts.specs.DeadSlots.{IsInSlot}
use Rattle.world.specs.Ground.{IsLockWord, IsUnder}
use Rattle.world.specs.Views.{Has, HasLock, IsGuarded}
use Rattle.world.specs.areas.Areas.{Area, Segment, Stale, Side, Free, Whole, Allocation, Directory, InArea, IsDirectoryWord, is_side_at, is_stale_at, is_whole_at, is_of_segment, is_of_allocation, is_of_directory, all_but}
use Rattle.world.specs.areas.Kinds.{of_free_slots, is_in_slot, out_of_slot, out_of_directory, known_without}
use Rattle.world.proofs.basics.Grounds.{lock_apart}
use Rattle.world.proofs.fitting.Filtered.{filtered_has, not_false}
use Rattle.world.proofs.fitting.OneHolder.{one_slot}
use Rattle.world.proofs.fitting.Rows.{but_after}
use Rattle.world.proofs.moving.Known.{guard_in_slot}

-- a word is held by these locks, or lies in one of these areas
abbrev pub IsHeldBy : Shape → List (ℕ × ℕ) → List Area → ℕ → Type 0
IsHeldBy shape held areas i = IsGuarded held i ⊎ ((a : Area) × Has a areas × InArea shape a i)

module _ (shape : Shape) (n : ℕ) where
  -- ---- more areas, or fewer
  pub holds_more : (held : List (ℕ × ℕ)) (l m : List Area) → ((a : Area) → Has a l → Has a m) → IsHeldBy shape held l n → IsHeldBy shape held m n
  holds_more held l m more (inl g) = inl g
  holds_more held l m more (inr q) = inr (q.0, more q.0 q.1, q.2)

  pub holds_without : (test : Area → Bool) (held : List (ℕ × ℕ)) (l : List Area) → ((a : Area) → test a ≡ true → InArea shape a n → ⊥) → IsHeldBy shape held l n → IsHeldBy shape held (all_but test l) n
  holds_without test held l none (inl g) = inl g
  holds_without test held l none (inr q) = elim (cases_Bool (test q.0)) [
    | inl t ↦ absurd (none q.0 t q.2)
    | inr f ↦ inr (q.0, but_after test l q.0 q.1 f, q.2)
  ]

  -- where one area takes the place of others
  pub holds_instead : (test : Area → Bool) (held : List (ℕ × ℕ)) (l : List Area) (b : Area) → ((a : Area) → test a ≡ true → InArea shape a n → InArea shape b n) → IsHeldBy shape held l n
      → IsHeldBy shape held (b ∷ all_but test l) n
  holds_instead test held l b instead (inl g) = inl g
  holds_instead test held l b instead (inr q) = elim (cases_Bool (test q.0)) [
    | inl t ↦ inr (b, inl refl, instead q.0 t q.2)
    | inr f ↦ inr (q.0, inr (but_after test l q.0 q.1 f), q.2)
  ]

  -- ---- the words of the sorts of areas
  by_slot : (s t : ℕ) → (t == s) ≡ true → IsInSlot shape t n → IsInSlot shape s n
  by_slot s t e w = subst (λ (z : ℕ). IsInSlot shape z n) (eqb-true t s e) w

  pub side_word : (s : ℕ) (a : Area) → is_side_at s a ≡ true → InArea shape a n → IsInSlot shape s n
  side_word s (Segment t) e w = cc
  side_word s (Stale t) e w = cc
  side_word s (Side t) e w = by_slot s t e w
  side_word s (Free t) e w = by_slot s t e w
  side_word s (Whole t) e w = cc
  side_word s Allocation e w = cc
  side_word s Directory e w = cc

  pub stale_word : (s : ℕ) (a : Area) → is_stale_at s a ≡ true → InArea shape a n → IsInSlot shape s n
  stale_word s (Segment t) e w = cc
  stale_word s (Stale t) e w = by_slot s t e w
  stale_word s (Side t) e w = cc
  stale_word s (Free t) e w = cc
  stale_word s (Whole t) e w = cc
  stale_word s Allocation e w = cc
  stale_word s Directory e w = cc

  pub whole_word : (s : ℕ) (a : Area) → is_whole_at s a ≡ true → InArea shape a n → ⊥
  whole_word s (Segment t) e w = cc
  whole_word s (Stale t) e w = cc
  whole_word s (Side t) e w = cc
  whole_word s (Free t) e w = cc
  whole_word s (Whole t) e w = absurd w
  whole_word s Allocation e w = cc
  whole_word s Directory e w = cc

  pub segment_word : (s : ℕ) (a : Area) → is_of_segment s a ≡ true → InArea shape a n → IsInSlot shape s n
  segment_word s (Segment t) e w = by_slot s t e (guard_in_slot shape t n w)
  segment_word s (Stale t) e w = by_slot s t e w
  segment_word s (Side t) e w = cc
  segment_word s (Free t) e w = cc
  segment_word s (Whole t) e w = absurd w
  segment_word s Allocation e w = cc
  segment_word s Directory e w = cc

  pub free_word : (a : Area) → is_of_allocation a ≡ true → InArea shape a n → (m : ℕ) × (a ≡ Free m) × IsInSlot shape m n
  free_word (Segment t) e w = cc
  free_word (Stale t) e w = cc
  free_word (Side t) e w = cc
  free_word (Free t) e w = (t, refl, w)
  free_word (Whole t) e w = cc
  free_word Allocation e w = absurd w
  free_word Directory e w = cc

  pub front_word : (a : Area) → is_of_directory a ≡ true → InArea shape a n → IsDirectoryWord shape n
  front_word (Segment t) e w = cc
  front_word (Stale t) e w = cc
  front_word (Side t) e w = cc
  front_word (Free t) e w = cc
  front_word (Whole t) e w = cc
  front_word Allocation e w = cc
  front_word Directory e w = w

  -- ---- the known words that are left
  in_slot_test : (s : ℕ) → IsInSlot shape s n → is_in_slot shape s n ≡ true
  in_slot_test s w = ap (λ b. b && nat_lt n (head_at shape s + 2144)) (le-leb (head_at shape s) n w.from) ∙ lt-ltb n (head_at shape s + 2144) w.to

  pub out_of_slot_has : (s y : ℕ) (ps : List (ℕ × ℕ)) → Has (n, y) (out_of_slot shape s ps) → (IsInSlot shape s n → ⊥) × Has (n, y) ps
  out_of_slot_has s y ps h = let q = filtered_has (λ (p : ℕ × ℕ). not (is_in_slot shape s p.0)) ps (n, y) h in
      ((λ w. not_false (is_in_slot shape s n) q.1 (in_slot_test s w)), q.0)

  in_front_test : IsDirectoryWord shape n → ((n == root_word) || (nat_le block n && nat_lt n (first_segment shape))) ≡ true
  in_front_test (inl e) = ap (λ b. b || (nat_le block n && nat_lt n (first_segment shape))) (eq-eqb n root_word e)
  in_front_test (inr k) = or_right (n == root_word) (nat_le block n && nat_lt n (first_segment shape))
      (ap (λ b. b && nat_lt n (first_segment shape)) (le-leb block n k.0) ∙ lt-ltb n (first_segment shape) k.1)

  pub out_of_directory_has : (y : ℕ) (ps : List (ℕ × ℕ)) → Has (n, y) (out_of_directory shape ps) → (IsDirectoryWord shape n → ⊥) × Has (n, y) ps
  out_of_directory_has y ps h = let q = filtered_has (λ (p : ℕ × ℕ). not ((p.0 == root_word) || (nat_le block p.0 && nat_lt p.0 (first_segment shape)))) ps (n, y) h in
      ((λ w. not_false ((n == root_word) || (nat_le block n && nat_lt n (first_segment shape))) q.1 (in_front_test w)), q.0)

  pub out_of_free_has : (y : ℕ) (l : List Area) (ps : List (ℕ × ℕ)) → Has (n, y) (known_without shape of_free_slots l ps) → ((m : ℕ) → Has (Free m) l → IsInSlot shape m n → ⊥) × Has (n, y) ps
  out_of_free_has y [] ps h = ((λ m e. absurd e), h)
  out_of_free_has y (Free t ∷ l) ps h =
      let q = out_of_free_has y l (out_of_slot shape t ps) h in
      let r = out_of_slot_has t y ps q.1 in
      ((λ m has w. elim has [ inl e ↦ r.0 (subst (λ (z : ℕ). IsInSlot shape z n) (free_same m t e) w) | inr k ↦ q.0 m k w ]), r.1)
    where
      free_same : (m t : ℕ) → Free m ≡ Free t → m ≡ t
      free_same m t e = cc
  out_of_free_has y (Segment t ∷ l) ps h = let q = out_of_free_has y l ps h in ((λ m has w. elim has [ inl e ↦ cc | inr k ↦ q.0 m k w ]), q.1)
  out_of_free_has y (Stale t ∷ l) ps h = let q = out_of_free_has y l ps h in ((λ m has w. elim has [ inl e ↦ cc | inr k ↦ q.0 m k w ]), q.1)
  out_of_free_has y (Side t ∷ l) ps h = let q = out_of_free_has y l ps h in ((λ m has w. elim has [ inl e ↦ cc | inr k ↦ q.0 m k w ]), q.1)
  out_of_free_has y (Whole t ∷ l) ps h = let q = out_of_free_has y l ps h in ((λ m has w. elim has [ inl e ↦ cc | inr k ↦ q.0 m k w ]), q.1)
  out_of_free_has y (Allocation ∷ l) ps h = let q = out_of_free_has y l ps h in ((λ m has w. elim has [ inl e ↦ cc | inr k ↦ q.0 m k w ]), q.1)
  out_of_free_has y (Directory ∷ l) ps h = let q = out_of_free_has y l ps h in ((λ m has w. elim has [ inl e ↦ cc | inr k ↦ q.0 m k w ]), q.1)

-- a lock word and the words under it are words of their slot
pub bucket_in_slot : (shape : Shape) (s b : ℕ) → b < buckets → IsInSlot shape s (bucket_at shape s b)
bucket_in_slot shape s b near = record { from = omega arith; to = omega (arith, near) }

pub under_in_slot : (shape : Shape) (s b i : ℕ) → b < buckets → IsUnder (bucket_at shape s b) i → IsInSlot shape s i
under_in_slot shape s b i near u = record { from = omega (arith, u.0); to = omega (arith, u.1, near) }

-- WHO HOLDS A LOCK WORD, by an area: its slot is stale, a side, or free
pub data HasSlot (areas : List Area) (s : ℕ) : Type 0 where
  stale : Has (Stale s) areas → HasSlot areas s
  side : Has (Side s) areas → HasSlot areas s
  free : Has (Free s) areas → HasSlot areas s

module _ (shape : Shape) (areas : List Area) (s b : ℕ) (slot : s < shape.segments) (near : b < buckets) where
  abbrev lock : ℕ
  lock = bucket_at shape s b

  no_head : (t : ℕ) → InArea shape (Segment t) lock → ⊥
  no_head t w = elim w [ inl e ↦ by (first_segment shape) s b t 1 near (omega arith) (omega arith) e | inr e ↦ by (first_segment shape) s b t 2 near (omega arith) (omega arith) e ]
    where
      by : (f s b t c : ℕ) → b < 66 → 0 < c → c < 32 → f + 2144 * s + 32 + 32 * b ≡ f + 2144 * t + c → ⊥
      by f s b t c near some low e = omega (arith, near, some, low, e)

  not_front : IsDirectoryWord shape lock → ⊥
  not_front w = elim w [ inl e ↦ omega (arith, e) | inr k ↦ by (first_segment shape) s b k.1 ]
    where
      by : (f s b : ℕ) → f + 2144 * s + 32 + 32 * b < f → ⊥
      by f s b low = omega (arith, low)

  area_has : (a : Area) → Has a areas → InArea shape a lock → HasSlot areas s
  area_has (Segment t) has w = absurd (no_head t w)
  area_has (Stale t) has w = stale (subst (λ (z : ℕ). Has (Stale z) areas) (one_slot shape t s lock w (bucket_in_slot shape s b near)) has)
  area_has (Side t) has w = side (subst (λ (z : ℕ). Has (Side z) areas) (one_slot shape t s lock w (bucket_in_slot shape s b near)) has)
  area_has (Free t) has w = free (subst (λ (z : ℕ). Has (Free z) areas) (one_slot shape t s lock w (bucket_in_slot shape s b near)) has)
  area_has (Whole t) has w = absurd w
  area_has Allocation has w = absurd w
  area_has Directory has w = absurd (not_front w)

  pub holder_has : (held : List (ℕ × ℕ)) → ((lock : ℕ) → HasLock held lock → IsLockWord shape lock) → IsHeldBy shape held areas lock → HasSlot areas s
  holder_has held locks (inl g) = absurd (lock_apart shape g.0 lock (locks g.0 g.1) (s, b, slot, near, refl) g.2)
  holder_has held locks (inr q) = area_has q.0 q.1 q.2
