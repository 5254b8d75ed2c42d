-- Each kind of step at the structure keeps that a guard whose word is not 0 is had by some view.
use Rattle.std.proofs.Common.{◌≡◌, ◌≢◌, ℕ, ◌+◌, ◌<◌, Bool, true, false, cond, eqb, List, set, inl, inr, refl, sym, ap, ◌∙◌, subst, arith}
use Rattle.std.specs.Prelude.{not}
use Rattle.std.proofs.lemmas.Bool.{cases_eq, ne_eqb}
use Rattle.trace.specs.Events.{Words, with_word, after}
use Rattle.trace.specs.Events.Event.{loaded, exchanged}
use Rattle.trace.proofs.Replaced.{replaced_same, replaced_other}
use Rattle.segment_head.specs.HeadWord.{version_in, state_in, free}
use Rattle.image_layout.specs.Places.{Shape, words_of}
use Rattle.image_layout.specs.Volatile.{all_words_of}
use Rattle.world.specs.Ground.{Ground}
use Rattle.world.specs.Views.{View, Has, At}
use Rattle.world.specs.areas.Areas.{Area, Stale, Side, Whole, header_word, is_side_at, is_stale_at, is_whole_at}
use Rattle.world.specs.areas.Kinds.{Guard, of_segment, of_free_slots, of_directory, guard_word, HasGuard, area_of, goes_with, StructureKind, takes, takes_for_side, gives, finds_stale, closes, finds_free, finds_link, finds_side, finds_entry, finds_begin, reads, sets, moves, settles, settles_side, opens, with_guard, with_area, with_slot, is_new_side, with_guard_for}
use Rattle.world.specs.areas.Asking.{MayAt}
use Rattle.world.specs.areas.Keeping.{words_then, views_then, KeepsHeldGuards}
use Rattle.world.proofs.basics.Lists.{set_here}
use Rattle.world.proofs.basics.Seats.{carry}
use Rattle.world.proofs.fitting.Rows.{but_after, row_after}
use Rattle.world.proofs.moving.Known.{held_within}
use Rattle.world.proofs.moving.keeping.Fitting.{guard_behind}
use Rattle.world.proofs.moving.keeping.Keepers.{row_near, lock_near}

-- a guard whose word is not 0 is had by some view
abbrev pub AreHeld : Ground → Words → List View → Type 0
AreHeld site words views = (guard : Guard) → HasGuard site.shape guard → words (guard_word site.shape guard) ≢ 0 → (c : ℕ) × (u : View) × At views c u × Has (area_of guard) u.areas

-- ---- the words of guards
-- a guard's word is one of those that there are
pub guard_within : (shape : Shape) (guard : Guard) → HasGuard shape guard → guard_word shape guard < all_words_of shape
guard_within shape (of_segment s) slot = by (words_of shape) s shape.segments slot
  where
    by : (w s n : ℕ) → s < n → w + 4 + s < w + 4 + n
    by w s n slot = omega (arith, slot)
guard_within shape of_free_slots is = omega arith
guard_within shape of_directory is = omega arith

-- it is that of no other guard
one_guard_word : (shape : Shape) (a b : Guard) → guard_word shape a ≡ guard_word shape b → a ≡ b
one_guard_word shape (of_segment s) (of_segment t) e = ap of_segment (by (words_of shape) s t e)
  where
    by : (w s t : ℕ) → w + 4 + s ≡ w + 4 + t → s ≡ t
    by w s t e = omega (arith, e)
one_guard_word shape (of_segment s) of_free_slots e = absurd (by (words_of shape) s e)
  where
    by : (w s : ℕ) → w + 4 + s ≡ w + 2 → ⊥
    by w s e = omega (arith, e)
one_guard_word shape (of_segment s) of_directory e = absurd (by (words_of shape) s e)
  where
    by : (w s : ℕ) → w + 4 + s ≡ w + 3 → ⊥
    by w s e = omega (arith, e)
one_guard_word shape of_free_slots (of_segment t) e = absurd (by (words_of shape) t e)
  where
    by : (w s : ℕ) → w + 2 ≡ w + 4 + s → ⊥
    by w s e = omega (arith, e)
one_guard_word shape of_free_slots of_free_slots e = refl
one_guard_word shape of_free_slots of_directory e = absurd (by (words_of shape) e)
  where
    by : (w : ℕ) → w + 2 ≡ w + 3 → ⊥
    by w e = omega (arith, e)
one_guard_word shape of_directory (of_segment t) e = absurd (by (words_of shape) t e)
  where
    by : (w s : ℕ) → w + 3 ≡ w + 4 + s → ⊥
    by w s e = omega (arith, e)
one_guard_word shape of_directory of_free_slots e = absurd (by (words_of shape) e)
  where
    by : (w : ℕ) → w + 3 ≡ w + 2 → ⊥
    by w e = omega (arith, e)
one_guard_word shape of_directory of_directory e = refl

-- ---- the areas of guards
-- a guard of another word does not go with it
goes_apart : (shape : Shape) (guard other : Guard) → guard_word shape other ≢ guard_word shape guard → goes_with guard (area_of other) ≡ false
goes_apart shape (of_segment s) (of_segment t) apart = ne_eqb t s (λ e. apart (ap (λ n. guard_word shape (of_segment n)) e))
goes_apart shape (of_segment s) of_free_slots apart = refl
goes_apart shape (of_segment s) of_directory apart = refl
goes_apart shape of_free_slots (of_segment t) apart = refl
goes_apart shape of_free_slots of_free_slots apart = absurd (apart refl)
goes_apart shape of_free_slots of_directory apart = refl
goes_apart shape of_directory (of_segment t) apart = refl
goes_apart shape of_directory of_free_slots apart = refl
goes_apart shape of_directory of_directory apart = absurd (apart refl)

-- none is a side, a stale segment or a whole one
no_side : (n : ℕ) (guard : Guard) → is_side_at n (area_of guard) ≡ false
no_side n (of_segment s) = refl
no_side n of_free_slots = refl
no_side n of_directory = refl

no_stale : (n : ℕ) (guard : Guard) → is_stale_at n (area_of guard) ≡ false
no_stale n (of_segment s) = refl
no_stale n of_free_slots = refl
no_stale n of_directory = refl

no_whole : (n : ℕ) (guard : Guard) → is_whole_at n (area_of guard) ≡ false
no_whole n (of_segment s) = refl
no_whole n of_free_slots = refl
no_whole n of_directory = refl

-- ---- steps
-- a view keeps its guards
abbrev KeepsItsGuards : View → View → Type 0
KeepsItsGuards v w = (guard : Guard) → Has (area_of guard) v.areas → Has (area_of guard) w.areas

found_more : (v : View) (t : Bool) (area : Area) (i x : ℕ) → KeepsItsGuards v (with_area t area i x v)
found_more v true area i x guard has = inr has
found_more v false area i x guard has = has

slot_more : (v : View) (t : Bool) (n i x : ℕ) → KeepsItsGuards v (with_slot t n i x v)
slot_more v true n i x guard has = inr has
slot_more v false n i x guard has = has

module _ (site : Ground) (words : Words) (views : List View) (j : ℕ) (v : View) (at : At views j v) (held : AreHeld site words views) where
  -- who had a guard has it after a step whose view keeps it
  still_held : (w : View) (guard : Guard) → HasGuard site.shape guard → words (guard_word site.shape guard) ≢ 0 → (Has (area_of guard) v.areas → Has (area_of guard) w.areas)
      → (c : ℕ) × (u : View) × At (set views j w) c u × Has (area_of guard) u.areas
  still_held w guard is some more =
      let o = held guard is some in
      let k = carry views j v w at (λ _ (z : View). Has (area_of guard) z.areas) more o.0 o.1 o.2 o.3 in
      (o.0, k.0, k.1, k.2)

  -- a step that leaves the words of guards, whose view keeps its guards
  pub held_same : (later : Words) (w : View) → ((guard : Guard) → later (guard_word site.shape guard) ≡ words (guard_word site.shape guard)) → KeepsItsGuards v w → AreHeld site later (set views j w)
  held_same later w same more guard is some = still_held w guard is (λ z. some (same guard ∙ z)) (more guard)

  -- a store to a word of the image
  held_near : (i x : ℕ) (w : View) → i < words_of site.shape → KeepsItsGuards v w → AreHeld site (with_word words i x) (set views j w)
  held_near i x w near more = held_same (with_word words i x) w
      (λ guard. replaced_other words i x (guard_word site.shape guard) (λ e. omega (arith, near, guard_behind site.shape guard, e))) more

  -- one to the word of a guard, which the view has after it if that is not 0
  held_stored : (guard : Guard) (x : ℕ) (w : View) → (x ≢ 0 → Has (area_of guard) w.areas)
      → ((other : Guard) → guard_word site.shape other ≢ guard_word site.shape guard → Has (area_of other) v.areas → Has (area_of other) w.areas)
      → AreHeld site (with_word words (guard_word site.shape guard) x) (set views j w)
  held_stored guard x w own others other is some = elim (cases_eq (guard_word site.shape other) (guard_word site.shape guard)) [
    | inl e ↦ (
      j,
      w,
      set_here views j v w at,
      subst (λ (g : Guard). Has (area_of g) w.areas) (sym (one_guard_word site.shape other guard e))
          (own (λ z. some (ap (with_word words (guard_word site.shape guard) x) e ∙ replaced_same words (guard_word site.shape guard) x ∙ z))),
    )
    | inr apart ↦ still_held w other is (λ z. some (replaced_other words (guard_word site.shape guard) x (guard_word site.shape other) apart ∙ z)) (others other apart)
  ]

  -- an exchange from 0, won or lost
  held_taken : (guard : Guard) (caller : ℕ) (t : Bool)
      → AreHeld site (after (cond t (exchanged j (guard_word site.shape guard) caller) (loaded j (guard_word site.shape guard))) words) (set views j (with_guard t guard v))
  held_taken guard caller true = held_stored guard caller (with_guard true guard v) (λ _. inl refl) (λ other apart has. inr has)
  held_taken guard caller false = held_same words v (λ guard. refl) (λ guard has. has)

  -- one for a side, which is none of a guard
  held_for : (n caller : ℕ) (t : Bool)
      → AreHeld site (after (cond t (exchanged j (guard_word site.shape of_free_slots) caller) (loaded j (guard_word site.shape of_free_slots))) words) (set views j (with_guard_for site.shape t n v))
  held_for n caller true = held_taken of_free_slots caller true
  held_for n caller false = held_same words (with_guard_for site.shape false n v) (λ guard. refl) (λ guard has. but_after (is_side_at n) v.areas (area_of guard) has (no_side n guard))

-- EACH KIND
pub keep_held_guards : KeepsHeldGuards
keep_held_guards site kind words views j v h at may = by kind may
  where
    held : AreHeld site words views
    held = h.structure.held_guards

    by : (kind : StructureKind) → MayAt site kind v → AreHeld site (words_then site kind j words) (views_then site kind j v words views)
    by (takes guard caller) may = held_taken site words views j v at held guard caller (eqb (words (guard_word site.shape guard)) 0)
    by (takes_for_side m caller) may = held_for site words views j v at held m caller (eqb (words (guard_word site.shape of_free_slots)) 0)
    by (gives guard) may = held_stored site words views j v at held guard 0 _ (λ some. absurd (some refl)) (λ other apart has. but_after (goes_with guard) v.areas (area_of other) has (goes_apart site.shape guard other apart))
    by (finds_stale s version) may = held_same site words views j v at held words _ (λ guard. refl)
        (found_more v (not (eqb (version_in (words (header_word site.shape s))) version)) (Stale s) (header_word site.shape s) (words (header_word site.shape s)))
    by (closes s i) may = held_same site words views j v at held words _ (λ guard. refl) (found_more v true (Whole s) i (words i))
    by (finds_free m) may = held_same site words views j v at held words _ (λ guard. refl)
        (slot_more v (eqb (state_in (words (header_word site.shape m))) free) m (header_word site.shape m) (words (header_word site.shape m)))
    by (finds_link p depth pattern) may = held_same site words views j v at held words _ (λ guard. refl) (λ guard has. has)
    by (finds_side p m depth pattern) may = held_same site words views j v at held words _ (λ guard. refl)
        (found_more v (is_new_side depth pattern (words (header_word site.shape m))) (Side m) (header_word site.shape m) (words (header_word site.shape m)))
    by (finds_entry e i) may = held_same site words views j v at held words _ (λ guard. refl) (λ guard has. has)
    by (finds_begin s) may = held_same site words views j v at held words _ (λ guard. refl) (λ guard has. has)
    by (reads i) may = held_same site words views j v at held words _ (λ guard. refl) (λ guard has. has)
    by (sets i x) may = held_near site words views j v at held i x _ (held_within site words views h j v i at may.holds) (λ guard has. has)
    by (moves row s x) may = held_near site words views j v at held (header_word site.shape s) x _ (row_near site words views j v h at row s x may)
        (λ guard has. row_after row s (area_of guard) v.areas (no_side s guard) (no_stale s guard) has)
    by (settles facts) may = held_same site words views j v at held words _ (λ guard. refl) (λ guard has. has)
    by (settles_side m depth pattern) may = held_same site words views j v at held words _ (λ guard. refl) (λ guard has. but_after (is_side_at m) v.areas (area_of guard) has (no_side m guard))
    by (opens s lock next) may = held_near site words views j v at held lock next _ (lock_near site words views j v h at s lock next may)
        (λ guard has. but_after (is_whole_at s) v.areas (area_of guard) has (no_whole s guard))
