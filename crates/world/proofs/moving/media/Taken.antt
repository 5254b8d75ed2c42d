-- Each kind of step at the structure keeps that a slot that is taken is so in whatever a cut may leave, or is being taken.
use Rattle.std.proofs.Common.{◌≡◌, ◌≢◌, ◌⊎◌, ℕ, ◌<◌, Bool, true, false, cond, eqb, List, set, inl, inr, refl, sym, ap, ◌∙◌, subst, arith}
use Rattle.std.specs.Prelude.{not}
use Rattle.std.proofs.lemmas.Bool.{cases_eq, ne_eqb}
use Rattle.trace.specs.Events.{Words, with_word, after}
use Rattle.trace.specs.Events.Event.{loaded, exchanged}
use Rattle.trace.proofs.Replaced.{replaced_same, replaced_other}
use Rattle.segment_head.specs.HeadWord.{version_in, state_in, free}
use Rattle.image_layout.specs.Places.{words_of}
use Rattle.frame_facts.specs.DeadSlots.{IsInSlot}
use Rattle.world.specs.Ground.{Ground}
use Rattle.world.specs.Views.{View, Has, At}
use Rattle.world.specs.Invariant.{Holds}
use Rattle.world.specs.areas.Areas.{Area, Stale, Side, Whole, Allocation, header_word, is_side_at, is_stale_at, is_whole_at, is_of_segment, is_of_directory, all_but}
use Rattle.world.specs.areas.Rows.{Row, marks, news, goes_live, finishes, unmarks, frees, renews, IsRow, HasForRow, areas_by, HasStored}
use Rattle.world.specs.areas.Lasting.{IsTakenInMedia, SettledSlots}
use Rattle.world.specs.areas.Kinds.{Guard, of_segment, of_free_slots, of_directory, guard_word, goes_with, StructureKind, takes, takes_for_side, gives, finds_stale, closes, finds_free, finds_link, finds_side, finds_entry, finds_begin, reads, sets, moves, settles, settles_side, opens, with_guard, with_area, with_slot, is_new_side, is_ready_side, told_by_side, view_then, with_guard_for}
use Rattle.world.specs.areas.Asking.{IsFirmIn, HasOpened, MayAt}
use Rattle.world.specs.areas.Keeping.{words_then, views_then, KeepsSettledSlots}
use Rattle.world.proofs.basics.Lists.{set_here}
use Rattle.world.proofs.basics.Structures.{header_is}
use Rattle.world.proofs.fitting.OneHolder.{head_in_slot}
use Rattle.world.proofs.fitting.Rows.{but_after, row_after, row_slot, head_near, one_head}
use Rattle.world.proofs.fitting.Stored.{grown_by}
use Rattle.world.proofs.moving.Known.{held_within, newest_is}
use Rattle.world.proofs.moving.keeping.Fitting.{guard_behind}
use Rattle.world.proofs.moving.Stepping.{calm_still, guard_still}
use Rattle.world.proofs.moving.media.Settled.{side_settled, IsSettled, stays_settled, still_settled}
use Rattle.world.proofs.moving.media.Said.{taken_still, taken_for_still, found_still, told_still, slot_still, fence_still, opened_still, row_stored}

-- the areas of a view in which it has the guard of free slots, and a side
abbrev HasBoth : View → ℕ → Type 0
HasBoth w n = Has Allocation w.areas × Has (Side n) w.areas

taken_more : (t : Bool) (guard : Guard) (v : View) (n : ℕ) → HasBoth v n → HasBoth (with_guard t guard v) n
taken_more true guard v n has = (inr has.0, inr has.1)
taken_more false guard v n has = has

found_more : (t : Bool) (area : Area) (i x : ℕ) (v : View) (n : ℕ) → HasBoth v n → HasBoth (with_area t area i x v) n
found_more true area i x v n has = (inr has.0, inr has.1)
found_more false area i x v n has = has

slot_more : (t : Bool) (m i x : ℕ) (v : View) (n : ℕ) → HasBoth v n → HasBoth (with_slot t m i x v) n
slot_more true m i x v n has = (inr has.0, inr has.1)
slot_more false m i x v n has = has

module _ (site : Ground) (words : Words) (views : List View) (j : ℕ) (v : View) (h : Holds site words views) (at : At views j v) where
  -- what the stepping view may do with a side that it takes: it keeps it and the guard, or has settled it
  abbrev KeepsTaking : Words → View → Type 0
  KeepsTaking later w = (n : ℕ) → Has Allocation v.areas → Has (Side n) v.areas → HasBoth w n ⊎ IsTakenInMedia site later (set views j w) n

  keeping : (later : Words) (w : View) → ((n : ℕ) → HasBoth v n → HasBoth w n) → KeepsTaking later w
  keeping later w more n guard side = inl (more n (guard, side))

  -- where two lists of areas differ in neither
  without : (test : Area → Bool) (w : View) → w.areas ≡ all_but test v.areas → test Allocation ≡ false → (n : ℕ) → test (Side n) ≡ false → HasBoth v n → HasBoth w n
  without test w e guard n side has = (
    subst (Has Allocation) (sym e) (but_after test v.areas Allocation has.0 guard),
    subst (Has (Side n)) (sym e) (but_after test v.areas (Side n) has.1 side),
  )

  -- ---- a guard is given back: that of free slots once the header of each side is settled
  given : (guard : Guard) (w : View) → w.areas ≡ all_but (goes_with guard) v.areas → w.dirty ≡ v.dirty → w.flushed ≡ v.flushed → HasOpened site.shape v guard
      → KeepsTaking (with_word words (guard_word site.shape guard) 0) w
  given (of_segment s) w areas dirty flushed firm n guard side = inl (without (is_of_segment s) w areas refl n refl (guard, side))
  given of_directory w areas dirty flushed firm n guard side = inl (without is_of_directory w areas refl n refl (guard, side))
  given of_free_slots w areas dirty flushed firm n guard side =
      let slot = (h.structure.fits.side j v n at side).0.slot in
      let i = guard_word site.shape of_free_slots in
      inr (side_settled site words views j v h at (with_word words i 0) w n side
      (replaced_other words i 0 (header_word site.shape n) (λ e. omega (arith, e, head_near site n slot, guard_behind site.shape of_free_slots)))
      (λ y l. firm n side (header_word site.shape n, y)
      (elim l [ inl d ↦ inl (subst (Has (header_word site.shape n, y)) dirty d) | inr f ↦ inr (subst (Has (header_word site.shape n, y)) flushed f) ]) refl))

  -- ---- a side is given up of which nothing is loose after that
  side_given : (m : ℕ) (w : View) → w.areas ≡ all_but (is_side_at m) v.areas → IsFirmIn w (IsInSlot site.shape m) → KeepsTaking words w
  side_given m w areas firm n guard side = elim (cases_eq n m) [
    | inl e ↦ inr (side_settled site words views j v h at words w n side refl
        (λ y l. firm (header_word site.shape n, y) l (subst (λ (z : ℕ). IsInSlot site.shape z (header_word site.shape n)) e (head_in_slot site.shape n))))
    | inr ne ↦ inl (without (is_side_at m) w areas refl n (ne_eqb n m ne) (guard, side))
  ]

  taken_for : (m caller : ℕ) → MayAt site (takes_for_side m caller) v → (t : Bool)
      → KeepsTaking (after (cond t (exchanged j (guard_word site.shape of_free_slots) caller) (loaded j (guard_word site.shape of_free_slots))) words) (with_guard_for site.shape t m v)
  taken_for m caller may true = keeping _ (with_guard_for site.shape true m v) (taken_more true of_free_slots v)
  taken_for m caller may false = side_given m (with_guard_for site.shape false m v) refl may.1

  -- ---- a store
  module _ (i x : ℕ) (w : View) (st : HasStored site.shape i (words i) x w.areas v w) (near : i < words_of site.shape) where
    -- to no header of the slot
    other_slot : (n : ℕ) → n < site.shape.segments → header_word site.shape n ≢ i → (HasBoth v n → HasBoth w n) → state_in (with_word words i x (header_word site.shape n)) ≢ free
        → IsSettled site words views j v h at (with_word words i x) w n
    other_slot n slot apart more some = stays_settled site words views j v h at (with_word words i x) w n slot
        (λ e. some (ap state_in (replaced_other words i x (header_word site.shape n) apart) ∙ e)) (λ guard side. inl (more (guard, side)))
        (λ m p e. elim (grown_by site words views j v w i x w.areas at st near m p) [
          | inl q ↦ (m, q, e)
          | inr q ↦ (q.0, q.1, sym (ap state_in (q.2 (header_word site.shape n) (header_is site.shape n slot) ∙ replaced_other q.0 i x (header_word site.shape n) apart)) ∙ e)
        ])

    -- to that of a slot that was taken, and is so with it
    same_slot : (n : ℕ) → n < site.shape.segments → i ≡ header_word site.shape n → (HasBoth v n → HasBoth w n) → state_in (words (header_word site.shape n)) ≢ free → state_in x ≢ free
        → IsSettled site words views j v h at (with_word words i x) w n
    same_slot n slot is more was some = stays_settled site words views j v h at (with_word words i x) w n slot was (λ guard side. inl (more (guard, side)))
        (λ m p e. elim (grown_by site words views j v w i x w.areas at st near m p) [
          | inl q ↦ (m, q, e)
          | inr q ↦ absurd (some (sym (ap state_in (q.2 (header_word site.shape n) (header_is site.shape n slot) ∙ ap (with_word q.0 i x) (sym is) ∙ replaced_same q.0 i x)) ∙ e))
        ])

  -- ---- rows
  -- neither ceases to be had where a slot stays taken
  row_keeps : (row : Row) (s : ℕ) (w : View) → w.areas ≡ areas_by row s v.areas → (n : ℕ) → n ≢ s → HasBoth v n → HasBoth w n
  row_keeps row s w e n ne has = (
    subst (Has Allocation) (sym e) (row_after row s Allocation v.areas refl refl has.0),
    subst (Has (Side n)) (sym e) (row_after row s (Side n) v.areas (ne_eqb n s ne) refl has.1),
  )

  module _ (s x : ℕ) (w : View) (st : HasStored site.shape (header_word site.shape s) (words (header_word site.shape s)) x w.areas v w) (slot : s < site.shape.segments) (some : state_in x ≢ free) where
    -- the slot was taken, and its areas are as they were
    was_taken : (HasBoth v s → HasBoth w s) → state_in (words (header_word site.shape s)) ≢ free
        → IsSettled site words views j v h at (with_word words (header_word site.shape s) x) w s
    was_taken more was = same_slot (header_word site.shape s) x w st (head_near site s slot) s slot refl more was some

    as_before : w.areas ≡ v.areas → HasBoth v s → HasBoth w s
    as_before e has = (subst (Has Allocation) (sym e) has.0, subst (Has (Side s)) (sym e) has.1)

    here : (row : Row) → IsRow site words row s x → HasForRow site words row s v.areas → w.areas ≡ areas_by row s v.areas
        → IsSettled site words views j v h at (with_word words (header_word site.shape s) x) w s
    here (marks n) is has e = was_taken (as_before e) (λ z. omega (arith, z, is.0.was))
    here (news p) is has e = inl (
      j,
      w,
      set_here views j v w at,
      subst (Has Allocation) (sym e) (inr (but_after (is_side_at s) v.areas Allocation (h.structure.fits.free_slot j v s at has.0).0 refl)),
      subst (Has (Side s)) (sym e) (inl refl),
    )
    here (goes_live p) is has e = was_taken (as_before e) (λ z. omega (arith, z, is.0.was))
    here finishes is has e = was_taken (as_before e) (λ z. omega (arith, z, is.0.was))
    here unmarks is has e = was_taken (as_before e) (λ z. omega (arith, z, is.0.was))
    here (frees p) is has e = absurd (some is.0.becomes)
    here renews is has e = was_taken (without (is_stale_at s) w e refl s refl) (λ z. omega (arith, z, is.1))

  row_settled : (row : Row) (s x : ℕ) (w : View) → MayAt site (moves row s x) v → HasStored site.shape (header_word site.shape s) (words (header_word site.shape s)) x w.areas v w
      → w.areas ≡ areas_by row s v.areas → SettledSlots site (with_word words (header_word site.shape s) x) (set views j w)
  row_settled row s x w may st e n slot some =
      let i = header_word site.shape s in
      let is = may.0 words (newest_is site words views h j v at) in
      elim (cases_eq n s) [
        | inl same ↦ subst (IsSettled site words views j v h at (with_word words i x) w) (sym same)
            (here s x w st (row_slot site words s x row is.0) (λ z. some (ap state_in (ap (λ (t : ℕ). with_word words i x (header_word site.shape t)) same ∙ replaced_same words i x) ∙ z)) row is.0 is.1 e)
        | inr ne ↦ other_slot i x w st (head_near site s (row_slot site words s x row is.0)) n slot (λ z. ne (one_head site n s z)) (row_keeps row s w e n ne) some
      ]

-- EACH KIND
pub slots_settled : KeepsSettledSlots
slots_settled site kind words views j v h at may = by kind may
  where
    by : (kind : StructureKind) → MayAt site kind v → SettledSlots site (words_then site kind j words) (views_then site kind j v words views)
    by (takes guard caller) may = let t = eqb (words (guard_word site.shape guard)) 0 in
        still_settled site words views j v h at _ _ (taken_still site words views j v h at guard caller t) (keeping site words views j v h at _ _ (taken_more t guard v))
    by (takes_for_side m caller) may = let t = eqb (words (guard_word site.shape of_free_slots)) 0 in
        still_settled site words views j v h at _ _ (taken_for_still site words views j v h at m caller t) (taken_for site words views j v h at m caller may t)
    by (gives guard) may = still_settled site words views j v h at _ _ (guard_still site words v _ guard 0 (λ p l. l)) (given site words views j v h at guard _ refl refl refl may.2)
    by (finds_stale s version) may = let x = words (header_word site.shape s) in let t = not (eqb (version_in x) version) in
        still_settled site words views j v h at _ _ (found_still site words views j v h at t (Stale s) (header_word site.shape s) x)
        (keeping site words views j v h at _ _ (found_more t (Stale s) (header_word site.shape s) x v))
    by (closes s i) may = still_settled site words views j v h at _ _ (found_still site words views j v h at true (Whole s) i (words i))
        (keeping site words views j v h at _ _ (found_more true (Whole s) i (words i) v))
    by (finds_free n) may = let x = words (header_word site.shape n) in let t = eqb (state_in x) free in
        still_settled site words views j v h at _ _ (slot_still site words views j v h at t n (header_word site.shape n) x)
        (keeping site words views j v h at _ _ (slot_more t n (header_word site.shape n) x v))
    by (finds_link p depth pattern) may = still_settled site words views j v h at _ _ (calm_still site words v _ (λ p l. l)) (keeping site words views j v h at _ _ (λ n has. has))
    by (finds_side p n depth pattern) may = let x = words (header_word site.shape n) in let t = is_new_side depth pattern x in
        still_settled site words views j v h at _ _ (told_still site words views j v h at (told_by_side (is_ready_side depth pattern x) p n depth pattern) t (Side n) (header_word site.shape n) x)
        (keeping site words views j v h at _ _ (found_more t (Side n) (header_word site.shape n) x v))
    by (finds_entry e i) may = still_settled site words views j v h at _ _ (calm_still site words v _ (λ p l. l)) (keeping site words views j v h at _ _ (λ n has. has))
    by (finds_begin s) may = still_settled site words views j v h at _ _ (calm_still site words v _ (λ p l. l)) (keeping site words views j v h at _ _ (λ n has. has))
    by (reads i) may = still_settled site words views j v h at _ _ (calm_still site words v _ (λ p l. l)) (keeping site words views j v h at _ _ (λ n has. has))
    by (sets i x) may = λ n slot some. other_slot site words views j v h at i x _ (record { held = refl; dirty = refl; flushed = refl; areas_are = refl })
        (held_within site words views h j v i at may.holds) n slot (λ e. may.no_header n slot (sym e)) (λ has. has) some
    by (moves row s x) may = row_settled site words views j v h at row s x _ may (row_stored site words views j v h at row s x _ refl refl refl) refl
    by (settles facts) may = still_settled site words views j v h at _ _ (fence_still site words views j v h at _ refl refl) (keeping site words views j v h at _ _ (λ n has. has))
    by (settles_side m depth pattern) may = still_settled site words views j v h at _ _ (fence_still site words views j v h at _ refl refl)
        (side_given site words views j v h at m (view_then site.shape (settles_side m depth pattern) (words 0) v) refl (λ p l. elim l [ inl d ↦ may.2 p d | inr f ↦ absurd f ]))
    by (opens s lock next) may = still_settled site words views j v h at _ _ (opened_still site words views j v h at s lock next _ may refl refl)
        (keeping site words views j v h at _ _ (λ n has. without site words views j v h at (is_whole_at s) (view_then site.shape (opens s lock next) (words lock) v) refl refl n refl has))
