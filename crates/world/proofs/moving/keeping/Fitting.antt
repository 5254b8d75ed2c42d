-- Each kind of step at the structure keeps locks and areas fitting, and owners and live segments in whatever a cut may leave.
use Rattle.std.proofs.Common.{◌≡◌, ◌≢◌, ◌⊎◌, ℕ, suc, ◌+◌, ◌*◌, ◌≤◌, Bool, true, false, cond, eqb, List, set, inl, inr, refl, sym, ap, ◌∙◌, subst, arith}
use Rattle.std.specs.Prelude.{not, ◌&&◌}
use Rattle.std.proofs.lemmas.Bool.{eq-eqb, eqb-true, eqb-false, not-true, and_parts, false≢true}
use Rattle.trace.specs.Events.{Words, with_word, after}
use Rattle.trace.specs.Events.Event.{loaded, exchanged}
use Rattle.trace.proofs.Replaced.{replaced_other}
use Rattle.segment_head.specs.HeadWord.{version_in, state_in, depth_in, pattern_in, free, normal, fresh, HasLiveState}
use Rattle.image_layout.specs.Places.{Shape, words_of, bucket_at}
use Rattle.sound_image.specs.Segments.{frame_of, state_at}
use Rattle.frame_facts.specs.Core.{core_of}
use Rattle.frame_facts.specs.Facts.{Lives, Fact}
use Rattle.world.specs.Ground.{Ground, IsLockWord}
use Rattle.world.specs.Views.{View, Has, At, HasLock}
use Rattle.world.specs.Kinds.{without}
use Rattle.world.specs.Media.{IsPossible}
use Rattle.world.specs.areas.Areas.{Area, Segment, Stale, Side, Free, Whole, header_word, is_side_at, is_whole_at, all_but}
use Rattle.world.specs.areas.Fitting.{Fits, HasGrounds}
use Rattle.world.specs.areas.Rows.{Row, IsRowIn, areas_by, HasStored}
use Rattle.world.specs.areas.Spared.{HasFenced, LooseIsHeld, AreaChange, stays, adds, leaves, gives_side, gives_segment, gives_allocation, gives_directory, areas_after, MayAdd, IsNotSplit, AreasMayChange, SparesAreas}
use Rattle.world.specs.areas.Lasting.{Owners, Lasting, AreSoundMedia, GivesUp}
use Rattle.world.specs.areas.Kinds.{Guard, of_segment, of_free_slots, of_directory, guard_word, area_of, goes_with, takes, takes_for_side, gives, finds_stale, closes, finds_free, finds_link, finds_side, finds_entry, finds_begin, reads, sets, moves, settles, settles_side, opens, with_guard, with_area, with_slot, is_new_side, is_ready_side, told_by_side, with_facts, with_guard_for}
use Rattle.world.specs.areas.Asking.{KnowsDead, MayAt}
use Rattle.world.specs.Invariant.{Holds}
use Rattle.world.specs.areas.Keeping.{whole_beside, KeepsAreas}
use Rattle.world.proofs.basics.Seats.{is_v, without_has, without_stays}
use Rattle.world.proofs.basics.Structures.{one_segment}
use Rattle.world.proofs.basics.Tables.{core_structure_same, lock_cores}
use Rattle.world.proofs.fitting.OneHolder.{head_in_slot}
use Rattle.world.proofs.fitting.Rows.{but_before, rows_keep}
use Rattle.world.proofs.fitting.Spared.{other_stores, fences_keep, sparing_steps}
use Rattle.world.proofs.fitting.lasting.Owning.{rows_keep_owners}
use Rattle.world.proofs.fitting.lasting.Lasting.{rows_last, others_last, sparing_lasts, fences_last}
use Rattle.world.proofs.moving.Known.{grounds, held_within, newest_is, beside, whole_cores}

-- a guard's word is none of the image
pub guard_behind : (shape : Shape) (guard : Guard) → words_of shape ≤ guard_word shape guard
guard_behind shape (of_segment s) = omega arith
guard_behind shape of_free_slots = omega arith
guard_behind shape of_directory = omega arith

not_same : (a b : ℕ) → not (eqb a b) ≡ true → a ≢ b
not_same a b e = eqb-false a b (not-true (eqb a b) e)

module _ (site : Ground) (words : Words) (views : List View) (j : ℕ) (v : View) (h : Holds site words views) (at : At views j v) where
  abbrev AllFit : Words → View → Type 0
  AllFit later w = Fits site later (set views j w) × Owners site later (set views j w) × Lasting site later (set views j w)

  g : HasGrounds site words views
  g = grounds site words views h

  sound : AreSoundMedia site words views
  sound m p = (h.structure.sound m p).sound

  loose : LooseIsHeld site.shape views
  loose c u i x a l = h.known.loose c u i x a l

  known : (i x : ℕ) → Has (i, x) v.known → words i ≡ x
  known i x k = (h.known.knows j v i x at k).0

  -- ---- steps that leave all cores
  spared : (later : Words) (w : View) (change : AreaChange) → SparesAreas site words views later change v w → AllFit later w
  spared later w change st =
      let q = sparing_lasts site words later views j v w change at st in
      (sparing_steps site words later views j v w change h.structure.fits at st, q.0 h.structure.owners, q.1 h.structure.lasting)

  -- a load, with which the areas change
  loaded_fit : (w : View) (change : AreaChange) → w.held ≡ v.held → w.dirty ≡ v.dirty → w.flushed ≡ v.flushed → w.areas ≡ areas_after change v.areas → AreasMayChange site words views change v
      → AllFit words w
  loaded_fit w change held dirty flushed areas may = spared words w change (record {
    cores = λ i _. refl;
    no_more = λ p l. elim l [ inl d ↦ inl (subst (Has p) dirty d) | inr f ↦ inr (subst (Has p) flushed f) ];
    no_less = λ p l. elim l [ inl d ↦ inl (subst (Has p) (sym dirty) d) | inr f ↦ inr (subst (Has p) (sym flushed) f) ];
    locks = λ lock has. inl (subst (λ l. HasLock l lock) held has);
    wholes = λ s has all b near. subst (λ l. HasLock l (bucket_at site.shape s b)) (sym held) (all b near);
    areas_are = areas;
    may = may;
  })

  idle : AllFit words v
  idle = loaded_fit v stays refl refl refl refl tt

  -- a store to a guard, with which the areas change
  guard_stored : (guard : Guard) (x : ℕ) (w : View) (change : AreaChange) → w.held ≡ v.held → w.dirty ≡ v.dirty → w.flushed ≡ v.flushed → w.areas ≡ areas_after change v.areas
      → AreasMayChange site words views change v → AllFit (with_word words (guard_word site.shape guard) x) w
  guard_stored guard x w change held dirty flushed areas may = spared (with_word words (guard_word site.shape guard) x) w change (record {
    cores = λ i within. ap (core_of site.shape i) (replaced_other words (guard_word site.shape guard) x i (λ e. omega (arith, within, e, guard_behind site.shape guard)));
    no_more = λ p l. elim l [ inl d ↦ inl (subst (Has p) dirty d) | inr f ↦ inr (subst (Has p) flushed f) ];
    no_less = λ p l. elim l [ inl d ↦ inl (subst (Has p) (sym dirty) d) | inr f ↦ inr (subst (Has p) (sym flushed) f) ];
    locks = λ lock has. inl (subst (λ l. HasLock l lock) held has);
    wholes = λ s has all b near. subst (λ l. HasLock l (bucket_at site.shape s b)) (sym held) (all b near);
    areas_are = areas;
    may = may;
  })

  -- a guard whose word is 0 is nobody's
  may_take : (guard : Guard) (caller : ℕ) → MayAt site (takes guard caller) v → words (guard_word site.shape guard) ≡ 0 → MayAdd site words views (area_of guard) v
  may_take (of_segment s) caller may zero_is = ((λ m p. h.structure.says j v (Lives s) m at may.1 p), (λ c u a has. h.structure.guards c u (of_segment s) a has zero_is))
  may_take of_free_slots caller may zero_is = λ c u a has. h.structure.guards c u of_free_slots a has zero_is
  may_take of_directory caller may zero_is = λ c u a has. h.structure.guards c u of_directory a has zero_is

  taken : (guard : Guard) (caller : ℕ) → MayAt site (takes guard caller) v → (t : Bool) → eqb (words (guard_word site.shape guard)) 0 ≡ t
      → AllFit (after (cond t (exchanged j (guard_word site.shape guard) caller) (loaded j (guard_word site.shape guard))) words) (with_guard t guard v)
  taken guard caller may true e = guard_stored guard caller (with_guard true guard v) (adds (area_of guard)) refl refl refl refl
      (may_take guard caller may (eqb-true (words (guard_word site.shape guard)) 0 e))
  taken guard caller may false e = idle

  -- who gives a segment's guard back has it not whole, so that nobody splits it
  unsplit : (s : ℕ) → Has (Segment s) v.areas → (Has (Whole s) v.areas → ⊥) → IsNotSplit site words views s
  unsplit s has none c split =
      let q = h.structure.fits.splits s c split in
      let k = h.structure.fits.one_segment q.0 j q.1 v s q.2 at (h.structure.fits.whole q.0 q.1 s q.2 q.3).0 has in
      none (subst (λ (u : View). Has (Whole s) u.areas) (is_v views j v v at q.0 q.1 q.2 k) q.3)

  given : (guard : Guard) (w : View) → MayAt site (gives guard) v → w.held ≡ v.held → w.dirty ≡ v.dirty → w.flushed ≡ v.flushed → w.areas ≡ all_but (goes_with guard) v.areas
      → AllFit (with_word words (guard_word site.shape guard) 0) w
  given (of_segment s) w may a b c d = guard_stored (of_segment s) 0 w (gives_segment s) a b c d (unsplit s may.0 may.2.1, may.2.0)
  given of_free_slots w may a b c d = guard_stored of_free_slots 0 w gives_allocation a b c d tt
  given of_directory w may a b c d = guard_stored of_directory 0 w gives_directory a b c d tt

  -- an area that a load finds
  found : (t : Bool) (area : Area) (i x : ℕ) → (t ≡ true → MayAdd site words views area v) → AllFit words (with_area t area i x v)
  found true area i x may = loaded_fit (with_area true area i x v) (adds area) refl refl refl refl (may refl)
  found false area i x may = idle

  -- with which facts are told
  told : (facts : List Fact) (t : Bool) (area : Area) (i x : ℕ) → (t ≡ true → MayAdd site words views area v) → AllFit words (with_facts facts (with_area t area i x v))
  told facts true area i x may = loaded_fit (with_facts facts (with_area true area i x v)) (adds area) refl refl refl refl (may refl)
  told facts false area i x may = loaded_fit (with_facts facts v) stays refl refl refl refl tt

  found_slot : (t : Bool) (n i x : ℕ) → (t ≡ true → MayAdd site words views (Free n) v) → AllFit words (with_slot t n i x v)
  found_slot true n i x may = found true (Free n) i x may
  found_slot false n i x may = loaded_fit (with_slot false n i x v) stays refl refl refl refl tt

  new_side : (p n depth pattern : ℕ) → MayAt site (finds_side p n depth pattern) v → is_new_side depth pattern (words (header_word site.shape n)) ≡ true → MayAdd site words views (Side n) v
  new_side p n depth pattern may is =
      let head = words (header_word site.shape n) in
      let a = and_parts (eqb (state_in head) fresh) (eqb (depth_in head) (suc depth) && eqb (pattern_in head) (2 * pattern + 1)) is in
      let b = and_parts (eqb (depth_in head) (suc depth)) (eqb (pattern_in head) (2 * pattern + 1)) a.1 in
      let state : state_in head ≡ fresh = eqb-true (state_in head) fresh a.0 in
      let k = may.0 in
      let guard = (h.structure.fits.stale j v p at k.stale).0 in
      let same : words (header_word site.shape p) ≡ k.head = known (header_word site.shape p) k.head k.knows.known in (
        record {
          slot = may.2;
          taken = λ e. omega (arith, state, e);
          parent = p;
          parent_slot = (h.structure.fits.segment j v p at guard words (λ i within. inl refl)).slot;
          guarded = guard;
          splits = ap state_in same ∙ k.splits;
          depth = eqb-true (depth_in head) (suc depth) b.0 ∙ one_more depth ∙ ap (λ d. d + 1) (sym k.depth_is) ∙ ap (λ z. depth_in z + 1) (sym same);
          pattern = eqb-true (pattern_in head) (2 * pattern + 1) b.1 ∙ ap (λ q. 2 * q + 1) (sym k.pattern_is) ∙ ap (λ z. 2 * pattern_in z + 1) (sym same);
        },
        λ l. elim l [ inl e ↦ omega (arith, e, state) | inr e ↦ omega (arith, e, state) ],
      )
    where
      one_more : (d : ℕ) → suc d ≡ d + 1
      one_more d = omega arith

  -- ---- stores
  set_fits : (i x : ℕ) (w : View) → MayAt site (sets i x) v → HasStored site.shape i (words i) x v.areas v w → AllFit (with_word words i x) w
  set_fits i x w may st =
      let near = held_within site words views h j v i at may.holds in
      let q = others_last site words views j v w i x at near may.no_header st in
      (other_stores site words views j v w i x h.structure.fits at near may.no_header st, q.0 h.structure.owners, q.1 h.structure.lasting)

  row_in : (row : Row) (s x : ℕ) → MayAt site (moves row s x) v → (m : Words) → IsPossible site words views m → IsRowIn site m row s x
  row_in row s x may m p = (
    whole_beside site words m,
    core_structure_same site m (whole_beside site words m) (λ n _. whole_cores site words m n),
    may.4 words (whole_beside site words m) (newest_is site words views h j v at) (beside site words views h j v at m p),
  )

  row_fits : (row : Row) (s x : ℕ) (w : View) → MayAt site (moves row s x) v
      → HasStored site.shape (header_word site.shape s) (words (header_word site.shape s)) x (areas_by row s v.areas) v w → AllFit (with_word words (header_word site.shape s) x) w
  row_fits row s x w may st =
      let now = may.0 words (newest_is site words views h j v at) in (
        rows_keep site words views j v w row s x g h.structure.fits at now.0 now.1 st,
        rows_keep_owners site words views j v w row s x g sound at now.0 (row_in row s x may) now.1 st h.structure.owners,
        rows_last site words views j v w row s x g h.structure.fits at now.0 now.1 st h.structure.lasting,
      )

  -- ---- fences
  fenced_fit : (w : View) (areas : List Area) → GivesUp site words v areas → (areas ≡ v.areas) ⊎ ((n : ℕ) × (areas ≡ all_but (is_side_at n) v.areas)) → HasFenced areas v w
      → ((n : ℕ) → Has (Side n) w.areas → HasLiveState (words (header_word site.shape n)) → ⊥) → AllFit words w
  fenced_fit w areas up some st unborn =
      let q = fences_last site words views j v w areas g h.structure.fits sound at loose up st in
      (fences_keep site words views j v w areas g h.structure.fits at loose some st unborn, q.0 h.structure.owners, q.1 h.structure.lasting)

  dead_now : (n : ℕ) → KnowsDead site v n → HasLiveState (words (header_word site.shape n)) → ⊥
  dead_now n k l = k.2 (subst HasLiveState (known (header_word site.shape n) k.0 k.1) l)

  -- with the guard of free slots lost, a side is given up in which no segment lives
  taken_for : (n caller : ℕ) → MayAt site (takes_for_side n caller) v → (t : Bool) → eqb (words (guard_word site.shape of_free_slots)) 0 ≡ t
      → AllFit (after (cond t (exchanged j (guard_word site.shape of_free_slots) caller) (loaded j (guard_word site.shape of_free_slots))) words) (with_guard_for site.shape t n v)
  taken_for n caller may true e = taken of_free_slots caller may.0 true e
  taken_for n caller may false e = loaded_fit (with_guard_for site.shape false n v) (gives_side n) refl refl refl refl (dead_now n may.2)

  settled : (w : View) → ((n : ℕ) → Has (Side n) v.areas → KnowsDead site v n) → HasFenced v.areas v w → AllFit words w
  settled w dead st = fenced_fit w v.areas (inl refl) (inl refl) st (λ n has. dead_now n (dead n (subst (Has (Side n)) st.areas_are has)))

  settled_side : (n depth pattern : ℕ) (w : View) → MayAt site (settles_side n depth pattern) v → HasFenced (all_but (is_side_at n) v.areas) v w → AllFit words w
  settled_side n depth pattern w may st =
      let k = may.3 in
      let is : state_at (frame_of site.shape words) n ≡ normal = ap state_in (known (header_word site.shape n) k.0 k.1) ∙ k.2 in
      fenced_fit w (all_but (is_side_at n) v.areas)
      (inr (n, refl, may.0, is, λ y d. may.2 (header_word site.shape n, y) d (head_in_slot site.shape n))) (inr (n, refl)) st
      (λ m has. let b = but_before (is_side_at n) v.areas (Side m) (subst (Has (Side m)) st.areas_are has) in
      dead_now m (may.4 m b.0 (λ e. false≢true (sym b.1 ∙ eq-eqb m n e))))

  -- ---- the first unlock of a whole segment
  opened : (s lock next : ℕ) (w : View) → MayAt site (opens s lock next) v → w.held ≡ without lock v.held → w.dirty ≡ v.dirty → w.flushed ≡ v.flushed
      → w.areas ≡ all_but (is_whole_at s) v.areas → AllFit (with_word words lock next) w
  opened s lock next w may held dirty flushed areas =
      let slot = (h.structure.fits.segment j v s at (h.structure.fits.whole j v s at may.0).0 words (λ i within. inl refl)).slot in
      let is : IsLockWord site.shape lock = (s, may.1.0, slot, may.1.1, may.1.2) in
      spared (with_word words lock next) w (leaves s) (record {
        cores = λ i _. lock_cores site words lock next is i;
        no_more = λ p l. elim l [ inl d ↦ inl (subst (Has p) dirty d) | inr f ↦ inr (subst (Has p) flushed f) ];
        no_less = λ p l. elim l [ inl d ↦ inl (subst (Has p) (sym dirty) d) | inr f ↦ inr (subst (Has p) (sym flushed) f) ];
        locks = λ other has. let o = subst (λ l. HasLock l other) held has in inl (o.0, (without_has lock other o.0 v.held o.1).1);
        wholes = λ t has all b near.
            let k = but_before (is_whole_at s) v.areas (Whole t) (subst (Has (Whole t)) areas has) in
            let o = all b near in
            subst (λ l. HasLock l (bucket_at site.shape t b)) (sym held) (
              o.0,
              without_stays lock (bucket_at site.shape t b) o.0 v.held
                  (λ e. false≢true (sym k.1 ∙ eq-eqb t s (one_segment site.shape s may.1.0 t b may.1.1 near (sym may.1.2 ∙ sym e)))) o.1,
            );
        areas_are = areas;
        may = λ c split. may.8 words (newest_is site words views h j v at) split;
      })

-- EACH KIND
pub keep_areas : KeepsAreas
keep_areas site (takes guard caller) words views j v h at may = taken site words views j v h at guard caller may (eqb (words (guard_word site.shape guard)) 0) refl
keep_areas site (takes_for_side n caller) words views j v h at may = taken_for site words views j v h at n caller may (eqb (words (guard_word site.shape of_free_slots)) 0) refl
keep_areas site (gives guard) words views j v h at may = given site words views j v h at guard _ may refl refl refl refl
keep_areas site (finds_stale s version) words views j v h at may =
    found site words views j v h at (not (eqb (version_in (words (header_word site.shape s))) version)) (Stale s) (header_word site.shape s) (words (header_word site.shape s))
    (λ e. (may.0, λ z. not_same (version_in (words (header_word site.shape s))) version e (z ∙ sym may.1)))
keep_areas site (closes s i) words views j v h at may = found site words views j v h at true (Whole s) i (words i) (λ e. (may.0, may.1))
keep_areas site (finds_free n) words views j v h at may =
    found_slot site words views j v h at (eqb (state_in (words (header_word site.shape n))) free) n (header_word site.shape n) (words (header_word site.shape n))
    (λ e. (may.0, may.1, eqb-true (state_in (words (header_word site.shape n))) free e))
keep_areas site (finds_link p depth pattern) words views j v h at may = loaded_fit site words views j v h at _ stays refl refl refl refl tt
keep_areas site (finds_side p n depth pattern) words views j v h at may =
    let x = words (header_word site.shape n) in
    told site words views j v h at (told_by_side (is_ready_side depth pattern x) p n depth pattern) (is_new_side depth pattern x) (Side n) (header_word site.shape n) x
    (new_side site words views j v h at p n depth pattern may)
keep_areas site (finds_entry e i) words views j v h at may = loaded_fit site words views j v h at _ stays refl refl refl refl tt
keep_areas site (finds_begin s) words views j v h at may = loaded_fit site words views j v h at _ stays refl refl refl refl tt
keep_areas site (reads i) words views j v h at may = loaded_fit site words views j v h at _ stays refl refl refl refl tt
keep_areas site (sets i x) words views j v h at may = set_fits site words views j v h at i x _ may (record { held = refl; dirty = refl; flushed = refl; areas_are = refl })
keep_areas site (moves row s x) words views j v h at may = row_fits site words views j v h at row s x _ may (record { held = refl; dirty = refl; flushed = refl; areas_are = refl })
keep_areas site (settles facts) words views j v h at may = settled site words views j v h at _ may.0 (record { held = refl; dirty = refl; flushed = refl; areas_are = refl })
keep_areas site (settles_side n depth pattern) words views j v h at may =
    settled_side site words views j v h at n depth pattern _ may (record { held = refl; dirty = refl; flushed = refl; areas_are = refl })
keep_areas site (opens s lock next) words views j v h at may = opened site words views j v h at s lock next _ may refl refl refl refl
