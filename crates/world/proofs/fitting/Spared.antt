-- Stores to words that are no headers, fences, and steps that leave all cores and what is loose keep locks and areas fitting.
use Rattle.std.proofs.Common.{◌≡◌, ◌≢◌, ◌⊎◌, ℕ, ◌<◌, Bool, true, false, List, ◌∷◌, set, inl, inr, refl, sym, ap, ◌∙◌, subst}
use Rattle.std.proofs.lemmas.Bool.{cases_Bool, cases_eq, ne_eqb, eqb-true, both_ways}
use Rattle.trace.specs.Events.{Words, with_word}
use Rattle.trace.proofs.Replaced.{replaced_other}
use Rattle.segment_head.specs.HeadWord.{version_in, state_in, free, HasLiveState}
use Rattle.image_layout.specs.Places.{words_of, bucket_at}
use Rattle.sound_image.specs.Segments.{frame_of, state_at}
use Rattle.frame_facts.proofs.Moved.{live_same}
use Rattle.frame_facts.specs.Core.{core}
use Rattle.frame_facts.proofs.segments.Cores.{structure_within}
use Rattle.world.specs.Ground.{Ground, version_of}
use Rattle.world.specs.Views.{View, Has, At, HasLock, IsLoose}
use Rattle.world.specs.areas.Areas.{Area, Segment, Stale, Side, Free, Whole, Allocation, Directory, header_word, is_side_at, is_whole_at, is_of_segment, is_of_allocation, is_of_directory, all_but}
use Rattle.world.specs.areas.Fitting.{IsGuardedSide, LivesOn, MayStayDead, IsLivingLock, HoldsAll, Fits, HasGrounds}
use Rattle.world.specs.areas.Spared.{OtherStoresKeepFits, HasFenced, LooseIsHeld, FencesKeepFits, ForeignWordsAreSpared, AreaChange, stays, adds, leaves, gives_side, gives_segment, gives_allocation, gives_directory, areas_after, MayAdd, IsNotSplit, AreasMayChange, SparingStepsKeepFits}
use Rattle.world.proofs.basics.Lists.{set_there}
use Rattle.world.proofs.basics.Seats.{carry}
use Rattle.world.proofs.basics.Structures.{header_is}
use Rattle.world.proofs.basics.Tables.{core_structure_same}
use Rattle.world.proofs.invariant.KeepMedia.{possible_fewer}
use Rattle.world.proofs.fitting.OneHolder.{one_holder, head_in_slot}
use Rattle.world.proofs.fitting.Stored.{may_stays, lives_by}
use Rattle.world.proofs.fitting.Kept.{IsFresh, StepperFits, living, same_stale, same_side, fits_by, AreSome, some_fit}
use Rattle.world.proofs.fitting.Rows.{but_before, but_after}

-- the same areas and the same locks
same_areas : (site : Ground) (views : List View) (v w : View) → w.areas ≡ v.areas → ((s : ℕ) → Has (Whole s) v.areas → HoldsAll site.shape v s → HoldsAll site.shape w s) → AreSome site views v w
same_areas site views v w e held = record {
  before = λ a h. subst (Has a) e h;
  segments = λ s h. subst (Has (Segment s)) (sym e) h;
  allocation = λ h. subst (Has Allocation) (sym e) h;
  wholes = λ s h. subst (Has (Whole s)) (sym e) h;
  held = held;
}

same_held : (site : Ground) (v w : View) → w.held ≡ v.held → (s : ℕ) → Has (Whole s) v.areas → HoldsAll site.shape v s → HoldsAll site.shape w s
same_held site v w e s h all b near = subst (λ l. HasLock l (bucket_at site.shape s b)) (sym e) (all b near)

-- ---- stores
pub other_stores : OtherStoresKeepFits
other_stores site words views j v w i x f at near none st =
    let heads : (s : ℕ) → s < site.shape.segments → with_word words i x (header_word site.shape s) ≡ words (header_word site.shape s) =
    λ s slot. replaced_other words i x (header_word site.shape s) (λ e. none s slot (sym e)) in
    let lives : (s : ℕ) → LivesOn site words views s → LivesOn site (with_word words i x) (set views j w) s =
    λ s. lives_by site words views j v w i x v.areas at st near s (λ q p l. record {
      slot = l.slot;
      live = live_same (frame_of site.shape q) (frame_of site.shape (with_word q i x)) s (replaced_other q i x (header_word site.shape s) (λ e. none s l.slot (sym e))) l.live;
    }) in
    let dead : (n : ℕ) → MayStayDead site words views n → MayStayDead site (with_word words i x) (set views j w) n =
    λ n q. record { old = q.old; may = may_stays site words views j v w i x v.areas at st (header_word site.shape n) q.old q.may; dead = q.dead } in
    some_fit site words (with_word words i x) views j v w f at heads lives (same_areas site views v w st.areas_are (same_held site v w st.held))
    (λ lock h. f.lock j v lock at (subst (λ l. HasLock l lock) st.held h)) (λ c u n k a h. dead n) (λ n h. dead n)

-- ---- fences
module _ (site : Ground) (words : Words) (views : List View) (j : ℕ) (v w : View) (areas : List Area) (g : HasGrounds site words views) (f : Fits site words views) (at : At views j v)
    (loose : LooseIsHeld site.shape views) (some : (areas ≡ v.areas) ⊎ ((n : ℕ) × (areas ≡ all_but (is_side_at n) v.areas))) (st : HasFenced areas v w)
    (unborn : (n : ℕ) → Has (Side n) w.areas → HasLiveState (words (header_word site.shape n)) → ⊥) where
  less : (p : ℕ × ℕ) → IsLoose w p → IsLoose v p
  less p l = elim l [ inl d ↦ inl (subst (Has p) st.dirty d) | inr h ↦ absurd (subst (Has p) st.flushed h) ]

  lives : (s : ℕ) → LivesOn site words views s → LivesOn site words (set views j w) s
  lives s l m p = l m (possible_fewer site words words views j v w at (λ n _. refl) less m p)

  are_some : AreSome site views v w
  are_some = elim some [
    | inl e ↦ same_areas site views v w (st.areas_are ∙ e) (same_held site v w st.held)
    | inr q ↦
        let e = st.areas_are ∙ q.1 in
        let keeps : (a : Area) → is_side_at q.0 a ≡ false → Has a v.areas → Has a w.areas = λ a k h. subst (Has a) (sym e) (but_after (is_side_at q.0) v.areas a h k) in
        record {
          before = λ a h. (but_before (is_side_at q.0) v.areas a (subst (Has a) e h)).0;
          segments = λ s. keeps (Segment s) refl;
          allocation = keeps Allocation refl;
          wholes = λ s. keeps (Whole s) refl;
          held = same_held site v w st.held;
        }
  ]

  -- of another's side the same may be left
  spared : (c : ℕ) (u : View) (n : ℕ) → c ≢ j → At views c u → Has (Side n) u.areas → MayStayDead site words views n → MayStayDead site words (set views j w) n
  spared c u n ne a h q = record {
    old = q.old;
    may = elim q.may [
      | inl e ↦ inl e
      | inr l ↦ (let k = one_holder site words views g f l.0 c (header_word site.shape n) l.1 u l.3 a (loose l.0 l.1 (header_word site.shape n) l.2 l.3 l.4)
          (inr (Side n, h, head_in_slot site.shape n)) in
          inr (l.0, l.1, l.2, set_there views j l.0 l.1 w (λ e. ne (sym k ∙ e)) l.3, l.4, l.5))
    ];
    dead = q.dead;
  }

  pub fenced : Fits site words (set views j w)
  fenced = some_fit site words words views j v w f at (λ s slot. refl) lives are_some (λ lock h. f.lock j v lock at (subst (λ l. HasLock l lock) st.held h)) spared
      (λ n h q. record { old = words (header_word site.shape n); may = inl refl; dead = unborn n h })

pub fences_keep : FencesKeepFits
fences_keep site words views j v w areas g f at loose some st unborn = fenced site words views j v w areas g f at loose some st unborn

pub foreign_spared : ForeignWordsAreSpared
foreign_spared site later views j c u w i x a ne l = inr (c, u, x, set_there views j c u w ne a, l, refl)

-- ---- all else
-- what a change drops it does not drop of guards that others hang on
module _ (site : Ground) (views : List View) (v w : View) (test : Area → Bool) (e : w.areas ≡ all_but test v.areas) where
  dropped_before : (a : Area) → Has a w.areas → Has a v.areas × (test a ≡ false)
  dropped_before a h = but_before test v.areas a (subst (Has a) e h)

  dropped_after : (a : Area) → test a ≡ false → Has a v.areas → Has a w.areas
  dropped_after a k h = subst (Has a) (sym e) (but_after test v.areas a h k)

module _ (site : Ground) (words later : Words) (views : List View) (j : ℕ) (v w : View) (f : Fits site words views) (at : At views j v)
    (cores : (i : ℕ) → i < words_of site.shape → core site.shape later i ≡ core site.shape words i) (no_more : (p : ℕ × ℕ) → IsLoose w p → IsLoose v p)
    (no_less : (p : ℕ × ℕ) → IsLoose v p → IsLoose w p) (locks : (lock : ℕ) → HasLock w.held lock → HasLock v.held lock ⊎ IsLivingLock site words views lock)
    (wholes : (s : ℕ) → Has (Whole s) w.areas → HoldsAll site.shape v s → HoldsAll site.shape w s) where
  heads : (s : ℕ) → s < site.shape.segments → later (header_word site.shape s) ≡ words (header_word site.shape s)
  heads s slot = core_structure_same site words later cores (header_word site.shape s) (header_is site.shape s slot)

  goes : (s : ℕ) → LivesOn site words views s → LivesOn site later (set views j w) s
  goes s l m p = l m (possible_fewer site words later views j v w at cores no_more m p)

  dead_goes : (n : ℕ) → n < site.shape.segments → MayStayDead site words views n → MayStayDead site later (set views j w) n
  dead_goes n slot q = record {
    old = q.old;
    may = elim q.may [
      | inl e ↦ inl (e ∙ sym (cores (header_word site.shape n) (structure_within site.shape (header_word site.shape n) (header_is site.shape n slot))))
      | inr l ↦ (let k = carry views j v w at (λ _ u. IsLoose u (header_word site.shape n, l.2)) (no_less (header_word site.shape n, l.2)) l.0 l.1 l.3 l.4 in
          inr (l.0, k.0, l.2, k.1, k.2, l.5))
    ];
    dead = q.dead;
  }

  lock_goes : (lock : ℕ) → HasLock w.held lock → IsLivingLock site words views lock
  lock_goes lock h = elim (locks lock h) [ inl old ↦ f.lock j v lock at old | inr l ↦ l ]

  others_dead : (c : ℕ) (u : View) (n : ℕ) → c ≢ j → At views c u → Has (Side n) u.areas → MayStayDead site words views n → MayStayDead site later (set views j w) n
  others_dead c u n k a h q = dead_goes n (f.side c u n a h).0.slot q

  -- what hangs on a guard that stays
  stale_goes : (s : ℕ) → Has (Stale s) v.areas → Has (Segment s) w.areas → Has (Segment s) w.areas × (version_in (later (header_word site.shape s)) ≢ version_of site)
  stale_goes s h guard = let q = f.stale j v s at h in (guard, same_stale site words later views j v w f at heads goes s (f.segment j v s at q.0) q.1)

  side_goes : (n : ℕ) → Has (Side n) v.areas → ((p : ℕ) → Has (Segment p) v.areas → Has (Segment p) w.areas)
      → IsGuardedSide (frame_of site.shape later) w.areas n × MayStayDead site later (set views j w) n
  side_goes n h keeps = let q = f.side j v n at h in (same_side site words later views j v w f at heads goes v.areas w.areas n keeps q.0, dead_goes n q.0.slot q.1)

  free_goes : (n : ℕ) → Has (Free n) v.areas → Has Allocation w.areas → Has Allocation w.areas × (n < site.shape.segments) × (state_at (frame_of site.shape later) n ≡ free)
  free_goes n h guard = let q = f.free_slot j v n at h in (guard, q.1, ap state_in (heads n q.1) ∙ q.2)

  whole_goes : (s : ℕ) → Has (Whole s) v.areas → Has (Whole s) w.areas → Has (Segment s) w.areas → Has (Segment s) w.areas × HoldsAll site.shape w s
  whole_goes s h h' guard = (guard, wholes s h' (f.whole j v s at h).1)

  segment_goes : (s : ℕ) → Has (Segment s) v.areas → LivesOn site later (set views j w) s × IsFresh site words later views j v w (Segment s)
  segment_goes s h = (goes s (f.segment j v s at h), inl h)

  from_own : StepperFits site words later views j v w → Fits site later (set views j w)
  from_own own = fits_by site words later views j v w f at heads goes others_dead own

  locks_go : (lock : ℕ) → HasLock w.held lock → IsLivingLock site later (set views j w) lock
  locks_go lock h = living site words later views j v w f at heads goes lock (lock_goes lock h)

  -- some areas are dropped, with all that hangs on them
  module _ (test : Area → Bool) (e : w.areas ≡ all_but test v.areas)
      (hangs : (s : ℕ) → test (Segment s) ≡ true → (test (Stale s) ≡ true) × (test (Whole s) ≡ true) × ((n : ℕ) → Has (Side n) v.areas → ⊥))
      (frees_too : (n : ℕ) → test Allocation ≡ true → test (Free n) ≡ true)
      (unsplit : (s : ℕ) → test (Whole s) ≡ true → IsNotSplit site words views s) where
    before : (a : Area) → Has a w.areas → Has a v.areas × (test a ≡ false)
    before = dropped_before site views v w test e

    after : (a : Area) → test a ≡ false → Has a v.areas → Has a w.areas
    after = dropped_after site views v w test e

    segment_stays : (s : ℕ) → (test (Segment s) ≡ true → ⊥) → Has (Segment s) v.areas → Has (Segment s) w.areas
    segment_stays s k h = elim (cases_Bool (test (Segment s))) [ inl t ↦ absurd (k t) | inr n ↦ after (Segment s) n h ]

    pub drop_fits : Fits site later (set views j w)
    drop_fits = from_own (record {
      lock = locks_go;
      segment = λ s h. segment_goes s (before (Segment s) h).0;
      stale = λ s h. let b = before (Stale s) h in stale_goes s b.0 (segment_stays s (λ t. both_ways (test (Stale s)) b.1 (hangs s t).0) (f.stale j v s at b.0).0);
      side = λ n h. let b = before (Side n) h in side_goes n b.0 (λ p. segment_stays p (λ t. (hangs p t).2 n b.0));
      free_slot = λ n h. let b = before (Free n) h in free_goes n b.0 (elim (cases_Bool (test Allocation)) [
        | inl t ↦ absurd (both_ways (test (Free n)) b.1 (frees_too n t))
        | inr k ↦ after Allocation k (f.free_slot j v n at b.0).0
      ]);
      whole = λ s h. let b = before (Whole s) h in whole_goes s b.0 h (segment_stays s (λ t. both_ways (test (Whole s)) b.1 (hangs s t).1) (f.whole j v s at b.0).0);
      splits = λ s c split h. elim (cases_Bool (test (Whole s))) [ inl t ↦ absurd (unsplit s t c split) | inr k ↦ after (Whole s) k h ];
      allocation = λ h. inl (before Allocation h).0;
      directory = λ h. inl (before Directory h).0;
    })

  -- one is added
  module _ (a : Area) (e : w.areas ≡ a ∷ v.areas) (may : MayAdd site words views a v) where
    came : (b : Area) → Has b w.areas → (b ≡ a) ⊎ Has b v.areas
    came b h = subst (Has b) e h

    more : (b : Area) → Has b v.areas → Has b w.areas
    more b h = subst (Has b) (sym e) (inr h)

    added_segment : (s : ℕ) → a ≡ Segment s → LivesOn site later (set views j w) s × IsFresh site words later views j v w (Segment s)
    added_segment s k = let q = subst (λ z. MayAdd site words views z v) k may in (goes s q.0, inr q.1)

    added_stale : (s : ℕ) → a ≡ Stale s → Has (Segment s) w.areas × (version_in (later (header_word site.shape s)) ≢ version_of site)
    added_stale s k = let q = subst (λ z. MayAdd site words views z v) k may in
        (more (Segment s) q.0, same_stale site words later views j v w f at heads goes s (f.segment j v s at q.0) q.1)

    added_side : (n : ℕ) → a ≡ Side n → IsGuardedSide (frame_of site.shape later) w.areas n × MayStayDead site later (set views j w) n
    added_side n k = let q = subst (λ z. MayAdd site words views z v) k may in (
      same_side site words later views j v w f at heads goes v.areas w.areas n (λ p. more (Segment p)) q.0,
      record { old = later (header_word site.shape n); may = inl refl; dead = λ l. q.1 (subst HasLiveState (heads n q.0.slot) l) },
    )

    added_free : (n : ℕ) → a ≡ Free n → Has Allocation w.areas × (n < site.shape.segments) × (state_at (frame_of site.shape later) n ≡ free)
    added_free n k = let q = subst (λ z. MayAdd site words views z v) k may in (more Allocation q.0, q.1, ap state_in (heads n q.1) ∙ q.2)

    added_whole : (s : ℕ) → a ≡ Whole s → Has (Whole s) w.areas → Has (Segment s) w.areas × HoldsAll site.shape w s
    added_whole s k h = let q = subst (λ z. MayAdd site words views z v) k may in (more (Segment s) q.0, wholes s h q.1)

    pub add_fits : Fits site later (set views j w)
    add_fits = from_own (record {
      lock = locks_go;
      segment = λ s h. elim (came (Segment s) h) [ inl k ↦ added_segment s (sym k) | inr o ↦ segment_goes s o ];
      stale = λ s h. elim (came (Stale s) h) [ inl k ↦ added_stale s (sym k) | inr o ↦ stale_goes s o (more (Segment s) (f.stale j v s at o).0) ];
      side = λ n h. elim (came (Side n) h) [ inl k ↦ added_side n (sym k) | inr o ↦ side_goes n o (λ p. more (Segment p)) ];
      free_slot = λ n h. elim (came (Free n) h) [ inl k ↦ added_free n (sym k) | inr o ↦ free_goes n o (more Allocation (f.free_slot j v n at o).0) ];
      whole = λ s h. elim (came (Whole s) h) [ inl k ↦ added_whole s (sym k) h | inr o ↦ whole_goes s o h (more (Segment s) (f.whole j v s at o).0) ];
      splits = λ s c split h. more (Whole s) h;
      allocation = λ h. elim (came Allocation h) [ inl k ↦ inr (subst (λ z. MayAdd site words views z v) (sym k) may) | inr o ↦ inl o ];
      directory = λ h. elim (came Directory h) [ inl k ↦ inr (subst (λ z. MayAdd site words views z v) (sym k) may) | inr o ↦ inl o ];
    })

  -- ---- each change
  no_clash : (P : Type 0) → false ≡ true → P
  no_clash P e = absurd (cc)

  pub changed : (change : AreaChange) → w.areas ≡ areas_after change v.areas → AreasMayChange site words views change v → Fits site later (set views j w)
  changed stays e may = some_fit site words later views j v w f at heads goes (same_areas site views v w e (λ s h. wholes s (subst (Has (Whole s)) (sym e) h))) lock_goes others_dead
      (λ n h q. dead_goes n (f.side j v n at (subst (Has (Side n)) e h)).0.slot q)
  changed (adds a) e may = add_fits a e may
  changed (leaves s) e may = drop_fits (is_whole_at s) e (λ t k. no_clash _ k) (λ n k. no_clash _ k) (λ t k. subst (IsNotSplit site words views) (sym (eqb-true t s k)) may)
  changed (gives_side n) e may = drop_fits (is_side_at n) e (λ t k. no_clash _ k) (λ m k. no_clash _ k) (λ t k. no_clash _ k)
  changed (gives_segment s) e may = drop_fits (is_of_segment s) e (λ t k. (k, k, may.1)) (λ n k. no_clash _ k)
      (λ t k. subst (IsNotSplit site words views) (sym (eqb-true t s k)) may.0)
  changed gives_allocation e may = drop_fits is_of_allocation e (λ t k. no_clash _ k) (λ n k. refl) (λ t k. no_clash _ k)
  changed gives_directory e may = drop_fits is_of_directory e (λ t k. no_clash _ k) (λ n k. no_clash _ k) (λ t k. no_clash _ k)

pub sparing_steps : SparingStepsKeepFits
sparing_steps site words later views j v w change f at st = changed site words later views j v w f at st.cores st.no_more st.no_less st.locks st.wholes change st.areas_are st.may

-- ---- and no side is dropped in which a segment lives
pub sides_stay : (site : Ground) (words : Words) (views : List View) (change : AreaChange) (v w : View) → w.areas ≡ areas_after change v.areas → AreasMayChange site words views change v
    → (n : ℕ) → HasLiveState (words (header_word site.shape n)) → Has (Side n) v.areas → Has (Side n) w.areas
sides_stay site words views stays v w e may n live h = subst (Has (Side n)) (sym e) h
sides_stay site words views (adds a) v w e may n live h = subst (Has (Side n)) (sym e) (inr h)
sides_stay site words views (leaves s) v w e may n live h = subst (Has (Side n)) (sym e) (but_after (is_whole_at s) v.areas (Side n) h refl)
sides_stay site words views (gives_side m) v w e may n live h = elim (cases_eq n m) [
  | inl is ↦ absurd (may (subst (λ (z : ℕ). HasLiveState (words (header_word site.shape z))) is live))
  | inr ne ↦ subst (Has (Side n)) (sym e) (but_after (is_side_at m) v.areas (Side n) h (ne_eqb n m ne))
]
sides_stay site words views (gives_segment s) v w e may n live h = subst (Has (Side n)) (sym e) (but_after (is_of_segment s) v.areas (Side n) h refl)
sides_stay site words views gives_allocation v w e may n live h = subst (Has (Side n)) (sym e) (but_after is_of_allocation v.areas (Side n) h refl)
sides_stay site words views gives_directory v w e may n live h = subst (Has (Side n)) (sym e) (but_after is_of_directory v.areas (Side n) h refl)
