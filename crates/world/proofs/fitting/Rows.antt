-- Each row of a header keeps what the words are for all views to have their locks and areas.
use Rattle.std.proofs.Common.{◌≡◌, ◌≢◌, ℕ, ◌+◌, ◌*◌, ◌<◌, Bool, false, eqb, List, set, inl, inr, refl, sym, ap, ◌∙◌, subst, arith}
use Rattle.std.specs.Prelude.{not}
use Rattle.std.proofs.lemmas.Bool.{cases_eq, eq-eqb, true≢false, not-true}
use Rattle.trace.specs.Events.{Words, with_word}
use Rattle.trace.proofs.Replaced.{replaced_same, replaced_other}
use Rattle.segment_head.specs.HeadWord.{version_in, state_in, depth_in, pattern_in, free, splitting, HasLiveState}
use Rattle.image_layout.specs.Places.{first_segment, words_of, bucket_at}
use Rattle.sound_image.specs.Segments.{Frame, frame_of, state_at, depth_at, pattern_at}
use Rattle.frame_facts.proofs.Moved.{live_same}
use Rattle.world.specs.Ground.{Ground, version_of, IsCurrentIn}
use Rattle.world.specs.Views.{View, Has, At, HasLock}
use Rattle.world.specs.areas.Areas.{Area, Segment, Stale, Side, Free, Whole, Allocation, Directory, header_word, is_side_at, is_stale_at, all_but}
use Rattle.world.specs.areas.Fitting.{HoldsWord, IsGuardedSide, LivesOn, MayStayDead, IsLivingLock, HoldsAll, Fits, HasGrounds}
use Rattle.world.specs.areas.Rows.{Row, marks, news, goes_live, finishes, unmarks, frees, renews, IsRow, HasForRow, areas_by, HasStored, OthersFit, RowsKeepFits}
use Rattle.world.proofs.basics.Lists.{set_here}
use Rattle.world.proofs.basics.Seats.{each, carry}
use Rattle.world.proofs.holding.Beside.{newest}
use Rattle.world.proofs.fitting.Filtered.{filtered_has, has_filtered}
use Rattle.world.proofs.fitting.OneHolder.{head_in_slot}
use Rattle.world.proofs.fitting.Stored.{may_stays, lives_by}
use Rattle.world.proofs.fitting.Others.{spare_others}

-- ---- what is in the lists
-- an area that a list without some had before
pub but_before : (test : Area → Bool) (l : List Area) (a : Area) → Has a (all_but test l) → Has a l × (test a ≡ false)
but_before test l a h = let q = filtered_has (λ b. not (test b)) l a h in (q.0, not-true (test a) q.1)

pub but_after : (test : Area → Bool) (l : List Area) (a : Area) → Has a l → test a ≡ false → Has a (all_but test l)
but_after test l a h is = has_filtered (λ b. not (test b)) l a h (ap not is)

no_self : (n : ℕ) → eqb n n ≡ false → ⊥
no_self n e = true≢false (sym (eq-eqb n n refl) ∙ e)

-- the areas after a row: what is neither a side nor a free slot there was before
pub row_before : (row : Row) (s : ℕ) (a : Area) (l : List Area) → is_side_at s a ≡ false → Has a (areas_by row s l) → Has a l
row_before (marks n) s a l k h = h
row_before (news p) s a l k h = elim h [ inl e ↦ absurd (no_self s (ap (is_side_at s) (sym e) ∙ k)) | inr r ↦ (but_before (is_side_at s) l a r).0 ]
row_before (goes_live p) s a l k h = h
row_before finishes s a l k h = h
row_before unmarks s a l k h = h
row_before (frees p) s a l k h = elim h [ inl e ↦ absurd (no_self s (ap (is_side_at s) (sym e) ∙ k)) | inr r ↦ (but_before (is_side_at s) l a r).0 ]
row_before renews s a l k h = (but_before (is_stale_at s) l a h).0

-- and what is none of the slot's stays
pub row_after : (row : Row) (s : ℕ) (a : Area) (l : List Area) → is_side_at s a ≡ false → is_stale_at s a ≡ false → Has a l → Has a (areas_by row s l)
row_after (marks n) s a l k q h = h
row_after (news p) s a l k q h = inr (but_after (is_side_at s) l a h k)
row_after (goes_live p) s a l k q h = h
row_after finishes s a l k q h = h
row_after unmarks s a l k q h = h
row_after (frees p) s a l k q h = inr (but_after (is_side_at s) l a h k)
row_after renews s a l k q h = but_after (is_stale_at s) l a h q

-- ---- what a row says of its header
pub one_head : (site : Ground) (s t : ℕ) → header_word site.shape s ≡ header_word site.shape t → s ≡ t
one_head site s t e = by (first_segment site.shape) s t e
  where
    by : (f s t : ℕ) → f + 2144 * s + 1 ≡ f + 2144 * t + 1 → s ≡ t
    by f s t e = omega (arith, e)

pub head_near : (site : Ground) (s : ℕ) → s < site.shape.segments → header_word site.shape s < words_of site.shape
head_near site s slot = by (first_segment site.shape) s site.shape.segments slot
  where
    by : (f s n : ℕ) → s < n → f + 2144 * s + 1 < f + 2144 * n
    by f s n l = omega (arith, l)

module _ (site : Ground) (words : Words) (s x : ℕ) where
  abbrev now : Frame
  now = frame_of site.shape words

  pub row_slot : (row : Row) → IsRow site words row s x → s < site.shape.segments
  row_slot (marks n) q = q.0.slot
  row_slot (news p) q = q.0.slot
  row_slot (goes_live p) q = q.0.side_slot
  row_slot finishes q = q.0.slot
  row_slot unmarks q = q.0.slot
  row_slot (frees p) q = q.0.slot
  row_slot renews q = q.0.slot

  dead_free : state_at now s ≡ free → HasLiveState (now.header s) → ⊥
  dead_free e l = elim l [ inl a ↦ omega (arith, a, e) | inr a ↦ omega (arith, a, e) ]

  dead_new : state_at now s ≡ 3 → HasLiveState (now.header s) → ⊥
  dead_new e l = elim l [ inl a ↦ omega (arith, a, e) | inr a ↦ omega (arith, a, e) ]

  -- what is live stays live, and current where it is
  pub row_live : (row : Row) → IsRow site words row s x → HasLiveState (now.header s) → HasLiveState x
  row_live (marks n) q l = inr q.0.becomes
  row_live (news p) q l = absurd (dead_free q.0.was l)
  row_live (goes_live p) q l = inl q.0.becomes
  row_live finishes q l = inl q.0.becomes
  row_live unmarks q l = inl q.0.becomes
  row_live (frees p) q l = absurd (dead_new q.0.was l)
  row_live renews q l = inl (q.0.becomes ∙ q.1)

  pub row_version : (row : Row) → IsRow site words row s x → HasLiveState (now.header s) → version_in (now.header s) ≡ version_of site → version_in x ≡ version_of site
  row_version (marks n) q l e = q.2 ∙ e
  row_version (news p) q l e = q.2
  row_version (goes_live p) q l e = q.1
  row_version finishes q l e = q.1 ∙ e
  row_version unmarks q l e = q.1 ∙ e
  row_version (frees p) q l e = absurd (dead_new q.0.was l)
  row_version renews q l e = q.2

  -- a segment that is not of the image's version gets it by one row alone
  pub row_stale : (row : Row) (areas : List Area) → IsRow site words row s x → HasLiveState (now.header s) → version_in (now.header s) ≢ version_of site
      → Has (Stale s) (areas_by row s areas) → version_in x ≢ version_of site
  row_stale (marks n) areas q l e h = λ z. e (sym q.2 ∙ z)
  row_stale (news p) areas q l e h = absurd (dead_free q.0.was l)
  row_stale (goes_live p) areas q l e h = absurd (dead_new q.0.was l)
  row_stale finishes areas q l e h = λ z. e (sym q.1 ∙ z)
  row_stale unmarks areas q l e h = λ z. e (sym q.1 ∙ z)
  row_stale (frees p) areas q l e h = absurd (dead_new q.0.was l)
  row_stale renews areas q l e h = absurd (no_self s (but_before (is_stale_at s) areas (Stale s) h).1)

  -- no row but the first leaves the segment splitting
  pub row_splitting : (row : Row) (areas : List Area) → IsRow site words row s x → HasForRow site words row s areas → state_in x ≡ splitting → Has (Whole s) areas
  row_splitting (marks n) areas q has e = has.0
  row_splitting (news p) areas q has e = absurd (omega (arith, q.0.becomes, e))
  row_splitting (goes_live p) areas q has e = absurd (omega (arith, q.0.becomes, e))
  row_splitting finishes areas q has e = absurd (omega (arith, q.0.becomes, e))
  row_splitting unmarks areas q has e = absurd (omega (arith, q.0.becomes, e))
  row_splitting (frees p) areas q has e = absurd (omega (arith, q.0.becomes, e))
  row_splitting renews areas q has e = absurd (omega (arith, q.0.becomes, q.1, e))

module _ (site : Ground) (words : Words) (views : List View) (j : ℕ) (v w : View) (row : Row) (s x : ℕ) (g : HasGrounds site words views) (f : Fits site words views)
    (at : At views j v) (is : IsRow site words row s x) (has : HasForRow site words row s v.areas)
    (st : HasStored site.shape (header_word site.shape s) (words (header_word site.shape s)) x (areas_by row s v.areas) v w) where
  abbrev i : ℕ
  i = header_word site.shape s

  abbrev us : Words
  us = with_word words i x

  abbrev old : Frame
  old = frame_of site.shape words

  abbrev later : Frame
  later = frame_of site.shape us

  slot : s < site.shape.segments
  slot = row_slot site words s x row is

  near : i < words_of site.shape
  near = head_near site s slot

  guards : (t : ℕ) → Has (Segment t) v.areas → HoldsWord site.shape v (header_word site.shape t)
  guards t h = inr (Segment t, h, inl refl)

  holds_by : (r : Row) → HasForRow site words r s v.areas → HoldsWord site.shape v i
  holds_by (marks n) h = guards s (f.whole j v s at h.0).0
  holds_by (news p) h = inr (Free s, h.0, head_in_slot site.shape s)
  holds_by (goes_live p) h = inr (Side s, h.0, head_in_slot site.shape s)
  holds_by finishes h = guards s h.0
  holds_by unmarks h = inr (Stale s, h.0, head_in_slot site.shape s)
  holds_by (frees p) h = inr (Side s, h.0, head_in_slot site.shape s)
  holds_by renews h = inr (Stale s, h, head_in_slot site.shape s)

  -- ---- headers
  new_head : us i ≡ x
  new_head = replaced_same words i x

  old_head_in : (m : Words) (t : ℕ) → t ≢ s → with_word m i x (header_word site.shape t) ≡ m (header_word site.shape t)
  old_head_in m t n = replaced_other m i x (header_word site.shape t) (λ e. n (one_head site t s e))

  old_head : (t : ℕ) → t ≢ s → us (header_word site.shape t) ≡ words (header_word site.shape t)
  old_head t n = old_head_in words t n

  at_head : (P : ℕ → Type 0) (t : ℕ) → t ≡ s → P x → P (us (header_word site.shape t))
  at_head P t e p = subst (λ z. P (us (header_word site.shape z))) (sym e) (subst P (sym new_head) p)

  from_head : (P : ℕ → Type 0) (t : ℕ) → t ≡ s → P (us (header_word site.shape t)) → P x
  from_head P t e p = subst P new_head (subst (λ z. P (us (header_word site.shape z))) e p)

  pub lives : (t : ℕ) → LivesOn site words views t → LivesOn site us (set views j w) t
  lives t l = lives_by site words views j v w i x (areas_by row s v.areas) at st near t
      (λ q p live. elim (cases_eq t s) [
        | inl e ↦ record {
          slot = live.slot;
          live = subst (λ z. HasLiveState (with_word q i x (header_word site.shape z))) (sym e) (subst HasLiveState (sym (replaced_same q i x))
              (row_live site words s x row is (subst (λ z. HasLiveState (words (header_word site.shape z))) e (l words (newest site words views)).live)));
        }
        | inr n ↦ record { slot = live.slot; live = live_same (frame_of site.shape q) (frame_of site.shape (with_word q i x)) t (old_head_in q t n) live.live }
      ]) l

  current : (t : ℕ) → IsCurrentIn site words t → IsCurrentIn site us t
  current t c = elim (cases_eq t s) [
    | inl e ↦
        let l = subst (λ z. HasLiveState (words (header_word site.shape z))) e c.live.live in
        let ver = subst (λ z. version_in (words (header_word site.shape z)) ≡ version_of site) e c.current in
        record {
          live = record { slot = c.live.slot; live = at_head HasLiveState t e (row_live site words s x row is l) };
          current = at_head (λ z. version_in z ≡ version_of site) t e (row_version site words s x row is l ver);
        }
    | inr n ↦ record {
      live = record { slot = c.live.slot; live = live_same old later t (old_head t n) c.live.live };
      current = ap version_in (old_head t n) ∙ c.current;
    }
  ]

  others : OthersFit site us (set views j w) j
  others = spare_others site words views j v w i x g f at (holds_by row has) (record { held = st.held; dirty = st.dirty; flushed = st.flushed; areas_are = refl }) current lives

  -- ---- the stepper's areas
  mine_before : (a : Area) → is_side_at s a ≡ false → Has a w.areas → Has a v.areas
  mine_before a k h = row_before row s a v.areas k (subst (Has a) st.areas_are h)

  mine_after : (a : Area) → is_side_at s a ≡ false → is_stale_at s a ≡ false → Has a v.areas → Has a w.areas
  mine_after a k q h = subst (Has a) (sym st.areas_are) (row_after row s a v.areas k q h)

  living : (lock : ℕ) → IsLivingLock site words views lock → IsLivingLock site us (set views j w) lock
  living lock q = record { segment = q.segment; bucket = q.bucket; near = q.near; is = q.is; current = current q.segment q.current; lives = lives q.segment q.lives }

  stale : (t : ℕ) → Has (Stale t) w.areas → Has (Segment t) w.areas × (version_in (us (header_word site.shape t)) ≢ version_of site)
  stale t h =
      let q = f.stale j v t at (mine_before (Stale t) refl h) in
      let l = (f.segment j v t at q.0 words (newest site words views)).live in (
        mine_after (Segment t) refl refl q.0,
        elim (cases_eq t s) [
          | inl e ↦ at_head (λ z. version_in z ≢ version_of site) t e (row_stale site words s x row v.areas is
              (subst (λ z. HasLiveState (words (header_word site.shape z))) e l) (subst (λ z. version_in (words (header_word site.shape z)) ≢ version_of site) e q.1)
              (subst (λ z. Has (Stale z) (areas_by row s v.areas)) e (subst (Has (Stale t)) st.areas_are h)))
          | inr n ↦ subst (λ z. version_in z ≢ version_of site) (sym (old_head t n)) q.1
        ],
      )

  -- a side that the stepper had goes on, where its parent is another slot's
  abbrev IsMySide : ℕ → Type 0
  IsMySide n = IsGuardedSide later w.areas n × MayStayDead site us (set views j w) n

  made : (n p : ℕ) → n < site.shape.segments → p < site.shape.segments → p ≢ s → Has (Segment p) v.areas → state_at old p ≡ splitting → state_at later n ≢ free
      → depth_at later n ≡ depth_at old p + 1 → pattern_at later n ≡ 2 * pattern_at old p + 1 → IsGuardedSide later w.areas n
  made n p sn sp other guard splits taken depth pattern = record {
    slot = sn;
    taken = taken;
    parent = p;
    parent_slot = sp;
    guarded = mine_after (Segment p) refl refl guard;
    splits = ap state_in (old_head p other) ∙ splits;
    depth = depth ∙ ap (λ z. depth_in z + 1) (sym (old_head p other));
    pattern = pattern ∙ ap (λ z. 2 * pattern_in z + 1) (sym (old_head p other));
  }

  apart : (p : ℕ) → state_at old p ≡ splitting → (state_at old s ≡ splitting → ⊥) → p ≢ s
  apart p splits not_two e = not_two (subst (λ z. state_at old z ≡ splitting) e splits)

  dead_stays : (n : ℕ) → MayStayDead site words views n → MayStayDead site us (set views j w) n
  dead_stays n q = record { old = q.old; may = may_stays site words views j v w i x (areas_by row s v.areas) at st (header_word site.shape n) q.old q.may; dead = q.dead }

  side_stays : (n : ℕ) → n ≢ s → Has (Side n) v.areas → (state_at old s ≡ splitting → ⊥) → IsMySide n
  side_stays n k h not_two =
      let q = f.side j v n at h in let a = q.0 in (
        made n a.parent a.slot a.parent_slot (apart a.parent a.splits not_two) a.guarded a.splits (λ e. a.taken (sym (ap state_in (old_head n k)) ∙ e))
            (ap depth_in (old_head n k) ∙ a.depth) (ap pattern_in (old_head n k) ∙ a.pattern),
        dead_stays n q.1,
      )

  -- and so does the slot itself, where it covers the same hashes
  same_side : (n : ℕ) → Has (Side n) v.areas → (state_at old s ≡ splitting → ⊥) → depth_in x ≡ depth_at old s → pattern_in x ≡ pattern_at old s → state_in x ≢ free → IsMySide n
  same_side n h not_two depth pattern taken = elim (cases_eq n s) [
    | inr k ↦ side_stays n k h not_two
    | inl e ↦
        let q = f.side j v n at h in let a = q.0 in (
          made n a.parent a.slot a.parent_slot (apart a.parent a.splits not_two) a.guarded a.splits (at_head (λ z. state_in z ≢ free) n e taken)
              (at_head (λ z. depth_in z ≡ depth_at old a.parent + 1) n e (depth ∙ ap (depth_at old) (sym e) ∙ a.depth))
              (at_head (λ z. pattern_in z ≡ 2 * pattern_at old a.parent + 1) n e (pattern ∙ ap (pattern_at old) (sym e) ∙ a.pattern)),
          dead_stays n q.1,
        )
  ]

  of_side : (a b : ℕ) → Side a ≡ Side b → a ≡ b
  of_side a b e = cc

  of_free : (a b : ℕ) → Free a ≡ Free b → a ≡ b
  of_free a b e = cc

  no_side : (n : ℕ) (l : List Area) → Has (Side n) (all_but (is_side_at s) l) → Has (Side n) l × (n ≢ s)
  no_side n l h = let q = but_before (is_side_at s) l (Side n) h in (q.0, λ e. no_self s (subst (λ z. eqb z s ≡ false) e q.1))

  no_free : (n : ℕ) (l : List Area) → Has (Free n) (all_but (is_side_at s) l) → Has (Free n) l × (n ≢ s)
  no_free n l h = let q = but_before (is_side_at s) l (Free n) h in (q.0, λ e. no_self s (subst (λ z. eqb z s ≡ false) e q.1))

  my_sides : (r : Row) → IsRow site words r s x → HasForRow site words r s v.areas → (n : ℕ) → Has (Side n) (areas_by r s v.areas) → IsMySide n
  my_sides (marks m) q have n h = same_side n h (λ e. omega (arith, q.0.was, e)) q.0.region.depth q.0.region.pattern (λ e. omega (arith, q.0.becomes, e))
  my_sides (news p) q have n h = elim h [
    | inl z ↦
        let same = of_side n s z in let a = q.1 in (
          made n p (subst (λ k. k < site.shape.segments) (sym same) slot) a.slot (apart p a.splits (λ e. omega (arith, q.0.was, e))) (f.whole j v p at have.1).0 a.splits
              (at_head (λ k. state_in k ≢ free) n same (λ e. omega (arith, q.0.becomes, e)))
              (at_head (λ k. depth_in k ≡ depth_at old p + 1) n same a.depth) (at_head (λ k. pattern_in k ≡ 2 * pattern_at old p + 1) n same a.pattern),
          subst (λ k. MayStayDead site us (set views j w) k) (sym same) (record {
            old = words i;
            may = may_stays site words views j v w i x (areas_by row s v.areas) at st i (words i) (inl refl);
            dead = dead_free site words s x q.0.was;
          }),
        )
    | inr z ↦ (let l = no_side n v.areas z in side_stays n l.1 l.0 (λ e. omega (arith, q.0.was, e)))
  ]
  my_sides (goes_live p) q have n h = elim (cases_eq n s) [
    | inr k ↦ side_stays n k h (λ e. omega (arith, q.0.was, e))
    | inl same ↦ (
      made n p (subst (λ k. k < site.shape.segments) (sym same) slot) q.0.slot (apart p q.0.splits (λ e. omega (arith, q.0.was, e))) (f.whole j v p at have.1).0 q.0.splits
          (at_head (λ k. state_in k ≢ free) n same (λ e. omega (arith, q.0.becomes, e)))
          (at_head (λ k. depth_in k ≡ depth_at old p + 1) n same q.0.depth) (at_head (λ k. pattern_in k ≡ 2 * pattern_at old p + 1) n same q.0.pattern),
      dead_stays n (f.side j v n at h).1,
    )
  ]
  my_sides finishes q have n h = absurd (have.2 n h)
  my_sides unmarks q have n h = absurd (have.1 n h)
  my_sides (frees p) q have n h = elim h [
    | inl z ↦ absurd (let k : Side n ≡ Free s = z in cc)
    | inr z ↦ (let l = no_side n v.areas z in side_stays n l.1 l.0 (λ e. omega (arith, q.0.was, e)))
  ]
  my_sides renews q have n h = same_side n (but_before (is_stale_at s) v.areas (Side n) h).0 (λ e. omega (arith, q.1, e)) q.0.region.depth q.0.region.pattern
      (λ e. omega (arith, q.0.becomes, q.1, e))

  -- free slots
  abbrev IsMyFree : ℕ → Type 0
  IsMyFree n = Has Allocation w.areas × (n < site.shape.segments) × (state_at later n ≡ free)

  free_stays : (n : ℕ) → Has (Free n) v.areas → n ≢ s → IsMyFree n
  free_stays n h k = let q = f.free_slot j v n at h in (mine_after Allocation refl refl q.0, q.1, ap state_in (old_head n k) ∙ q.2)

  -- a slot of another state is not a free one
  not_free : (n : ℕ) → Has (Free n) v.areas → (state_at old s ≡ free → ⊥) → n ≢ s
  not_free n h k e = k (subst (λ z. state_at old z ≡ free) e (f.free_slot j v n at h).2)

  my_free : (r : Row) → IsRow site words r s x → HasForRow site words r s v.areas → (n : ℕ) → Has (Free n) (areas_by r s v.areas) → IsMyFree n
  my_free (marks m) q have n h = free_stays n h (not_free n h (λ e. omega (arith, q.0.was, e)))
  my_free (news p) q have n h = elim h [
    | inl z ↦ absurd (let k : Free n ≡ Side s = z in cc)
    | inr z ↦ (let l = no_free n v.areas z in free_stays n l.0 l.1)
  ]
  my_free (goes_live p) q have n h = free_stays n h (not_free n h (λ e. omega (arith, q.0.was, e)))
  my_free finishes q have n h = free_stays n h (not_free n h (λ e. omega (arith, q.0.was, e)))
  my_free unmarks q have n h = free_stays n h (not_free n h (λ e. omega (arith, q.0.was, e)))
  my_free (frees p) q have n h = elim h [
    | inl z ↦ (let same = of_free n s z in
        (mine_after Allocation refl refl have.1, subst (λ k. k < site.shape.segments) (sym same) slot, at_head (λ k. state_in k ≡ free) n same q.0.becomes))
    | inr z ↦ (let l = no_free n v.areas z in free_stays n l.0 l.1)
  ]
  my_free renews q have n h = let l = (but_before (is_stale_at s) v.areas (Free n) h).0 in free_stays n l (not_free n l (λ e. omega (arith, q.1, e)))

  -- ---- all views
  before : (c : ℕ) (u : View) → At (set views j w) c u → (u0 : View) × At views c u0 × ((a : Area) → is_side_at s a ≡ false → Has a u.areas → Has a u0.areas)
  before c u a = each views j v w at (λ c u. (u0 : View) × At views c u0 × ((a : Area) → is_side_at s a ≡ false → Has a u.areas → Has a u0.areas))
      (v, at, mine_before) (λ c u n a. (u, a, λ _ _ h. h)) c u a

  fits : Fits site us (set views j w)
  fits = record {
    lock = λ c u lock a. each views j v w at (λ c u. HasLock u.held lock → IsLivingLock site us (set views j w) lock)
        (λ h. living lock (f.lock j v lock at (subst (λ l. HasLock l lock) st.held h))) (λ c u n a h. living lock (f.lock c u lock a h)) c u a;
    segment = λ c u t a h. let q = before c u a in lives t (f.segment c q.0 t q.1 (q.2 (Segment t) refl h));
    stale = λ c u t a. elim (cases_eq c j) [
      | inl e ↦ each views j v w at (λ c u. c ≡ j → Has (Stale t) u.areas → Has (Segment t) u.areas × (version_in (us (header_word site.shape t)) ≢ version_of site))
          (λ _ h. stale t h) (λ c u n _ e. absurd (n e)) c u a e
      | inr n ↦ others.stale c u t n a
    ];
    side = λ c u n a. elim (cases_eq c j) [
      | inl e ↦ each views j v w at (λ c u. c ≡ j → Has (Side n) u.areas → IsGuardedSide later u.areas n × MayStayDead site us (set views j w) n)
          (λ _ h. my_sides row is has n (subst (Has (Side n)) st.areas_are h)) (λ c u k _ e. absurd (k e)) c u a e
      | inr k ↦ others.side c u n k a
    ];
    free_slot = λ c u n a. elim (cases_eq c j) [
      | inl e ↦ each views j v w at (λ c u. c ≡ j → Has (Free n) u.areas → Has Allocation u.areas × (n < site.shape.segments) × (state_at later n ≡ free))
          (λ _ h. my_free row is has n (subst (Has (Free n)) st.areas_are h)) (λ c u k _ e. absurd (k e)) c u a e
      | inr k ↦ others.free_slot c u n k a
    ];
    whole = λ c u t a. each views j v w at (λ c u. Has (Whole t) u.areas → Has (Segment t) u.areas × HoldsAll site.shape u t)
        (λ h. let q = f.whole j v t at (mine_before (Whole t) refl h) in (mine_after (Segment t) refl refl q.0, λ b lb. subst (λ l. HasLock l (bucket_at site.shape t b)) (sym st.held) (q.1 b lb)))
        (λ c u n a h. f.whole c u t a h) c u a;
    splits = λ t c split. elim (cases_eq t s) [
      | inl e ↦ (
        j,
        w,
        set_at,
        mine_after (Whole t) refl refl (subst (λ z. Has (Whole z) v.areas) (sym e) (row_splitting site words s x row v.areas is has (from_head (λ z. state_in z ≡ splitting) t e split))),
      )
      | inr n ↦
          let was = f.splits t (record { live = record { slot = c.live.slot; live = live_same later old t (sym (old_head t n)) c.live.live }; current = ap version_in (sym (old_head t n)) ∙ c.current })
          (ap state_in (sym (old_head t n)) ∙ split) in
          let k = carry views j v w at (λ c u. Has (Whole t) u.areas) (mine_after (Whole t) refl refl) was.0 was.1 was.2 was.3 in (was.0, k.0, k.1, k.2)
    ];
    one_segment = λ a b u y t eu ey h k. let p = before a u eu in let q = before b y ey in f.one_segment a b p.0 q.0 t p.1 q.1 (p.2 (Segment t) refl h) (q.2 (Segment t) refl k);
    one_allocation = λ a b u y eu ey h k. let p = before a u eu in let q = before b y ey in f.one_allocation a b p.0 q.0 p.1 q.1 (p.2 Allocation refl h) (q.2 Allocation refl k);
    one_directory = λ a b u y eu ey h k. let p = before a u eu in let q = before b y ey in f.one_directory a b p.0 q.0 p.1 q.1 (p.2 Directory refl h) (q.2 Directory refl k);
  }
    where
      set_at : At (set views j w) j w
      set_at = set_here views j v w at

pub rows_keep : RowsKeepFits
rows_keep site words views j v w row s x g f at is has st = fits site words views j v w row s x g f at is has st
