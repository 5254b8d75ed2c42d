-- A step that leaves all headers keeps the locks and areas of all views fitting, where it does so of the stepping view.
use Rattle.std.proofs.Common.{◌≡◌, ◌≢◌, ◌⊎◌, ℕ, ◌+◌, ◌*◌, ◌<◌, List, set, inl, inr, sym, ap, ◌∙◌, subst}
use Rattle.trace.specs.Events.{Words}
use Rattle.segment_head.specs.HeadWord.{version_in, state_in, depth_in, pattern_in, free, splitting}
use Rattle.sound_image.specs.Segments.{frame_of, state_at}
use Rattle.frame_facts.proofs.Moved.{live_same}
use Rattle.world.specs.Ground.{Ground, version_of, IsCurrentIn}
use Rattle.world.specs.Views.{View, Has, At, HasLock}
use Rattle.world.specs.areas.Areas.{Area, Segment, Stale, Side, Free, Whole, Allocation, Directory, header_word}
use Rattle.world.specs.areas.Fitting.{IsGuardedSide, LivesOn, MayStayDead, IsLivingLock, HoldsAll, Fits}
use Rattle.world.proofs.basics.Lists.{at_set}
use Rattle.world.proofs.basics.Seats.{each, carry}
use Rattle.world.proofs.holding.Beside.{newest}

module _ (site : Ground) (words later : Words) (views : List View) (j : ℕ) (v w : View) where
  -- an area is the stepper's from before, or nobody's
  abbrev pub IsFresh : Area → Type 0
  IsFresh a = Has a v.areas ⊎ ((c : ℕ) (u : View) → At views c u → Has a u.areas → ⊥)

  -- WHAT IS SAID of the stepping view after the step
  pub record StepperFits : Type 0 where
    pub lock : (lock : ℕ) → HasLock w.held lock → IsLivingLock site later (set views j w) lock
    pub segment : (s : ℕ) → Has (Segment s) w.areas → LivesOn site later (set views j w) s × IsFresh (Segment s)
    pub stale : (s : ℕ) → Has (Stale s) w.areas → Has (Segment s) w.areas × (version_in (later (header_word site.shape s)) ≢ version_of site)
    pub side : (n : ℕ) → Has (Side n) w.areas → IsGuardedSide (frame_of site.shape later) w.areas n × MayStayDead site later (set views j w) n
    pub free_slot : (n : ℕ) → Has (Free n) w.areas → Has Allocation w.areas × (n < site.shape.segments) × (state_at (frame_of site.shape later) n ≡ free)
    pub whole : (s : ℕ) → Has (Whole s) w.areas → Has (Segment s) w.areas × HoldsAll site.shape w s
    pub splits : (s : ℕ) → IsCurrentIn site words s → state_at (frame_of site.shape words) s ≡ splitting → Has (Whole s) v.areas → Has (Whole s) w.areas
    pub allocation : Has Allocation w.areas → IsFresh Allocation
    pub directory : Has Directory w.areas → IsFresh Directory

module _ (site : Ground) (words later : Words) (views : List View) (j : ℕ) (v w : View) (f : Fits site words views) (at : At views j v)
    (heads : (s : ℕ) → s < site.shape.segments → later (header_word site.shape s) ≡ words (header_word site.shape s))
    (lives : (s : ℕ) → LivesOn site words views s → LivesOn site later (set views j w) s) where
  pub current : (s : ℕ) → IsCurrentIn site words s → IsCurrentIn site later s
  current s c = record {
    live = record { slot = c.live.slot; live = live_same (frame_of site.shape words) (frame_of site.shape later) s (heads s c.live.slot) c.live.live };
    current = ap version_in (heads s c.live.slot) ∙ c.current;
  }

  pub was_current : (s : ℕ) → IsCurrentIn site later s → IsCurrentIn site words s
  was_current s c = record {
    live = record { slot = c.live.slot; live = live_same (frame_of site.shape later) (frame_of site.shape words) s (sym (heads s c.live.slot)) c.live.live };
    current = ap version_in (sym (heads s c.live.slot)) ∙ c.current;
  }

  pub living : (lock : ℕ) → IsLivingLock site words views lock → IsLivingLock site later (set views j w) lock
  living lock q = record { segment = q.segment; bucket = q.bucket; near = q.near; is = q.is; current = current q.segment q.current; lives = lives q.segment q.lives }

  pub same_stale : (s : ℕ) → LivesOn site words views s → version_in (words (header_word site.shape s)) ≢ version_of site
      → version_in (later (header_word site.shape s)) ≢ version_of site
  same_stale s l n = subst (λ z. version_in z ≢ version_of site) (sym (heads s (l words (newest site words views)).slot)) n

  pub same_side : (areas areas' : List Area) (n : ℕ) → ((p : ℕ) → Has (Segment p) areas → Has (Segment p) areas') → IsGuardedSide (frame_of site.shape words) areas n
      → IsGuardedSide (frame_of site.shape later) areas' n
  same_side areas areas' n keeps a = record {
    slot = a.slot;
    taken = λ e. a.taken (sym (ap state_in (heads n a.slot)) ∙ e);
    parent = a.parent;
    parent_slot = a.parent_slot;
    guarded = keeps a.parent a.guarded;
    splits = ap state_in (heads a.parent a.parent_slot) ∙ a.splits;
    depth = ap depth_in (heads n a.slot) ∙ a.depth ∙ ap (λ z. depth_in z + 1) (sym (heads a.parent a.parent_slot));
    pattern = ap pattern_in (heads n a.slot) ∙ a.pattern ∙ ap (λ z. 2 * pattern_in z + 1) (sym (heads a.parent a.parent_slot));
  }

  module _ (dead : (c : ℕ) (u : View) (n : ℕ) → c ≢ j → At views c u → Has (Side n) u.areas → MayStayDead site words views n → MayStayDead site later (set views j w) n)
      (own : StepperFits site words later views j v w) where
    -- the holders of one guard, before and after
    one_guard : (guard : Area) → ((i k : ℕ) (u y : View) → At views i u → At views k y → Has guard u.areas → Has guard y.areas → i ≡ k) → (Has guard w.areas → IsFresh site words later views j v w guard)
        → (i k : ℕ) (u y : View) → At (set views j w) i u → At (set views j w) k y → Has guard u.areas → Has guard y.areas → i ≡ k
    one_guard guard one fresh i k u y ai ak hu hy = elim (at_set views j i w u ai) [
      | inl a ↦ elim (at_set views j k w y ak) [
        | inl b ↦ a.0 ∙ sym b.0
        | inr b ↦ elim (fresh (subst (λ (z : View). Has guard z.areas) (sym a.1) hu)) [
          | inl old ↦ a.0 ∙ one j k v y at b.1 old hy
          | inr none ↦ absurd (none k y b.1 hy)
        ]
      ]
      | inr a ↦ elim (at_set views j k w y ak) [
        | inl b ↦ elim (fresh (subst (λ (z : View). Has guard z.areas) (sym b.1) hy)) [
          | inl old ↦ one i j u v a.1 at hu old ∙ sym b.0
          | inr none ↦ absurd (none i u a.1 hu)
        ]
        | inr b ↦ one i k u y a.1 b.1 hu hy
      ]
    ]

    pub fits_by : Fits site later (set views j w)
    fits_by = record {
      lock = λ c u lock a. each views j v w at (λ c u. HasLock u.held lock → IsLivingLock site later (set views j w) lock) (own.lock lock)
          (λ c u n a h. living lock (f.lock c u lock a h)) c u a;
      segment = λ c u s a. each views j v w at (λ c u. Has (Segment s) u.areas → LivesOn site later (set views j w) s) (λ h. (own.segment s h).0)
          (λ c u n a h. lives s (f.segment c u s a h)) c u a;
      stale = λ c u s a. each views j v w at (λ c u. Has (Stale s) u.areas → Has (Segment s) u.areas × (version_in (later (header_word site.shape s)) ≢ version_of site)) (own.stale s)
          (λ c u n a h. let q = f.stale c u s a h in (q.0, same_stale s (f.segment c u s a q.0) q.1)) c u a;
      side = λ c u n a. each views j v w at (λ c u. Has (Side n) u.areas → IsGuardedSide (frame_of site.shape later) u.areas n × MayStayDead site later (set views j w) n) (own.side n)
          (λ c u k a h. let q = f.side c u n a h in (same_side u.areas u.areas n (λ p g. g) q.0, dead c u n k a h q.1)) c u a;
      free_slot = λ c u n a. each views j v w at (λ c u. Has (Free n) u.areas → Has Allocation u.areas × (n < site.shape.segments) × (state_at (frame_of site.shape later) n ≡ free))
          (own.free_slot n) (λ c u k a h. let q = f.free_slot c u n a h in (q.0, q.1, ap state_in (heads n q.1) ∙ q.2)) c u a;
      whole = λ c u s a. each views j v w at (λ c u. Has (Whole s) u.areas → Has (Segment s) u.areas × HoldsAll site.shape u s) (own.whole s)
          (λ c u n a h. f.whole c u s a h) c u a;
      splits = λ s c split.
          let c0 = was_current s c in
          let split0 = ap state_in (sym (heads s c.live.slot)) ∙ split in
          let was = f.splits s c0 split0 in
          let k = carry views j v w at (λ c u. Has (Whole s) u.areas) (own.splits s c0 split0) was.0 was.1 was.2 was.3 in (was.0, k.0, k.1, k.2);
      one_segment = λ i k u y s. one_guard (Segment s) (λ i k u y. f.one_segment i k u y s) (λ h. (own.segment s h).1) i k u y;
      one_allocation = one_guard Allocation f.one_allocation own.allocation;
      one_directory = one_guard Directory f.one_directory own.directory;
    }

-- THE AREAS ARE SOME OF THOSE FROM BEFORE, with the guards that they hang on
pub record AreSome (site : Ground) (views : List View) (v w : View) : Type 0 where
  pub before : (a : Area) → Has a w.areas → Has a v.areas
  pub segments : (s : ℕ) → Has (Segment s) v.areas → Has (Segment s) w.areas
  pub allocation : Has Allocation v.areas → Has Allocation w.areas
  pub wholes : (s : ℕ) → Has (Whole s) v.areas → Has (Whole s) w.areas
  pub held : (s : ℕ) → Has (Whole s) v.areas → HoldsAll site.shape v s → HoldsAll site.shape w s

module _ (site : Ground) (words later : Words) (views : List View) (j : ℕ) (v w : View) (f : Fits site words views) (at : At views j v)
    (heads : (s : ℕ) → s < site.shape.segments → later (header_word site.shape s) ≡ words (header_word site.shape s))
    (lives : (s : ℕ) → LivesOn site words views s → LivesOn site later (set views j w) s) (some : AreSome site views v w)
    (locks : (lock : ℕ) → HasLock w.held lock → IsLivingLock site words views lock)
    (dead : (c : ℕ) (u : View) (n : ℕ) → c ≢ j → At views c u → Has (Side n) u.areas → MayStayDead site words views n → MayStayDead site later (set views j w) n)
    (mine : (n : ℕ) → Has (Side n) w.areas → MayStayDead site words views n → MayStayDead site later (set views j w) n) where
  own : StepperFits site words later views j v w
  own = record {
    lock = λ lock h. living site words later views j v w f at heads lives lock (locks lock h);
    segment = λ s h. let b = some.before (Segment s) h in (lives s (f.segment j v s at b), inl b);
    stale = λ s h. let q = f.stale j v s at (some.before (Stale s) h) in
        (some.segments s q.0, same_stale site words later views j v w f at heads lives s (f.segment j v s at q.0) q.1);
    side = λ n h. let q = f.side j v n at (some.before (Side n) h) in
        (same_side site words later views j v w f at heads lives v.areas w.areas n some.segments q.0, mine n h q.1);
    free_slot = λ n h. let q = f.free_slot j v n at (some.before (Free n) h) in (some.allocation q.0, q.1, ap state_in (heads n q.1) ∙ q.2);
    whole = λ s h. let b = some.before (Whole s) h in let q = f.whole j v s at b in (some.segments s q.0, some.held s b q.1);
    splits = λ s c split h. some.wholes s h;
    allocation = λ h. inl (some.before Allocation h);
    directory = λ h. inl (some.before Directory h);
  }

  pub some_fit : Fits site later (set views j w)
  some_fit = fits_by site words later views j v w f at heads lives dead own
