-- The events of the device and the views stay tied at each step at the structure, and a restart ties them.
use Rattle.std.proofs.Common.{◌≡◌, ◌≢◌, ℕ, ◌+◌, ◌*◌, ◌<◌, ◌≤◌, Bool, true, false, cond, eqb, not, List, ◌∷◌, set, inl, inr, refl, sym, ap, ◌∙◌, subst, arith}
use Rattle.trace.specs.Events.{Words, with_word, Event, Trace, value, after}
use Rattle.trace.specs.Events.Event.{loaded, stored, exchanged, fenced}
use Rattle.trace.specs.Steps.{Writes}
use Rattle.trace.proofs.Media.{had_of_may}
use Rattle.segment_head.specs.HeadWord.{version_in, state_in, free}
use Rattle.image_layout.specs.Places.{Shape, first_segment, words_of, bucket_at, buckets, entry_at}
use Rattle.frame_facts.specs.Core.{core_of}
use Rattle.sound_image.specs.Segments.{frame_of, state_at}
use Rattle.frame_facts.specs.Facts.{Lives, Current, IsLiveSlot}
use Rattle.frame_facts.specs.DeadSlots.{IsInSlot}
use Rattle.world.specs.Ground.{Ground, IsLockWord, version_of, IsCurrentIn}
use Rattle.world.specs.Views.{View, Has, At}
use Rattle.world.specs.Media.{MayLeave}
use Rattle.world.specs.Wants.{word_of, event_of}
use Rattle.world.specs.Kinds.{loosened}
use Rattle.world.specs.Tied.{Tied}
use Rattle.world.specs.areas.Areas.{Area, Segment, Stale, Side, Free, Whole, Allocation, Directory, header_word, InArea, link_word}
use Rattle.world.specs.areas.Fitting.{HoldsWord, LivesOn, IsLivingLock}
use Rattle.world.specs.areas.Rows.{Row, marks, news, goes_live, finishes, unmarks, frees, renews, HasForRow}
use Rattle.world.specs.areas.Kinds.{Guard, of_free_slots, guard_word, StructureKind, takes, takes_for_side, gives, finds_stale, closes, finds_free, finds_link, finds_side, finds_entry, finds_begin, reads, sets, moves, settles, settles_side, opens, wanted_at, with_guard, with_area, with_slot, is_new_side, view_then, with_guard_for}
use Rattle.world.specs.areas.Asking.{MayAt}
use Rattle.world.specs.Invariant.{Holds}
use Rattle.world.specs.areas.Keeping.{found_at, words_then, views_then}
use Rattle.world.specs.areas.Worlds.{StructureStepsDoEvents, StructureStepsKeepTied, FlushesKeepTied, CallersKeepTied, StructureStepsKeepWell, BeginsWell, DeviceLeaves}
use Rattle.world.proofs.basics.Grounds.{lock_core}
use Rattle.world.proofs.basics.Seats.{guarded_no_lock}
use Rattle.world.proofs.holding.Beside.{newest}
use Rattle.world.proofs.device.Ties.{KeepsLoose, SparesFlushed, tied_load, tied_write, tied_stored, tied_flush, tied_fence, tied_by_kind}
use Rattle.world.proofs.device.Worlds.{changed_is}
use Rattle.world.proofs.fitting.OneHolder.{one_holder, one_slot, head_in_slot, side_dies}
use Rattle.world.proofs.moving.keeping.Fitting.{guard_behind}
use Rattle.world.proofs.moving.Known.{grounds, held_within, newest_is}
use Rattle.world.proofs.moving.beginning.Begun.{restarts_begin}
use Rattle.world.proofs.mild.Holding.{holding_kept}

-- ---- what is loose in a view after a load
area_loose : (t : Bool) (a : Area) (i x : ℕ) (v : View) → KeepsLoose (with_area t a i x v) v
area_loose true a i x v = (refl, refl)
area_loose false a i x v = (refl, refl)

slot_loose : (t : Bool) (n i x : ℕ) (v : View) → KeepsLoose (with_slot t n i x v) v
slot_loose true n i x v = (refl, refl)
slot_loose false n i x v = (refl, refl)

-- ---- places
past : (i n : ℕ) → i < n → n ≤ i → ⊥
past i n low high = omega (arith, low, high)

-- a lock word is one of its slot, and neither its header word nor its link, nor one of the directory
lock_in_slot : (shape : Shape) (s b : ℕ) → b < buckets → IsInSlot shape s (bucket_at shape s b)
lock_in_slot shape s b near = record { from = omega arith; to = omega (arith, near) }

lock_no_guard_word : (shape : Shape) (s b t : ℕ) → b < buckets → InArea shape (Segment t) (bucket_at shape s b) → ⊥
lock_no_guard_word shape s b t near w = elim w [ inl e ↦ by (first_segment shape) 1 (omega arith) e | inr e ↦ by (first_segment shape) 2 (omega arith) e ]
  where
    by : (f c : ℕ) → c < 3 → f + 2144 * s + 32 + 32 * b ≡ f + 2144 * t + c → ⊥
    by f c low e = omega (arith, near, low, e)

lock_no_front : (shape : Shape) (s b : ℕ) → InArea shape Directory (bucket_at shape s b) → ⊥
lock_no_front shape s b w = elim w [ inl e ↦ omega (arith, e) | inr q ↦ omega (arith, q.1) ]

module _ (shape : Shape) (s b t : ℕ) (near : b < buckets) where
  -- where a lock word is, the header of its slot is
  header_there : IsInSlot shape t (bucket_at shape s b) → IsInSlot shape t (header_word shape s)
  header_there w = subst (λ (z : ℕ). IsInSlot shape z (header_word shape s)) (one_slot shape s t (bucket_at shape s b) (lock_in_slot shape s b near) w) (head_in_slot shape s)

module _ (site : Ground) (start : Words) (es : Trace) (views : List View) (j : ℕ) (v : View) (h : Holds site (value start es) views) (at : At views j v) (o : Tied site start es views) where
  abbrev words : Words
  words = value start es

  -- what is flushed is held, and lies within the image
  held : (c : ℕ) (u : View) (n y : ℕ) → At views c u → Has (n, y) u.flushed → HoldsWord site.shape u n
  held c u n y a has = h.known.loose c u n y a (inr has)

  inside : (n y : ℕ) → Has (n, y) v.flushed → n < words_of site.shape
  inside n y has = held_within site words views h j v n at (held j v n y at has)

  -- a word that the view holds nobody else does
  mine : (i : ℕ) → HoldsWord site.shape v i → (c : ℕ) (u : View) → c ≢ j → At views c u → HoldsWord site.shape u i → ⊥
  mine i holds c u ne a other = ne (one_holder site words views (grounds site words views h) h.structure.fits c j i u v a at other holds)

  tied_calm : (i : ℕ) (w : View) → KeepsLoose w v → Tied site start (loaded j i ∷ es) (set views j w)
  tied_calm i w same = tied_load site start es views j v w at o i same

  -- ---- stores
  -- to a word that the view holds
  tied_held : (i x : ℕ) (w : View) → w.dirty ≡ loosened site.shape i (words i) x v.dirty → w.flushed ≡ v.flushed → HoldsWord site.shape v i → Tied site start (stored j i x ∷ es) (set views j w)
  tied_held i x w dirty same holds = tied_stored site start es views j v w at o i x dirty same inside (λ c u y ne a has. mine i holds c u ne a (held c u i y a has))

  -- the header of a row is held
  row_held : (row : Row) (s : ℕ) → HasForRow site words row s v.areas → HoldsWord site.shape v (header_word site.shape s)
  row_held (marks n) s has = inr (Segment s, (h.structure.fits.whole j v s at has.0).0, inl refl)
  row_held (news p) s has = inr (Free s, has.0, head_in_slot site.shape s)
  row_held (goes_live p) s has = inr (Side s, has.0, head_in_slot site.shape s)
  row_held finishes s has = inr (Segment s, has.0, inl refl)
  row_held unmarks s has = inr (Stale s, has.0, head_in_slot site.shape s)
  row_held (frees p) s has = inr (Side s, has.0, head_in_slot site.shape s)
  row_held renews s has = inr (Stale s, has, head_in_slot site.shape s)

  -- to a guard
  tied_guard : (e : Event) (guard : Guard) (x : ℕ) (w : View) → ((n y : ℕ) → Writes words e n y → (n ≡ guard_word site.shape guard) × (y ≡ x))
      → value start (e ∷ es) ≡ with_word words (guard_word site.shape guard) x → ((c : ℕ) → e ≡ fenced c → ⊥) → KeepsLoose w v → Tied site start (e ∷ es) (set views j w)
  tied_guard e guard x w writes becomes none same = tied_write site start es views j v w at o e (guard_word site.shape guard) x writes becomes none same.1
      (λ p d. subst (λ (z : List (ℕ × ℕ)). Has p z) (sym same.0) d)
      (λ within. absurd (past (guard_word site.shape guard) (words_of site.shape) within (guard_behind site.shape guard)))
      inside
      (λ c u y ne a has. past (guard_word site.shape guard) (words_of site.shape)
      (held_within site words views h c u (guard_word site.shape guard) a (held c u (guard_word site.shape guard) y a has)) (guard_behind site.shape guard))

  tied_take : (guard : Guard) (caller : ℕ) (t : Bool)
      → Tied site start (cond t (exchanged j (guard_word site.shape guard) caller) (loaded j (guard_word site.shape guard)) ∷ es) (set views j (with_guard t guard v))
  tied_take guard caller true = tied_guard (exchanged j (guard_word site.shape guard) caller) guard caller (with_guard true guard v) (λ n y q. q) refl (λ c e. absurd (cc)) (refl, refl)
  tied_take guard caller false = tied_calm (guard_word site.shape guard) v (refl, refl)

  tied_take_for : (n caller : ℕ) (t : Bool)
      → Tied site start (cond t (exchanged j (guard_word site.shape of_free_slots) caller) (loaded j (guard_word site.shape of_free_slots)) ∷ es) (set views j (with_guard_for site.shape t n v))
  tied_take_for n caller true = tied_take of_free_slots caller true
  tied_take_for n caller false = tied_calm (guard_word site.shape of_free_slots) (with_guard_for site.shape false n v) (refl, refl)

  -- to a lock of a segment that the view has whole: who has that lock word by an area has the header of its slot too
  with_header : (s b : ℕ) → b < buckets → IsLockWord site.shape (bucket_at site.shape s b) → (c : ℕ) (u : View) → At views c u → HoldsWord site.shape u (bucket_at site.shape s b)
      → HoldsWord site.shape u (header_word site.shape s)
  with_header s b near is c u a (inl g) = absurd (guarded_no_lock site words views h.locks c u (bucket_at site.shape s b) (bucket_at site.shape s b) a g is refl)
  with_header s b near is c u a (inr (Segment t, has, w)) = absurd (lock_no_guard_word site.shape s b t near w)
  with_header s b near is c u a (inr (Stale t, has, w)) = inr (Stale t, has, header_there site.shape s b t near w)
  with_header s b near is c u a (inr (Side t, has, w)) = inr (Side t, has, header_there site.shape s b t near w)
  with_header s b near is c u a (inr (Free t, has, w)) = inr (Free t, has, header_there site.shape s b t near w)
  with_header s b near is c u a (inr (Whole t, has, w)) = absurd w
  with_header s b near is c u a (inr (Allocation, has, w)) = absurd w
  with_header s b near is c u a (inr (Directory, has, w)) = absurd (lock_no_front site.shape s b w)

  tied_open : (s b next : ℕ) (w : View) → Has (Whole s) v.areas → b < buckets → KeepsLoose w v → Tied site start (stored j (bucket_at site.shape s b) next ∷ es) (set views j w)
  tied_open s b next w whole near same =
      let guarded = (h.structure.fits.whole j v s at whole).0 in
      let is : IsLockWord site.shape (bucket_at site.shape s b) = (s, b, (h.structure.fits.segment j v s at guarded words (newest site words views)).slot, near, refl) in
      tied_write site start es views j v w at o (stored j (bucket_at site.shape s b) next) (bucket_at site.shape s b) next (λ n y q. q) refl (λ c e. absurd (cc)) same.1
      (λ p d. subst (λ (z : List (ℕ × ℕ)). Has p z) (sym same.0) d)
      (λ _. inl (lock_core site.shape (bucket_at site.shape s b) (words (bucket_at site.shape s b)) is ∙ sym (lock_core site.shape (bucket_at site.shape s b) next is)))
      inside
      (λ c u y ne a has. mine (header_word site.shape s) (inr (Segment s, guarded, inl refl)) c u ne a (with_header s b near is c u a (held c u (bucket_at site.shape s b) y a has)))

  -- ---- by kinds
  by_kind : (kind : StructureKind) → MayAt site kind v → Tied site start (event_of site.shape (wanted_at site.shape kind) (found_at site kind words) j ∷ es) (views_then site kind j v words views)
  by_kind (takes guard caller) may = tied_take guard caller (eqb (words (guard_word site.shape guard)) 0)
  by_kind (takes_for_side n caller) may = tied_take_for n caller (eqb (words (guard_word site.shape of_free_slots)) 0)
  by_kind (gives guard) may = tied_guard (stored j (guard_word site.shape guard) 0) guard 0 _ (λ n y q. q) refl (λ c e. absurd (cc)) (refl, refl)
  by_kind (finds_stale s version) may = let n = words (header_word site.shape s) in
      tied_calm (header_word site.shape s) _ (area_loose (not (eqb (version_in n) version)) (Stale s) (header_word site.shape s) n v)
  by_kind (closes s i) may = tied_calm i _ (refl, refl)
  by_kind (finds_free n) may = let x = words (header_word site.shape n) in tied_calm (header_word site.shape n) _ (slot_loose (eqb (state_in x) free) n (header_word site.shape n) x v)
  by_kind (finds_link p depth pattern) may = tied_calm (link_word site.shape p) _ (refl, refl)
  by_kind (finds_side p n depth pattern) may = let x = words (header_word site.shape n) in
      tied_calm (header_word site.shape n) _ (area_loose (is_new_side depth pattern x) (Side n) (header_word site.shape n) x v)
  by_kind (finds_entry e i) may = tied_calm (entry_at e i) _ (refl, refl)
  by_kind (finds_begin s) may = tied_calm (header_word site.shape s) _ (refl, refl)
  by_kind (reads i) may = tied_calm i _ (refl, refl)
  by_kind (sets i x) may = tied_held i x _ refl refl may.holds
  by_kind (moves row s x) may = tied_held (header_word site.shape s) x _ refl refl (row_held row s (may.0 words (newest_is site words views h j v at)).1)
  by_kind (settles facts) may = tied_fence site start es views j v at o _ refl refl
  by_kind (settles_side n depth pattern) may = tied_fence site start es views j v at o _ refl refl
  by_kind (opens s lock next) may = subst (λ (l : ℕ). Tied site start (stored j l next ∷ es) (set views j (view_then site.shape (opens s lock next) (words lock) v))) (sym may.1.2)
      (tied_open s may.1.0 next _ may.0 may.1.1 (refl, refl))

pub keep_tied : StructureStepsKeepTied
keep_tied site start es kind views j v h at may o = by_kind site start es views j v h at o kind may

pub flushes_keep_tied : FlushesKeepTied
flushes_keep_tied site start es views j v l n at o = tied_flush site start es views j v at o l

-- ---- a step of a caller
module _ (site : Ground) (words : Words) (views : List View) (j : ℕ) (v : View) (h : Holds site words views) (at : At views j v) where
  flushed_held : (c : ℕ) (u : View) (n y : ℕ) → At views c u → Has (n, y) u.flushed → HoldsWord site.shape u n
  flushed_held c u n y a has = h.known.loose c u n y a (inr has)

  -- the slot of a current segment that lives on is no side, not free, and has the image's version: nobody has the word of one of its
  -- locks by an area
  no_area : (s b : ℕ) → b < buckets → IsCurrentIn site words s → LivesOn site words views s → (c : ℕ) (u : View) → At views c u → HoldsWord site.shape u (bucket_at site.shape s b) → ⊥
  no_area s b near current lives c u a (inl g) = guarded_no_lock site words views h.locks c u (bucket_at site.shape s b) (bucket_at site.shape s b) a g (s, b, current.live.slot, near, refl) refl
  no_area s b near current lives c u a (inr (Segment t, has, w)) = lock_no_guard_word site.shape s b t near w
  no_area s b near current lives c u a (inr (Stale t, has, w)) =
      let e = one_slot site.shape s t (bucket_at site.shape s b) (lock_in_slot site.shape s b near) w in
      (h.structure.fits.stale c u t a has).1 (subst (λ (z : ℕ). version_in (words (header_word site.shape z)) ≡ version_of site) e current.current)
  no_area s b near current lives c u a (inr (Side t, has, w)) =
      let e = one_slot site.shape s t (bucket_at site.shape s b) (lock_in_slot site.shape s b near) w in
      side_dies site words views t (h.structure.fits.side c u t a has).1 (subst (λ (z : ℕ). LivesOn site words views z) e lives)
  no_area s b near current lives c u a (inr (Free t, has, w)) =
      let e = one_slot site.shape s t (bucket_at site.shape s b) (lock_in_slot site.shape s b near) w in
      free_dies t (h.structure.fits.free_slot c u t a has).2 (subst (λ (z : ℕ). IsLiveSlot (frame_of site.shape words) z) e current.live)
    where
      free_dies : (t : ℕ) → state_at (frame_of site.shape words) t ≡ free → IsLiveSlot (frame_of site.shape words) t → ⊥
      free_dies t is live = elim live.live [ inl e ↦ omega (arith, is, e) | inr e ↦ omega (arith, is, e) ]
  no_area s b near current lives c u a (inr (Whole t, has, w)) = absurd w
  no_area s b near current lives c u a (inr (Allocation, has, w)) = absurd w
  no_area s b near current lives c u a (inr (Directory, has, w)) = lock_no_front site.shape s b w

  nobody : (lock : ℕ) → IsLivingLock site words views lock → (c : ℕ) (u : View) (y : ℕ) → At views c u → Has (lock, y) u.flushed → ⊥
  nobody lock l c u y a has = no_area l.segment l.bucket l.near l.current l.lives c u a (subst (λ (z : ℕ). HoldsWord site.shape u z) l.is (flushed_held c u lock y a has))

  spared : SparesFlushed site views j v
  spared = record {
    inside = λ c u n y a has. held_within site words views h c u n a (flushed_held c u n y a has);
    alone = λ i g c u y ne a has. ne (one_holder site words views (grounds site words views h) h.structure.fits c j i u v a at (flushed_held c u i y a has) (inl g));
    is_lock = λ lock has. (h.locks.locked j v lock has.0 at has.1).0;
    held = λ lock has c u y ne. nobody lock (h.structure.fits.lock j v lock at has) c u y;
    known = λ lock k c u y ne. nobody lock (record {
      segment = k.0;
      bucket = k.1;
      near = k.3;
      is = k.4;
      current = h.structure.says j v (Current k.0) words at k.6 (newest site words views);
      lives = λ m p. h.structure.says j v (Lives k.0) m at k.5 p;
    }) c u y;
  }

pub callers_keep_tied : CallersKeepTied
callers_keep_tied site start es kind views j v h at may o = tied_by_kind site start es views j v (spared site (value start es) views j v h at) at o kind may

-- ---- the world
pub do_events : StructureStepsDoEvents
do_events shape start kind j world is = ap (after (event_of shape (wanted_at shape kind) (world.words (word_of shape (wanted_at shape kind))) j)) is

tied_after : (site : Ground) (start : Words) (es : Trace) (views : List View) (kind : StructureKind) (j : ℕ) (v : View) → At views j v → MayAt site kind v → Tied site start es views
    → (ws : Words) → ws ≡ value start es → Holds site ws views
    → Tied site start (event_of site.shape (wanted_at site.shape kind) (found_at site kind ws) j ∷ es) (views_then site kind j v ws views)
tied_after site start es views kind j v at may tied ws is =
    subst (λ (ws : Words). Holds site ws views → Tied site start (event_of site.shape (wanted_at site.shape kind) (found_at site kind ws) j ∷ es) (views_then site kind j v ws views))
    (sym is) (λ h. keep_tied site start es kind views j v h at may tied)

pub steps_move_well : StructureStepsKeepWell
steps_move_well site start kind world j v well at may = record {
  words_are = do_events site.shape start kind j world well.words_are;
  holds = subst (λ (views : List View). Holds site (words_then site kind j world.words) views) (sym (changed_is j (view_then site.shape kind (found_at site kind world.words)) world.views v at))
      (holding_kept site kind world.words world.views j v well.holds at may).0;
  tied = subst (λ (views : List View). Tied site start (event_of site.shape (wanted_at site.shape kind) (found_at site kind world.words) j ∷ world.trace) views)
      (sym (changed_is j (view_then site.shape kind (found_at site kind world.words)) world.views v at))
      (tied_after site start world.trace world.views kind j v at may well.tied world.words well.words_are well.holds);
}

pub restarts_move_well : BeginsWell
restarts_move_well site start world b = record {
  words_are = b.restarted.words_are;
  holds = restarts_begin site start world b;
  tied = record {
    covered = λ i y within had. inl (ap (core_of site.shape i) (b.restarted.settled i y within had ∙ ap (λ (ws : Words). ws i) b.restarted.words_are));
    fresh = λ c v i x at has. absurd (subst (λ (u : View). Has (i, x) u.flushed) (b.restarted.fresh c v at) has);
  };
}

pub device_leaves_moving : DeviceLeaves
device_leaves_moving site start world medium well possible i within =
    subst (λ (ws : Words). MayLeave site ws world.views i (medium i)) (sym well.words_are) (well.tied.covered i (medium i) within (had_of_may start world.trace i (medium i) (possible i within)))
