-- The locks are kept, at each kind of step at the structure.
use Rattle.std.proofs.Common.{◌≡◌, ◌≢◌, ℕ, ◌%◌, ◌<◌, List, set, cond, eqb, Bool, true, false, inl, inr, refl, sym, ap, ◌∙◌, subst, arith}
use Rattle.std.specs.Prelude.{not, ◌==◌}
use Rattle.std.proofs.lemmas.Bool.{cases_eq}
use Rattle.trace.specs.Events.{Words, with_word, after}
use Rattle.trace.specs.Events.Event.{loaded, exchanged}
use Rattle.trace.proofs.Replaced.{replaced_same, replaced_other}
use Rattle.segment_head.specs.HeadWord.{version_in, state_in, HasLiveState}
use Rattle.image_layout.specs.Places.{Shape, bucket_at, buckets}
use Rattle.sound_image.specs.Segments.{frame_of}
use Rattle.frame_facts.proofs.Moved.{live_same}
use Rattle.frame_facts.specs.Owners.{IsStructure}
use Rattle.frame_facts.proofs.segments.Cores.{structure_within}
use Rattle.world.specs.Ground.{Ground, IsLockWord, IsCurrentIn, IsCurrentLock}
use Rattle.world.specs.Views.{View, Has, At, HasLock}
use Rattle.world.specs.Parts.{Locks}
use Rattle.world.specs.Invariant.{Holds}
use Rattle.world.specs.areas.Areas.{Area, Stale, Side, header_word}
use Rattle.world.specs.areas.Fitting.{HoldsWord, IsLivingLock}
use Rattle.world.specs.areas.Rows.{Row, marks, news, goes_live, finishes, unmarks, frees, renews, IsRow}
use Rattle.world.specs.areas.Kinds.{Guard, of_free_slots, guard_word, StructureKind, takes, takes_for_side, gives, finds_stale, closes, finds_free, finds_link, finds_side, finds_entry, finds_begin, reads, sets, moves, settles, settles_side, opens, with_guard, with_area, with_slot, is_new_side, with_guard_for}
use Rattle.world.specs.areas.Asking.{KnowsFree, MaySet, AsksForRow, MayAt}
use Rattle.world.specs.areas.Keeping.{words_then, views_then, KeepsLocks}
use Rattle.world.proofs.basics.Grounds.{lock_within}
use Rattle.world.proofs.basics.Seats.{each, carry, lock_of}
use Rattle.world.proofs.basics.Structures.{kept_structure, lock_back, lock_of_current, lock_no_head}
use Rattle.world.proofs.invariant.KeepLocks.{locks_freed}
use Rattle.world.proofs.fitting.OneHolder.{side_dies}
use Rattle.world.proofs.fitting.Rows.{one_head}
use Rattle.world.proofs.moving.Known.{newest_is}
use Rattle.world.proofs.moving.Holding.{stale, side, free, HasSlot, holder_has}
use Rattle.world.proofs.moving.Words.{behind_image}

-- the view holds what it held, no held lock changes, and no odd lock word comes to a current segment
locks_by : (site : Ground) (words us : Words) (views : List View) (j : ℕ) (v w : View) → At views j v → Locks site words views → w.held ≡ v.held
    → ((i : ℕ) (u : View) (lock : ℕ) → At views i u → HasLock u.held lock → us lock ≡ words lock)
    → ((lock : ℕ) → IsCurrentLock site us lock → us lock % 2 ≡ 1 → IsCurrentLock site words lock × (words lock % 2 ≡ 1)) → Locks site us (set views j w)
locks_by site words us views j v w at l held same was_odd = record {
  alone = λ i n x y lock c d a a' h h'. (let p = was i x a in let q = was n y a' in
      l.alone i n p.0 q.0 lock c d p.1 q.1 (subst (λ z. Has (lock, c) z) p.2 h) (subst (λ z. Has (lock, d) z) q.2 h'));
  locked = λ i x lock c a h. (let p = was i x a in let k = subst (λ z. Has (lock, c) z) p.2 h in let r = l.locked i p.0 lock c p.1 k in (r.0, same i p.0 lock p.1 (c, k) ∙ r.1, r.2));
  odd = λ lock is odd. (let b = was_odd lock is odd in let o = l.odd lock b.0 b.1 in
      let s = carry views j v w at (λ i u. HasLock u.held lock) (λ q. (q.0, subst (λ z. Has (lock, q.0) z) (sym held) q.1)) o.0 o.1 o.2 o.3 in (o.0, s.0, s.1, s.2));
}
  where
    was : (i : ℕ) (u : View) → At (set views j w) i u → (o : View) × At views i o × (u.held ≡ o.held)
    was = each views j v w at (λ i u. (o : View) × At views i o × (u.held ≡ o.held)) (v, at, held) (λ i u n a. (u, a, refl))

-- what takes and finds leave as it was
guard_held : (t : Bool) (guard : Guard) (v : View) → (with_guard t guard v).held ≡ v.held
guard_held true guard v = refl
guard_held false guard v = refl

area_held : (t : Bool) (a : Area) (i x : ℕ) (v : View) → (with_area t a i x v).held ≡ v.held
area_held true a i x v = refl
area_held false a i x v = refl

slot_held : (t : Bool) (n i x : ℕ) (v : View) → (with_slot t n i x v).held ≡ v.held
slot_held true n i x v = refl
slot_held false n i x v = refl

module _ (site : Ground) (words : Words) (views : List View) (j : ℕ) (v : View) (h : Holds site words views) (at : At views j v) where
  abbrev shape : Shape
  shape = site.shape

  calm : (w : View) → w.held ≡ v.held → Locks site words (set views j w)
  calm w held = locks_by site words words views j v w at h.locks held (λ i u lock a k. refl) (λ lock is odd. (is, odd))

  -- ---- a guard's word changes
  module _ (guard : Guard) (x : ℕ) where
    abbrev with_guard_word : Words
    with_guard_word = with_word words (guard_word shape guard) x

    apart : (lock : ℕ) → IsLockWord shape lock → with_guard_word lock ≡ words lock
    apart lock is = replaced_other words (guard_word shape guard) x lock
        (λ e. let near = lock_within shape lock is in let far = behind_image site words views j v h at guard in omega (arith, near, far, e))

    no_structure : IsStructure shape (guard_word shape guard) → ⊥
    no_structure is = let near = structure_within shape (guard_word shape guard) is in let far = behind_image site words views j v h at guard in omega (arith, near, far)

    guarded : (w : View) → w.held ≡ v.held → Locks site with_guard_word (set views j w)
    guarded w held = locks_by site words with_guard_word views j v w at h.locks held (λ i u lock a k. apart lock (lock_of site words views h.locks i u lock a k))
        (λ lock is odd. (
          lock_back site words with_guard_word (kept_structure shape words (guard_word shape guard) x no_structure) lock is,
          ap (λ n. n % 2) (sym (apart lock (lock_of_current site with_guard_word lock is))) ∙ odd,
        ))

  taken : (guard : Guard) (c : ℕ) → (t : Bool)
      → Locks site (after (cond t (exchanged j (guard_word shape guard) c) (loaded j (guard_word shape guard))) words) (set views j (with_guard t guard v))
  taken guard c true = guarded guard c (with_guard true guard v) (guard_held true guard v)
  taken guard c false = calm v refl

  taken_for : (n c : ℕ) → (t : Bool)
      → Locks site (after (cond t (exchanged j (guard_word shape of_free_slots) c) (loaded j (guard_word shape of_free_slots))) words) (set views j (with_guard_for shape t n v))
  taken_for n c true = taken of_free_slots c true
  taken_for n c false = calm (with_guard_for shape false n v) refl

  -- ---- a held word that is no header is stored: it is no lock word of a current segment that lives on
  module _ (i x : ℕ) (may : MaySet site v i x) where
    abbrev us : Words
    us = with_word words i x

    not_stored : (lock : ℕ) → IsLivingLock site words views lock → lock ≡ i → ⊥
    not_stored lock q e = by_slot (holder_has shape v.areas q.segment q.bucket q.current.live.slot q.near v.held (λ other. lock_of site words views h.locks j v other at)
        (subst (λ (z : ℕ). HoldsWord shape v z) (sym e ∙ q.is) may.holds))
      where
        by_slot : HasSlot v.areas q.segment → ⊥
        by_slot (stale k) = (h.structure.fits.stale j v q.segment at k).1 q.current.current
        by_slot (side k) = side_dies site words views q.segment (h.structure.fits.side j v q.segment at k).1 q.lives
        by_slot (free k) = let e = (h.structure.fits.free_slot j v q.segment at k).2 in elim q.current.live.live [ inl a ↦ omega (arith, a, e) | inr a ↦ omega (arith, a, e) ]

    same_head : (s : ℕ) → s < shape.segments → words (header_word shape s) ≡ us (header_word shape s)
    same_head s slot = sym (replaced_other words i x (header_word shape s) (λ e. may.no_header s slot (sym e)))

    was_current : (s : ℕ) → IsCurrentIn site us s → IsCurrentIn site words s
    was_current s c = record {
      live = record { slot = c.live.slot; live = live_same (frame_of shape us) (frame_of shape words) s (same_head s c.live.slot) c.live.live };
      current = ap version_in (same_head s c.live.slot) ∙ c.current;
    }

    set_odd : (lock : ℕ) → IsCurrentLock site us lock → us lock % 2 ≡ 1 → IsCurrentLock site words lock × (words lock % 2 ≡ 1)
    set_odd lock is odd = elim (cases_eq lock i) [
      | inl e ↦ absurd (let even = may.even (subst (λ (z : ℕ). IsLockWord shape z) e (lock_of_current site us lock is)) in
          let now : us lock ≡ x = ap us e ∙ replaced_same words i x in omega (arith, even, now, odd))
      | inr n ↦ ((is.0, is.1, is.2, is.3, is.4, was_current is.0 is.5), ap (λ z. z % 2) (sym (replaced_other words i x lock n)) ∙ odd)
    ]

    set_locks : (w : View) → w.held ≡ v.held → Locks site us (set views j w)
    set_locks w held = locks_by site words us views j v w at h.locks held
        (λ c u lock a k. replaced_other words i x lock (not_stored lock (h.structure.fits.lock c u lock a k))) set_odd

  -- ---- a header is stored
  module _ (row : Row) (s x : ℕ) (is : IsRow site words row s x) (ask : AsksForRow site row s x v) where
    abbrev then_words : Words
    then_words = with_word words (header_word shape s) x

    same_lock : (lock : ℕ) → IsLockWord shape lock → then_words lock ≡ words lock
    same_lock lock k = replaced_other words (header_word shape s) x lock (lock_no_head shape lock s k)

    now_head : then_words (header_word shape s) ≡ x
    now_head = replaced_same words (header_word shape s) x

    -- a segment of this version that was live is current
    was_live : HasLiveState (words (header_word shape s)) → version_in x ≡ version_in (words (header_word shape s)) → IsCurrentIn site then_words s → IsCurrentIn site words s
    was_live live version c = record {
      live = record { slot = c.live.slot; live = live };
      current = sym version ∙ sym (ap version_in now_head) ∙ c.current;
    }

    live_now : IsCurrentIn site then_words s → HasLiveState x
    live_now c = subst HasLiveState now_head c.live.live

    -- the lock words of the slot are free
    no_odd : KnowsFree site v s → (b : ℕ) → b < buckets → then_words (bucket_at shape s b) % 2 ≡ 1 → IsLockWord shape (bucket_at shape s b) → ⊥
    no_odd known b near odd k = let q = known b near in let e = (h.known.knows j v (bucket_at shape s b) q.0 at q.1).0 in
        let f = same_lock (bucket_at shape s b) k in let even = q.2 in omega (arith, odd, e, f, even)

    here : (b : ℕ) → b < buckets → then_words (bucket_at shape s b) % 2 ≡ 1 → IsLockWord shape (bucket_at shape s b) → IsCurrentIn site then_words s → IsCurrentIn site words s
    here b near odd k c = by_row row is ask
      where
        by_row : (row : Row) → IsRow site words row s x → AsksForRow site row s x v → IsCurrentIn site words s
        by_row (marks n) q ask = was_live (inl q.0.was) q.2 c
        by_row (news p) q ask = absurd (let e = q.0.becomes in elim (live_now c) [ inl a ↦ omega (arith, a, e) | inr a ↦ omega (arith, a, e) ])
        by_row (goes_live p) q ask = absurd (no_odd ask.0 b near odd k)
        by_row finishes q ask = was_live (inr q.0.was) q.1 c
        by_row unmarks q ask = was_live (inr q.0.was) q.1 c
        by_row (frees p) q ask = absurd (let e = q.0.becomes in elim (live_now c) [ inl a ↦ omega (arith, a, e) | inr a ↦ omega (arith, a, e) ])
        by_row renews q ask = absurd (no_odd ask.1 b near odd k)

    there : (t : ℕ) → t ≢ s → IsCurrentIn site then_words t → IsCurrentIn site words t
    there t n c = let e = sym (replaced_other words (header_word shape s) x (header_word shape t) (λ e. n (one_head site t s e))) in record {
      live = record { slot = c.live.slot; live = live_same (frame_of shape then_words) (frame_of shape words) t e c.live.live };
      current = ap version_in e ∙ c.current;
    }

    moved_odd : (lock : ℕ) → IsCurrentLock site then_words lock → then_words lock % 2 ≡ 1 → IsCurrentLock site words lock × (words lock % 2 ≡ 1)
    moved_odd lock l odd = let k = lock_of_current site then_words lock l in (
      (
        l.0,
        l.1,
        l.2,
        l.3,
        l.4,
        elim (cases_eq l.0 s) [
          | inl e ↦
              let at_s : lock ≡ bucket_at shape s l.1 = l.4 ∙ ap (λ (z : ℕ). bucket_at shape z l.1) e in
              subst (λ (z : ℕ). IsCurrentIn site words z) (sym e) (here l.1 l.3 (ap (λ z. then_words z % 2) (sym at_s) ∙ odd) (subst (λ (z : ℕ). IsLockWord shape z) at_s k)
              (subst (λ (z : ℕ). IsCurrentIn site then_words z) e l.5))
          | inr n ↦ there l.0 n l.5
        ],
      ),
      ap (λ z. z % 2) (sym (same_lock lock k)) ∙ odd,
    )

    moved_locks : (w : View) → w.held ≡ v.held → Locks site then_words (set views j w)
    moved_locks w held = locks_by site words then_words views j v w at h.locks held (λ c u lock a k. same_lock lock (lock_of site words views h.locks c u lock a k)) moved_odd

  keep : (kind : StructureKind) → MayAt site kind v → Locks site (words_then site kind j words) (views_then site kind j v words views)
  keep (takes guard c) may = taken guard c (eqb (words (guard_word shape guard)) 0)
  keep (takes_for_side n c) may = taken_for n c (eqb (words (guard_word shape of_free_slots)) 0)
  keep (gives guard) may = guarded guard 0 _ refl
  keep (finds_stale s version) may = calm _ (area_held (not (version_in (words (header_word shape s)) == version)) (Stale s) (header_word shape s) (words (header_word shape s)) v)
  keep (closes s i) may = calm _ refl
  keep (finds_free n) may = calm _ (slot_held (state_in (words (header_word shape n)) == 0) n (header_word shape n) (words (header_word shape n)) v)
  keep (finds_link p depth pattern) may = calm _ refl
  keep (finds_side p n depth pattern) may = calm _ (area_held (is_new_side depth pattern (words (header_word shape n))) (Side n) (header_word shape n) (words (header_word shape n)) v)
  keep (finds_entry e i) may = calm _ refl
  keep (finds_begin s) may = calm _ refl
  keep (reads i) may = calm _ refl
  keep (sets i x) may = set_locks i x may _ refl
  keep (moves row s x) may = moved_locks row s x (may.0 words (newest_is site words views h j v at)).0 may.3 _ refl
  keep (settles facts) may = calm _ refl
  keep (settles_side m depth pattern) may = calm _ refl
  keep (opens s lock next) may = locks_freed site words views j v _ at h.locks lock may.2.0 next may.2.1 (let e = may.2.2 in omega (arith, e)) refl

pub keeps_locks : KeepsLocks
keeps_locks site kind words views j v h at may = keep site words views j v h at kind may
