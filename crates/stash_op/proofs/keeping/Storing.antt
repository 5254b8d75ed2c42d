-- The stores of the record keep the view suited, up to those of its note.
use Rattle.std.proofs.Common.{◌≡◌, ℕ, ◌+◌, ◌<◌, ◌≤◌, Bool, true, false, List, ◌∷◌, refl, sym, ap, ◌∙◌, subst, arith}
use Rattle.std.specs.Prelude.{nat_lt, if◌then◌else◌}
use Rattle.bucket_meta.specs.Bucket.{record_slots}
use Rattle.map_model.specs.Changes.{call_of}
use Rattle.frame_facts.specs.Facts.{Fact}
use Rattle.world.specs.Ground.{Ground}
use Rattle.world.specs.Views.{View, IsGuarded}
use Rattle.world.specs.Kinds.{view_after}
use Rattle.world.specs.Attempts.{HasNoMore}
use Rattle.phase.specs.declared.make.Make.{Make}
use Rattle.phase.specs.declared.make.Make.TheVariants.{Key, Value, Fingers, FlushFingers, FlushRecord, FenceRecord, Publish, FlushPublished, FencePublished}
use Rattle.phase.specs.declared.make.Made.TheVariants.{On}
use Rattle.phase.specs.declared.kept.Kept.{Kept}
use Rattle.phase.specs.Makes.{key_at, value_at, fingers_at, published_at, make_taken}
use Rattle.phase.specs.Giving.{HoldsLocks}
use Rattle.phase.specs.Stands.{IsThere, Leads}
use Rattle.phase.specs.Making.{IsStoring, make_kind, IsMaking, HasMade, IsButStored}
use Rattle.phase.proofs.Handing.{none_more}
use Rattle.phase.proofs.locks.Giving.{held_guard, held_store, held_same, is_lock}
use Rattle.phase.proofs.locks.Making.{make_fits, make_knows}
use Rattle.phase.proofs.locks.Storing.{key_guard, value_guard, fingers_guard}
use Rattle.stash_op.specs.declared.step.Seen.{Seen}
use Rattle.phase.specs.declared.note.NoteWord.TheVariants.{Mark}
use Rattle.stash_op.specs.declared.step.StashStep.TheVariants.{Note}
use Rattle.stash_op.specs.declared.step.StashStep.TheVariants as step
use Rattle.stash_op.specs.Search.{place_of}
use Rattle.stash_op.specs.Steps.{made_to, lock_of}
use Rattle.stash_op.specs.Fits.{loaded, prepared, owed, publish_kind, IsHere, HasAll, planned_at, owed_at, IsChanging, IsIn}
use Rattle.stash_op.proofs.finding.Standing.{located}
use Rattle.stash_op.proofs.finding.Chosen.{slot_low, published_is}
use Rattle.stash_op.proofs.keeping.Going.{reply_at, Goes}

-- the store that makes the insert is a store
pub publishing : (kept : Kept) (seen : Seen) → IsStoring (publish_kind kept seen)
publishing kept seen = record { wants = λ shape i x. refl; leaves = λ shape i x n v. (call_of kept.change ∷ v.planned, v.moving, owed kept seen ∷ v.owed, refl) }

module _ (site : Ground) (kept : Kept) (is : IsIn site kept) (seen : Seen) (before v : View) (same : HasNoMore before v) (m : Make) (c : IsChanging site kept seen m v) where
  abbrev lock : ℕ
  lock = lock_of kept (place_of seen.bucket)

  guard : (j : ℕ) → 1 ≤ j → j < 32 → IsGuarded v.held (lock + j)
  guard j from low = held_guard kept.site kept.hash kept.segment seen.held (place_of seen.bucket) v c.all.locks c.all.bucket j from low

  slot_small : seen.written.slot < record_slots
  slot_small = slot_low site kept seen c.chosen

  published_guard : IsGuarded v.held (published_at lock seen.written)
  published_guard = subst (λ z. IsGuarded v.held (lock + z)) (sym (published_is site kept seen c.chosen)) (guard 1 (omega arith) (omega arith))

  -- what is held stays
  all_with : (u : View) → HoldsLocks kept.site kept.hash kept.segment seen.held u → u.moving ≡ v.moving → IsButStored v u → HasAll site kept seen u
  all_with u locks moving but = record {
    there = subst (λ (facts : List Fact). IsThere site kept.segment facts) (sym (ap (λ (z : View). z.facts) but)) c.all.there;
    leads = subst (λ (pinned : List (ℕ × ℕ)). Leads site kept.hash kept.segment pinned) (sym (ap (λ (z : View). z.pinned) but)) c.all.leads;
    locks = locks;
    home = c.all.home;
    probing = c.all.probing;
    bucket = c.all.bucket;
    nowhere = c.all.nowhere;
    still = moving ∙ c.all.still;
    room = subst (λ z. 0 < z) (sym (ap (λ (z : View). z.room) but)) c.all.room;
  }

  -- the next of them
  next_goes : (u : View) (next : Make) → HoldsLocks kept.site kept.hash kept.segment seen.held u → u.moving ≡ v.moving → IsMaking lock seen.written (IsHere kept seen) (loaded kept seen) (prepared kept seen) next u
      → IsButStored v u → u.planned ≡ planned_at site kept seen next → u.owed ≡ owed_at site kept seen next
      → Goes site kept before (made_to seen (On next)) u
  next_goes u next locks moving making but plans owes = (
    record { all = all_with u locks moving but; chosen = c.chosen; making = making; planned = plans; owes = owes },
    none_more (call_of kept.change) before v (reply_at (step.Make next)) u refl same (ap (λ (z : View). z.own) but) (ap (λ (z : View). z.seen) but),
  )

-- ---- each of them
module _ (site : Ground) (kept : Kept) (is : IsIn site kept) (seen : Seen) (before v : View) (same : HasNoMore before v) (n : ℕ) where
  abbrev place_lock : ℕ
  place_lock = lock_of kept (place_of seen.bucket)

  abbrev after : Make → View
  after m = view_after site.shape (make_kind (publish_kind kept seen) place_lock seen.written m) n v

  -- all but what is stored is as it was
  others : (m : Make) → IsButStored v (after m)
  others m = make_fits.others site.shape (publish_kind kept seen) (publishing kept seen) place_lock seen.written m n v

  -- what is known then
  has_made : (m : Make) → IsChanging site kept seen m v → HasMade place_lock seen.written (IsHere kept seen) (loaded kept seen) (prepared kept seen) (make_taken seen.written.slot m) (after m)
  has_made m c = (make_knows (IsHere kept seen)).stands site.shape (publish_kind kept seen) (publishing kept seen) place_lock seen.written
      (is_lock site kept.site kept.hash kept.segment (located site kept is c.all.there.within) (place_of seen.bucket))
      (loaded kept seen) (prepared kept seen) m v n c.making

  -- a flush or a fence leaves what is held, and so does a store under a lock
  still_locks : (m : Make) (u : View) → u.held ≡ v.held → u.known ≡ v.known → u.areas ≡ v.areas → IsChanging site kept seen m v → HoldsLocks kept.site kept.hash kept.segment seen.held u
  still_locks m u held known areas c = held_same kept.site kept.hash kept.segment seen.held v u held known areas c.all.locks

  line_by : (c : IsChanging site kept seen FlushFingers v) (b : Bool)
      → HasMade place_lock seen.written (IsHere kept seen) (loaded kept seen) (prepared kept seen) (if b then On FenceRecord else On FlushRecord) (after FlushFingers)
      → Goes site kept before (made_to seen (if b then On FenceRecord else On FlushRecord)) (after FlushFingers)
  line_by c true making = next_goes site kept is seen before v same FlushFingers c (after FlushFingers) FenceRecord (still_locks FlushFingers (after FlushFingers) refl refl refl c) refl making (others FlushFingers) c.planned c.owes
  line_by c false making = next_goes site kept is seen before v same FlushFingers c (after FlushFingers) FlushRecord (still_locks FlushFingers (after FlushFingers) refl refl refl c) refl making (others FlushFingers) c.planned c.owes

  pub make_goes : (m : Make) → IsChanging site kept seen m v → Goes site kept before (made_to seen (make_taken seen.written.slot m)) (after m)
  make_goes Key c = next_goes site kept is seen before v same Key c (after Key) Value
      (held_store kept.site kept.hash kept.segment site.shape seen.held v (key_at place_lock seen.written) n seen.written.key v.planned v.moving v.owed c.all.locks (key_guard v.held place_lock seen.written (guard site kept is seen before v same Key c) (slot_small site kept is seen before v same Key c)))
      refl (has_made Key c) (others Key) c.planned c.owes
  make_goes Value c = next_goes site kept is seen before v same Value c (after Value) Fingers
      (held_store kept.site kept.hash kept.segment site.shape seen.held v (value_at place_lock seen.written) n seen.written.value v.planned v.moving v.owed c.all.locks (value_guard v.held place_lock seen.written (guard site kept is seen before v same Value c) (slot_small site kept is seen before v same Value c)))
      refl (has_made Value c) (others Value) c.planned c.owes
  make_goes Fingers c = next_goes site kept is seen before v same Fingers c (after Fingers) FlushFingers
      (held_store kept.site kept.hash kept.segment site.shape seen.held v (fingers_at place_lock seen.written) n seen.written.fingers v.planned v.moving v.owed c.all.locks (fingers_guard v.held place_lock seen.written (guard site kept is seen before v same Fingers c) (slot_small site kept is seen before v same Fingers c)))
      refl (has_made Fingers c) (others Fingers) c.planned c.owes
  make_goes FlushFingers c = line_by c (nat_lt seen.written.slot 2) (has_made FlushFingers c)
  make_goes FlushRecord c = next_goes site kept is seen before v same FlushRecord c (after FlushRecord) FenceRecord (still_locks FlushRecord (after FlushRecord) refl refl refl c) refl (has_made FlushRecord c) (others FlushRecord) c.planned c.owes
  make_goes FenceRecord c = next_goes site kept is seen before v same FenceRecord c (after FenceRecord) Publish (still_locks FenceRecord (after FenceRecord) refl refl refl c) refl (has_made FenceRecord c) (others FenceRecord) c.planned c.owes
  make_goes Publish c = next_goes site kept is seen before v same Publish c (after Publish) FlushPublished
      (held_store kept.site kept.hash kept.segment site.shape seen.held v (published_at place_lock seen.written) n seen.written.mark (call_of kept.change ∷ v.planned) v.moving (owed kept seen ∷ v.owed) c.all.locks
      (published_guard site kept is seen before v same Publish c))
      refl (has_made Publish c) (others Publish) (ap (λ calls. call_of kept.change ∷ calls) c.planned) (ap (λ os. owed kept seen ∷ os) c.owes)
  make_goes FlushPublished c = next_goes site kept is seen before v same FlushPublished c (after FlushPublished) FencePublished (still_locks FlushPublished (after FlushPublished) refl refl refl c) refl (has_made FlushPublished c) (others FlushPublished) c.planned c.owes
  make_goes FencePublished c =
      let made = has_made FencePublished c in
      let u : View = after FencePublished in (
        record {
          all = all_with site kept is seen before v same FencePublished c u (still_locks FencePublished u refl refl refl c) refl (others FencePublished);
          chosen = c.chosen;
          knows = made.0;
          settled = made.1;
          planned = c.planned;
          owes = c.owes;
        },
        none_more (call_of kept.change) before v (reply_at (Note Mark)) u refl same refl refl,
      )
