-- The stores of the record are of kinds that the view may take; the one that makes the insert makes it alone, and owes its note.
use Rattle.std.proofs.Common.{◌≡◌, ◌≢◌, ℕ, ◌+◌, ◌<◌, ◌≤◌, true, inr, refl, sym, ap, ◌∙◌, subst, arith, slice_index}
use Rattle.hash_word.specs.Hash.{home_of, finger_of}
use Rattle.bucket_meta.specs.Bucket.{record_slots, overflow_count}
use Rattle.bucket_meta.specs.Marks.{inserted_mark}
use Rattle.bucket_meta.proofs.Marks.{takes_slot}
use Rattle.bucket_meta.proofs.fields.Uppers.{inserted_upper}
use Rattle.trace.specs.Events.{Words}
use Rattle.image_layout.specs.Places.{Shape, bucket_at, homes, stash_buckets}
use Rattle.sound_image.specs.Records.{key_hash, notes_of, word_in}
use Rattle.map_model.specs.declared.call.Call.{Call}
use Rattle.map_model.specs.declared.call.Call.TheVariants as call
use Rattle.map_model.specs.declared.change.Effect.{Effect}
use Rattle.map_model.specs.declared.change.Effect.TheVariants.{Insert, Update, Remove}
use Rattle.map_model.specs.Legal.{IsInsert}
use Rattle.map_model.specs.Changes.{doing}
use Rattle.bucket_words.specs.Buckets.{value_in}
use Rattle.bucket_words.specs.TableChanges.{IsReadyAt}
use Rattle.world.specs.Ground.{Ground}
use Rattle.world.specs.Views.{Owed, View, HasLock}
use Rattle.world.specs.Kinds.{Kind, stashes}
use Rattle.world.specs.Conditions.{May}
use Rattle.world.specs.Holders.{FoundNone, KnowsBucket, TakesSlot}
use Rattle.world.proofs.holding.Holders.{may_place}
use Rattle.phase.specs.declared.role.Role.{Role}
use Rattle.phase.specs.declared.make.Make.{Make}
use Rattle.phase.specs.declared.make.Make.TheVariants.{Publish}
use Rattle.phase.specs.declared.kept.Kept.{Kept}
use Rattle.phase.specs.Places.{bucket_of_role}
use Rattle.phase.specs.Buckets.{words_in}
use Rattle.phase.specs.Makes.{brought, published_at}
use Rattle.phase.specs.Giving.{IsLocated, IsQuiet}
use Rattle.phase.specs.Knows.{Knows, HasNoneLoose}
use Rattle.phase.specs.Making.{make_kind, FitsSlot}
use Rattle.phase.specs.Finding.{HoldsBuckets}
use Rattle.phase.specs.AreWords.{AreWords}
use Rattle.phase.proofs.locks.Giving.{held_has}
use Rattle.phase.proofs.locks.Making.{make_knows}
use Rattle.phase.proofs.locks.Storing.{prepares_record}
use Rattle.phase.proofs.locks.Finding.{holders_find, prepared_nowhere}
use Rattle.stash_op.specs.declared.step.StashBucket.{StashBucket}
use Rattle.stash_op.specs.declared.step.StashBucket.TheVariants.{First, Second}
use Rattle.stash_op.specs.declared.step.Seen.{Seen}
use Rattle.stash_op.specs.Search.{place_of, index_of}
use Rattle.stash_op.specs.Steps.{lock_of}
use Rattle.stash_op.specs.Fits.{loaded, prepared, owed, publish_kind, IsHere, HasAll, IsChanging, IsIn}
use Rattle.stash_op.proofs.finding.Standing.{located, holds_for}
use Rattle.stash_op.proofs.finding.Chosen.{slot_low, value_is, published_is, mark_is, word_here, lock_is, fits_slot, stands_ready}

-- a stash bucket by its number
pub bucket_is : (hash : ℕ) (b : StashBucket) → bucket_of_role hash (place_of b) ≡ homes + index_of b
bucket_is hash First = refl
bucket_is hash Second = refl

pub far : (hash : ℕ) (b : StashBucket) → homes ≤ bucket_of_role hash (place_of b)
far hash First = omega arith
far hash Second = omega arith

pub index_low : (b : StashBucket) → index_of b < stash_buckets
index_low First = omega arith
index_low Second = omega arith

-- the call is an insert of its key
insert_by : (key : ℕ) (d : Effect) → IsInsert (doing key d) → doing key d ≡ call.Insert key (brought d)
insert_by key (Insert value) i = refl
insert_by key (Update value) i = absurd i
insert_by key Remove i = absurd i

-- ---- what is held
module _ (site : Ground) (kept : Kept) (is : IsIn site kept) (seen : Seen) (v : View) (a : HasAll site kept seen v) where
  pub located_all : IsLocated site kept.site kept.segment
  located_all = located site kept is a.there.within

  pub holds_all : (w : Words) → Knows (IsHere kept seen) w v → HoldsBuckets site kept.site kept.hash kept.segment seen.held w kept.change.key v
  holds_all w knows = holds_for site kept is seen v a.there a.leads a.locks a.home a.probing w knows

-- ---- the stores but the one
module _ (site : Ground) (kept : Kept) (is : IsIn site kept) (seen : Seen) (v : View) (m : Make) (c : IsChanging site kept seen m v) where
  has_lock : HasLock v.held (lock_of kept (place_of seen.bucket))
  has_lock = held_has kept.site kept.hash kept.segment seen.held (place_of seen.bucket) v c.all.locks c.all.bucket

  pub other_may : m ≢ Publish → May site (make_kind (publish_kind kept seen) (lock_of kept (place_of seen.bucket)) seen.written m) v
  other_may other = (make_knows (IsHere kept seen)).may site (publish_kind kept seen) kept.segment (bucket_of_role kept.hash (place_of seen.bucket)) (lock_of kept (place_of seen.bucket)) (finger_of kept.hash) seen.written
      (loaded kept seen) (prepared kept seen) m v
      (λ new. fits_slot site kept seen c.chosen (located_all site kept is seen v c.all)) has_lock (λ i under. (place_of seen.bucket, c.all.bucket, under)) c.making other

-- ---- the one
module _ (site : Ground) (kept : Kept) (is : IsIn site kept) (seen : Seen) (v : View) (c : IsChanging site kept seen Publish v) (words : (place : Role) → AreWords (words_in seen.buckets place)) where
  abbrev key : ℕ
  key = kept.change.key

  abbrev place : Role
  place = place_of seen.bucket

  abbrev b : ℕ
  b = bucket_of_role kept.hash place

  abbrev here : ℕ
  here = bucket_at site.shape kept.segment b

  abbrev lock : ℕ
  lock = lock_of kept place

  abbrev slot : ℕ
  slot = seen.written.slot

  abbrev meta : ℕ
  meta = slice_index (words_in seen.buckets place) 1

  abbrev word : Words
  word = prepared kept seen

  at : IsLocated site kept.site kept.segment
  at = located_all site kept is seen v c.all

  loose : HasNoneLoose v
  loose = (make_knows (IsHere kept seen)).settled lock seen.written (loaded kept seen) word v c.making

  quiet : IsQuiet v
  quiet = holders_find.quiet v loose c.planned c.all.still c.owes

  low : slot < record_slots
  low = slot_low site kept seen c.chosen

  lock_here : lock ≡ here
  lock_here = lock_is site kept seen c.chosen at

  fits : FitsSlot site.shape (loaded kept seen) kept.segment b lock seen.written (finger_of kept.hash)
  fits = fits_slot site kept seen c.chosen at

  holds : HoldsBuckets site kept.site kept.hash kept.segment seen.held word key v
  holds = holds_all site kept is seen v c.all word c.making.knows

  none : FoundNone site v word kept.segment key
  none = holders_find.none site kept.site kept.hash kept.segment seen.held word key v holds quiet
      (prepared_nowhere site.shape kept.hash kept.segment seen.held (loaded kept seen) key kept.segment b lock (finger_of kept.hash) seen.written fits c.all.nowhere)

  knows_here : KnowsBucket site.shape v kept.segment b word
  knows_here = holders_find.bucket site kept.site kept.hash kept.segment seen.held word key v holds loose place c.all.bucket

  ready : IsReadyAt site.shape word kept.segment b slot key
  ready = stands_ready site kept seen c.chosen at is

  value_there : value_in word here slot ≡ brought kept.change.effect
  value_there = ap (λ l. value_in word l slot) (sym lock_here)
      ∙ prepares_record.value site.shape (loaded kept seen) kept.segment b lock (finger_of kept.hash) seen.written fits
      ∙ value_is site kept seen c.chosen

  meta_there : word (here + 1) ≡ meta
  meta_there = ap (λ l. word (l + 1)) (sym lock_here)
      ∙ prepares_record.meta site.shape (loaded kept seen) kept.segment b lock (finger_of kept.hash) seen.written fits
      ∙ word_here site kept seen c.chosen at 1 (omega arith) (omega arith)

  takes : TakesSlot site.shape b slot key (word (here + 1)) (inserted_mark meta slot)
  takes =
      let t = takes_slot meta slot low in
      subst (λ w. TakesSlot site.shape b slot key w (inserted_mark meta slot)) (sym meta_there) (record {
        others = t.others;
        taken = t.taken;
        stands = inr (inr (far kept.hash seen.bucket));
        overflow = inserted_upper meta slot ((words place).small 1) low;
      })

  -- what is owed, by the key's hash
  abbrev owing : Shape → ℕ → Owed
  owing shape hash = record {
    segment = kept.segment;
    home = home_of hash;
    added = true;
    note = (finger_of hash, index_of seen.bucket);
    notes = notes_of shape word kept.segment (home_of hash);
    count = overflow_count (word_in shape word kept.segment (home_of hash) 1);
  }

  owed_is : owed kept seen ≡ owing site.shape (key_hash site.shape key)
  owed_is = ap (λ g. owing g kept.hash) is.shape ∙ ap (owing site.shape) is.hash

  place_is : published_at lock seen.written ≡ bucket_at site.shape kept.segment (homes + index_of seen.bucket) + 1
  place_is = ap (λ l. l + seen.written.published) lock_here ∙ ap (λ j. here + j) (published_is site kept seen c.chosen)
      ∙ ap (λ d. bucket_at site.shape kept.segment d + 1) (bucket_is kept.hash seen.bucket)

  kind_is : (i x : ℕ) → publish_kind kept seen i x ≡ stashes i x (call.Insert key (brought kept.change.effect)) (owing site.shape (key_hash site.shape key))
  kind_is i x = ap (λ (d : Call). stashes i x d (owed kept seen)) (insert_by key kept.change.effect is.insert) ∙ ap (λ o. stashes i x (call.Insert key (brought kept.change.effect)) o) owed_is

  pub publish_may : May site (publish_kind kept seen (published_at lock seen.written) seen.written.mark) v
  publish_may =
      let to = bucket_is kept.hash seen.bucket in
      subst (λ (k : Kind). May site k v)
      (sym (kind_is (published_at lock seen.written) seen.written.mark
      ∙ ap (λ i. stashes i seen.written.mark (call.Insert key (brought kept.change.effect)) (owing site.shape (key_hash site.shape key))) place_is
      ∙ ap (λ x. stashes (bucket_at site.shape kept.segment (homes + index_of seen.bucket) + 1) x (call.Insert key (brought kept.change.effect)) (owing site.shape (key_hash site.shape key))) (mark_is site kept seen c.chosen)))
      ((may_place site v).stash kept.segment (index_of seen.bucket) slot key (brought kept.change.effect) (inserted_mark meta slot) word none (index_low seen.bucket)
      (subst (λ (d : ℕ). KnowsBucket site.shape v kept.segment d word) to knows_here)
      (subst (λ (d : ℕ). IsReadyAt site.shape word kept.segment d slot key) to ready)
      (subst (λ (d : ℕ). value_in word (bucket_at site.shape kept.segment d) slot ≡ brought kept.change.effect) to value_there)
      (subst (λ (d : ℕ). TakesSlot site.shape d slot key (word (bucket_at site.shape kept.segment d + 1)) (inserted_mark meta slot)) to takes))
