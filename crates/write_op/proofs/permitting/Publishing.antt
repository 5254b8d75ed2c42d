-- The stores of the record are of kinds that the view may take; the one that makes the change makes it alone.
use Rattle.std.proofs.Common.{◌≡◌, ◌≢◌, ◌⊎◌, ℕ, ◌+◌, ◌*◌, ◌<◌, true, false, List, inl, inr, refl, sym, ap, ◌∙◌, subst, arith, slice_index}
use Rattle.hash_word.specs.Hash.{home_of, probing_of, finger_of}
use Rattle.bucket_meta.specs.Bucket.{record_slots, overflow_count}
use Rattle.bucket_meta.specs.Marks.{removed_mark}
use Rattle.bucket_meta.proofs.Marks.{takes_slot, takes_slot_as_member, frees_slot}
use Rattle.bucket_meta.proofs.fields.Uppers.{inserted_upper, member_upper, removed_upper}
use Rattle.trace.specs.Events.{Words}
use Rattle.image_layout.specs.Places.{Shape, bucket_at, homes, stash_buckets}
use Rattle.sound_image.specs.Records.{key_hash, notes_of, word_in}
use Rattle.map_model.specs.declared.call.Call.TheVariants as call
use Rattle.map_model.specs.declared.change.Effect.{Effect}
use Rattle.map_model.specs.declared.change.Effect.TheVariants.{Insert, Update, Remove}
use Rattle.map_model.specs.Changes.{doing}
use Rattle.bucket_words.specs.Buckets.{value_in}
use Rattle.bucket_words.specs.TableChanges.{IsReadyAt}
use Rattle.world.specs.Ground.{Ground}
use Rattle.world.specs.Views.{Owed, View, Has, HasLock}
use Rattle.world.specs.Kinds.{Kind, publishes, stashes}
use Rattle.world.specs.Conditions.{May, OwesNone}
use Rattle.world.specs.Holders.{FoundNone, FoundAt, TakesSlot, FreesSlot}
use Rattle.world.proofs.holding.Holders.{may_place, may_change, may_unstash_all}
use Rattle.phase.specs.declared.role.Role.{Role}
use Rattle.phase.specs.declared.role.Role.TheVariants.{Home, Probing, First, Second, Next, Previous}
use Rattle.phase.specs.declared.make.Record.{Record}
use Rattle.phase.specs.declared.make.Make.{Make}
use Rattle.phase.specs.declared.make.Make.TheVariants.{Publish}
use Rattle.phase.specs.Places.{bucket_of_role, stash_index}
use Rattle.phase.specs.Buckets.{words_in}
use Rattle.phase.specs.Makes.{brought, published_at}
use Rattle.phase.specs.Giving.{IsLocated, IsQuiet, IsOfHeld}
use Rattle.phase.specs.Knows.{Knows, HasNoneLoose}
use Rattle.phase.specs.Making.{make_kind, with_record, FitsSlot}
use Rattle.phase.specs.Finding.{HoldsBuckets}
use Rattle.phase.proofs.locks.Giving.{held_has}
use Rattle.phase.proofs.locks.Making.{make_knows}
use Rattle.phase.proofs.locks.Storing.{prepares_record}
use Rattle.phase.proofs.locks.Finding.{holders_find, prepared_nowhere}
use Rattle.write_op.specs.declared.step.Task.{Task}
use Rattle.write_op.specs.declared.step.Seen.{Seen}
use Rattle.write_op.specs.Search.{taken_mark, published_word, published_mark, leaves_note}
use Rattle.write_op.specs.Steps.{lock_of}
use Rattle.phase.specs.AreWords.{AreWords}
use Rattle.write_op.specs.Fits.{loaded, prepared_by, prepared, owed, publish_by, publish_kind, HasAll, IsInserting, IsChosen, IsChanging, IsIn}
use Rattle.write_op.proofs.keeping.Going.{located}
use Rattle.write_op.proofs.finding.Finding.{asked_held, nowhere, hits}
use Rattle.write_op.proofs.finding.Chosen.{spot as spot_of, is_spot, update_found, remove_found, room_free, place_held, slot_low, written_is, word_here, lock_is, fits_slot}

-- ---- what is known, for any words
module _ (site : Ground) (task : Task) (is : IsIn site task) (seen : Seen) (v : View) (a : HasAll site task seen v) where
  abbrev S : ℕ → Type 0
  S = IsOfHeld task.site task.hash seen.path.segment seen.held

  pub located_all : IsLocated site task.site seen.path.segment
  located_all = located site task is seen v.facts a.there

  pub holds_for : (w : Words) → Knows (IsOfHeld task.site task.hash seen.path.segment seen.held) w v
      → HoldsBuckets site task.site task.hash seen.path.segment seen.held w task.change.key v
  holds_for w knows = record {
    located = located_all;
    hashed = is.hash;
    there = a.there;
    leads = a.pinned.leads;
    locks = a.locks;
    home = asked_held seen a.upto Home refl;
    probing = asked_held seen a.upto Probing refl;
    knows = knows;
  }

-- ---- what is stored
module _ (site : Ground) (task : Task) (is : IsIn site task) (seen : Seen) (v : View) (a : HasAll site task seen v) (c : IsChosen site task seen) where
  abbrev lock : ℕ
  lock = lock_of task seen seen.place

  abbrev segment : ℕ
  segment = seen.path.segment

  abbrev b : ℕ
  b = bucket_of_role task.hash seen.place

  abbrev slot : ℕ
  slot = seen.written.slot

  -- the metadata word as it was loaded
  abbrev w1 : ℕ
  w1 = slice_index (words_in seen.buckets seen.place) 1

  pub key_is : seen.written.key ≡ task.change.key
  key_is = ap (λ (w : Record). w.key) (written_is site task seen a.upto c)

  pub value_is : (d : Effect) → task.change.effect ≡ d → seen.written.value ≡ brought d
  value_is d e = ap (λ (w : Record). w.value) (written_is site task seen a.upto c) ∙ ap brought e

  pub word_is : (d : Effect) → task.change.effect ≡ d → seen.written.published ≡ published_word d slot
  word_is d e = ap (λ (w : Record). w.published) (written_is site task seen a.upto c) ∙ ap (λ (z : Effect). published_word z slot) e

  pub mark_is : (d : Effect) → task.change.effect ≡ d → seen.written.mark ≡ published_mark d seen.place w1 slot
  mark_is d e = ap (λ (w : Record). w.mark) (written_is site task seen a.upto c) ∙ ap (λ (z : Effect). published_mark z seen.place w1 slot) e

  pub loaded_meta : loaded task seen (bucket_at site.shape segment b + 1) ≡ w1
  loaded_meta = ap (λ l. loaded task seen (l + 1)) (sym (lock_is site task seen a.upto c (located_all site task is seen v a)))
      ∙ word_here site task seen a.upto c (located_all site task is seen v a) 1 (omega arith) (omega arith)

  -- an insert's record is ready in its slot
  module _ (value : ℕ) (e : task.change.effect ≡ Insert value) where
    pub insert_fits : FitsSlot site.shape (loaded task seen) segment b lock seen.written (finger_of task.hash)
    insert_fits = fits_slot site task seen a.upto c (located_all site task is seen v a) value e

    pub insert_ready : IsReadyAt site.shape (with_record lock seen.written (loaded task seen)) segment b slot task.change.key
    insert_ready = subst (λ k. IsReadyAt site.shape (with_record lock seen.written (loaded task seen)) segment b slot k) key_is
        (prepares_record.ready site.shape (loaded task seen) segment b lock (finger_of task.hash) seen.written insert_fits
        (ap finger_of is.hash ∙ ap (λ k. finger_of (key_hash site.shape k)) (sym key_is)))

    pub insert_near : (seen.place ≡ Home) ⊎ (seen.place ≡ Probing)
    insert_near = (room_free site task seen a.upto c value e).near

    pub insert_mark : seen.written.mark ≡ taken_mark seen.place w1 slot
    insert_mark = mark_is (Insert value) e

-- ---- the stores but the one
module _ (site : Ground) (task : Task) (is : IsIn site task) (seen : Seen) (v : View) (m : Make) (c : IsChanging site task seen m v) where
  fits_by : (d : Effect) → task.change.effect ≡ d → IsInserting d
      → FitsSlot site.shape (loaded task seen) seen.path.segment (bucket_of_role task.hash seen.place) (lock_of task seen seen.place) seen.written (finger_of task.hash)
  fits_by (Insert value) e ins = fits_slot site task seen c.all.upto c.chosen (located_all site task is seen v c.all) value e
  fits_by (Update value) e ins = absurd ins
  fits_by Remove e ins = absurd ins

  has_lock : HasLock v.held (lock_of task seen seen.place)
  has_lock = held_has task.site task.hash seen.path.segment seen.held seen.place v c.all.locks (place_held site task seen c.all.upto c.chosen)

  pub other_may : m ≢ Publish → May site (make_kind (publish_kind task seen) (lock_of task seen seen.place) seen.written m) v
  other_may other = (make_knows (IsOfHeld task.site task.hash seen.path.segment seen.held)).may site (publish_kind task seen) seen.path.segment (bucket_of_role task.hash seen.place) (lock_of task seen seen.place) (finger_of task.hash) seen.written
      (loaded task seen) (prepared task seen) m v
      (λ new. fits_by task.change.effect refl (c.inserts new)) has_lock (λ i under. (seen.place, place_held site task seen c.all.upto c.chosen, under)) c.making other

-- ---- the one
module _ (site : Ground) (task : Task) (is : IsIn site task) (seen : Seen) (v : View) (c : IsChanging site task seen Publish v) (words : (place : Role) → AreWords (words_in seen.buckets place)) where
  abbrev key : ℕ
  key = task.change.key

  abbrev all : HasAll site task seen v
  all = c.all

  abbrev here : ℕ
  here = bucket_at site.shape seen.path.segment (bucket_of_role task.hash seen.place)

  abbrev meta : ℕ
  meta = slice_index (words_in seen.buckets seen.place) 1

  at : IsLocated site task.site seen.path.segment
  at = located_all site task is seen v all

  loose : HasNoneLoose v
  loose = (make_knows (IsOfHeld task.site task.hash seen.path.segment seen.held)).settled (lock_of task seen seen.place) seen.written (loaded task seen) (prepared task seen) v c.making

  quiet : IsQuiet v
  quiet = holders_find.quiet v loose c.planned all.still c.owes

  low : seen.written.slot < record_slots
  low = slot_low site task seen all.upto c.chosen

  knows : (d : Effect) → task.change.effect ≡ d → Knows (IsOfHeld task.site task.hash seen.path.segment seen.held) (prepared_by task seen d) v
  knows d e = subst (λ (z : Effect). Knows (IsOfHeld task.site task.hash seen.path.segment seen.held) (prepared_by task seen z) v) e c.making.knows

  lock_here : lock_of task seen seen.place ≡ here
  lock_here = lock_is site task seen all.upto c.chosen at

  -- the kind, by what the change does
  kind_is : (d : Effect) → task.change.effect ≡ d → (i x : ℕ) → leaves_note d seen.place ≡ false → publish_kind task seen i x ≡ publishes i x (doing key d)
  kind_is d e i x plain =
      ap (λ t. publish_by task seen t i x) (ap (λ (z : Effect). leaves_note z seen.place) e ∙ plain)
      ∙ ap (λ (z : Effect). publishes i x (doing key z)) e

  may_by : (d : Effect) → task.change.effect ≡ d → leaves_note d seen.place ≡ false → (i x : ℕ) → published_at (lock_of task seen seen.place) seen.written ≡ i → seen.written.mark ≡ x
      → May site (publishes i x (doing key d)) v → May site (publish_kind task seen (published_at (lock_of task seen seen.place) seen.written) seen.written.mark) v
  may_by d e plain i x place mark may =
      subst (λ (k : Kind). May site k v) (sym (kind_is d e (published_at (lock_of task seen seen.place) seen.written) seen.written.mark plain
      ∙ ap (λ j. publishes j seen.written.mark (doing key d)) place ∙ ap (λ y. publishes i y (doing key d)) mark)) may

  -- the metadata word is the second of the bucket
  meta_place : (d : Effect) → task.change.effect ≡ d → published_word d seen.written.slot ≡ 1 → published_at (lock_of task seen seen.place) seen.written ≡ here + 1
  meta_place d e one = ap (λ l. l + seen.written.published) lock_here ∙ ap (λ j. here + j) (word_is site task is seen v all c.chosen d e ∙ one)

  -- ---- an insert
  module _ (value : ℕ) (e : task.change.effect ≡ Insert value) where
    abbrev word : Words
    word = with_record (lock_of task seen seen.place) seen.written (loaded task seen)

    fits : FitsSlot site.shape (loaded task seen) seen.path.segment (bucket_of_role task.hash seen.place) (lock_of task seen seen.place) seen.written (finger_of task.hash)
    fits = insert_fits site task is seen v all c.chosen value e

    insert_holds : HoldsBuckets site task.site task.hash seen.path.segment seen.held word key v
    insert_holds = holds_for site task is seen v all word (knows (Insert value) e)

    insert_none : FoundNone site v word seen.path.segment key
    insert_none = holders_find.none site task.site task.hash seen.path.segment seen.held word key v insert_holds quiet
        (prepared_nowhere site.shape task.hash seen.path.segment seen.held (loaded task seen) key seen.path.segment (bucket_of_role task.hash seen.place) (lock_of task seen seen.place) (finger_of task.hash) seen.written fits
        (nowhere site task seen at all.upto all.visits (is_spot site task seen all.upto c.chosen (Insert value) e).0))

    insert_value : value_in word here seen.written.slot ≡ value
    insert_value = ap (λ l. value_in word l seen.written.slot) (sym lock_here)
        ∙ prepares_record.value site.shape (loaded task seen) seen.path.segment (bucket_of_role task.hash seen.place) (lock_of task seen seen.place) (finger_of task.hash) seen.written fits
        ∙ value_is site task is seen v all c.chosen (Insert value) e

    word_meta : word (here + 1) ≡ meta
    word_meta = ap (λ l. word (l + 1)) (sym lock_here)
        ∙ prepares_record.meta site.shape (loaded task seen) seen.path.segment (bucket_of_role task.hash seen.place) (lock_of task seen seen.place) (finger_of task.hash) seen.written fits
        ∙ word_here site task seen all.upto c.chosen at 1 (omega arith) (omega arith)

    -- in the home bucket it has no membership bit, and in the probing bucket it has
    abbrev Takes : Role → Type 0
    Takes p = TakesSlot site.shape (bucket_of_role task.hash p) seen.written.slot key meta (taken_mark p meta seen.written.slot)

    takes_home : Takes Home
    takes_home =
        let t = takes_slot meta seen.written.slot low in
        record { others = t.others; taken = t.taken; stands = inl (ap home_of is.hash, t.at_home); overflow = inserted_upper meta seen.written.slot ((words seen.place).small 1) low }

    takes_probing : Takes Probing
    takes_probing =
        let t = takes_slot_as_member meta seen.written.slot low in
        record {
          others = t.others;
          taken = t.taken;
          stands = inr (inl (ap (λ h. probing_of (home_of h)) is.hash, t.is_member));
          overflow = member_upper meta seen.written.slot ((words seen.place).small 1) low;
        }

    takes_near : (p : Role) → (p ≡ Home) ⊎ (p ≡ Probing) → Takes p
    takes_near p (inl home) = subst Takes (sym home) takes_home
    takes_near p (inr probing) = subst Takes (sym probing) takes_probing

    insert_takes : TakesSlot site.shape (bucket_of_role task.hash seen.place) seen.written.slot key (word (here + 1)) (taken_mark seen.place meta seen.written.slot)
    insert_takes = subst (λ w. TakesSlot site.shape (bucket_of_role task.hash seen.place) seen.written.slot key w (taken_mark seen.place meta seen.written.slot)) (sym word_meta)
        (takes_near seen.place (insert_near site task is seen v all c.chosen value e))

    bucket_low : (p : Role) → (p ≡ Home) ⊎ (p ≡ Probing) → bucket_of_role task.hash p < homes
    bucket_low p (inl home) = subst (λ (q : Role). bucket_of_role task.hash q < homes) (sym home) (omega arith)
    bucket_low p (inr probing) = subst (λ (q : Role). bucket_of_role task.hash q < homes) (sym probing) (omega arith)

    insert_may : May site (publish_kind task seen (published_at (lock_of task seen seen.place) seen.written) seen.written.mark) v
    insert_may = may_by (Insert value) e refl (here + 1) (taken_mark seen.place meta seen.written.slot) (meta_place (Insert value) e refl) (insert_mark site task is seen v all c.chosen value e)
        ((may_place site v).insert seen.path.segment (bucket_of_role task.hash seen.place) seen.written.slot key value (taken_mark seen.place meta seen.written.slot) word insert_none
        (bucket_low seen.place (insert_near site task is seen v all c.chosen value e))
        (holders_find.bucket site task.site task.hash seen.path.segment seen.held word key v insert_holds loose seen.place (place_held site task seen all.upto c.chosen))
        (insert_ready site task is seen v all c.chosen value e) insert_value insert_takes)

  -- ---- an update
  update_may : (value : ℕ) → task.change.effect ≡ Update value → May site (publish_kind task seen (published_at (lock_of task seen seen.place) seen.written) seen.written.mark) v
  update_may value e =
      let f = update_found site task seen all.upto c.chosen value e in
      let spot = spot_of site task seen all.upto c.chosen in
      let there : FoundAt site v (loaded task seen) seen.path.segment (bucket_of_role task.hash seen.place) seen.written.slot key =
      holders_find.at site task.site task.hash seen.path.segment seen.held (loaded task seen) key v (holds_for site task is seen v all (loaded task seen) (knows (Update value) e)) quiet
      seen.place (place_held site task seen all.upto c.chosen) seen.written.slot (hits site task seen at all.upto all.visits spot f) in
      may_by (Update value) e refl (here + 5 + 2 * seen.written.slot) value
      (ap (λ l. l + seen.written.published) lock_here ∙ ap (λ j. here + j) (word_is site task is seen v all c.chosen (Update value) e) ∙ omega arith)
      (mark_is site task is seen v all c.chosen (Update value) e)
      ((may_change site v).update seen.path.segment (bucket_of_role task.hash seen.place) seen.written.slot key value (loaded task seen) there)

  -- ---- a remove
  module _ (e : task.change.effect ≡ Remove) where
    remove_there : FoundAt site v (loaded task seen) seen.path.segment (bucket_of_role task.hash seen.place) seen.written.slot key
    remove_there = holders_find.at site task.site task.hash seen.path.segment seen.held (loaded task seen) key v (holds_for site task is seen v all (loaded task seen) (knows Remove e)) quiet
        seen.place (place_held site task seen all.upto c.chosen) seen.written.slot
        (hits site task seen at all.upto all.visits (spot_of site task seen all.upto c.chosen) (remove_found site task seen all.upto c.chosen e))

    remove_mark : seen.written.mark ≡ removed_mark meta seen.written.slot
    remove_mark = mark_is site task is seen v all c.chosen Remove e

    remove_frees : FreesSlot seen.written.slot (loaded task seen (here + 1)) (removed_mark meta seen.written.slot)
    remove_frees =
        let t = frees_slot meta seen.written.slot low in
        subst (λ w. FreesSlot seen.written.slot w (removed_mark meta seen.written.slot)) (sym (loaded_meta site task is seen v all c.chosen)) (record {
          others = t.others;
          free = t.is_free;
          overflow = removed_upper meta seen.written.slot ((words seen.place).small 1) low;
        })

    -- from the home or the probing bucket
    plain_may : leaves_note Remove seen.place ≡ false → bucket_of_role task.hash seen.place < homes
        → May site (publish_kind task seen (published_at (lock_of task seen seen.place) seen.written) seen.written.mark) v
    plain_may plain near = may_by Remove e plain (here + 1) (removed_mark meta seen.written.slot) (meta_place Remove e refl) remove_mark
        ((may_change site v).remove seen.path.segment (bucket_of_role task.hash seen.place) seen.written.slot key (removed_mark meta seen.written.slot) (loaded task seen) remove_there near remove_frees)

    -- from the stash
    abbrev owing : Shape → ℕ → ℕ → Owed
    owing shape hash i = record {
      segment = seen.path.segment;
      home = home_of hash;
      added = false;
      note = (finger_of hash, i);
      notes = notes_of shape (loaded task seen) seen.path.segment (home_of hash);
      count = overflow_count (word_in shape (loaded task seen) seen.path.segment (home_of hash) 1);
    }

    module _ (i : ℕ) (stash : bucket_of_role task.hash seen.place ≡ homes + i) (near : i < stash_buckets) (is_index : stash_index seen.place ≡ i) (leaves : leaves_note Remove seen.place ≡ true) where
      owed_is : owed task seen ≡ owing site.shape (key_hash site.shape key) i
      owed_is = ap (λ g. owing g task.hash (stash_index seen.place)) is.shape ∙ ap (λ h. owing site.shape h (stash_index seen.place)) is.hash ∙ ap (owing site.shape (key_hash site.shape key)) is_index

      stash_kind : (j x : ℕ) → publish_kind task seen j x ≡ stashes j x (call.Remove key) (owing site.shape (key_hash site.shape key) i)
      stash_kind j x =
          ap (λ t. publish_by task seen t j x) (ap (λ (z : Effect). leaves_note z seen.place) e ∙ leaves)
          ∙ ap (λ (z : Effect). stashes j x (doing key z) (owed task seen)) e
          ∙ ap (λ o. stashes j x (call.Remove key) o) owed_is

      stash_there : FoundAt site v (loaded task seen) seen.path.segment (homes + i) seen.written.slot key
      stash_there = subst (λ b. FoundAt site v (loaded task seen) seen.path.segment b seen.written.slot key) stash remove_there

      stash_place : published_at (lock_of task seen seen.place) seen.written ≡ bucket_at site.shape seen.path.segment (homes + i) + 1
      stash_place = meta_place Remove e refl ∙ ap (λ b. bucket_at site.shape seen.path.segment b + 1) stash

      owes_none : OwesNone site v seen.path.segment (home_of (key_hash site.shape key))
      owes_none o has s h = subst (λ (l : List Owed). Has o l) c.owes has

      stash_may : May site (publish_kind task seen (published_at (lock_of task seen seen.place) seen.written) seen.written.mark) v
      stash_may = subst (λ (k : Kind). May site k v)
          (sym (stash_kind (published_at (lock_of task seen seen.place) seen.written) seen.written.mark
          ∙ ap (λ j. stashes j seen.written.mark (call.Remove key) (owing site.shape (key_hash site.shape key) i)) stash_place
          ∙ ap (λ x. stashes (bucket_at site.shape seen.path.segment (homes + i) + 1) x (call.Remove key) (owing site.shape (key_hash site.shape key) i)) remove_mark))
          ((may_unstash_all site v).remove seen.path.segment i seen.written.slot key (removed_mark meta seen.written.slot) (loaded task seen) stash_there owes_none near
          (subst (λ b. FreesSlot seen.written.slot (loaded task seen (bucket_at site.shape seen.path.segment b + 1)) (removed_mark meta seen.written.slot)) stash remove_frees))

    remove_by : (p : Role) → seen.place ≡ p → May site (publish_kind task seen (published_at (lock_of task seen seen.place) seen.written) seen.written.mark) v
    remove_by Home same = plain_may (ap (leaves_note Remove) same) (subst (λ (p : Role). bucket_of_role task.hash p < homes) (sym same) (omega arith))
    remove_by Probing same = plain_may (ap (leaves_note Remove) same) (subst (λ (p : Role). bucket_of_role task.hash p < homes) (sym same) (omega arith))
    remove_by First same = stash_may 0 (ap (bucket_of_role task.hash) same) (omega arith) (ap stash_index same) (ap (leaves_note Remove) same)
    remove_by Next same = plain_may (ap (leaves_note Remove) same) (subst (λ (p : Role). bucket_of_role task.hash p < homes) (sym same) (omega arith))
    remove_by Previous same = plain_may (ap (leaves_note Remove) same) (subst (λ (p : Role). bucket_of_role task.hash p < homes) (sym same) (omega arith))
    remove_by Second same = stash_may 1 (ap (bucket_of_role task.hash) same) (omega arith) (ap stash_index same) (ap (leaves_note Remove) same)

  publish_by_deed : (d : Effect) → task.change.effect ≡ d → May site (publish_kind task seen (published_at (lock_of task seen seen.place) seen.written) seen.written.mark) v
  publish_by_deed (Insert value) e = insert_may value e
  publish_by_deed (Update value) e = update_may value e
  publish_by_deed Remove e = remove_by e seen.place refl

  pub publish_may : May site (publish_kind task seen (published_at (lock_of task seen seen.place) seen.written) seen.written.mark) v
  publish_may = publish_by_deed task.change.effect refl
