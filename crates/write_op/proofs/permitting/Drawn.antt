-- The draw of a change is of a kind that the view may take.
use Rattle.std.proofs.Common.{◌≡◌, ◌⊎◌, ℕ, ◌+◌, ◌*◌, ◌/◌, ◌^◌, ◌<◌, Bool, true, false, List, inl, inr, refl, sym, ap, ◌∙◌, subst, arith, slice_index}
use Rattle.hash_word.specs.Hash.{home_of}
use Rattle.bucket_meta.specs.Bucket.{allocated, record_slots, overflow_count}
use Rattle.bucket_meta.proofs.Marks.{takes_slot, takes_slot_as_member}
use Rattle.bucket_meta.proofs.fields.Uppers.{removed_upper}
use Rattle.trace.specs.Events.{with_word}
use Rattle.image_layout.specs.Places.{bucket_at}
use Rattle.sound_image.specs.Records.{notes_of, word_in}
use Rattle.map_model.specs.declared.call.Call.{Call}
use Rattle.map_model.specs.declared.change.Effect.{Effect}
use Rattle.map_model.specs.declared.change.Effect.TheVariants.{Insert, Update, Remove}
use Rattle.map_model.specs.Changes.{doing, call_of}
use Rattle.bucket_words.specs.Hits.{Hit}
use Rattle.world.specs.Ground.{Ground}
use Rattle.world.specs.Views.{Owed, View, Has}
use Rattle.world.specs.Kinds.{draws_place}
use Rattle.world.specs.Conditions.{May}
use Rattle.world.specs.Holders.{DrawsWell, KnowsBucket, OwesAsKnown}
use Rattle.world.proofs.holding.Drawing.{may_draw}
use Rattle.phase.specs.declared.role.Role.{Role}
use Rattle.phase.specs.declared.role.Role.TheVariants.{Home, Probing}
use Rattle.phase.specs.Places.{bucket_of_role}
use Rattle.phase.specs.Buckets.{words_in}
use Rattle.phase.specs.Giving.{IsLocated}
use Rattle.phase.specs.Finding.{HoldsBuckets, SparesStash}
use Rattle.phase.specs.Making.{with_record, with_mark}
use Rattle.phase.proofs.locks.Giving.{bucket_near}
use Rattle.phase.proofs.Handing.{key_done}
use Rattle.phase.proofs.locks.Finding.{holders_find, publish_tells}
use Rattle.write_op.specs.declared.step.Task.{Task}
use Rattle.write_op.specs.declared.step.Seen.{Seen}
use Rattle.write_op.specs.Search.{taken_mark, leaves_note, published_word}
use Rattle.write_op.specs.Steps.{lock_of}
use Rattle.phase.specs.AreWords.{AreWords}
use Rattle.write_op.specs.Fits.{loaded, prepared_by, changed, owed, owed_by, IsDrawing, IsIn}
use Rattle.write_op.proofs.finding.Finding.{spares, hits}
use Rattle.write_op.proofs.finding.Chosen.{spot as spot_of, update_found, place_held, slot_low, lock_is}
use Rattle.write_op.proofs.permitting.Publishing.{located_all, holds_for, word_is, mark_is, loaded_meta, insert_ready, insert_near, insert_mark}

module _ (site : Ground) (task : Task) (is : IsIn site task) (seen : Seen) (v : View) (d : IsDrawing site task seen v) (words : (place : Role) → AreWords (words_in seen.buckets place)) where
  abbrev key : ℕ
  key = task.change.key

  abbrev lock : ℕ
  lock = lock_of task seen seen.place

  abbrev b : ℕ
  b = bucket_of_role task.hash seen.place

  abbrev here : ℕ
  here = bucket_at site.shape seen.path.segment b

  abbrev slot : ℕ
  slot = seen.written.slot

  abbrev meta : ℕ
  meta = slice_index (words_in seen.buckets seen.place) 1

  at : IsLocated site task.site seen.path.segment
  at = located_all site task is seen v d.all

  low : slot < record_slots
  low = slot_low site task seen d.all.upto d.chosen

  holds : HoldsBuckets site task.site task.hash seen.path.segment seen.held (changed task seen) key v
  holds = holds_for site task is seen v d.all (changed task seen) d.knows

  -- what is owed is the note of a record that left
  none_came : (o : Owed) (b : Bool) → Has o (owed_by site task seen b) → o.added ≡ false
  none_came o true has = elim has [ inl e ↦ ap (λ (z : Owed). z.added) e | inr none ↦ absurd none ]
  none_came o false has = absurd has

  draws : (z : Effect) → task.change.effect ≡ z → DrawsWell site v (doing key z) seen.path.segment (changed task seen)
  draws z e = holders_find.draw site task.site task.hash seen.path.segment seen.held (changed task seen) (doing key z) v
      (subst (λ k. HoldsBuckets site task.site task.hash seen.path.segment seen.held (changed task seen) k v) (sym (key_done key z)) holds) d.settled
      (subst (λ (calls : List Call). Has (doing key z) calls) (sym d.planned) (inl (ap (doing key) (sym e)))) d.room (λ o has. none_came o (leaves_note task.change.effect seen.place) (subst (λ (owed : List Owed). Has o owed) d.owes has))

  knows_here : KnowsBucket site.shape v seen.path.segment b (changed task seen)
  knows_here = holders_find.bucket site task.site task.hash seen.path.segment seen.held (changed task seen) key v holds d.settled seen.place (place_held site task seen d.all.upto d.chosen)

  -- the words after the store, by where it was
  changed_is : (z : Effect) → task.change.effect ≡ z → (i : ℕ) → here + published_word z slot ≡ i → changed task seen ≡ with_word (prepared_by task seen z) i seen.written.mark
  changed_is z e i place =
      ap (λ (y : Effect). with_mark lock seen.written (prepared_by task seen y)) e
      ∙ ap (λ j. with_word (prepared_by task seen z) j seen.written.mark)
      (ap (λ l. l + seen.written.published) (lock_is site task seen d.all.upto d.chosen at) ∙ ap (λ j. here + j) (word_is site task is seen v d.all d.chosen z e) ∙ place)

  -- the record is shown
  shown_may : (z : Effect) → task.change.effect ≡ z → Hit site.shape (changed task seen) seen.path.segment b slot key → May site (draws_place (doing key z)) v
  shown_may z e hit = (may_draw site v).shown (doing key z) seen.path.segment b slot (changed task seen) (draws z e) knows_here
      (subst (λ k. Hit site.shape (changed task seen) seen.path.segment b slot k) (sym (key_done key z)) hit) d.all.still
      (holders_find.kept site task.site task.hash seen.path.segment seen.held (changed task seen) key v holds d.settled)

  taken_near : (p : Role) → (p ≡ Home) ⊎ (p ≡ Probing) → allocated slot (taken_mark p meta slot) ≡ 1
  taken_near p (inl home) = ap (λ (q : Role). allocated slot (taken_mark q meta slot)) home ∙ (takes_slot meta slot low).taken
  taken_near p (inr probing) = ap (λ (q : Role). allocated slot (taken_mark q meta slot)) probing ∙ (takes_slot_as_member meta slot low).taken

  insert_hit : (value : ℕ) → task.change.effect ≡ Insert value → Hit site.shape (changed task seen) seen.path.segment b slot key
  insert_hit value e = subst (λ w. Hit site.shape w seen.path.segment b slot key) (sym (changed_is (Insert value) e (here + 1) refl))
      (publish_tells.taken site.shape (with_record lock seen.written (loaded task seen)) seen.path.segment b slot key seen.written.mark (insert_ready site task is seen v d.all d.chosen value e)
      (ap (allocated slot) (insert_mark site task is seen v d.all d.chosen value e) ∙ taken_near seen.place (insert_near site task is seen v d.all d.chosen value e)))

  update_hit : (value : ℕ) → task.change.effect ≡ Update value → Hit site.shape (changed task seen) seen.path.segment b slot key
  update_hit value e = subst (λ w. Hit site.shape w seen.path.segment b slot key) (sym (changed_is (Update value) e (here + 5 + 2 * slot) (omega arith)))
      (publish_tells.valued site.shape (loaded task seen) seen.path.segment b slot key seen.written.mark
      (hits site task seen at d.all.upto d.all.visits (spot_of site task seen d.all.upto d.chosen) (update_found site task seen d.all.upto d.chosen value e)))

  -- the record is gone
  module _ (e : task.change.effect ≡ Remove) where
    upper : seen.written.mark / 2 ^ 28 ≡ loaded task seen (here + 1) / 2 ^ 28
    upper = ap (λ x. x / 2 ^ 28) (mark_is site task is seen v d.all d.chosen Remove e) ∙ removed_upper meta slot ((words seen.place).small 1) low
        ∙ ap (λ x. x / 2 ^ 28) (sym (loaded_meta site task is seen v d.all d.chosen))

    gone : changed task seen ≡ with_word (loaded task seen) (here + 1) seen.written.mark
    gone = changed_is Remove e (here + 1) refl

    spares_gone : SparesStash site.shape task.hash seen.path.segment seen.held (changed task seen)
    spares_gone = subst (SparesStash site.shape task.hash seen.path.segment seen.held) (sym gone)
        (publish_tells.spared site.shape task.hash seen.path.segment seen.held (loaded task seen) seen.path.segment b seen.written.mark (bucket_near task.hash seen.place) upper
        (spares site task seen at d.all.upto d.all.visits))

    owes_by : (t : Bool) → leaves_note task.change.effect seen.place ≡ t → OwesAsKnown site v (changed task seen) seen.path.segment (home_of task.hash)
    owes_by false none = inl (λ o has s h. subst (λ (l : List Owed). Has o l) (d.owes ∙ ap (owed_by site task seen) none) has)
    owes_by true some = subst (λ w. OwesAsKnown site v w seen.path.segment (home_of task.hash)) (sym gone)
        (publish_tells.owed site v (loaded task seen) seen.path.segment b (home_of task.hash) seen.written.mark (owed task seen) (bucket_near task.hash seen.place) (omega arith) upper
        (subst (λ (l : List Owed). Has (owed task seen) l) (sym (d.owes ∙ ap (owed_by site task seen) some)) (inl refl)) refl refl refl
        (ap (λ g. notes_of g (loaded task seen) seen.path.segment (home_of task.hash)) is.shape)
        (ap (λ g. overflow_count (word_in g (loaded task seen) seen.path.segment (home_of task.hash) 1)) is.shape))

    remove_may : May site (draws_place (doing key Remove)) v
    remove_may = (may_draw site v).unnoted (doing key Remove) seen.path.segment (changed task seen) (draws Remove e)
        (subst (λ h. OwesAsKnown site v (changed task seen) seen.path.segment (home_of h)) is.hash (owes_by (leaves_note task.change.effect seen.place) refl))
        (holders_find.spared site task.site task.hash seen.path.segment seen.held (changed task seen) key v holds d.settled spares_gone)

  draw_by : (z : Effect) → task.change.effect ≡ z → May site (draws_place (doing key z)) v
  draw_by (Insert value) e = shown_may (Insert value) e (insert_hit value e)
  draw_by (Update value) e = shown_may (Update value) e (update_hit value e)
  draw_by Remove e = remove_may e

  pub draw_may : May site (draws_place (call_of task.change)) v
  draw_may = draw_by task.change.effect refl
