-- The key of the insert stands nowhere at each store of a shift, up to the one by which the new record counts.
use Rattle.std.proofs.Common.{◌≡◌, ◌≢◌, ℕ, ◌+◌, ◌*◌, ◌/◌, ◌^◌, ◌<◌, ◌≤◌, true, false, inl, inr, refl, sym, ap, ◌∙◌, subst, arith, slice_index}
use Rattle.std.proofs.lemmas.Bool.{cases_eq}
use Rattle.hash_word.specs.Hash.{home_of, finger_of}
use Rattle.bucket_meta.specs.Bucket.{allocated, overflow_count}
use Rattle.bucket_meta.specs.Notes.{how_often}
use Rattle.bucket_meta.specs.Marks.{removed_mark}
use Rattle.bucket_meta.proofs.Marks.{frees_slot}
use Rattle.bucket_meta.proofs.fields.Uppers.{removed_upper}
use Rattle.trace.specs.Events.{Words, with_word}
use Rattle.bucket_words.specs.Hits.{Hit}
use Rattle.bucket_words.specs.HomeNotes.{IsUnnoted}
use Rattle.bucket_words.proofs.segments.Noted.{notes_same}
use Rattle.world.specs.Ground.{Ground}
use Rattle.phase.specs.declared.role.Role.{Role}
use Rattle.phase.specs.declared.role.Role.TheVariants.{Home, Probing}
use Rattle.phase.specs.declared.held.Held.{Held}
use Rattle.phase.specs.declared.kept.Kept.{Kept}
use Rattle.phase.specs.Places.{bucket_of_role, is_third}
use Rattle.phase.specs.Asked.{index}
use Rattle.phase.specs.Buckets.{words_in}
use Rattle.phase.specs.Giving.{IsLocated}
use Rattle.phase.specs.Finding.{SparesStash, StandsNowhere}
use Rattle.phase.specs.Keeps.{kept_words}
use Rattle.phase.specs.AreWords.{AreWords}
use Rattle.phase.proofs.asking.Asked.{cases_place}
use Rattle.phase.proofs.locks.Giving.{bucket_near}
use Rattle.phase.proofs.locks.Finding.{prepared_nowhere, publish_tells}
use Rattle.move_op.specs.declared.step.Direction.{Direction}
use Rattle.move_op.specs.declared.step.Direction.TheVariants.{Forward, Backward}
use Rattle.move_op.specs.declared.step.Shift.{Shift}
use Rattle.move_op.specs.Shifts.{source_of, target_of, shift_at}
use Rattle.move_op.specs.Steps.{lock_of}
use Rattle.move_op.specs.Fits.{with_copy, with_clearing, with_insert_ready, CanMove}
use Rattle.move_op.proofs.shifting.Beside.{key_place, at, at_is, kept_at, marked_beside}
use Rattle.move_op.proofs.shifting.Stored.{leaves, copy_beside, clear_meta, clear_rest, insert_fits}

-- a third bucket is none where the key may stand
pub not_third : (d : Direction) (place : Role) → is_third place ≡ false → place ≢ target_of d
not_third Forward place near e = absurd (let f : true ≡ false = sym (ap is_third e) ∙ near in cc)
not_third Backward place near e = absurd (let f : true ≡ false = sym (ap is_third e) ∙ near in cc)

-- words that are as others in all buckets but the third ones
module _ (site : Ground) (kept : Kept) (l : IsLocated site kept.site kept.segment) (held : Held) (word other : Words)
    (same : (place : Role) → is_third place ≡ false → (j : ℕ) → 1 ≤ j → j < 32 → other (at site kept l place + j) ≡ word (at site kept l place + j)) where
  hits_same : (place : Role) → is_third place ≡ false → (t k : ℕ) → Hit site.shape other kept.segment (bucket_of_role kept.hash place) t k → Hit site.shape word kept.segment (bucket_of_role kept.hash place) t k
  hits_same place near t k h = let low = h.slot in record {
    segment = h.segment;
    bucket = h.bucket;
    slot = h.slot;
    taken = ap (allocated t) (sym (same place near 1 (omega arith) (omega arith))) ∙ h.taken;
    key = ap word (key_place (at site kept l place) t) ∙ sym (same place near (4 + 2 * t) (omega arith) (omega (arith, low))) ∙ sym (ap other (key_place (at site kept l place) t)) ∙ h.key;
  }

  unnoted_same : (f c : ℕ) → IsUnnoted site.shape word kept.segment (home_of kept.hash) f c → IsUnnoted site.shape other kept.segment (home_of kept.hash) f c
  unnoted_same f c u = record {
    none = ap (how_often (f, c)) (notes_same site.shape word other kept.segment (home_of kept.hash)
        (λ n some low. same Home refl n some (omega (arith, low))) (λ n some low. same Probing refl n some (omega (arith, low)))) ∙ u.none;
    counted = ap overflow_count (same Home refl 1 (omega arith) (omega arith)) ∙ u.counted;
  }

  pub same_nowhere : (k : ℕ) → StandsNowhere site.shape kept.hash kept.segment held word k → StandsNowhere site.shape kept.hash kept.segment held other k
  same_nowhere k n = record {
    places = λ place is near t h. n.places place is near t (hits_same place near t k h);
    stash = record {
      first = λ e. unnoted_same (finger_of kept.hash) 0 (n.stash.first e);
      second = λ e. unnoted_same (finger_of kept.hash) 1 (n.stash.second e);
    };
  }

-- ---- at each store
module _ (site : Ground) (kept : Kept) (d : Direction) (from to : ℕ) (l : IsLocated site kept.site kept.segment) (can : CanMove site kept d from to) (all : (place : Role) → AreWords (words_in kept.buckets place)) where
  abbrev shift : Shift
  shift = shift_at kept d from to

  abbrev b : ℕ
  b = bucket_of_role kept.hash (source_of d)

  abbrev from_lock : ℕ
  from_lock = lock_of kept (source_of d)

  abbrev w1 : ℕ
  w1 = slice_index (words_in kept.buckets (source_of d)) 1

  copy_nowhere : (k : ℕ) → StandsNowhere site.shape kept.hash kept.segment kept.held (kept_words kept) k → StandsNowhere site.shape kept.hash kept.segment kept.held (with_copy kept shift) k
  copy_nowhere = same_nowhere site kept l kept.held (kept_words kept) (with_copy kept shift)
      (λ place near j some low. copy_beside site kept d from to l can all place j (not_third d place near) some low ∙ sym (kept_at site kept l place j some low))

  -- a record that stands in the source then stood there before
  there : (j : ℕ) → 2 ≤ j → j < 32 → with_clearing kept shift (at site kept l (source_of d) + j) ≡ with_copy kept shift (at site kept l (source_of d) + j)
  there j some low =
      ap (λ z. with_clearing kept shift (z + j)) (sym (at_is site kept l (source_of d)))
      ∙ clear_rest site kept d from to l can all j some low
      ∙ sym (copy_beside site kept d from to l can all (source_of d) j (leaves d) (omega (arith, some)) low)

  meta_there : with_clearing kept shift (at site kept l (source_of d) + 1) ≡ removed_mark w1 from
  meta_there = ap (λ z. with_clearing kept shift (z + 1)) (sym (at_is site kept l (source_of d))) ∙ clear_meta site kept d from to l can all

  meta_before : with_copy kept shift (at site kept l (source_of d) + 1) ≡ w1
  meta_before = copy_beside site kept d from to l can all (source_of d) 1 (leaves d) (omega arith) (omega arith)

  taken_before : (t : ℕ) → t < 14 → allocated t (removed_mark w1 from) ≡ 1 → allocated t w1 ≡ 1
  taken_before t low taken = elim (cases_eq t from) [
    | inl e ↦ absurd (let off = (frees_slot w1 from can.from_low).is_free in let on : allocated from (removed_mark w1 from) ≡ 1 = subst (λ z. allocated z (removed_mark w1 from) ≡ 1) e taken in omega (arith, off, on))
    | inr n ↦ sym ((frees_slot w1 from can.from_low).others.taken t low n) ∙ taken
  ]

  source_hits : (t k : ℕ) → Hit site.shape (with_clearing kept shift) kept.segment b t k → Hit site.shape (with_copy kept shift) kept.segment b t k
  source_hits t k h = let low = h.slot in record {
    segment = h.segment;
    bucket = h.bucket;
    slot = h.slot;
    taken = ap (allocated t) meta_before ∙ taken_before t low (ap (allocated t) (sym meta_there) ∙ h.taken);
    key = ap (with_copy kept shift) (key_place (at site kept l (source_of d)) t) ∙ sym (there (4 + 2 * t) (omega arith) (omega (arith, low)))
        ∙ sym (ap (with_clearing kept shift) (key_place (at site kept l (source_of d)) t)) ∙ h.key;
  }

  other_hits : (place : Role) → place ≢ source_of d → (t k : ℕ) → Hit site.shape (with_clearing kept shift) kept.segment (bucket_of_role kept.hash place) t k
      → Hit site.shape (with_copy kept shift) kept.segment (bucket_of_role kept.hash place) t k
  other_hits place differ t k h =
      let low = h.slot in
      let beside = marked_beside site kept l (source_of d) shift.clearing refl (with_copy kept shift) place in
      record {
        segment = h.segment;
        bucket = h.bucket;
        slot = h.slot;
        taken = ap (allocated t) (sym (beside 1 differ (omega arith))) ∙ h.taken;
        key = ap (with_copy kept shift) (key_place (at site kept l place) t) ∙ sym (beside (4 + 2 * t) differ (omega (arith, low)))
            ∙ sym (ap (with_clearing kept shift) (key_place (at site kept l place) t)) ∙ h.key;
      }

  clear_hits : (place : Role) (t k : ℕ) → Hit site.shape (with_clearing kept shift) kept.segment (bucket_of_role kept.hash place) t k
      → Hit site.shape (with_copy kept shift) kept.segment (bucket_of_role kept.hash place) t k
  clear_hits place t k h = elim (cases_place place (source_of d)) [
    | inl e ↦ subst (λ (p : Role). Hit site.shape (with_copy kept shift) kept.segment (bucket_of_role kept.hash p) t k) (sym e)
        (source_hits t k (subst (λ (p : Role). Hit site.shape (with_clearing kept shift) kept.segment (bucket_of_role kept.hash p) t k) e h))
    | inr n ↦ other_hits place (λ e. n (ap index e)) t k h
  ]

  clear_nowhere : (k : ℕ) → StandsNowhere site.shape kept.hash kept.segment kept.held (kept_words kept) k → StandsNowhere site.shape kept.hash kept.segment kept.held (with_clearing kept shift) k
  clear_nowhere k n =
      let m = copy_nowhere k n in
      record {
        places = λ place is near t h. m.places place is near t (clear_hits place t k h);
        stash = subst (λ z. SparesStash site.shape kept.hash kept.segment kept.held (with_word (with_copy kept shift) (z + 1) shift.clearing.mark)) (sym (at_is site kept l (source_of d)))
            (publish_tells.spared site.shape kept.hash kept.segment kept.held (with_copy kept shift) kept.segment b shift.clearing.mark (bucket_near kept.hash (source_of d))
            (removed_upper w1 from ((all (source_of d)).small 1) can.from_low ∙ ap (λ x. x / 2 ^ 28) (sym meta_before)) m.stash);
      }

  pub insert_nowhere : (k : ℕ) → StandsNowhere site.shape kept.hash kept.segment kept.held (kept_words kept) k → StandsNowhere site.shape kept.hash kept.segment kept.held (with_insert_ready kept shift) k
  insert_nowhere k n = prepared_nowhere site.shape kept.hash kept.segment kept.held (with_clearing kept shift) k kept.segment b from_lock (finger_of kept.hash) shift.insert
      (insert_fits site kept d from to l can all) (clear_nowhere k n)
