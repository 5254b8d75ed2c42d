-- A record that is placed in the stash, for which a note is owed.
use Rattle.std.proofs.Common.{◌≡◌, ◌⊎◌, ℕ, ◌+◌, ◌/◌, ◌^◌, ◌<◌, ◌≤◌, ◌∷◌, true, inl, inr, sym, subst}
use Rattle.std.proofs.lemmas.Bool.{cases_eq}
use Rattle.bucket_meta.specs.Bucket.{overflow_count}
use Rattle.hash_word.specs.Hash.{home_of, finger_of}
use Rattle.trace.specs.Events.{Words, with_word}
use Rattle.image_layout.specs.Places.{bucket_at}
use Rattle.sound_image.specs.Records.{key_hash, word_in, notes_of, stashed_of}
use Rattle.map_model.specs.declared.call.Call.TheVariants.{Insert}
use Rattle.frame_facts.specs.Buckets.{value_in}
use Rattle.frame_facts.specs.Hits.{Hit}
use Rattle.frame_facts.specs.TableChanges.{IsReadyAt}
use Rattle.frame_facts.specs.TableChanges.{ChangesSlot}
use Rattle.frame_facts.proofs.segments.changes.OneRecord.{not_both}
use Rattle.world.specs.Ground.{Ground, IsUnder}
use Rattle.world.specs.Views.{Owed, View}
use Rattle.frame_facts.specs.HomeNotes.{SameHomeNotes}
use Rattle.world.specs.Kinds.{stashes}
use Rattle.world.specs.Conditions.{IsNewest, IsHomeOf, IsOwing, IsOwed, May}
use Rattle.world.specs.Holders.{KnowsBucket, FoundNone, TakesSlot}
use Rattle.bucket_meta.specs.Notes.{AreExact}
use Rattle.frame_facts.proofs.segments.Stashed.{comes}
use Rattle.world.proofs.holding.Placing.{guarded, no_twin, none_newest, none_medium, stays, only, is_now, adding, publishing, nowhere, change}
use Rattle.world.proofs.basics.Grounds.{home_near}
use Rattle.world.proofs.holding.Known.{ready, high_part, newest_same, medium_same}
use Rattle.world.proofs.holding.Owing.{notes_beside, notes_known, count_known}

module _ (site : Ground) (v : View) where
  abbrev home : ℕ → ℕ
  home k = home_of (key_hash site.shape k)

  -- ---- IN THE STASH, for which a note is owed
  module _ (word : Words) (s k : ℕ) (f : FoundNone site v word s k) (c r a x : ℕ) (small : c < 2) (known : KnowsBucket site.shape v s (64 + c) word) (made : IsReadyAt site.shape word s (64 + c) r k)
      (value : value_in word (bucket_at site.shape s (64 + c)) r ≡ a) (takes : TakesSlot site.shape (64 + c) r k (word (bucket_at site.shape s (64 + c) + 1)) x) where
    abbrev at_word : ℕ
    at_word = bucket_at site.shape s (64 + c) + 1

    abbrev owing : Owed
    owing = record {
      segment = s;
      home = home k;
      added = true;
      note = (finger_of (key_hash site.shape k), c);
      notes = notes_of site.shape word s (home k);
      count = overflow_count (word_in site.shape word s (home k) 1);
    }

    -- in the newest words
    module _ (words : Words) (n : IsNewest site v words) where
      same_here : (i : ℕ) → IsUnder (bucket_at site.shape s (64 + c)) i → words i ≡ word i
      same_here = newest_same site v words word s (64 + c) n known

      high_here : x / 2 ^ 28 ≡ words at_word / 2 ^ 28
      high_here = high_part site.shape word words s (64 + c) same_here x takes.overflow

      made_here : IsReadyAt site.shape words s (64 + c) r k
      made_here = ready site.shape word words s (64 + c) same_here r k made

      abbrev after : Words
      after = with_word words at_word x

      hit_now : Hit site.shape after s (64 + c) r k
      hit_now = is_now site v word s k f (64 + c) r a x known made value takes words n.table same_here (none_newest site v word s k f words n)

      changed : ChangesSlot site.shape words after s (64 + c) r k
      changed = change site v word s k f (64 + c) r a x known made value takes words n.table same_here (none_newest site v word s k f words n)

      notes_here : (q d : ℕ) → q < site.shape.segments → d < 64
          → SameHomeNotes site.shape words after q d ⊎ ((stashed_of site.shape after q d ≡ stashed_of site.shape words q d) × IsOwing site v q d) ⊎ IsHomeOf site owing q d
      notes_here q d seg near = elim (cases_eq q s) [
        | inr m ↦ inl (same_all (λ e _ _. m e))
        | inl e ↦ elim (cases_eq d (home k)) [ inr m ↦ inl (same_all (λ _ _ g. m g)) | inl g ↦ inr (inr (sym e, sym g)) ]
      ]
        where
          same_all : (q ≡ s → 64 ≤ 64 + c → d ≡ home k → ⊥) → SameHomeNotes site.shape words after q d
          same_all apart = notes_beside site.shape words s (64 + c) r k x changed made.bucket high_here q d seg near apart

      -- with the note that is owed the notes as they were are exact for the records as they are now
      is_owed : IsOwed site.shape after owing
      is_owed =
          let notes = notes_known site v words word s (home k) n f.home f.probing in
          let count = count_known site v words word s (home k) n f.home in
          subst (λ z. AreExact ((finger_of (key_hash site.shape k), c) ∷ z) owing.count (stashed_of site.shape after s (home k))) notes
          (subst (λ z. AreExact ((finger_of (key_hash site.shape k), c) ∷ notes_of site.shape words s (home k)) z (stashed_of site.shape after s (home k))) count
          (comes site.shape words after s c r k small made.slot changed (λ taken. not_both _ taken made_here.is_free) hit_now (notes_of site.shape words s (home k))
          (overflow_count (word_in site.shape words s (home k) 1)) (n.exact s (home k) made.segment (home_near site.shape k) f.led.1 f.owes)))

    pub may_stash : May site (stashes at_word x (Insert k a) owing) v
    may_stash = (
      record {
        guarded = guarded site v word s k f (64 + c) r a x known made value takes;
        twins = λ words n q b1 r1 c1 t1 l h g. no_twin site v word s k f (64 + c) r a x known made value takes words n.table (same_here words n) (none_newest site v word s k f words n) q b1 r1 c1 t1 l h g;
        notes = λ words n q d seg near. notes_here words n q d seg near;
        stash = λ words n q e t l near h. inl (stays site v word s k f (64 + c) r a x known made value takes words n.table (same_here words n) (none_newest site v word s k f words n) q (64 + e) t l h);
        alike = λ words medium n o q e t l near h. elim (only site v word s k f (64 + c) r a x known made value takes medium o.table (medium_same site v words medium word s (64 + c) o known)
            (none_medium site v word s k f words medium n o) q (64 + e) t l h) [
              | inl old ↦ inr old
              | inr new ↦ inl (subst (λ (z : ℕ). Hit site.shape (with_word words at_word x) z (64 + e) t l) (sym new.0)
                  (subst (λ (z : ℕ). Hit site.shape (with_word words at_word x) s z t l) (sym new.1)
                  (subst (λ (z : ℕ). Hit site.shape (with_word words at_word x) s (64 + c) z l) (sym new.2)
                  (subst (λ (z : ℕ). Hit site.shape (with_word words at_word x) s (64 + c) r z) (sym new.3) (hit_now words n)))))
            ];
        adds = adding site v word s k f (64 + c) r a x known made value takes;
      },
      (s, f.led),
      f.unplanned,
      publishing site v word s k f (64 + c) r a x known made value takes,
      made.segment,
      home_near site.shape k,
      f.led.1,
      f.owes,
      (λ words n. is_owed words n),
      nowhere site v word s k f (64 + c) r a x known made value takes,
    )
