-- A record that vanishes from the stash, for which a note is owed.
use Rattle.std.proofs.Common.{◌≡◌, ◌⊎◌, ℕ, ◌+◌, ◌/◌, ◌^◌, ◌<◌, ◌≤◌, ◌∷◌, false, inl, inr, sym, ap, subst, arith}
use Rattle.std.proofs.lemmas.Bool.{cases_eq}
use Rattle.bucket_meta.specs.Bucket.{overflow_count}
use Rattle.hash_word.specs.Hash.{home_of, finger_of}
use Rattle.trace.specs.Events.{Words, with_word}
use Rattle.image_layout.specs.Places.{bucket_at}
use Rattle.sound_image.specs.Records.{key_hash, word_in, notes_of, stashed_of}
use Rattle.map_model.specs.declared.call.Call.TheVariants.{Remove}
use Rattle.frame_facts.specs.Buckets.{IsTaken}
use Rattle.bucket_meta.specs.Marks.{SameButSlot}
use Rattle.frame_facts.specs.Standing.{IsTable}
use Rattle.frame_facts.specs.Hits.{Hit}
use Rattle.frame_facts.specs.TableChanges.{ChangesSlot}
use Rattle.frame_facts.proofs.segments.changes.OneSlot.{go, only_new, cases_place, old_key}
use Rattle.frame_facts.proofs.segments.changes.OneRecord.{not_taken, vanishes, remove_key}
use Rattle.world.specs.Ground.{Ground, IsUnder}
use Rattle.world.specs.Views.{Owed, View, HasLock}
use Rattle.world.specs.History.{reply_by}
use Rattle.frame_facts.specs.HomeNotes.{SameHomeNotes}
use Rattle.world.specs.Kinds.{stashes}
use Rattle.world.specs.Conditions.{OwesNone, IsNewest, IsHomeOf, IsOwing, IsOwed, May}
use Rattle.world.specs.Holders.{FoundAt, FreesSlot}
use Rattle.bucket_meta.specs.Notes.{AreExact}
use Rattle.frame_facts.proofs.segments.Stashed.{leaves}
use Rattle.world.proofs.holding.Changing.{hit_medium, held_place, own_medium, only_medium, found_medium}
use Rattle.world.proofs.basics.Grounds.{home_near}
use Rattle.world.proofs.holding.Known.{hit_from, but_slot, high_part, newest_same, medium_same}
use Rattle.world.proofs.holding.Owing.{notes_beside, notes_known, count_known}

module _ (site : Ground) (v : View) where
  abbrev home : ℕ → ℕ
  home k = home_of (key_hash site.shape k)

  -- ---- A RECORD OF THE STASH VANISHES
  module _ (word : Words) (s c r k : ℕ) (f : FoundAt site v word s (64 + c) r k) (owes : OwesNone site v s (home k)) (small : c < 2) (x : ℕ)
      (frees : FreesSlot r (word (bucket_at site.shape s (64 + c) + 1)) x) where
    abbrev gone_word : ℕ
    gone_word = bucket_at site.shape s (64 + c) + 1

    abbrev parting : Owed
    parting = record {
      segment = s;
      home = home k;
      added = false;
      note = (finger_of (key_hash site.shape k), c);
      notes = notes_of site.shape word s (home k);
      count = overflow_count (word_in site.shape word s (home k) 1);
    }

    module _ (w : Words) (table : IsTable site.shape w) (same : (i : ℕ) → IsUnder (bucket_at site.shape s (64 + c)) i → w i ≡ word i) where
      standing : Hit site.shape w s (64 + c) r k
      standing = hit_from site.shape word w s (64 + c) same r k f.hit

      but_this : SameButSlot r (w gone_word) x
      but_this = but_slot site.shape word w s (64 + c) same r x frees.others

      leaving : ChangesSlot site.shape w (with_word w gone_word x) s (64 + c) r k
      leaving = vanishes site.shape w table s (64 + c) f.hit.segment f.hit.bucket r x f.hit.slot but_this k standing frees.free

      left_free : IsTaken (with_word w gone_word x) (bucket_at site.shape s (64 + c)) r → ⊥
      left_free = not_taken site.shape w table s (64 + c) f.hit.segment f.hit.bucket r x f.hit.slot but_this k standing frees.free

      was_so : (q d u l : ℕ) → Hit site.shape (with_word w gone_word x) q d u l → Hit site.shape w q d u l
      was_so q d u l h = elim (only_new site.shape w (with_word w gone_word x) s (64 + c) r k leaving q d u l h) [
        | inl old ↦ old
        | inr e ↦ absurd (left_free (subst (λ (z : ℕ). IsTaken (with_word w gone_word x) (bucket_at site.shape s (64 + c)) z) e.2
            (subst (λ (z : ℕ). IsTaken (with_word w gone_word x) (bucket_at site.shape s z) u) e.1
            (subst (λ (z : ℕ). IsTaken (with_word w gone_word x) (bucket_at site.shape z d) u) e.0 h.taken))))
      ]

      -- a record of another key stays
      stays_so : (q d u l : ℕ) → Hit site.shape w q d u l → Hit site.shape (with_word w gone_word x) q d u l ⊎ ((q ≡ s) × (d ≡ 64 + c) × (l ≡ k))
      stays_so q d u l h = elim (cases_place site.shape w (with_word w gone_word x) s (64 + c) r k leaving q d u) [
        | inl e ↦ inr (e.0, e.1, old_key site.shape w (with_word w gone_word x) s (64 + c) r k leaving q d u l h e)
        | inr apart ↦ inl (go site.shape w (with_word w gone_word x) s (64 + c) r k leaving q d u l h apart).0
      ]

    -- in the newest words
    module _ (words : Words) (n : IsNewest site v words) where
      so : (i : ℕ) → IsUnder (bucket_at site.shape s (64 + c)) i → words i ≡ word i
      so = newest_same site v words word s (64 + c) n f.there

      abbrev left : Words
      left = with_word words gone_word x

      high_so : x / 2 ^ 28 ≡ words gone_word / 2 ^ 28
      high_so = high_part site.shape word words s (64 + c) so x frees.overflow

      stood_here : Hit site.shape words s (64 + c) r k
      stood_here = standing words n.table so

      changed : ChangesSlot site.shape words left s (64 + c) r k
      changed = leaving words n.table so

      notes_so : (q d : ℕ) → q < site.shape.segments → d < 64
          → SameHomeNotes site.shape words left q d ⊎ ((stashed_of site.shape left q d ≡ stashed_of site.shape words q d) × IsOwing site v q d) ⊎ IsHomeOf site parting q d
      notes_so q d seg near = elim (cases_eq q s) [
        | inr m ↦ inl (same_all (λ e _ _. m e))
        | inl e ↦ elim (cases_eq d (home k)) [ inr m ↦ inl (same_all (λ _ _ g. m g)) | inl g ↦ inr (inr (sym e, sym g)) ]
      ]
        where
          same_all : (q ≡ s → 64 ≤ 64 + c → d ≡ home k → ⊥) → SameHomeNotes site.shape words left q d
          same_all apart = notes_beside site.shape words s (64 + c) r k x changed f.hit.bucket high_so q d seg near apart

      -- the notes as they were are exact for the records that are left, with the one that is gone
      owed_so : IsOwed site.shape left parting
      owed_so =
          let notes = notes_known site v words word s (home k) n f.home f.probing in
          let count = count_known site v words word s (home k) n f.home in
          subst (λ z. AreExact z parting.count ((finger_of (key_hash site.shape k), c) ∷ stashed_of site.shape left s (home k))) notes
          (subst (λ z. AreExact (notes_of site.shape words s (home k)) z ((finger_of (key_hash site.shape k), c) ∷ stashed_of site.shape left s (home k))) count
          (leaves site.shape words left s c r k small f.hit.slot changed stood_here (left_free words n.table so) (notes_of site.shape words s (home k))
          (overflow_count (word_in site.shape words s (home k) 1)) (n.exact s (home k) f.hit.segment (home_near site.shape k) f.led.1 owes)))

    pub may_unstash : May site (stashes gone_word x (Remove k) parting) v
    may_unstash = (
      record {
        guarded = (bucket_at site.shape s (64 + c), f.there.lock, (omega arith, omega arith));
        twins = λ words n q b1 r1 c1 t1 l h g. let was = was_so words n.table (so words n) in inr (inl (was q b1 r1 l h, was q c1 t1 l g));
        notes = λ words n q d seg near. notes_so words n q d seg near;
        stash = λ words n q e t l near h. elim (stays_so words n.table (so words n) q (64 + e) t l h) [
          | inl still ↦ inl still
          | inr it ↦ inr (
            ap Remove (sym it.2),
            subst (λ (z : ℕ). HasLock v.held (bucket_at site.shape z (64 + e))) (sym it.0) (subst (λ (z : ℕ). HasLock v.held (bucket_at site.shape s z)) (sym it.1) f.there.lock),
          )
        ];
        alike = λ words medium n o q e t l near h. inr (was_so medium o.table (medium_same site v words medium word s (64 + c) o f.there) q (64 + e) t l h);
        adds = λ words n q d u l h. inl (was_so words n.table (so words n) q d u l h);
      },
      (s, f.led),
      f.unplanned,
      (λ words medium n o. (
        sym (ap (λ z. reply_by z (Remove k)) (found_medium site v word s (64 + c) r k f words medium n o)),
        remove_key site.shape medium o.table s (64 + c) f.hit.segment f.hit.bucket r x f.hit.slot
            (but_this medium o.table (medium_same site v words medium word s (64 + c) o f.there)) k
            (hit_medium site v word s (64 + c) r k f words medium o) frees.free (own_medium site v word s (64 + c) r k f words medium n o) (only_medium site v word s (64 + c) r k f words medium n o),
      )),
      f.hit.segment,
      home_near site.shape k,
      f.led.1,
      owes,
      (λ words n. owed_so words n),
      held_place site v word s (64 + c) r k f,
    )
