-- A record that a search found: its value is another, or it vanishes.
use Rattle.std.proofs.Common.{◌≡◌, ◌≢◌, ℕ, ◌+◌, ◌*◌, ◌<◌, List, Some, inl, inr, refl, sym, ap, ◌∙◌, subst, arith}
use Rattle.std.proofs.lemmas.Option.{same_Some}
use Rattle.bucket_meta.specs.Bucket.{allocated, overflow_count}
use Rattle.hash_word.specs.Hash.{home_of, probing_of}
use Rattle.trace.specs.Events.{Words, with_word}
use Rattle.image_layout.specs.Places.{bucket_at, key_at}
use Rattle.sound_image.specs.Records.{key_hash, word_in}
use Rattle.map_model.specs.declared.call.Call.TheVariants.{Update, Remove}
use Rattle.frame_facts.specs.Buckets.{IsTaken, value_in}
use Rattle.bucket_meta.specs.Marks.{SameButSlot}
use Rattle.frame_facts.specs.Standing.{IsTable}
use Rattle.frame_facts.specs.Hits.{Hit, HasOnly, find}
use Rattle.frame_facts.specs.Owners.{owner_of}
use Rattle.frame_facts.proofs.segments.Finding.{find_is}
use Rattle.frame_facts.specs.TableChanges.{ChangesSlot}
use Rattle.frame_facts.proofs.segments.changes.OneSlot.{go, only_new}
use Rattle.frame_facts.proofs.segments.changes.OneRecord.{not_taken, vanishes, remove_key, update_key, update_changes, updated_kept}
use Rattle.world.specs.Ground.{Ground, IsUnder}
use Rattle.world.specs.Views.{Move, View, Has, HasLock}
use Rattle.world.specs.History.{reply_by}
use Rattle.frame_facts.specs.HomeNotes.{SameHomeNotes}
use Rattle.world.specs.Kinds.{publishes}
use Rattle.world.specs.Conditions.{IsNewest, StandsBeside, HoldsPlaces, May}
use Rattle.world.specs.Holders.{KnowsBucket, FoundAt, FreesSlot}
use Rattle.frame_facts.proofs.segments.Noted.{notes_same}
use Rattle.frame_facts.proofs.segments.Stashed.{piece_by, stashed_by_pieces}
use Rattle.world.proofs.holding.Known.{hit_to, hit_from, but_slot, high_part, stash_of, newest_same, medium_same}
use Rattle.world.proofs.holding.Owing.{notes_beside}

module _ (site : Ground) (v : View) where
  abbrev home : ℕ → ℕ
  home k = home_of (key_hash site.shape k)

  -- ---- A RECORD THAT WAS FOUND
  module _ (word : Words) (s b r k : ℕ) (f : FoundAt site v word s b r k) where
    pub hit_newest : (words : Words) → IsNewest site v words → Hit site.shape words s b r k
    hit_newest words n = hit_from site.shape word words s b (newest_same site v words word s b n f.there) r k f.hit

    pub hit_medium : (words medium : Words) → StandsBeside site v words medium → Hit site.shape medium s b r k
    hit_medium words medium o = hit_from site.shape word medium s b (medium_same site v words medium word s b o f.there) r k f.hit

    only_newest : (words : Words) → IsNewest site v words → HasOnly site.shape words s b r k
    only_newest words n c t h = elim (n.once s c t b r k f.led.1 h (hit_newest words n)) [
      | inl e ↦ e
      | inr m ↦ absurd (subst (λ (ms : List Move). Has m.0 ms) f.still m.1)
    ]

    pub held_place : HoldsPlaces site v k
    held_place words n q c t own h =
        let e : q ≡ s = same_Some _ _ (sym own ∙ f.led.0 words n) in
        let o = only_newest words n c t (subst (λ (z : ℕ). Hit site.shape words z c t k) e h) in
        subst (λ (z : ℕ). HasLock v.held (bucket_at site.shape z c)) (sym e) (subst (λ (z : ℕ). HasLock v.held (bucket_at site.shape s z)) (sym o.0) f.there.lock)

    pub own_medium : (words medium : Words) → IsNewest site v words → StandsBeside site v words medium → owner_of site.shape medium (key_hash site.shape k) ≡ Some s
    own_medium words medium n o = o.owner s k f.led.1 (f.led.0 words n)

    -- so it is in every medium
    pub only_medium : (words medium : Words) → IsNewest site v words → StandsBeside site v words medium → HasOnly site.shape medium s b r k
    only_medium words medium n o c t h =
        let own = own_medium words medium n o in
        only_newest words n c t (elim (o.table.stands s c t k h own).bucket [
          | inl a ↦ known_hit (home k) f.home c t a.0 h
          | inr e ↦ elim e [
            | inl a ↦ known_hit (probing_of (home k)) f.probing c t a.0 h
            | inr a ↦ (let d = stash_of c h.bucket a in subst (λ (z : ℕ). Hit site.shape words s z t k) (sym d.2)
                (o.stashed s d.0 t k d.1 f.led.1 f.unplanned own (subst (λ (z : ℕ). Hit site.shape medium s z t k) d.2 h)))
          ]
        ])
      where
        known_hit : (d : ℕ) → KnowsBucket site.shape v s d word → (c t : ℕ) → c ≡ d → Hit site.shape medium s c t k → Hit site.shape words s c t k
        known_hit d known c t e h = subst (λ (z : ℕ). Hit site.shape words s z t k) (sym e)
            (hit_from site.shape word words s d (newest_same site v words word s d n known) t k
            (hit_to site.shape word medium s d (medium_same site v words medium word s d o known) t k (subst (λ (z : ℕ). Hit site.shape medium s z t k) e h)))

    pub found_medium : (words medium : Words) → IsNewest site v words → StandsBeside site v words medium → find site.shape medium k ≡ Some (value_in medium (bucket_at site.shape s b) r)
    found_medium words medium n o = find_is site.shape medium o.table s b r k (hit_medium words medium o) (own_medium words medium n o)

    -- its value is another
    module _ (a : ℕ) where
      abbrev value_word : ℕ
      value_word = bucket_at site.shape s b + 5 + 2 * r

      module _ (w : Words) (table : IsTable site.shape w) (own : owner_of site.shape w (key_hash site.shape k) ≡ Some s) (stood : Hit site.shape w s b r k) (only : HasOnly site.shape w s b r k) where
        changing : ChangesSlot site.shape w (with_word w value_word a) s b r k
        changing = update_changes site.shape w table s b stood.segment stood.bucket r k a stood own only

        was_before : (q c t l : ℕ) → Hit site.shape (with_word w value_word a) q c t l → Hit site.shape w q c t l
        was_before q c t l h = elim (only_new site.shape w (with_word w value_word a) s b r k changing q c t l h) [
          | inl old ↦ old
          | inr e ↦ subst (λ (z : ℕ). Hit site.shape w z c t l) (sym e.0) (subst (λ (z : ℕ). Hit site.shape w s z t l) (sym e.1)
              (subst (λ (z : ℕ). Hit site.shape w s b z l) (sym e.2) (subst (λ (z : ℕ). Hit site.shape w s b r z) (sym e.3) stood)))
        ]

        update_kept : (q c n j : ℕ) → c < 66 → n < 32 → j ≡ bucket_at site.shape q c + n → (n ≡ 5 + 2 * r → ⊥) → with_word w value_word a j ≡ w j
        update_kept q c n j near below place other = updated_kept site.shape w table s b stood.segment stood.bucket r k a stood own only q c n j near below place (λ _ _ e. other e)

        update_notes : (q d : ℕ) → d < 64 → SameHomeNotes site.shape w (with_word w value_word a) q d
        update_notes q d near = record {
          notes = notes_same site.shape w (with_word w value_word a) q d
              (λ i above below. update_kept q d i (bucket_at site.shape q d + i) (omega (arith, near)) (omega (arith, below)) refl (λ e. omega (arith, e, below)))
              (λ i above below. update_kept q (probing_of d) i (bucket_at site.shape q (probing_of d) + i) (omega arith) (omega (arith, below)) refl (λ e. omega (arith, e, below)));
          count = ap overflow_count (update_kept q d 1 (bucket_at site.shape q d + 1) (omega (arith, near)) (omega arith) refl (λ e. omega (arith, e)));
          stashed = stashed_by_pieces site.shape w (with_word w value_word a) q d (λ c t small l.
              ap (λ z. piece_by site.shape d c (allocated t z) (with_word w value_word a (key_at site.shape q (64 + c) t)))
              (update_kept q (64 + c) 1 (bucket_at site.shape q (64 + c) + 1) (omega (arith, small)) (omega arith) refl (λ e. omega (arith, e)))
              ∙ ap (piece_by site.shape d c (allocated t (word_in site.shape w q (64 + c) 1)))
              (update_kept q (64 + c) (4 + 2 * t) (key_at site.shape q (64 + c) t) (omega (arith, small)) (omega (arith, l)) (omega arith) (λ e. omega (arith, e))));
        }

        update_stays : (q c t l : ℕ) → Hit site.shape w q c t l → Hit site.shape (with_word w value_word a) q c t l
        update_stays q c t l h = record {
          segment = h.segment;
          bucket = h.bucket;
          slot = h.slot;
          taken = ap (allocated t) (update_kept q c 1 (bucket_at site.shape q c + 1) h.bucket (omega arith) refl (λ e. omega (arith, e))) ∙ h.taken;
          key = update_kept q c (4 + 2 * t) (bucket_at site.shape q c + 4 + 2 * t) h.bucket (let l = h.slot in omega (arith, l)) (omega arith) (λ e. omega (arith, e)) ∙ h.key;
        }

      pub may_update : May site (publishes value_word a (Update k a)) v
      may_update = (
        record {
          guarded = (bucket_at site.shape s b, f.there.lock, (omega arith, let l = f.hit.slot in omega (arith, l)));
          twins = λ words n q b1 r1 c1 t1 l h g. let was = was_before words n.table (f.led.0 words n) (hit_newest words n) (only_newest words n) in inr (inl (was q b1 r1 l h, was q c1 t1 l g));
          notes = λ words n q d seg near. inl (update_notes words n.table (f.led.0 words n) (hit_newest words n) (only_newest words n) q d near);
          stash = λ words n q c t l small h. inl (update_stays words n.table (f.led.0 words n) (hit_newest words n) (only_newest words n) q (64 + c) t l h);
          alike = λ words medium n o q c t l small h. inr (was_before medium o.table (own_medium words medium n o) (hit_medium words medium o) (only_medium words medium n o) q (64 + c) t l h);
          adds = λ words n q c t l h. inl (was_before words n.table (f.led.0 words n) (hit_newest words n) (only_newest words n) q c t l h);
        },
        (s, f.led),
        f.unplanned,
        (λ words medium n o. (
          sym (ap (λ z. reply_by z (Update k a)) (found_medium words medium n o)),
          update_key site.shape medium o.table s b f.hit.segment f.hit.bucket r k a (hit_medium words medium o) (own_medium words medium n o) (only_medium words medium n o),
        )),
        held_place,
      )

    -- it vanishes
    module _ (x : ℕ) (low : b < 64) (frees : FreesSlot r (word (bucket_at site.shape s b + 1)) x) where
      abbrev meta_word : ℕ
      meta_word = bucket_at site.shape s b + 1

      module _ (w : Words) (table : IsTable site.shape w) (same : (i : ℕ) → IsUnder (bucket_at site.shape s b) i → w i ≡ word i) where
        stood_so : Hit site.shape w s b r k
        stood_so = hit_from site.shape word w s b same r k f.hit

        but_so : SameButSlot r (w meta_word) x
        but_so = but_slot site.shape word w s b same r x frees.others

        vanishing : ChangesSlot site.shape w (with_word w meta_word x) s b r k
        vanishing = vanishes site.shape w table s b f.hit.segment f.hit.bucket r x f.hit.slot but_so k stood_so frees.free

        was_standing : (q d u l : ℕ) → Hit site.shape (with_word w meta_word x) q d u l → Hit site.shape w q d u l
        was_standing q d u l h = elim (only_new site.shape w (with_word w meta_word x) s b r k vanishing q d u l h) [
          | inl old ↦ old
          | inr e ↦ absurd (not_taken site.shape w table s b f.hit.segment f.hit.bucket r x f.hit.slot but_so k stood_so frees.free
              (subst (λ (z : ℕ). IsTaken (with_word w meta_word x) (bucket_at site.shape s b) z) e.2
              (subst (λ (z : ℕ). IsTaken (with_word w meta_word x) (bucket_at site.shape s z) u) e.1
              (subst (λ (z : ℕ). IsTaken (with_word w meta_word x) (bucket_at site.shape z d) u) e.0 h.taken))))
        ]

        others_stay : (q d u l : ℕ) → d ≢ b → Hit site.shape w q d u l → Hit site.shape (with_word w meta_word x) q d u l
        others_stay q d u l other h = (go site.shape w (with_word w meta_word x) s b r k vanishing q d u l h (λ _ e _. other e)).0

      pub may_remove : May site (publishes meta_word x (Remove k)) v
      may_remove = (
        record {
          guarded = (bucket_at site.shape s b, f.there.lock, (omega arith, omega arith));
          twins = λ words n q b1 r1 c1 t1 l h g. let was = was_standing words n.table (newest_same site v words word s b n f.there) in inr (inl (was q b1 r1 l h, was q c1 t1 l g));
          notes = λ words n q d seg near. let same = newest_same site v words word s b n f.there in
              inl (notes_beside site.shape words s b r k x (vanishing words n.table same) f.hit.bucket (high_part site.shape word words s b same x frees.overflow) q d seg near (λ _ high _. omega (arith, high, low)));
          stash = λ words n q c t l small h. inl (others_stay words n.table (newest_same site v words word s b n f.there) q (64 + c) t l (λ e. omega (arith, e, low)) h);
          alike = λ words medium n o q c t l small h. inr (was_standing medium o.table (medium_same site v words medium word s b o f.there) q (64 + c) t l h);
          adds = λ words n q c t l h. inl (was_standing words n.table (newest_same site v words word s b n f.there) q c t l h);
        },
        (s, f.led),
        f.unplanned,
        (λ words medium n o. (
          sym (ap (λ z. reply_by z (Remove k)) (found_medium words medium n o)),
          remove_key site.shape medium o.table s b f.hit.segment f.hit.bucket r x f.hit.slot (but_slot site.shape word medium s b (medium_same site v words medium word s b o f.there) r x frees.others) k
              (hit_medium words medium o) frees.free (own_medium words medium n o) (only_medium words medium n o),
        )),
        held_place,
      )
