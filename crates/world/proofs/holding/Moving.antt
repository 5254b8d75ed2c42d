-- The copy of a record, and the clearing of its source.
use Rattle.std.proofs.Common.{◌≡◌, ◌≢◌, ℕ, ◌+◌, ◌<◌, List, [], Some, inl, inr, refl, sym, ap, ◌∙◌, subst, arith}
use Rattle.hash_word.specs.Hash.{home_of}
use Rattle.trace.specs.Events.{Words, with_word}
use Rattle.image_layout.specs.Places.{bucket_at}
use Rattle.sound_image.specs.Records.{key_hash}
use Rattle.frame_facts.specs.Buckets.{IsTaken, value_in}
use Rattle.bucket_meta.specs.Marks.{SameButSlot}
use Rattle.frame_facts.specs.Standing.{IsTable}
use Rattle.frame_facts.specs.Hits.{Hit}
use Rattle.frame_facts.specs.Owners.{owner_of}
use Rattle.frame_facts.specs.TableChanges.{KeepsTable, IsReadyAt, OnlyNewHit}
use Rattle.frame_facts.specs.TableChanges.{ChangesSlot}
use Rattle.frame_facts.proofs.segments.changes.OneSlot.{go, only_new}
use Rattle.frame_facts.proofs.segments.changes.OneRecord.{not_taken, appears, copy_key, vanishes, clear_key}
use Rattle.world.specs.Ground.{Ground, IsUnder}
use Rattle.world.specs.Views.{Move, View, Has, HasLock}
use Rattle.world.specs.Kinds.{copies, clears}
use Rattle.world.specs.Conditions.{IsNewest, IsMoveOf, May}
use Rattle.world.specs.Holders.{KnowsBucket, TakesSlot, FreesSlot, MayMove}
use Rattle.world.proofs.holding.Known.{same_value, ready, hit_from, but_slot, high_part, newest_same, medium_same}
use Rattle.world.proofs.holding.Owing.{notes_beside}

module _ (site : Ground) (v : View) where
  abbrev home : ℕ → ℕ
  home k = home_of (key_hash site.shape k)

  -- ---- A COPY of a record of bucket b in slot t of bucket c
  module _ (s b r c t k x : ℕ) (word : Words) (lock : HasLock v.held (bucket_at site.shape s (home k))) (low : c < 64) (source : KnowsBucket site.shape v s b word) (target : KnowsBucket site.shape v s c word)
      (stood : Hit site.shape word s b r k) (made : IsReadyAt site.shape word s c t k) (value : value_in word (bucket_at site.shape s c) t ≡ value_in word (bucket_at site.shape s b) r)
      (takes : TakesSlot site.shape c t k (word (bucket_at site.shape s c + 1)) x) (still : v.moving ≡ []) where
    abbrev to_word : ℕ
    to_word = bucket_at site.shape s c + 1

    abbrev moved : Move
    moved = record { segment = s; key = k; from_bucket = b; from_slot = r; to_bucket = c; to_slot = t }

    -- in words that agree with what is known
    module _ (w : Words) (table : IsTable site.shape w) (same_b : (i : ℕ) → IsUnder (bucket_at site.shape s b) i → w i ≡ word i) (same_c : (i : ℕ) → IsUnder (bucket_at site.shape s c) i → w i ≡ word i) where
      stood_there : Hit site.shape w s b r k
      stood_there = hit_from site.shape word w s b same_b r k stood

      agrees_there : owner_of site.shape w (key_hash site.shape k) ≡ Some s → (d u : ℕ) → Hit site.shape w s d u k → value_in w (bucket_at site.shape s d) u ≡ value_in w (bucket_at site.shape s c) t
      agrees_there own d u h = table.one_value s d u b r k h stood_there own ∙ same_value site.shape word w s b same_b r stood.slot ∙ sym value ∙ sym (same_value site.shape word w s c same_c t made.slot)

      but_there : SameButSlot t (w to_word) x
      but_there = but_slot site.shape word w s c same_c t x takes.others

      made_there : IsReadyAt site.shape w s c t k
      made_there = ready site.shape word w s c same_c t k made

      copied : ChangesSlot site.shape w (with_word w to_word x) s c t k
      copied = appears site.shape w table s c made.segment made.bucket t x made.slot but_there k made_there takes.taken takes.stands agrees_there

      only_copy : OnlyNewHit site.shape w (with_word w to_word x) s c t k
      only_copy = only_new site.shape w (with_word w to_word x) s c t k copied

      copy_keeps : KeepsTable site.shape w (with_word w to_word x)
      copy_keeps = copy_key site.shape w table s c made.segment made.bucket t x made.slot but_there k made_there takes.taken takes.stands agrees_there b r stood_there

      copy_stays : (q d u l : ℕ) → d ≢ c → Hit site.shape w q d u l → Hit site.shape (with_word w to_word x) q d u l
      copy_stays q d u l apart h = (go site.shape w (with_word w to_word x) s c t k copied q d u l h (λ _ f _. apart f)).0

    -- another record of the key in the newest words is the source
    is_source : (words : Words) → IsNewest site v words → (d u : ℕ) → Hit site.shape words s d u k → (d ≡ b) × (u ≡ r)
    is_source words n d u h = elim (n.once s d u b r k lock h (stood_there words n.table (newest_same site v words word s b n source) (newest_same site v words word s c n target))) [
      | inl e ↦ e
      | inr m ↦ absurd (subst (λ (ms : List Move). Has m.0 ms) still m.1)
    ]

    at_source : (words : Words) → IsNewest site v words → (q d u l : ℕ) → Hit site.shape words q d u l → q ≡ s → l ≡ k → (d ≡ b) × (u ≡ r)
    at_source words n q d u l h e f = is_source words n d u (subst (λ (z : ℕ). Hit site.shape words s d u z) f (subst (λ (z : ℕ). Hit site.shape words z d u l) e h))

    pub may_copy : May site (copies to_word x moved) v
    may_copy = (
      record {
        guarded = (bucket_at site.shape s c, target.lock, (omega arith, omega arith));
        twins = λ words n q b1 r1 c1 t1 l h g.
            let only = only_copy words n.table (newest_same site v words word s b n source) (newest_same site v words word s c n target) in
            elim (only q b1 r1 l h) [
              | inl a ↦ elim (only q c1 t1 l g) [
                | inl y ↦ inr (inl (a, y))
                | inr m ↦ (let e = at_source words n q b1 r1 l a m.0 m.3 in inr (inr (m.0, m.3, inl (e.0, e.1, m.1, m.2))))
              ]
              | inr m ↦ elim (only q c1 t1 l g) [
                | inl y ↦ (let e = at_source words n q c1 t1 l y m.0 m.3 in inr (inr (m.0, m.3, inr (m.1, m.2, e.0, e.1))))
                | inr m' ↦ inl (m.1 ∙ sym m'.1, m.2 ∙ sym m'.2)
              ]
            ];
        notes = λ words n q d seg near. let same = newest_same site v words word s c n target in
            inl (notes_beside site.shape words s c t k x (copied words n.table (newest_same site v words word s b n source) same) made.bucket (high_part site.shape word words s c same x takes.overflow) q d seg near
            (λ _ high _. omega (arith, high, low)));
        stash = λ words n q e u l small h. inl (copy_stays words n.table (newest_same site v words word s b n source) (newest_same site v words word s c n target) q (64 + e) u l (λ f. omega (arith, f, low)) h);
        alike = λ words medium n o q e u l small h. elim (only_copy medium o.table (medium_same site v words medium word s b o source) (medium_same site v words medium word s c o target) q (64 + e) u l h) [
          | inl old ↦ inr old
          | inr new ↦ absurd (let f = new.1 in omega (arith, f, low))
        ];
        adds = λ words n q d u l h. elim (only_copy words n.table (newest_same site v words word s b n source) (newest_same site v words word s c n target) q d u l h) [
          | inl old ↦ inl old
          | inr new ↦ inr (
            subst (λ (z : ℕ). HasLock v.held (bucket_at site.shape z (home l))) (sym new.0) (subst (λ (z : ℕ). HasLock v.held (bucket_at site.shape s (home z))) (sym new.3) lock),
            subst (λ (z : ℕ). HasLock v.held (bucket_at site.shape z d)) (sym new.0) (subst (λ (z : ℕ). HasLock v.held (bucket_at site.shape s z)) (sym new.1) target.lock),
            ap (λ z. owner_of site.shape words (key_hash site.shape z)) new.3
                ∙ (n.own s b r k source.lock (stood_there words n.table (newest_same site v words word s b n source) (newest_same site v words word s c n target)) ∙ ap Some (sym new.0)),
          )
        ];
      },
      (λ words medium n o. copy_keeps medium o.table (medium_same site v words medium word s b o source) (medium_same site v words medium word s c o target)),
      (lock, source.lock, target.lock),
    )

  -- ---- THE CLEARING of its source
  module _ (m : Move) (x : ℕ) (word : Words) (lock : HasLock v.held (bucket_at site.shape m.segment (home m.key))) (low : m.from_bucket < 64)
      (source : KnowsBucket site.shape v m.segment m.from_bucket word) (target : KnowsBucket site.shape v m.segment m.to_bucket word)
      (stood : Hit site.shape word m.segment m.from_bucket m.from_slot m.key) (stands : Hit site.shape word m.segment m.to_bucket m.to_slot m.key)
      (apart : m.to_bucket ≡ m.from_bucket → m.to_slot ≡ m.from_slot → ⊥) (frees : FreesSlot m.from_slot (word (bucket_at site.shape m.segment m.from_bucket + 1)) x)
      (alone : (n : Move) → Has n v.moving → n ≡ m) where
    abbrev from_word : ℕ
    from_word = bucket_at site.shape m.segment m.from_bucket + 1

    module _ (w : Words) (table : IsTable site.shape w) (same_b : (i : ℕ) → IsUnder (bucket_at site.shape m.segment m.from_bucket) i → w i ≡ word i)
        (same_c : (i : ℕ) → IsUnder (bucket_at site.shape m.segment m.to_bucket) i → w i ≡ word i) where
      source_there : Hit site.shape w m.segment m.from_bucket m.from_slot m.key
      source_there = hit_from site.shape word w m.segment m.from_bucket same_b m.from_slot m.key stood

      target_there : Hit site.shape w m.segment m.to_bucket m.to_slot m.key
      target_there = hit_from site.shape word w m.segment m.to_bucket same_c m.to_slot m.key stands

      but_source : SameButSlot m.from_slot (w from_word) x
      but_source = but_slot site.shape word w m.segment m.from_bucket same_b m.from_slot x frees.others

      clearing : ChangesSlot site.shape w (with_word w from_word x) m.segment m.from_bucket m.from_slot m.key
      clearing = vanishes site.shape w table m.segment m.from_bucket stood.segment stood.bucket m.from_slot x stood.slot but_source m.key source_there frees.free

      clear_keeps : KeepsTable site.shape w (with_word w from_word x)
      clear_keeps = clear_key site.shape w table m.segment m.from_bucket stood.segment stood.bucket m.from_slot x stood.slot but_source m.key source_there frees.free m.to_bucket m.to_slot target_there apart

      -- the slot is not taken then
      gone : (q d u l : ℕ) → Hit site.shape (with_word w from_word x) q d u l → q ≡ m.segment → d ≡ m.from_bucket → u ≡ m.from_slot → ⊥
      gone q d u l h e f g = not_taken site.shape w table m.segment m.from_bucket stood.segment stood.bucket m.from_slot x stood.slot but_source m.key source_there frees.free
          (subst (λ (z : ℕ). IsTaken (with_word w from_word x) (bucket_at site.shape m.segment m.from_bucket) z) g
          (subst (λ (z : ℕ). IsTaken (with_word w from_word x) (bucket_at site.shape m.segment z) u) f
          (subst (λ (z : ℕ). IsTaken (with_word w from_word x) (bucket_at site.shape z d) u) e h.taken)))

      was_there : (q d u l : ℕ) → Hit site.shape (with_word w from_word x) q d u l → Hit site.shape w q d u l
      was_there q d u l h = elim (only_new site.shape w (with_word w from_word x) m.segment m.from_bucket m.from_slot m.key clearing q d u l h) [
        | inl old ↦ old
        | inr new ↦ absurd (gone q d u l h new.0 new.1 new.2)
      ]

      clear_stays : (q d u l : ℕ) → d ≢ m.from_bucket → Hit site.shape w q d u l → Hit site.shape (with_word w from_word x) q d u l
      clear_stays q d u l other h = (go site.shape w (with_word w from_word x) m.segment m.from_bucket m.from_slot m.key clearing q d u l h (λ _ f _. other f)).0

    pub may_clear : May site (clears from_word x m) v
    may_clear = (
      record {
        guarded = (bucket_at site.shape m.segment m.from_bucket, source.lock, (omega arith, omega arith));
        twins = λ words n q b1 r1 c1 t1 l h g.
            let was = was_there words n.table (newest_same site v words word m.segment m.from_bucket n source) (newest_same site v words word m.segment m.to_bucket n target) in
            inr (inl (was q b1 r1 l h, was q c1 t1 l g));
        notes = λ words n q d seg near. let same = newest_same site v words word m.segment m.from_bucket n source in
            inl (notes_beside site.shape words m.segment m.from_bucket m.from_slot m.key x (clearing words n.table same (newest_same site v words word m.segment m.to_bucket n target)) stood.bucket
            (high_part site.shape word words m.segment m.from_bucket same x frees.overflow) q d seg near (λ _ high _. omega (arith, high, low)));
        stash = λ words n q e u l small h. inl (clear_stays words n.table (newest_same site v words word m.segment m.from_bucket n source) (newest_same site v words word m.segment m.to_bucket n target) q (64 + e) u l (λ f. omega (arith, f, low)) h);
        alike = λ words medium n o q e u l small h. inr (was_there medium o.table (medium_same site v words medium word m.segment m.from_bucket o source) (medium_same site v words medium word m.segment m.to_bucket o target) q (64 + e) u l h);
        adds = λ words n q d u l h. inl (was_there words n.table (newest_same site v words word m.segment m.from_bucket n source) (newest_same site v words word m.segment m.to_bucket n target) q d u l h);
      },
      (λ words medium n o. clear_keeps medium o.table (medium_same site v words medium word m.segment m.from_bucket o source) (medium_same site v words medium word m.segment m.to_bucket o target)),
      (λ words n d u h.
          let same_b = newest_same site v words word m.segment m.from_bucket n source in
          let same_c = newest_same site v words word m.segment m.to_bucket n target in
          let old = was_there words n.table same_b same_c m.segment d u m.key h in
          elim (n.once m.segment d u m.to_bucket m.to_slot m.key lock old (target_there words n.table same_b same_c)) [
            | inl e ↦ e
            | inr o ↦ elim (subst (λ (z : Move). IsMoveOf z m.segment m.key d u m.to_bucket m.to_slot) (alone o.0 o.1) o.2).2 [
              | inl e ↦ absurd (gone words n.table same_b same_c m.segment d u m.key h refl e.0 e.1)
              | inr e ↦ (e.0, e.1)
            ]
          ]),
    )

  pub may_move : MayMove site v
  may_move = record {
    copy = λ s b r c t k x word lock low source target stood made value takes still. may_copy s b r c t k x word lock low source target stood made value takes still;
    clear = λ m x word lock low source target stood stands apart frees alone. may_clear m x word lock low source target stood stands apart frees alone;
  }
