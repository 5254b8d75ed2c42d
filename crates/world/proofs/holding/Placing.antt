-- A search that found nothing, and the record that is then placed in the home or the probing bucket.
use Rattle.std.proofs.Common.{◌≡◌, ◌⊎◌, ℕ, ◌+◌, ◌<◌, Some, inl, inr, sym, ap, ◌∙◌, subst, arith}
use Rattle.std.proofs.lemmas.Option.{same_Some}
use Rattle.hash_word.specs.Hash.{home_of, probing_of, finger_of}
use Rattle.trace.specs.Events.{Words, with_word}
use Rattle.image_layout.specs.Places.{bucket_at}
use Rattle.sound_image.specs.Records.{key_hash}
use Rattle.map_model.specs.declared.call.Call.TheVariants.{Insert}
use Rattle.frame_facts.specs.Buckets.{IsTaken, value_in}
use Rattle.bucket_meta.specs.Marks.{SameButSlot}
use Rattle.frame_facts.specs.Standing.{IsTable}
use Rattle.frame_facts.specs.Owners.{owner_of}
use Rattle.frame_facts.specs.Hits.{Hit, HasNone}
use Rattle.frame_facts.specs.TableChanges.{ChangesKey, IsReadyAt, OnlyNewHit}
use Rattle.frame_facts.proofs.segments.Finding.{find_none}
use Rattle.frame_facts.specs.TableChanges.{ChangesSlot}
use Rattle.frame_facts.proofs.segments.changes.OneSlot.{go, only_new}
use Rattle.frame_facts.proofs.segments.changes.OneRecord.{not_both, appears, now, insert_key}
use Rattle.world.specs.Ground.{Ground, IsUnder}
use Rattle.world.specs.Views.{View, HasLock, IsGuarded}
use Rattle.world.specs.History.{reply_by}
use Rattle.world.specs.Kinds.{publishes}
use Rattle.world.specs.Conditions.{IsNewest, StandsBeside, AddsHeld, HoldsPlaces, IsPublishing, May}
use Rattle.frame_facts.specs.HomeNotes.{IsUnnoted}
use Rattle.world.specs.Holders.{KnowsBucket, FoundNone, TakesSlot}
use Rattle.frame_facts.proofs.segments.Stashed.{not_there}
use Rattle.bucket_meta.specs.Notes.{how_often}
use Rattle.world.proofs.basics.Grounds.{home_near}
use Rattle.world.proofs.holding.Known.{same_value, ready, hit_to, but_slot, high_part, stash_of, newest_same, medium_same}
use Rattle.world.proofs.holding.Owing.{notes_beside, notes_known, count_known}

module _ (site : Ground) (v : View) where
  abbrev home : ℕ → ℕ
  home k = home_of (key_hash site.shape k)

  -- A SEARCH THAT FOUND NOTHING: the key stands nowhere in its owner
  module _ (word : Words) (s k : ℕ) (f : FoundNone site v word s k) where
    pub unnoted : (words : Words) → IsNewest site v words → (c : ℕ) → IsUnnoted site.shape word s (home k) (finger_of (key_hash site.shape k)) c
        → IsUnnoted site.shape words s (home k) (finger_of (key_hash site.shape k)) c
    unnoted words n c u = record {
      none = ap (how_often (finger_of (key_hash site.shape k), c)) (notes_known site v words word s (home k) n f.home f.probing) ∙ u.none;
      counted = count_known site v words word s (home k) n f.home ∙ u.counted;
    }

    pub none_newest : (words : Words) → IsNewest site v words → HasNone site.shape words s k
    none_newest words n c t h = elim (n.table.stands s c t k h (f.led.0 words n)).bucket [
      | inl a ↦ f.not_home t (hit_to site.shape word words s (home k) (newest_same site v words word s (home k) n f.home) t k (subst (λ (z : ℕ). Hit site.shape words s z t k) a.0 h))
      | inr e ↦ elim e [
        | inl a ↦ f.not_probing t (hit_to site.shape word words s (probing_of (home k)) (newest_same site v words word s (probing_of (home k)) n f.probing) t k (subst (λ (z : ℕ). Hit site.shape words s z t k) a.0 h))
        | inr a ↦ (let d = stash_of c h.bucket a in let h' = subst (λ (z : ℕ). Hit site.shape words s z t k) d.2 h in elim (f.stash d.0 d.1) [
          | inl q ↦ q.1 t (hit_to site.shape word words s (64 + d.0) (newest_same site v words word s (64 + d.0) n q.0) t k h')
          | inr u ↦ not_there site.shape words s d.0 t k d.1 (n.exact s (home k) h.segment (home_near site.shape k) f.led.1 f.owes) (unnoted words n d.0 u) h'
        ])
      ]
    ]

    pub none_medium : (words medium : Words) → IsNewest site v words → StandsBeside site v words medium → HasNone site.shape medium s k
    none_medium words medium n o c t h =
        let own = o.owner s k f.led.1 (f.led.0 words n) in
        elim (o.table.stands s c t k h own).bucket [
          | inl a ↦ f.not_home t (hit_to site.shape word medium s (home k) (medium_same site v words medium word s (home k) o f.home) t k (subst (λ (z : ℕ). Hit site.shape medium s z t k) a.0 h))
          | inr e ↦ elim e [
            | inl a ↦ f.not_probing t (hit_to site.shape word medium s (probing_of (home k)) (medium_same site v words medium word s (probing_of (home k)) o f.probing) t k (subst (λ (z : ℕ). Hit site.shape medium s z t k) a.0 h))
            | inr a ↦ (let d = stash_of c h.bucket a in
                none_newest words n (64 + d.0) t (o.stashed s d.0 t k d.1 f.led.1 f.unplanned own (subst (λ (z : ℕ). Hit site.shape medium s z t k) d.2 h)))
          ]
        ]

    -- A RECORD OF IT APPEARS in slot r of bucket b
    module _ (b r a x : ℕ) (known : KnowsBucket site.shape v s b word) (made : IsReadyAt site.shape word s b r k) (value : value_in word (bucket_at site.shape s b) r ≡ a)
        (takes : TakesSlot site.shape b r k (word (bucket_at site.shape s b + 1)) x) where
      abbrev i : ℕ
      i = bucket_at site.shape s b + 1

      -- in words that agree with what is known
      module _ (w : Words) (table : IsTable site.shape w) (same : (i : ℕ) → IsUnder (bucket_at site.shape s b) i → w i ≡ word i) (none : HasNone site.shape w s k) where
        but : SameButSlot r (w i) x
        but = but_slot site.shape word w s b same r x takes.others

        made' : IsReadyAt site.shape w s b r k
        made' = ready site.shape word w s b same r k made

        pub change : ChangesSlot site.shape w (with_word w i x) s b r k
        change = appears site.shape w table s b made.segment made.bucket r x made.slot but k made' takes.taken takes.stands (λ _ c t h. absurd (none c t h))

        pub only : OnlyNewHit site.shape w (with_word w i x) s b r k
        only = only_new site.shape w (with_word w i x) s b r k change

        pub is_now : Hit site.shape (with_word w i x) s b r k
        is_now = let there = now site.shape w table s b made.segment made.bucket r x made.slot but k made' takes.taken takes.stands (λ _ c t h. absurd (none c t h)) in
            record { segment = made.segment; bucket = made.bucket; slot = made.slot; taken = there; key = (change.placed there).0 }

        pub stays : (q c t l : ℕ) → Hit site.shape w q c t l → Hit site.shape (with_word w i x) q c t l
        stays q c t l h = (go site.shape w (with_word w i x) s b r k change q c t l h (λ e f g. not_both _ (at_place q c t e f g h.taken) made'.is_free)).0
          where
            at_place : (q c t : ℕ) → q ≡ s → c ≡ b → t ≡ r → IsTaken w (bucket_at site.shape q c) t → IsTaken w (bucket_at site.shape s b) r
            at_place q c t e f g taken = subst (λ (z : ℕ). IsTaken w (bucket_at site.shape s b) z) g (subst (λ (z : ℕ). IsTaken w (bucket_at site.shape s z) t) f (subst (λ (z : ℕ). IsTaken w (bucket_at site.shape z c) t) e taken))

        not_old : (q c t l : ℕ) → Hit site.shape w q c t l → q ≡ s → l ≡ k → ⊥
        not_old q c t l h e f = none c t (subst (λ (z : ℕ). Hit site.shape w s c t z) f (subst (λ (z : ℕ). Hit site.shape w z c t l) e h))

        pub no_twin : (q c t d u l : ℕ) → Hit site.shape (with_word w i x) q c t l → Hit site.shape (with_word w i x) q d u l
            → ((c ≡ d) × (t ≡ u)) ⊎ (Hit site.shape w q c t l × Hit site.shape w q d u l) ⊎ ⊥
        no_twin q c t d u l h g = elim (only q c t l h) [
          | inl a ↦ elim (only q d u l g) [ inl b ↦ inr (inl (a, b)) | inr n ↦ absurd (not_old q c t l a n.0 n.3) ]
          | inr m ↦ elim (only q d u l g) [ inl b ↦ absurd (not_old q d u l b m.0 m.3) | inr n ↦ inl (m.1 ∙ sym n.1, m.2 ∙ sym n.2) ]
        ]

      pub guarded : IsGuarded v.held i
      guarded = (bucket_at site.shape s b, known.lock, (omega arith, omega arith))

      held_lock : (words : Words) → IsNewest site v words → (q c l : ℕ) → q ≡ s → c ≡ b → l ≡ k
          → HasLock v.held (bucket_at site.shape q (home l)) × HasLock v.held (bucket_at site.shape q c) × (owner_of site.shape words (key_hash site.shape l) ≡ Some q)
      held_lock words n q c l e g y = (
        subst (λ (z : ℕ). HasLock v.held (bucket_at site.shape z (home l))) (sym e) (subst (λ (z : ℕ). HasLock v.held (bucket_at site.shape s (home z))) (sym y) f.led.1),
        subst (λ (z : ℕ). HasLock v.held (bucket_at site.shape z c)) (sym e) (subst (λ (z : ℕ). HasLock v.held (bucket_at site.shape s z)) (sym g) known.lock),
        ap (λ z. owner_of site.shape words (key_hash site.shape z)) y ∙ (f.led.0 words n ∙ ap Some (sym e)),
      )

      pub adding : AddsHeld site v i x
      adding words n q c t l h = elim (only words n.table (newest_same site v words word s b n known) (none_newest words n) q c t l h) [ inl old ↦ inl old | inr new ↦ inr (held_lock words n q c l new.0 new.1 new.3) ]

      pub nowhere : HoldsPlaces site v k
      nowhere words n q c t own h = absurd (none_newest words n c t (subst (λ (z : ℕ). Hit site.shape words z c t k) (same_Some _ _ (sym own ∙ f.led.0 words n)) h))

      pub publishing : IsPublishing site v (Insert k a) i x
      publishing words medium n o =
          let same = medium_same site v words medium word s b o known in
          let none = none_medium words medium n o in
          let own = o.owner s k f.led.1 (f.led.0 words n) in (
            sym (ap (λ z. reply_by z (Insert k a)) (find_none site.shape medium s k made.segment own none)),
            subst (λ z. ChangesKey site.shape medium (with_word medium i x) k (Some z)) (same_value site.shape word medium s b same r made.slot ∙ value)
                (insert_key site.shape medium o.table s b made.segment made.bucket r x made.slot (but_slot site.shape word medium s b same r x takes.others) k
                (ready site.shape word medium s b same r k made) takes.taken takes.stands (λ _ c t h. absurd (none c t h)) own),
          )

      -- outside the stash
      insert : b < 64 → May site (publishes i x (Insert k a)) v
      insert low = (
        record {
          guarded = guarded;
          twins = λ words n q c t d u l h g. no_twin words n.table (newest_same site v words word s b n known) (none_newest words n) q c t d u l h g;
          notes = λ words n q d seg near. let same = newest_same site v words word s b n known in
              inl (notes_beside site.shape words s b r k x (change words n.table same (none_newest words n)) made.bucket (high_part site.shape word words s b same x takes.overflow) q d seg near
              (λ _ high _. omega (arith, high, low)));
          stash = λ words n q c t l small h. inl (stays words n.table (newest_same site v words word s b n known) (none_newest words n) q (64 + c) t l h);
          alike = λ words medium n o q c t l small h. elim (only medium o.table (medium_same site v words medium word s b o known) (none_medium words medium n o) q (64 + c) t l h) [
            | inl old ↦ inr old
            | inr new ↦ absurd (let e = new.1 in omega (arith, e, low))
          ];
          adds = adding;
        },
        (s, f.led),
        f.unplanned,
        publishing,
        nowhere,
      )

  pub may_insert : (s b r k a x : ℕ) (word : Words) → FoundNone site v word s k → b < 64 → KnowsBucket site.shape v s b word → IsReadyAt site.shape word s b r k
      → value_in word (bucket_at site.shape s b) r ≡ a → TakesSlot site.shape b r k (word (bucket_at site.shape s b + 1)) x
      → May site (publishes (bucket_at site.shape s b + 1) x (Insert k a)) v
  may_insert s b r k a x word f low known made value takes = insert word s k f b r a x known made value takes low
