-- The stores of a note by one who owes it.
use Rattle.std.proofs.Common.{◌≡◌, ◌⊎◌, ℕ, ◌+◌, ◌<◌, ◌≤◌, List, ◌++◌, cond, eqb, inl, inr, refl, sym, ap, ◌∙◌, subst, arith}
use Rattle.std.proofs.lemmas.Bool.{cases_eq}
use Rattle.bucket_meta.specs.Bucket.{overflow_count}
use Rattle.bucket_meta.specs.Notes.{AreExact, notes_by}
use Rattle.hash_word.specs.Hash.{probing_of}
use Rattle.trace.specs.Events.{Words, with_word}
use Rattle.image_layout.specs.Places.{Shape, bucket_at}
use Rattle.sound_image.specs.Records.{word_in, notes_in, notes_of, stashed_of, HasExactNotes}
use Rattle.frame_facts.specs.Core.{core_of, core}
use Rattle.frame_facts.specs.Hits.{Hit}
use Rattle.frame_facts.proofs.segments.Places.{other_word}
use Rattle.frame_facts.proofs.segments.changes.Prepared.{core_keeps}
use Rattle.world.specs.Ground.{Ground, IsUnder}
use Rattle.world.specs.Views.{Owed, View}
use Rattle.frame_facts.specs.HomeNotes.{SameHomeNotes}
use Rattle.world.specs.Kinds.{stores, repays}
use Rattle.world.specs.Conditions.{IsNewest, IsOwing, IsHomeOf, IsOwedOf, IsTidy, IsHarmless, May}
use Rattle.world.specs.Holders.{KnowsBucket, TouchesNote, MayRepay}
use Rattle.frame_facts.proofs.segments.Stashed.{stashed_same as stashed_stays}
use Rattle.frame_facts.proofs.segments.Cores.{slots_of_cores}
use Rattle.world.proofs.basics.Tables.{same_hit, cores_replaced}
use Rattle.world.proofs.holding.Known.{newest_same, medium_same}

notes_at : (shape : Shape) (w u : Words) (s e side : ℕ) → w (bucket_at shape s e + 1) ≡ u (bucket_at shape s e + 1) → w (bucket_at shape s e + 3) ≡ u (bucket_at shape s e + 3)
    → notes_in shape w s e side ≡ notes_in shape u s e side
notes_at shape w u s e side one three = ap (λ z. notes_by z (w (bucket_at shape s e + 3)) side) one ∙ ap (λ z. notes_by (u (bucket_at shape s e + 1)) z side) three

module _ (site : Ground) (v : View) (o : Owed) (c n x : ℕ) (word : Words) (touch : TouchesNote site v word o c n x) where
  abbrev s : ℕ
  s = o.segment

  abbrev b : ℕ
  b = o.home

  abbrev i : ℕ
  i = bucket_at site.shape s c + n

  near_next : probing_of b < 64
  near_next = omega arith

  low : c < 64
  low = elim touch.bucket [ inl e ↦ (let z = touch.near in omega (arith, e, z)) | inr e ↦ omega (arith, e, near_next) ]

  inside : n < 32
  inside = elim touch.meta [ inl e ↦ omega (arith, e) | inr e ↦ omega (arith, e) ]

  above : 1 ≤ n
  above = elim touch.meta [ inl e ↦ omega (arith, e) | inr e ↦ omega (arith, e) ]

  known : KnowsBucket site.shape v s c word
  known = elim touch.bucket [
    | inl e ↦ subst (λ (z : ℕ). KnowsBucket site.shape v s z word) (sym e) touch.home
    | inr e ↦ subst (λ (z : ℕ). KnowsBucket site.shape v s z word) (sym e) touch.probing
  ]

  under : IsUnder (bucket_at site.shape s c) i
  under = (omega (arith, above), omega (arith, inside))

  -- in words that have the known word
  module _ (w : Words) (here : w i ≡ word i) where
    same_here : core_of site.shape i x ≡ core_of site.shape i (w i)
    same_here = touch.same_core ∙ ap (core_of site.shape i) (sym here)

    cores : (a : ℕ) → core site.shape (with_word w i x) a ≡ core site.shape w a
    cores = cores_replaced site w i x same_here

    hit_before : (q d r k : ℕ) → Hit site.shape (with_word w i x) q d r k → Hit site.shape w q d r k
    hit_before q d r k h = same_hit site (with_word w i x) w (λ a _. cores a) q d r k h

    hit_after : (q d r k : ℕ) → Hit site.shape w q d r k → Hit site.shape (with_word w i x) q d r k
    hit_after q d r k h = same_hit site w (with_word w i x) (λ a _. sym (cores a)) q d r k h

    kept : (q e m j : ℕ) → e < 66 → m < 32 → j ≡ bucket_at site.shape q e + m → (q ≡ s → e ≡ c → m ≡ n → ⊥) → with_word w i x j ≡ w j
    kept = other_word site.shape w s c n x i (omega (arith, low)) inside refl

  -- in the newest words
  module _ (words : Words) (new : IsNewest site v words) where
    abbrev us : Words
    us = with_word words i x

    here : words i ≡ word i
    here = newest_same site v words word s c new known i under

    stashed_same : (q d : ℕ) → q < site.shape.segments → stashed_of site.shape us q d ≡ stashed_of site.shape words q d
    stashed_same q d seg = stashed_stays site.shape words us q d (λ e t small slot. slots_of_cores site.shape words us q (64 + e) seg (omega (arith, small))
        (λ m _ _. sym (cores words here (bucket_at site.shape q (64 + e) + m))) t slot)

    -- with the known words in the place of the newest
    by_known : (e : ℕ) → KnowsBucket site.shape v s e word → (m : ℕ) → 1 ≤ m → m < 32 → us (bucket_at site.shape s e + m) ≡ with_word word i x (bucket_at site.shape s e + m)
    by_known e k m above below = ap (λ z. cond (eqb (bucket_at site.shape s e + m) i) x z)
        (newest_same site v words word s e new k (bucket_at site.shape s e + m) (omega (arith, above), omega (arith, below)))

    as_known : (e : ℕ) → KnowsBucket site.shape v s e word → (m : ℕ) → 1 ≤ m → m < 32 → words (bucket_at site.shape s e + m) ≡ word (bucket_at site.shape s e + m)
    as_known e k m above below = newest_same site v words word s e new k (bucket_at site.shape s e + m) (omega (arith, above), omega (arith, below))

    side_known : (e side : ℕ) → KnowsBucket site.shape v s e word → notes_in site.shape (with_word word i x) s e side ≡ notes_in site.shape word s e side → notes_in site.shape us s e side ≡ notes_in site.shape words s e side
    side_known e side k same = notes_at site.shape us (with_word word i x) s e side (by_known e k 1 (omega arith) (omega arith)) (by_known e k 3 (omega arith) (omega arith))
        ∙ same ∙ sym (notes_at site.shape words word s e side (as_known e k 1 (omega arith) (omega arith)) (as_known e k 3 (omega arith) (omega arith)))

    side_other : (q e side : ℕ) → e < 66 → (q ≡ s → e ≡ c → ⊥) → notes_in site.shape us q e side ≡ notes_in site.shape words q e side
    side_other q e side near apart = notes_at site.shape us words q e side
        (kept words here q e 1 (bucket_at site.shape q e + 1) near (omega arith) refl (λ f g _. apart f g)) (kept words here q e 3 (bucket_at site.shape q e + 3) near (omega arith) refl (λ f g _. apart f g))

    -- the notes on side 0 of a bucket that is not the home, and on side 1 of one that is not its probing bucket
    side_0 : (q d : ℕ) → d < 64 → (q ≡ s → d ≡ b → ⊥) → notes_in site.shape us q d 0 ≡ notes_in site.shape words q d 0
    side_0 q d near apart = elim (cases_eq q s) [
      | inr m ↦ side_other q d 0 (omega (arith, near)) (λ f _. m f)
      | inl f ↦ elim (cases_eq d (probing_of b)) [
        | inl g ↦ subst (λ (z : ℕ). notes_in site.shape us z d 0 ≡ notes_in site.shape words z d 0) (sym f)
            (subst (λ (z : ℕ). notes_in site.shape us s z 0 ≡ notes_in site.shape words s z 0) (sym g) (side_known (probing_of b) 0 touch.probing touch.neighbours.home_after))
        | inr m ↦ side_other q d 0 (omega (arith, near)) (λ _ g. elim touch.bucket [ inl e ↦ apart f (g ∙ e) | inr e ↦ m (g ∙ e) ])
      ]
    ]

    side_1 : (q d : ℕ) → d < 64 → (q ≡ s → d ≡ probing_of b → ⊥) → notes_in site.shape us q d 1 ≡ notes_in site.shape words q d 1
    side_1 q d near apart = elim (cases_eq q s) [
      | inr m ↦ side_other q d 1 (omega (arith, near)) (λ f _. m f)
      | inl f ↦ elim (cases_eq d b) [
        | inl g ↦ subst (λ (z : ℕ). notes_in site.shape us z d 1 ≡ notes_in site.shape words z d 1) (sym f)
            (subst (λ (z : ℕ). notes_in site.shape us s z 1 ≡ notes_in site.shape words s z 1) (sym g) (side_known b 1 touch.home touch.neighbours.home_before))
        | inr m ↦ side_other q d 1 (omega (arith, near)) (λ _ g. elim touch.bucket [ inl e ↦ m (g ∙ e) | inr e ↦ apart f (g ∙ e) ])
      ]
    ]

    count_0 : (q d : ℕ) → d < 64 → (q ≡ s → d ≡ b → ⊥) → overflow_count (word_in site.shape us q d 1) ≡ overflow_count (word_in site.shape words q d 1)
    count_0 q d near apart = elim (cases_eq q s) [
      | inr m ↦ ap overflow_count (kept words here q d 1 (bucket_at site.shape q d + 1) (omega (arith, near)) (omega arith) refl (λ f _ _. m f))
      | inl f ↦ elim (cases_eq d (probing_of b)) [
        | inl g ↦ subst (λ (z : ℕ). overflow_count (word_in site.shape us z d 1) ≡ overflow_count (word_in site.shape words z d 1)) (sym f)
            (subst (λ (z : ℕ). overflow_count (word_in site.shape us s z 1) ≡ overflow_count (word_in site.shape words s z 1)) (sym g)
            (ap overflow_count (by_known (probing_of b) touch.probing 1 (omega arith) (omega arith)) ∙ touch.neighbours.count_after ∙ sym (ap overflow_count (as_known (probing_of b) touch.probing 1 (omega arith) (omega arith)))))
        | inr m ↦ ap overflow_count (kept words here q d 1 (bucket_at site.shape q d + 1) (omega (arith, near)) (omega arith) refl (λ _ g _. elim touch.bucket [ inl e ↦ apart f (g ∙ e) | inr e ↦ m (g ∙ e) ]))
      ]
    ]

    one_home : (d : ℕ) → d < 64 → probing_of d ≡ probing_of b → d ≡ b
    one_home d near e = let z = touch.near in omega (arith, near, e, z)

    others : (q d : ℕ) → q < site.shape.segments → d < 64 → (q ≡ s → d ≡ b → ⊥) → SameHomeNotes site.shape words us q d
    others q d seg near apart = record {
      notes = ap (λ z. z ++ notes_in site.shape us q (probing_of d) 1) (side_0 q d near apart)
          ∙ ap (λ z. notes_in site.shape words q d 0 ++ z) (side_1 q (probing_of d) (omega arith) (λ f g. apart f (one_home d near g)));
      count = count_0 q d near apart;
      stashed = stashed_same q d seg;
    }

    is_exact : ((stashed : List (ℕ × ℕ)) → IsOwedOf o.added o.note o.notes o.count stashed
        → AreExact (notes_of site.shape (with_word word i x) s b) (overflow_count (word_in site.shape (with_word word i x) s b 1)) stashed) → HasExactNotes site.shape us s b
    is_exact exact =
        let notes : notes_of site.shape us s b ≡ notes_of site.shape (with_word word i x) s b =
        ap (λ z. z ++ notes_in site.shape us s (probing_of b) 1) (notes_at site.shape us (with_word word i x) s b 0 (by_known b touch.home 1 (omega arith) (omega arith)) (by_known b touch.home 3 (omega arith) (omega arith)))
        ∙ ap (λ z. notes_in site.shape (with_word word i x) s b 0 ++ z) (notes_at site.shape us (with_word word i x) s (probing_of b) 1 (by_known (probing_of b) touch.probing 1 (omega arith) (omega arith)) (by_known (probing_of b) touch.probing 3 (omega arith) (omega arith))) in
        let count = ap overflow_count (by_known b touch.home 1 (omega arith) (omega arith)) in
        let due : IsOwedOf o.added o.note o.notes o.count (stashed_of site.shape us s b) = subst (λ z. IsOwedOf o.added o.note o.notes o.count z) (sym (stashed_same s b touch.segment)) (new.owes o touch.owed) in
        subst (λ z. AreExact z (overflow_count (word_in site.shape us s b 1)) (stashed_of site.shape us s b)) (sym notes)
        (subst (λ z. AreExact (notes_of site.shape (with_word word i x) s b) z (stashed_of site.shape us s b)) (sym count) (exact (stashed_of site.shape us s b) due))

  tidy : (home : ℕ → ℕ → Type 0) → ((words : Words) → IsNewest site v words → (q d : ℕ) → q < site.shape.segments → d < 64 → SameHomeNotes site.shape words (with_word words i x) q d
      ⊎ ((stashed_of site.shape (with_word words i x) q d ≡ stashed_of site.shape words q d) × IsOwing site v q d) ⊎ home q d)
      → IsTidy site v i x (λ s k b r c t. ⊥) home (λ k lock. ⊥)
  tidy home notes = record {
    guarded = (bucket_at site.shape s c, known.lock, under);
    twins = λ words new q b1 r1 c1 t1 l h g. inr (inl (hit_before words (here words new) q b1 r1 l h, hit_before words (here words new) q c1 t1 l g));
    notes = notes;
    stash = λ words new q e t l small h. inl (hit_after words (here words new) q (64 + e) t l h);
    alike = λ words medium new beside q e t l small h. inr (hit_before medium (medium_same site v words medium word s c beside known i under) q (64 + e) t l h);
    adds = λ words new q d r l h. inl (hit_before words (here words new) q d r l h);
  }

  harmless : IsHarmless site v i x
  harmless words medium new beside = core_keeps site.shape medium i x beside.table (same_here medium (medium_same site v words medium word s c beside known i under))

  pub may_part : May site (stores i x) v
  may_part = (
    tidy (λ q d. ⊥) (λ words new q d seg near. elim (cases_eq q s) [
      | inr m ↦ inl (others words new q d seg near (λ f _. m f))
      | inl f ↦ elim (cases_eq d b) [
        | inr m ↦ inl (others words new q d seg near (λ _ g. m g))
        | inl g ↦ inr (inl (stashed_same words new q d seg, (o, touch.owed, sym f, sym g)))
      ]
    ]),
    harmless,
  )

  pub may_last : ((stashed : List (ℕ × ℕ)) → IsOwedOf o.added o.note o.notes o.count stashed
      → AreExact (notes_of site.shape (with_word word i x) s b) (overflow_count (word_in site.shape (with_word word i x) s b 1)) stashed) → May site (repays i x o) v
  may_last exact = (
    tidy (IsHomeOf site o) (λ words new q d seg near. elim (cases_eq q s) [
      | inr m ↦ inl (others words new q d seg near (λ f _. m f))
      | inl f ↦ elim (cases_eq d b) [ inr m ↦ inl (others words new q d seg near (λ _ g. m g)) | inl g ↦ inr (inr (sym f, sym g)) ]
    ]),
    harmless,
    (λ words new. is_exact words new exact),
    touch.owed,
  )

pub may_repay : (site : Ground) (v : View) → MayRepay site v
may_repay site v = record {
  part = λ o c n x word touch. may_part site v o c n x word touch;
  last = λ o c n x word touch exact. may_last site v o c n x word touch exact;
}
