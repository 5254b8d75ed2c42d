-- A lock is freed, and spoiled records leave a bucket.
use Rattle.std.proofs.Common.{◌≡◌, ℕ, suc, ◌+◌, ◌*◌, ◌/◌, ◌%◌, ◌^◌, ◌<◌, ◌≤◌, ◌⊎◌, Bool, true, false, List, slice_index, inl, inr, refl, sym, ap, ◌∙◌, subst, arith}
use Rattle.std.proofs.lemmas.Bool.{cases_eq, cases_Bool}
use Rattle.trace.specs.Events.{Words}
use Rattle.word_bits.specs.Bits.{bit}
use Rattle.hash_word.specs.Hash.{Covers, top}
use Rattle.bucket_meta.specs.Bucket.{allocated, member, record_slots}
use Rattle.bucket_meta.specs.Marks.{copied_mark}
use Rattle.segment_head.specs.HeadWord.{depth_in, pattern_in}
use Rattle.image_layout.specs.Places.{Shape, head_at, bucket_at, buckets, block, words_of_buckets}
use Rattle.sound_image.specs.Records.{key_hash}
use Rattle.whole_segment.specs.Slots.{IsSetOf, AreHalves}
use Rattle.whole_segment.specs.Records.{Stands}
use Rattle.whole_segment.specs.Mending.{IsSpoiled, is_spoiled, spoiled_set, IsMended}
use Rattle.whole_segment.proofs.marking.MarkHalves.{are_halves}
use Rattle.whole_segment.proofs.marking.Mended.{is_mended}
use Rattle.whole_segment.proofs.Telling.{spoiled_is, tells_spoiled}
use Rattle.bucket_words.specs.Hits.{Hit}
use Rattle.world.specs.Ground.{Ground, IsGround}
use Rattle.world.specs.Views.{View, Has, IsLoose}
use Rattle.world.specs.Holders.{KnowsWord}
use Rattle.world.specs.areas.Areas.{header_word}
use Rattle.world.specs.areas.Kinds.{sets}
use Rattle.world.specs.areas.Asking.{MayAt}
use Rattle.world.specs.areas.Repairing.{HasStale, IsMendable, FreesSpoiled, IsMending}
use Rattle.world.proofs.holders.mending.Mending.{may_mend}
use Rattle.rounds.specs.declared.rounds.Rounds.{Rounds}
use Rattle.repair_op.specs.Guarded.{IsOld}
use Rattle.mend_op.specs.declared.stage.Stage.TheVariants.{Mend}
use Rattle.mend_op.specs.declared.op.MendOp.{MendOp}
use Rattle.mend_op.specs.Words.{own_depth, mended_lock, first_of, key_of, mended_first}
use Rattle.mend_op.specs.Stages.{most, place, made_word}
use Rattle.mend_op.specs.Stands.{place_of, IsRounding}
use Rattle.mend_op.proofs.stages.Placing.{place_low, place_apart as number_apart, made_is, freed_at, mended_at}
use Rattle.mend_op.proofs.stages.Partly.{untouched, either_way}
use Rattle.mend_op.proofs.whole.Words.{mend_words, header_here, bucket_here, key_here, stands_hit, number_is, no_header}
use Rattle.mend_op.proofs.whole.Known.{has_stale, knows_place, no_sides}

-- ---- the slots that are freed of word 1 of a bucket
module _ (shape : Shape) (head : ℕ) (base : List ℕ) (small : (i : ℕ) → slice_index base i < 2 ^ 64) (deep : depth_in head ≤ 64) where
  abbrev hash : ℕ → ℕ
  hash = key_hash shape

  -- a slot is spoiled, as a test
  abbrev pub spoils : ℕ → ℕ → Bool
  spoils b r = is_spoiled (first_of base) (key_of base) hash (own_depth head) (pattern_in head) b r

  abbrev spoiled : ℕ → ℕ
  spoiled b = spoiled_set (first_of base) (key_of base) hash (own_depth head) (pattern_in head) b

  abbrev are : (b : ℕ) → IsSetOf (IsSpoiled (first_of base) (key_of base) hash (own_depth head) (pattern_in head) b) (spoiled b)
  are b = spoiled_is (first_of base) (key_of base) hash (own_depth head) (pattern_in head) b

  halves : (b : ℕ) → AreHalves (first_of base b) (spoiled b) (copied_mark (first_of base b) (spoiled b)) (mended_first base shape head b)
  halves b = are_halves (first_of base b) (spoiled b) (small (block * b + 1)) (are b).within

  depth_is : own_depth head ≡ depth_in head
  depth_is = omega (arith, deep)

  -- WHAT IS LEFT is mended
  pub left_mended : IsMended (first_of base) (mended_first base shape head) (key_of base) hash (depth_in head) (pattern_in head)
  left_mended = subst (λ d. IsMended (first_of base) (mended_first base shape head) (key_of base) hash d (pattern_in head)) depth_is
      (is_mended (first_of base) (key_of base) hash (own_depth head) (pattern_in head) spoiled (λ b. small (block * b + 1)) (λ b near. are b))

  -- each slot says what it said, or is free, and then it was spoiled
  pub slot_says : (b r : ℕ) → r < record_slots
      → ((allocated r (mended_first base shape head b) ≡ allocated r (first_of base b)) × (member r (mended_first base shape head b) ≡ member r (first_of base b)))
      ⊎ ((allocated r (mended_first base shape head b) ≡ 0) × (spoils b r ≡ true))
  slot_says b r low = elim (cases_eq (bit r (spoiled b)) 1) [
    | inl one ↦ inr (((halves b).moved r low one).1.taken, (tells_spoiled (first_of base) (key_of base) hash (own_depth head) (pattern_in head) b r).1 (((are b).each r low).0 one))
    | inr other ↦ inl (let zero : bit r (spoiled b) ≡ 0 = omega (arith, other) in let same = ((halves b).stayed r low zero).1 in (same.taken, same.membership))
  ]

  -- a slot that is taken still is not spoiled
  not_spoiled : (b r : ℕ) → r < record_slots → allocated r (mended_first base shape head b) ≡ 1 → spoils b r ≡ false
  not_spoiled b r low taken = elim (cases_Bool (spoils b r)) [
    | inr is_false ↦ is_false
    | inl is_true ↦ (let set = ((are b).each r low).1 ((tells_spoiled (first_of base) (key_of base) hash (own_depth head) (pattern_in head) b r).0 is_true) in
        let zero = sym taken ∙ ((halves b).moved r low set).1.taken in absurd (omega (arith, zero)))
  ]

  -- WHY A RECORD LEAVES: it is of another segment, or its key has a record that stays
  pub why : (b r : ℕ) → b < buckets → r < record_slots → spoils b r ≡ true
      → (Covers (depth_in head) (pattern_in head) (hash (key_of base b r)) → ⊥)
      ⊎ ((c : ℕ) × (t : ℕ) × Stands (first_of base) (key_of base) c t (key_of base b r) × (spoils c t ≡ false))
  why b r near low is_true =
      let is = (tells_spoiled (first_of base) (key_of base) hash (own_depth head) (pattern_in head) b r).0 is_true in
      elim (cases_eq (top (depth_in head) (hash (key_of base b r))) (pattern_in head)) [
        | inr foreign ↦ inl foreign
        | inl covers ↦ inr (
            let stays = left_mended.keys_stay b r (key_of base b r) (record { bucket = near; slot = low; taken = is.taken; has_key = refl }) covers in
            (stays.0, stays.1, (left_mended.own stays.0 stays.1 (key_of base b r) stays.2).0, not_spoiled stays.0 stays.1 stays.2.slot stays.2.taken))
      ]

-- ---- as the stores of words
module _ (site : Ground) (ground : IsGround site) (op : MendOp) (same_shape : op.guarded.site.geometry ≡ site.shape) (old : IsOld site op.guarded) (deep : depth_in op.guarded.head ≤ 64)
    (base : List ℕ) (n : ℕ) (near : n < most Mend) (rounds : Rounds) (v : View) (c : IsRounding site op.guarded op.words op.next Mend base n rounds v) where
  abbrev s : ℕ
  s = op.guarded.segment

  abbrev head : ℕ
  head = op.guarded.head

  abbrev word : Words
  word = mend_words site.shape s base head

  abbrev at : ℕ → ℕ
  at b = bucket_at site.shape s b

  value_is : (m : ℕ) → m < most Mend → slice_index op.next (place Mend m) ≡ made_word Mend site.shape head base (place Mend m)
  value_is m low =
      ap (λ (l : List ℕ). slice_index l (place Mend m)) c.partly.makes ∙ made_is base op.guarded.site.geometry head Mend (place Mend m) (place_low Mend m low)
      ∙ ap (λ (g : Shape). made_word Mend g head base (place Mend m)) same_shape

  -- no other word is loose, and this one is not yet
  firm_by : (i m : ℕ) → (y : ℕ) → IsLoose v (place_of site op.guarded i, y) → (m : ℕ) × (m < n) × (i ≡ place Mend m) × (y ≡ slice_index base (place Mend m))
  firm_by i m y loose =
      let q = c.loose (place_of site op.guarded i, y) loose in
      (q.0, q.1, number (at 0) i (place Mend q.0) (ap (λ (p : ℕ × ℕ). p.0) q.2), ap (λ (p : ℕ × ℕ). p.1) q.2)
    where
      number : (f i j : ℕ) → f + i ≡ f + j → i ≡ j
      number f i j same = omega (arith, same)

  firm_here : (y : ℕ) → IsLoose v (place_of site op.guarded (place Mend n), y) → ⊥
  firm_here y loose = let q = firm_by (place Mend n) n y loose in let is = number_apart Mend n q.0 q.2 in let low = q.1 in omega (arith, is, low)

  head_firm : (y : ℕ) → IsLoose v (header_word site.shape s, y) → ⊥
  head_firm y loose = let q = c.loose (header_word site.shape s, y) loose in no_header site.shape s (place Mend q.0) (sym (ap (λ (p : ℕ × ℕ). p.0) q.2))

  mine : HasStale site v s word
  mine = has_stale site op.guarded op.words words_of_buckets v c.all old word (header_here site.shape s base head) head_firm

  here : slice_index op.words (place Mend n) ≡ slice_index base (place Mend n)
  here = c.partly.behind n (omega arith) near

  knows_here : KnowsWord v (place_of site op.guarded (place Mend n)) (slice_index base (place Mend n))
  knows_here = knows_place site op.guarded op.words words_of_buckets v c.all (place Mend n) (slice_index base (place Mend n)) (place_low Mend n near) here firm_here

  -- ---- the lock word of a bucket
  module _ (b : ℕ) (is : n ≡ 2 * b) where
    lock_place : place Mend n ≡ block * b
    lock_place = omega (arith, is)

    bucket_near : b < buckets
    bucket_near = omega (arith, is, near)

    lock_freed : slice_index op.next (place Mend n) ≡ mended_lock (slice_index base (place Mend n))
    lock_freed =
        value_is n near ∙ ap (made_word Mend site.shape head base) lock_place ∙ freed_at base site.shape head b ∙ ap (λ i. mended_lock (slice_index base i)) (sym lock_place)

    taken : slice_index base (place Mend n) ≡ suc (slice_index op.next (place Mend n))
    taken = by (slice_index base (place Mend n)) (slice_index op.next (place Mend n)) lock_freed (λ same. c.changes near (here ∙ same))
      where
        by : (w x : ℕ) → x ≡ mended_lock w → (w ≡ x → ⊥) → w ≡ suc x
        by w x is apart = omega (arith, is, apart)

    even : slice_index op.next (place Mend n) % 2 ≡ 0
    even = by (slice_index base (place Mend n)) (slice_index op.next (place Mend n)) lock_freed
      where
        by : (w x : ℕ) → x ≡ mended_lock w → x % 2 ≡ 0
        by w x is = omega (arith, is)

    lock_is : place_of site op.guarded (place Mend n) ≡ at b
    lock_is = ap (place_of site op.guarded) lock_place ∙ by (head_at site.shape s) b
      where
        by : (f b : ℕ) → f + 32 + 32 * 0 + 32 * b ≡ f + 32 + 32 * b
        by f b = omega arith

    pub lock_may : MayAt site (sets (place_of site op.guarded (place Mend n)) (slice_index op.next (place Mend n))) v
    lock_may = subst (λ i. MayAt site (sets i (slice_index op.next (place Mend n))) v) (sym lock_is)
        ((may_mend site v ground).unlock s b (slice_index op.next (place Mend n)) (slice_index base (place Mend n)) word mine
        (no_sides site op.guarded op.words words_of_buckets v c.all) bucket_near (subst (λ i. KnowsWord v i (slice_index base (place Mend n))) lock_is knows_here) taken even)

  -- ---- word 1 of a bucket
  abbrev Frees : ℕ → ℕ → Type 0
  Frees b x = FreesSpoiled site s word (spoils site.shape head base c.partly.small deep) b x

  first_there : (b : ℕ) → word (at b + 1) ≡ first_of base b
  first_there b = bucket_here site.shape s base head b 1

  frees_none : (b x : ℕ) → x ≡ first_of base b → Frees b x
  frees_none b x is = record { slots = λ r low. inl (ap (allocated r) (is ∙ sym (first_there b)), ap (member r) (is ∙ sym (first_there b))) }

  frees_spoiled : (b x : ℕ) → x ≡ mended_first base site.shape head b → Frees b x
  frees_spoiled b x is = record {
    slots = λ r low. elim (slot_says site.shape head base c.partly.small deep b r low) [
      | inl same ↦ inl (ap (allocated r) is ∙ same.0 ∙ sym (ap (allocated r) (first_there b)), ap (member r) is ∙ same.1 ∙ sym (ap (member r) (first_there b)))
      | inr free ↦ inr (ap (allocated r) is ∙ free.0, free.1)
    ];
  }

  first_place : (b : ℕ) → place Mend (2 * b + 1) ≡ block * b + 1
  first_place b = omega arith

  first_made : (b : ℕ) → b < buckets → slice_index op.next (place Mend (2 * b + 1)) ≡ mended_first base site.shape head b
  first_made b near = value_is (2 * b + 1) (omega (arith, near)) ∙ ap (made_word Mend site.shape head base) (first_place b) ∙ mended_at base site.shape head b

  -- as it is now
  frees_now : (b : ℕ) → b < buckets → Frees b (slice_index op.words (block * b + 1))
  frees_now b near = elim (either_way op Mend base n c.partly (2 * b + 1) (omega (arith, near))) [
    | inl same ↦ frees_none b (slice_index op.words (block * b + 1)) (ap (slice_index op.words) (sym (first_place b)) ∙ same ∙ ap (slice_index base) (first_place b))
    | inr stored ↦ frees_spoiled b (slice_index op.words (block * b + 1)) (ap (slice_index op.words) (sym (first_place b)) ∙ stored ∙ first_made b near)
  ]

  mendable : IsMendable site s word (spoils site.shape head base c.partly.small deep)
  mendable = record {
    why = λ b r near low is_true. elim (why site.shape head base c.partly.small deep b r near low is_true) [
      | inl foreign ↦ inl (λ covers. foreign (subst (λ h. Covers (depth_in h) (pattern_in h) (key_hash site.shape (key_of base b r))) (header_here site.shape s base head)
          (subst (λ k. Covers (depth_in (word (header_word site.shape s))) (pattern_in (word (header_word site.shape s))) (key_hash site.shape k)) (key_here site.shape s base head b r) covers)))
      | inr stays ↦ inr (
        stays.0,
        stays.1,
        subst (λ k. Hit site.shape word s stays.0 stays.1 k) (sym (key_here site.shape s base head b r)) (stands_hit site.shape s base head old.within stays.0 stays.1 (key_of base b r) stays.2),
        stays.3,
      )
    ];
  }

  place_is : (b k : ℕ) → at b + k ≡ place_of site op.guarded (block * b + k)
  place_is b k = number_is site.shape s b k

  mending : IsMending site s word (spoils site.shape head base c.partly.small deep) v
  mending = record {
    mine = mine;
    no_sides = no_sides site op.guarded op.words words_of_buckets v c.all;
    behind = λ b k near from low. subst (λ i. KnowsWord v i (word i)) (sym (place_is b k))
        (knows_place site op.guarded op.words words_of_buckets v c.all (block * b + k) (word (place_of site op.guarded (block * b + k))) (omega (arith, near, low))
        (untouched op Mend base n c.partly (block * b + k) (omega (arith, near, low)) (λ m far same. omega (arith, same, from, low))
        ∙ sym (bucket_here site.shape s base head b k) ∙ ap word (place_is b k))
        (λ y loose. (let q = firm_by (block * b + k) n y loose in let same = q.2 in omega (arith, same, from, low))));
    first = λ b near. (
      slice_index op.words (block * b + 1),
      subst (λ i. Has (i, slice_index op.words (block * b + 1)) v.known) (sym (place_is b 1)) (c.all.words_are (block * b + 1) (omega (arith, near))),
      frees_now b near,
    );
    loose = λ b y near loose.
        (let q = firm_by (block * b + 1) n y (subst (λ i. IsLoose v (i, y)) (place_is b 1) loose) in
        frees_none b y (q.3 ∙ ap (slice_index base) (sym q.2)));
  }

  module _ (b : ℕ) (is : n ≡ 2 * b + 1) where
    place_here : place Mend n ≡ block * b + 1
    place_here = ap (place Mend) is ∙ first_place b

    near_bucket : b < buckets
    near_bucket = omega (arith, is, near)

    pub mend_may : MayAt site (sets (place_of site op.guarded (place Mend n)) (slice_index op.next (place Mend n))) v
    mend_may = subst (λ i. MayAt site (sets i (slice_index op.next (place Mend n))) v) (place_is b 1 ∙ ap (place_of site op.guarded) (sym place_here))
        ((may_mend site v ground).mend s b (slice_index op.next (place Mend n)) word (spoils site.shape head base c.partly.small deep) mendable mending near_bucket
        (subst (λ x. KnowsWord v (at b + 1) x) (ap (slice_index base) place_here ∙ sym (first_there b))
        (subst (λ i. KnowsWord v i (slice_index base (place Mend n))) (ap (place_of site op.guarded) place_here ∙ sym (place_is b 1)) knows_here))
        (frees_spoiled b (slice_index op.next (place Mend n)) (ap (λ m. slice_index op.next (place Mend m)) is ∙ first_made b near_bucket)))

  -- EITHER OF THEM
  pub stage_may : MayAt site (sets (place_of site op.guarded (place Mend n)) (slice_index op.next (place Mend n))) v
  stage_may = elim (cases_eq (n % 2) 0) [ inl even ↦ lock_may (n / 2) (omega (arith, even)) | inr odd ↦ mend_may (n / 2) (omega (arith, odd)) ]
