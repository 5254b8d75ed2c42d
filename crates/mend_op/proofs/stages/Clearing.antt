-- Records of the 1-side leave a bucket.
use Rattle.std.proofs.Common.{◌≡◌, ℕ, ◌+◌, ◌*◌, ◌^◌, ◌<◌, ◌≤◌, ◌⊎◌, List, slice_index, inl, inr, sym, ap, ◌∙◌, subst, arith}
use Rattle.std.proofs.lemmas.Bool.{cases_eq}
use Rattle.trace.specs.Events.{Words}
use Rattle.hash_word.specs.Hash.{Covers}
use Rattle.bucket_meta.specs.Bucket.{allocated, member, record_slots}
use Rattle.image_layout.specs.Places.{Shape, bucket_at, buckets, block, words_of_buckets}
use Rattle.sound_image.specs.Records.{key_hash}
use Rattle.whole_segment.proofs.marking.Uncovering.{slot_says as uncovered_says}
use Rattle.world.specs.Ground.{Ground, IsGround}
use Rattle.world.specs.Views.{View, IsLoose}
use Rattle.world.specs.Holders.{KnowsWord}
use Rattle.world.specs.areas.Areas.{header_word}
use Rattle.world.specs.areas.Kinds.{sets}
use Rattle.world.specs.areas.Asking.{MayAt}
use Rattle.world.specs.areas.Splitting.{ClearsRegion}
use Rattle.world.specs.areas.Repairing.{HasStale, side_depth_in, side_pattern_in}
use Rattle.world.proofs.holders.mending.Mending.{may_mend}
use Rattle.rounds.specs.declared.rounds.Rounds.{Rounds}
use Rattle.repair_op.specs.Guarded.{IsOld}
use Rattle.mend_op.specs.declared.stage.Stage.TheVariants.{Clear}
use Rattle.mend_op.specs.declared.op.MendOp.{MendOp}
use Rattle.mend_op.specs.Words.{capped_side_depth, one_pattern_field, first_of, key_of, halved_first}
use Rattle.mend_op.specs.Stages.{place}
use Rattle.mend_op.specs.Stands.{place_of, IsSplit, IsRounding}
use Rattle.mend_op.proofs.stages.Placing.{place_low, made_is, halved_at}
use Rattle.mend_op.proofs.stages.Partly.{untouched}
use Rattle.mend_op.proofs.whole.Words.{mend_words, header_here, bucket_here, key_here, number_is, no_header}
use Rattle.mend_op.proofs.whole.Known.{has_stale, knows_place, no_sides}
use Rattle.mend_op.proofs.whole.Newest.{IsInRange}

-- ---- the slots that are freed of word 1 of a bucket
module _ (shape : Shape) (head : ℕ) (base : List ℕ) (small : (i : ℕ) → slice_index base i < 2 ^ 64) (range : IsInRange head) (b : ℕ) where
  depth_is : capped_side_depth head ≡ side_depth_in head
  depth_is = let deep = range.deep in omega (arith, deep)

  pattern_is : one_pattern_field head ≡ side_pattern_in head
  pattern_is = let wide = range.wide in omega (arith, wide)

  in_side : (h : ℕ) → Covers (capped_side_depth head) (one_pattern_field head) h → Covers (side_depth_in head) (side_pattern_in head) h
  in_side h covers = subst (λ d. Covers d (side_pattern_in head) h) depth_is (subst (λ p. Covers (capped_side_depth head) p h) pattern_is covers)

  -- each slot says what it said, or is free, and then a record there was of the side
  pub slot_says : (r : ℕ) → r < record_slots
      → ((allocated r (halved_first base shape head b) ≡ allocated r (first_of base b)) × (member r (halved_first base shape head b) ≡ member r (first_of base b)))
      ⊎ ((allocated r (halved_first base shape head b) ≡ 0) × Covers (side_depth_in head) (side_pattern_in head) (key_hash shape (key_of base b r)))
  slot_says r low = elim (uncovered_says (first_of base) (key_of base) (key_hash shape) (capped_side_depth head) (one_pattern_field head) b (small (block * b + 1)) r low) [
    | inl same ↦ inl same
    | inr free ↦ inr (free.0, in_side (key_hash shape (key_of base b r)) free.1)
  ]

-- ---- as the store of a word
module _ (site : Ground) (ground : IsGround site) (op : MendOp) (same_shape : op.guarded.site.geometry ≡ site.shape) (old : IsOld site op.guarded) (range : IsInRange op.guarded.head)
    (base : List ℕ) (b : ℕ) (near : b < buckets) (rounds : Rounds) (v : View) (c : IsRounding site op.guarded op.words op.next Clear base b rounds v) (split : IsSplit site op.guarded v) where
  abbrev s : ℕ
  s = op.guarded.segment

  abbrev word : Words
  word = mend_words site.shape s base op.guarded.head

  abbrev at : ℕ
  at = bucket_at site.shape s b

  value_is : slice_index op.next (place Clear b) ≡ halved_first base site.shape op.guarded.head b
  value_is =
      ap (λ (l : List ℕ). slice_index l (place Clear b)) c.partly.makes ∙ made_is base op.guarded.site.geometry op.guarded.head Clear (place Clear b) (place_low Clear b near)
      ∙ halved_at base op.guarded.site.geometry op.guarded.head b ∙ ap (λ (g : Shape). halved_first base g op.guarded.head b) same_shape

  -- its words are as they were, and settled
  as_before : (n : ℕ) → 1 ≤ n → n < block → slice_index op.words (block * b + n) ≡ slice_index base (block * b + n)
  as_before n from low = elim (cases_eq n 1) [
    | inl one ↦ ap (λ k. slice_index op.words (block * b + k)) one ∙ c.partly.behind b (omega arith) near ∙ ap (λ k. slice_index base (block * b + k)) (sym one)
    | inr apart ↦ untouched op Clear base b c.partly (block * b + n) (omega (arith, near, low)) (λ m far same. apart (omega (arith, same, low)))
  ]

  firm : (n : ℕ) → n < block → (y : ℕ) → IsLoose v (place_of site op.guarded (block * b + n), y) → ⊥
  firm n low y loose =
      let q = c.loose (place_of site op.guarded (block * b + n), y) loose in
      let same : place_of site op.guarded (block * b + n) ≡ place_of site op.guarded (place Clear q.0) = ap (λ (p : ℕ × ℕ). p.0) q.2 in
      by (bucket_at site.shape s 0) q.0 n same q.1 low
    where
      by : (f m n : ℕ) → f + (32 * b + n) ≡ f + (32 * m + 1) → m < b → n < 32 → ⊥
      by f m n same less low = omega (arith, same, less, low)

  knows : (n : ℕ) → 1 ≤ n → n < block → KnowsWord v (at + n) (word (at + n))
  knows n from low = subst (λ i. KnowsWord v i (word i)) (sym (number_is site.shape s b n))
      (knows_place site op.guarded op.words words_of_buckets v c.all (block * b + n) (word (place_of site op.guarded (block * b + n))) (omega (arith, near, low))
      (as_before n from low ∙ sym (bucket_here site.shape s base op.guarded.head b n) ∙ ap word (number_is site.shape s b n)) (firm n low))

  mine : HasStale site v s word
  mine = has_stale site op.guarded op.words words_of_buckets v c.all old word (header_here site.shape s base op.guarded.head) (λ y loose.
      (let q = c.loose (header_word site.shape s, y) loose in no_header site.shape s (place Clear q.0) (sym (ap (λ (p : ℕ × ℕ). p.0) q.2))))

  first_here : word (at + 1) ≡ first_of base b
  first_here = bucket_here site.shape s base op.guarded.head b 1

  clears : ClearsRegion site word at (side_depth_in op.guarded.head) (side_pattern_in op.guarded.head) (word (at + 1)) (slice_index op.next (place Clear b))
  clears = record {
    slots = λ r low. elim (slot_says site.shape op.guarded.head base c.partly.small range b r low) [
      | inl same ↦ inl (ap (allocated r) value_is ∙ same.0 ∙ sym (ap (allocated r) first_here), ap (member r) value_is ∙ same.1 ∙ sym (ap (member r) first_here))
      | inr free ↦ inr (
        ap (allocated r) value_is ∙ free.0,
        λ taken. subst (λ k. Covers (side_depth_in op.guarded.head) (side_pattern_in op.guarded.head) (key_hash site.shape k)) (sym (key_here site.shape s base op.guarded.head b r)) free.1,
      )
    ];
  }

  -- THE STORE MAY BE MADE
  pub clear_may : MayAt site (sets (place_of site op.guarded (place Clear b)) (slice_index op.next (place Clear b))) v
  clear_may = subst (λ i. MayAt site (sets i (slice_index op.next (place Clear b))) v) (number_is site.shape s b 1)
      ((may_mend site v ground).clear s b (slice_index op.next (place Clear b)) (side_depth_in op.guarded.head) (side_pattern_in op.guarded.head) word mine
      (no_sides site op.guarded op.words words_of_buckets v c.all) near split.lacks knows clears)
