-- The words of a side, by what is kept of its segment: its records are those of the 1-side, each where it stands, with exact notes.
use Rattle.std.proofs.Common.{◌≡◌, ◌≢◌, ◌↔◌, ℕ, suc, ◌+◌, ◌-◌, ◌*◌, ◌/◌, ◌%◌, ◌^◌, ◌<◌, ◌≤◌, eqb, cond, Bool, List, ◌++◌, length, slice_index, inl, inr, refl, sym, ap, subst, ◌∙◌, arith}
use Rattle.std.specs.Prelude.{min, if◌then◌else◌}
use Rattle.std.proofs.lemmas.Bool.{cases_eq, cases_lt, lt-ltb, le-ltb, ne_eqb}
use Rattle.std.proofs.lemmas.Nat.{and_le_r}
use Rattle.word_bits.specs.Bits.{bits, bit}
use Rattle.bucket_meta.specs.Bucket.{allocated, member, finger, overflow_count, record_slots, slot_fingers_part}
use Rattle.bucket_meta.specs.Notes.{OverflowNote, AreExact, notes_by}
use Rattle.bucket_meta.specs.Marks.{slot_bits, copied_mark, cleared_mark}
use Rattle.hash_word.specs.Hash.{Covers, probing_of}
use Rattle.segment_head.specs.HeadWord.{depth_in, pattern_in}
use Rattle.image_layout.specs.Places.{homes, buckets, block, words_of_buckets}
use Rattle.sound_image.specs.Records.{key_hash}
use Rattle.sound_image.proofs.LowBits.{same_allocated, same_member, same_finger}
use Rattle.whole_segment.specs.Slots.{AreHalves}
use Rattle.whole_segment.specs.Records.{Stands}
use Rattle.image_layout.specs.Standing.{stashed_of, HasExactNotes}
use Rattle.whole_segment.specs.Rebuilding.{first_with, third_with}
use Rattle.whole_segment.proofs.marking.MarkHalves.{are_halves, bits_small}
use Rattle.whole_segment.proofs.marking.Marking.{copy_has}
use Rattle.whole_segment.proofs.Telling.{covered_is}
use Rattle.whole_segment.proofs.Stashing.{stashed_same}
use Rattle.whole_segment.proofs.rebuilding.Written.{first_made_small, third_made_small, made_keeps, made_notes}
use Rattle.world.proofs.holding.Preparing.{notes_kept_3}
use Rattle.enclose_op.specs.declared.enclosed.Enclosed.{Enclosed}
use Rattle.enclose_op.specs.Whole.{kept_word, kept_first, kept_third, kept_key, side_depth, side_pattern, side_slots}
use Rattle.split_op.specs.Sides.{side_word, bare_mark, side_notes, side_mark, side_third, marked_word, thinned_word, side_words, IsThinned}
use Rattle.split_op.proofs.sides.Listing.{listed, listed_is, listed_long, listed_small, by_word, thinned_other, listed_thinned}
use Rattle.split_op.proofs.sides.Thinning.{HasLowFingers, HasHighFingers, low_is, high_is, without_free_small}

-- A SIDE: the records of the 1-side, each where it stands in the segment, with exact notes
pub record IsSide (e : Enclosed) (words : List ℕ) : Type 0 where
  pub taken : (b r : ℕ) → b < buckets → r < record_slots
      → allocated r (side_word words b 1) ≡ 1 ↔ ((allocated r (kept_first e b) ≡ 1) × Covers (suc (depth_in e.head)) (2 * pattern_in e.head + 1) (key_hash e.site.geometry (kept_key e b r)))
  pub membership : (b r : ℕ) → b < buckets → r < record_slots → allocated r (side_word words b 1) ≡ 1 → member r (side_word words b 1) ≡ member r (kept_first e b)
  pub fingers : (b r : ℕ) → b < buckets → r < record_slots → allocated r (side_word words b 1) ≡ 1
      → finger r (side_word words b 2) (side_word words b 3) ≡ finger r (kept_word e b 2) (kept_word e b 3)
  pub records : (b m : ℕ) → b < buckets → 4 ≤ m → m < 32 → side_word words b m ≡ kept_word e b m
  pub exact : (b : ℕ) → b < homes → HasExactNotes (λ c. side_word words c 1) (λ c. side_word words c 3) b (stashed_of (λ c. side_word words c 1) (kept_key e) (key_hash e.site.geometry) b)

-- a bit is 1 or 0
bit_cases : (r w : ℕ) → (bit r w ≡ 1 → ⊥) → bit r w ≡ 0
bit_cases r w apart = by (w / 2 ^ r) apart
  where
    by : (q : ℕ) → (q % 2 ^ 1 ≡ 1 → ⊥) → q % 2 ^ 1 ≡ 0
    by q apart = omega (arith, apart)

-- a slot that is taken in a copied mark says there what it said
copied_member : (w set r : ℕ) → w < 2 ^ 64 → set < 2 ^ record_slots → r < record_slots → allocated r (copied_mark w set) ≡ 1 → member r (copied_mark w set) ≡ member r w
copied_member w set r small within low taken =
    let halves : AreHalves w set (copied_mark w set) (cleared_mark w set) = are_halves w set small within in
    elim (cases_eq (bit r set) 1) [
      | inl in_set ↦ (halves.moved r low in_set).0.membership
      | inr out ↦ absurd (let free = (halves.stayed r low (bit_cases r set out)).0.taken in omega (arith, taken, free))
    ]

-- ---- the words of homes and of stash buckets
module _ (e : Enclosed) where
  abbrev hash : ℕ → ℕ
  hash = key_hash e.site.geometry

  abbrev depth : ℕ
  depth = min (side_depth e) 64

  abbrev pattern : ℕ
  pattern = side_pattern e % 2 ^ 32

  pub mark_home : (b : ℕ) → b < homes → side_mark e b ≡ first_with (bare_mark e b) (side_notes e b)
  mark_home b home = ap (λ t. cond t (first_with (bare_mark e b) (side_notes e b)) (bare_mark e b)) (lt-ltb b homes home)

  pub mark_stash : (b : ℕ) → homes ≤ b → side_mark e b ≡ bare_mark e b
  mark_stash b stash = ap (λ t. cond t (first_with (bare_mark e b) (side_notes e b)) (bare_mark e b)) (le-ltb b homes stash)

  pub third_home : (b : ℕ) → b < homes → side_third e b ≡ third_with (kept_third e b) (side_notes e b)
  third_home b home = ap (λ t. cond t (third_with (kept_third e b) (side_notes e b)) (slot_fingers_part (kept_third e b))) (lt-ltb b homes home)

  pub third_stash : (b : ℕ) → homes ≤ b → side_third e b ≡ slot_fingers_part (kept_third e b)
  third_stash b stash = ap (λ t. cond t (third_with (kept_third e b) (side_notes e b)) (slot_fingers_part (kept_third e b))) (le-ltb b homes stash)

  pub marked_other : (b m : ℕ) → m ≢ 1 → m ≢ 3 → marked_word e b m ≡ kept_word e b m
  marked_other b m no_one no_three = ap (λ t. cond t (side_mark e b) (cond (eqb m 3) (side_third e b) (kept_word e b m))) (ne_eqb m 1 no_one)
      ∙ ap (λ t. cond t (side_third e b) (kept_word e b m)) (ne_eqb m 3 no_three)

  -- ---- they are words where those that are kept are
  slots_within : (b : ℕ) → side_slots e b < 2 ^ record_slots
  slots_within b = (covered_is (kept_first e) (kept_key e) hash depth pattern b).within

  first_below : (b : ℕ) → bare_mark e b < 2 ^ 28
  first_below b =
      let most = and_le_r (kept_first e b) (slot_bits (side_slots e b)) in
      let small = bits_small (side_slots e b) (slots_within b) in
      omega (arith, most, small)

  mark_small : (b : ℕ) → side_mark e b < 2 ^ 64
  mark_small b = elim (cases_lt b homes) [
    | inl home ↦ subst (λ (x : ℕ). x < 2 ^ 64) (sym (mark_home b home)) (first_made_small (bare_mark e) (kept_third e) (kept_key e) hash b home)
    | inr stash ↦ (let same = mark_stash b stash in let below = first_below b in omega (arith, same, below))
  ]

  third_small : (b : ℕ) → side_third e b < 2 ^ 64
  third_small b = elim (cases_lt b homes) [
    | inl home ↦ subst (λ (x : ℕ). x < 2 ^ 64) (sym (third_home b home)) (third_made_small (bare_mark e) (kept_third e) (kept_key e) hash b home)
    | inr stash ↦ (let same = third_stash b stash in omega (arith, same))
  ]

  module _ (small : (i : ℕ) → slice_index e.buckets i < 2 ^ 64) where
    word_small : (b m : ℕ) → thinned_word (marked_word e) b m < 2 ^ 64
    word_small b m = by_word (λ k. thinned_word (marked_word e) b k < 2 ^ 64) (mark_small b) (without_free_small (side_mark e b) (kept_word e b 2) 0 8 (small (block * b + 2)))
        (without_free_small (side_mark e b) (side_third e b) 8 6 (third_small b))
        (λ k no_one no_two no_three. subst (λ (x : ℕ). x < 2 ^ 64) (sym (thinned_other (marked_word e) b k no_two no_three ∙ marked_other b k no_one no_three)) (small (block * b + k))) m

    pub side_small : (i : ℕ) → slice_index (side_words e) i < 2 ^ 64
    side_small = listed_small (thinned_word (marked_word e)) (λ b m _ _. word_small b m)

    -- ---- THE SIDE, with the fingerprints of all slots
    module _ (deep : depth_in e.head < 64) (wide : pattern_in e.head < 2 ^ 31) where
      abbrev words : List ℕ
      words = listed (marked_word e)

      depth_is : depth ≡ suc (depth_in e.head)
      depth_is = omega (arith, deep)

      pattern_is : pattern ≡ 2 * pattern_in e.head + 1
      pattern_is = omega (arith, wide)

      mark_is : (b : ℕ) → b < buckets → side_word words b 1 ≡ side_mark e b
      mark_is b near = listed_is (marked_word e) b 1 near (omega arith)

      third_is : (b : ℕ) → b < buckets → side_word words b 3 ≡ side_third e b
      third_is b near = listed_is (marked_word e) b 3 near (omega arith)

      other_is : (b m : ℕ) → b < buckets → m < block → m ≢ 1 → m ≢ 3 → side_word words b m ≡ kept_word e b m
      other_is b m near low no_one no_three = listed_is (marked_word e) b m near low ∙ marked_other b m no_one no_three

      -- the slots are those of word 1 without notes
      low_same : (b : ℕ) → b < buckets → side_word words b 1 % 2 ^ 28 ≡ bare_mark e b % 2 ^ 28
      low_same b near = elim (cases_lt b homes) [
        | inl home ↦ ap (λ (x : ℕ). x % 2 ^ 28) (mark_is b near ∙ mark_home b home) ∙ (made_keeps (bare_mark e) (kept_third e) (kept_key e) hash b home).slots
        | inr stash ↦ ap (λ (x : ℕ). x % 2 ^ 28) (mark_is b near ∙ mark_stash b stash)
      ]

      third_same : (b : ℕ) → b < buckets → side_word words b 3 % 2 ^ 48 ≡ kept_word e b 3 % 2 ^ 48
      third_same b near = elim (cases_lt b homes) [
        | inl home ↦ ap (λ (x : ℕ). x % 2 ^ 48) (third_is b near ∙ third_home b home) ∙ (made_keeps (bare_mark e) (kept_third e) (kept_key e) hash b home).fingers
        | inr stash ↦ ap (λ (x : ℕ). x % 2 ^ 48) (third_is b near ∙ third_stash b stash) ∙ again (kept_word e b 3)
      ]
        where
          again : (x : ℕ) → slot_fingers_part x % 2 ^ 48 ≡ x % 2 ^ 48
          again x = omega arith

      -- the records that stand there
      stands : (b r k : ℕ) → Stands (bare_mark e) (kept_key e) b r k ↔ (Stands (kept_first e) (kept_key e) b r k × Covers depth pattern (hash k))
      stands = copy_has (kept_first e) (bare_mark e) (kept_key e) hash depth pattern (λ b. small (block * b + 1))
          (λ b near. (side_slots e b, covered_is (kept_first e) (kept_key e) hash depth pattern b, refl))

      taken_there : (b r : ℕ) → b < buckets → r < record_slots → allocated r (side_word words b 1) ≡ 1
          → (allocated r (kept_first e b) ≡ 1) × Covers (suc (depth_in e.head)) (2 * pattern_in e.head + 1) (hash (kept_key e b r))
      taken_there b r near low taken =
          let both = (stands b r (kept_key e b r)).0 (record {
            bucket = near;
            slot = low;
            taken = sym (same_allocated r (side_word words b 1) (bare_mark e b) low (low_same b near)) ∙ taken;
            has_key = refl;
          }) in
          (both.0.taken, subst (λ (d : ℕ). Covers d (2 * pattern_in e.head + 1) (hash (kept_key e b r))) depth_is (subst (λ (p : ℕ). Covers depth p (hash (kept_key e b r))) pattern_is both.1))

      taken_back : (b r : ℕ) → b < buckets → r < record_slots → (allocated r (kept_first e b) ≡ 1) × Covers (suc (depth_in e.head)) (2 * pattern_in e.head + 1) (hash (kept_key e b r))
          → allocated r (side_word words b 1) ≡ 1
      taken_back b r near low o =
          let covers = subst (λ (p : ℕ). Covers depth p (hash (kept_key e b r))) (sym pattern_is) (subst (λ (d : ℕ). Covers d (2 * pattern_in e.head + 1) (hash (kept_key e b r))) (sym depth_is) o.1) in
          same_allocated r (side_word words b 1) (bare_mark e b) low (low_same b near) ∙ ((stands b r (kept_key e b r)).1 (record { bucket = near; slot = low; taken = o.0; has_key = refl }, covers)).taken

      same_members : (b r : ℕ) → b < buckets → r < record_slots → allocated r (side_word words b 1) ≡ 1 → member r (side_word words b 1) ≡ member r (kept_first e b)
      same_members b r near low taken =
          let same = low_same b near in
          same_member r (side_word words b 1) (bare_mark e b) low same
          ∙ copied_member (kept_first e b) (side_slots e b) r (small (block * b + 1)) (slots_within b) low (sym (same_allocated r (side_word words b 1) (bare_mark e b) low same) ∙ taken)

      exact_there : (b : ℕ) → b < homes → HasExactNotes (λ c. side_word words c 1) (λ c. side_word words c 3) b (stashed_of (λ c. side_word words c 1) (kept_key e) hash b)
      exact_there b home =
          let next : ℕ = probing_of b in
          let near : next < homes = omega arith in
          let first : (c : ℕ) → c < homes → side_word words c 1 ≡ first_with (bare_mark e c) (side_notes e c) = λ c low. mark_is c (omega (arith, low)) ∙ mark_home c low in
          let third : (c : ℕ) → c < homes → side_word words c 3 ≡ third_with (kept_third e c) (side_notes e c) = λ c low. third_is c (omega (arith, low)) ∙ third_home c low in
          let by : (f g u w : ℕ) → List OverflowNote → Type 0 = λ f g u w stashed. AreExact (notes_by f g 0 ++ notes_by u w 1) (overflow_count f) stashed in
          let stashed : List OverflowNote = stashed_of (bare_mark e) (kept_key e) hash b in
          subst (λ (x : List OverflowNote). by (side_word words b 1) (side_word words b 3) (side_word words next 1) (side_word words next 3) x)
          (sym (stashed_same (bare_mark e) (λ c. side_word words c 1) (kept_key e) (kept_key e) hash (λ c stash low. mark_is c low ∙ mark_stash c stash) (λ c r _ _. refl) b))
          (subst (λ (x : ℕ). by (side_word words b 1) (side_word words b 3) (side_word words next 1) x stashed) (sym (third next near))
          (subst (λ (x : ℕ). by (side_word words b 1) (side_word words b 3) x (third_with (kept_third e next) (side_notes e next)) stashed) (sym (first next near))
          (subst (λ (x : ℕ). by (side_word words b 1) x (first_with (bare_mark e next) (side_notes e next)) (third_with (kept_third e next) (side_notes e next)) stashed) (sym (third b home))
          (subst (λ (x : ℕ). by x (third_with (kept_third e b) (side_notes e b)) (first_with (bare_mark e next) (side_notes e next)) (third_with (kept_third e next) (side_notes e next)) stashed) (sym (first b home))
          (made_notes (bare_mark e) (kept_third e) (kept_key e) hash b home)))))

      marked_side : IsSide e words
      marked_side = record {
        taken = λ b r near low. (taken_there b r near low, taken_back b r near low);
        membership = same_members;
        fingers = λ b r near low taken. same_finger r (side_word words b 2) (kept_word e b 2) (side_word words b 3) (kept_word e b 3) low
            (other_is b 2 near (omega arith) (λ s. omega (arith, s)) (λ s. omega (arith, s))) (third_same b near);
        records = λ b m near from low. other_is b m near low (λ s. omega (arith, s, from)) (λ s. omega (arith, s, from));
        exact = exact_there;
      }

-- ---- A SIDE stays one where fingerprints of slots that are not taken are taken away
module _ (e : Enclosed) (words thin : List ℕ) (side : IsSide e words) (is : IsThinned words thin) where
  lows : (b : ℕ) → b < buckets → HasLowFingers (side_word words b 1) (side_word words b 2) (side_word thin b 2)
  lows b near = subst (HasLowFingers (side_word words b 1) (side_word words b 2)) (sym (is.low b near)) (low_is (side_word words b 1) (side_word words b 2))

  highs : (b : ℕ) → b < buckets → HasHighFingers (side_word words b 1) (side_word words b 3) (side_word thin b 3)
  highs b near = subst (HasHighFingers (side_word words b 1) (side_word words b 3)) (sym (is.high b near)) (high_is (side_word words b 1) (side_word words b 3))

  first_same : (b : ℕ) → b < buckets → side_word thin b 1 ≡ side_word words b 1
  first_same b near = is.others b 1 near (omega arith) (λ s. omega (arith, s)) (λ s. omega (arith, s))

  taken_same : (b r : ℕ) → b < buckets → allocated r (side_word thin b 1) ≡ 1 → allocated r (side_word words b 1) ≡ 1
  taken_same b r near t = ap (allocated r) (sym (first_same b near)) ∙ t

  -- a fingerprint is of one word
  of_low : (r w u x : ℕ) → r < 8 → finger r w u ≡ finger r w x
  of_low r w u x low =
      ap (λ (b : Bool). if b then bits (8 * r) 8 w else bits (8 * (r - 8)) 8 u) (lt-ltb r 8 low) ∙ sym (ap (λ (b : Bool). if b then bits (8 * r) 8 w else bits (8 * (r - 8)) 8 x) (lt-ltb r 8 low))

  of_high : (r w u x : ℕ) → 8 ≤ r → finger r w x ≡ finger r u x
  of_high r w u x high =
      ap (λ (b : Bool). if b then bits (8 * r) 8 w else bits (8 * (r - 8)) 8 x) (le-ltb r 8 high) ∙ sym (ap (λ (b : Bool). if b then bits (8 * r) 8 u else bits (8 * (r - 8)) 8 x) (le-ltb r 8 high))

  same_fingers : (b r : ℕ) → b < buckets → r < record_slots → allocated r (side_word words b 1) ≡ 1 → finger r (side_word thin b 2) (side_word thin b 3) ≡ finger r (side_word words b 2) (side_word words b 3)
  same_fingers b r near small taken = elim (cases_lt r 8) [
    | inl low ↦ (lows b near).kept (side_word thin b 3) r low taken ∙ of_low r (side_word words b 2) (side_word thin b 3) (side_word words b 3) low
    | inr high ↦ (highs b near).kept (side_word thin b 2) r high small taken ∙ of_high r (side_word thin b 2) (side_word words b 2) (side_word words b 3) high
  ]

  exact_thin : (b : ℕ) → b < homes → HasExactNotes (λ c. side_word thin c 1) (λ c. side_word thin c 3) b (stashed_of (λ c. side_word thin c 1) (kept_key e) (key_hash e.site.geometry) b)
  exact_thin b home =
      let next : ℕ = probing_of b in
      let near : next < buckets = omega arith in
      let small : b < buckets = omega (arith, home) in
      let by : (f : ℕ) → List OverflowNote → List OverflowNote → List OverflowNote → Type 0 = λ f own other stashed. AreExact (own ++ other) (overflow_count f) stashed in
      let own = ap (λ (x : ℕ). notes_by x (side_word thin b 3) 0) (first_same b small) ∙ notes_kept_3 (side_word words b 1) (side_word words b 3) (side_word thin b 3) 0 (highs b small).upper in
      let other = ap (λ (x : ℕ). notes_by x (side_word thin next 3) 1) (first_same next near) ∙ notes_kept_3 (side_word words next 1) (side_word words next 3) (side_word thin next 3) 1 (highs next near).upper in
      subst (λ (x : ℕ). by x (notes_by (side_word thin b 1) (side_word thin b 3) 0) (notes_by (side_word thin next 1) (side_word thin next 3) 1) (stashed_of (λ c. side_word thin c 1) (kept_key e) (key_hash e.site.geometry) b)) (sym (first_same b small))
      (subst (λ (x : List OverflowNote). by (side_word words b 1) x (notes_by (side_word thin next 1) (side_word thin next 3) 1) (stashed_of (λ c. side_word thin c 1) (kept_key e) (key_hash e.site.geometry) b)) (sym own)
      (subst (λ (x : List OverflowNote). by (side_word words b 1) (notes_by (side_word words b 1) (side_word words b 3) 0) x (stashed_of (λ c. side_word thin c 1) (kept_key e) (key_hash e.site.geometry) b)) (sym other)
      (subst (λ (x : List OverflowNote). by (side_word words b 1) (notes_by (side_word words b 1) (side_word words b 3) 0) (notes_by (side_word words next 1) (side_word words next 3) 1) x)
      (sym (stashed_same (λ c. side_word words c 1) (λ c. side_word thin c 1) (kept_key e) (kept_key e) (key_hash e.site.geometry) (λ c _ low. first_same c low) (λ c r _ _. refl) b))
      (side.exact b home))))

  thin_side : IsSide e thin
  thin_side = record {
    taken = λ b r near low. ((λ t. (side.taken b r near low).0 (taken_same b r near t)), (λ o. ap (allocated r) (first_same b near) ∙ (side.taken b r near low).1 o));
    membership = λ b r near low t. ap (member r) (first_same b near) ∙ side.membership b r near low (taken_same b r near t);
    fingers = λ b r near low t. same_fingers b r near low (taken_same b r near t) ∙ side.fingers b r near low (taken_same b r near t);
    records = λ b m near from low. is.others b m near low (λ s. omega (arith, s, from)) (λ s. omega (arith, s, from)) ∙ side.records b m near from low;
    exact = exact_thin;
  }

-- THE WORDS OF A SIDE are one
pub is_side : (e : Enclosed) → ((i : ℕ) → slice_index e.buckets i < 2 ^ 64) → depth_in e.head < 64 → pattern_in e.head < 2 ^ 31 → IsSide e (side_words e)
is_side e small deep wide = thin_side e (listed (marked_word e)) (side_words e) (marked_side e small deep wide) (listed_thinned (marked_word e))

pub side_long : (e : Enclosed) → length (side_words e) ≡ words_of_buckets
side_long e = listed_long (thinned_word (marked_word e))
