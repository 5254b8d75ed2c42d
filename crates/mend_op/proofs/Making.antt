-- What is made of the loaded words of a segment is what is to be made of its words.
use Rattle.std.proofs.Common.{◌≡◌, ◌≢◌, ℕ, zero, suc, ◌+◌, ◌*◌, ◌/◌, ◌%◌, ◌<◌, ◌≤◌, Bool, true, false, List, length, slice_index, inl, inr, refl, sym, ap, ◌∙◌, arith}
use Rattle.std.specs.Prelude.{◌==◌, ◌&&◌, ◌||◌, not, if◌then◌else◌}
use Rattle.std.proofs.lemmas.Bool.{cases_eq, cases_lt, eq-eqb, ne_eqb, lt-ltb, le-ltb}
use Rattle.segment_head.specs.HeadWord.{pattern_in}
use Rattle.hash_word.specs.Hash.{home_of, top}
use Rattle.bucket_meta.specs.Bucket.{allocated, record_slots}
use Rattle.bucket_meta.specs.Marks.{cleared_mark}
use Rattle.image_layout.specs.Places.{Shape, homes, buckets, block, words_of_buckets}
use Rattle.sound_image.specs.Records.{key_hash}
use Rattle.whole_segment.specs.declared.loaded.Loaded.{Loaded}
use Rattle.whole_segment.specs.Records.{first_in, third_in, key_in, uncovered_first, HasWords}
use Rattle.whole_segment.specs.Order.{bucket_in_order, slot_at, position_of, own_home, own_position, is_at, is_below, stands_before}
use Rattle.whole_segment.specs.Mending.{is_spoiled, spoiled_set, without_spoiled}
use Rattle.whole_segment.specs.Rebuilding.{Overflow, first_with, third_with, rebuilt}
use Rattle.whole_segment.proofs.Stashing.{set_same, uncovered_first_same, rebuilt_same}
use Rattle.whole_segment.proofs.Words.{same_words}
use Rattle.whole_segment.proofs.marking.Positions.{bucket_low}
use Rattle.mend_op.specs.declared.stage.Stage.TheVariants.{Clear, Mend, Note}
use Rattle.mend_op.specs.Stages.{made}
use Rattle.mend_op.specs.Words.{capped_side_depth, one_pattern_field, own_depth, mended_lock, first_of, third_of, key_of, halved_first, mended_first, notes_of, halved, mended, noted}

-- ---- spoiled records, by words that are the same
module _ (first later_first : ℕ → ℕ) (key later_key : ℕ → ℕ → ℕ) (hash : ℕ → ℕ) (words : (b : ℕ) → b < buckets → later_first b ≡ first b)
    (keys : (b r : ℕ) → b < buckets → r < record_slots → later_key b r ≡ key b r) where
  at_same : (home k p : ℕ) → home < homes → is_at later_first later_key home k p ≡ is_at first key home k p
  at_same home k p low =
      let near : bucket_in_order home p < buckets = bucket_low home low p in
      let slot : slot_at p < record_slots = omega arith in
      ap (λ (x : ℕ). (allocated (slot_at p) x == 1) && (later_key (bucket_in_order home p) (slot_at p) == k)) (words (bucket_in_order home p) near)
      ∙ ap (λ (x : ℕ). (allocated (slot_at p) (first (bucket_in_order home p)) == 1) && (x == k)) (keys (bucket_in_order home p) (slot_at p) near slot)

  below_same : (home k n : ℕ) → home < homes → is_below later_first later_key home k n ≡ is_below first key home k n
  unfolding is_below
  below_same home k zero low = refl
  below_same home k (suc n) low =
      ap (λ (t : Bool). t || is_below later_first later_key home k n) (at_same home k n low) ∙ ap (λ (t : Bool). is_at first key home k n || t) (below_same home k n low)

  abbrev before_by : ℕ → ℕ → ℕ → Bool
  before_by k b r = is_below later_first later_key (home_of (hash k)) k (position_of (home_of (hash k)) b r)

  before_same : (b r : ℕ) → b < buckets → r < record_slots → stands_before later_first later_key hash b r ≡ stands_before first key hash b r
  before_same b r near slot =
      let home : home_of (hash (key b r)) < homes = omega arith in
      ap (λ (k : ℕ). before_by k b r) (keys b r near slot) ∙ below_same (own_home key hash b r) (key b r) (own_position key hash b r) home

  abbrev spoiled_by : ℕ → ℕ → ℕ → ℕ → ℕ → Bool → Bool
  spoiled_by d p r w k before = (allocated r w == 1) && (not (top d (hash k) == p) || before)

  pub spoiled_same : (d p b : ℕ) → b < buckets → spoiled_set later_first later_key hash d p b ≡ spoiled_set first key hash d p b
  spoiled_same d p b near = set_same (is_spoiled later_first later_key hash d p b) (is_spoiled first key hash d p b) record_slots (λ r low.
      ap (λ (t : Bool). spoiled_by d p r (later_first b) (later_key b r) t) (before_same b r near low)
      ∙ ap (λ (k : ℕ). spoiled_by d p r (later_first b) k (stands_before first key hash b r)) (keys b r near low)
      ∙ ap (λ (w : ℕ). spoiled_by d p r w (key b r) (stands_before first key hash b r)) (words b near))

-- ---- of what is loaded
module _ (words : List ℕ) (loaded : Loaded) (has : HasWords words loaded) (shape : Shape) (head : ℕ) where
  abbrev hash : ℕ → ℕ
  hash = key_hash shape

  halved_is : (b : ℕ) → b < buckets → uncovered_first (first_in loaded) (key_in loaded) hash (capped_side_depth head) (one_pattern_field head) b ≡ halved_first words shape head b
  halved_is b near = uncovered_first_same (first_of words) (first_in loaded) (key_of words) (key_in loaded) hash (capped_side_depth head) (one_pattern_field head) b (has.first b near) (λ r low. has.keys b r near low)

  mended_is : (b : ℕ) → b < buckets → without_spoiled (first_in loaded) (spoiled_set (first_in loaded) (key_in loaded) hash (own_depth head) (pattern_in head)) b ≡ mended_first words shape head b
  mended_is b near =
      ap (λ (w : ℕ). cleared_mark w (spoiled_set (first_in loaded) (key_in loaded) hash (own_depth head) (pattern_in head) b)) (has.first b near)
      ∙ ap (cleared_mark (first_of words b)) (spoiled_same (first_of words) (first_in loaded) (key_of words) (key_in loaded) hash has.first has.keys (own_depth head) (pattern_in head) b near)

  notes_are : (b : ℕ) → rebuilt (first_in loaded) (key_in loaded) hash b ≡ notes_of words shape head b
  notes_are = rebuilt_same (first_of words) (first_in loaded) (key_of words) (key_in loaded) hash (λ b stash near. has.first b near) has.keys

  -- ---- the words
  -- a word of this number of a bucket
  number_is : (i n : ℕ) → i % block ≡ n → i ≡ block * (i / block) + n
  number_is i n is = omega (arith, is)

  other_number : (i n m : ℕ) → i % block ≢ n → n < block → (b : ℕ) → b < m → i ≢ block * b + n
  other_number i n m apart low b near same = apart (omega (arith, same, low))

  module _ (next : List ℕ) (long : length next ≡ words_of_buckets) where
    at_number : (i n : ℕ) → i % block ≡ n → slice_index next i ≡ slice_index next (block * (i / block) + n)
    at_number i n is = ap (slice_index next) (number_is i n is)

    -- without the records of the 1-side
    module _ (first : List ℕ) (is : (b : ℕ) → b < buckets → slice_index first b ≡ uncovered_first (first_in loaded) (key_in loaded) hash (capped_side_depth head) (one_pattern_field head) b)
        (here : (b : ℕ) → b < buckets → slice_index next (block * b + 1) ≡ slice_index first b)
        (others : (i : ℕ) → ((b : ℕ) → b < buckets → i ≢ block * b + 1) → slice_index next i ≡ slice_index words i) where
      halved_word : (i : ℕ) → i < words_of_buckets → slice_index next i ≡ halved words shape head i
      halved_word i low = elim (cases_eq (i % block) 1) [
        | inl one ↦ (let near : i / block < buckets = omega (arith, low) in
            at_number i 1 one ∙ here (i / block) near ∙ is (i / block) near ∙ halved_is (i / block) near
            ∙ sym (ap (λ t. if t then halved_first words shape head (i / block) else slice_index words i) (eq-eqb (i % block) 1 one)))
        | inr apart ↦ others i (other_number i 1 buckets apart (omega arith))
            ∙ sym (ap (λ t. if t then halved_first words shape head (i / block) else slice_index words i) (ne_eqb (i % block) 1 apart))
      ]

      pub all_halved : next ≡ made Clear shape head words
      all_halved = same_words words_of_buckets (halved words shape head) next long halved_word

    -- with free locks, and without spoiled records
    module _ (first mid : List ℕ) (is : (b : ℕ) → b < buckets → slice_index first b ≡ without_spoiled (first_in loaded) (spoiled_set (first_in loaded) (key_in loaded) hash (own_depth head) (pattern_in head)) b)
        (locks : (b : ℕ) → b < buckets → slice_index mid (block * b) ≡ mended_lock (slice_index words (block * b)))
        (no_locks : (i : ℕ) → ((b : ℕ) → b < buckets → i ≢ block * b) → slice_index mid i ≡ slice_index words i)
        (here : (b : ℕ) → b < buckets → slice_index next (block * b + 1) ≡ slice_index first b)
        (others : (i : ℕ) → ((b : ℕ) → b < buckets → i ≢ block * b + 1) → slice_index next i ≡ slice_index mid i) where
      abbrev mended_by : ℕ → (lock one : Bool) → ℕ
      mended_by i lock one = if lock then mended_lock (slice_index words i) else if one then mended_first words shape head (i / block) else slice_index words i

      lock_is : (i : ℕ) → i % block ≡ 0 → i ≡ block * (i / block)
      lock_is i is = omega (arith, is)

      no_lock : (i : ℕ) → i % block ≢ 0 → (b : ℕ) → b < buckets → i ≢ block * b
      no_lock i apart b near same = apart (omega (arith, same))

      mended_word : (i : ℕ) → i < words_of_buckets → slice_index next i ≡ mended words shape head i
      mended_word i low =
          let near : i / block < buckets = omega (arith, low) in
          elim (cases_eq (i % block) 0) [
            | inl lock ↦
                others i (other_number i 1 buckets (λ one. omega (arith, lock, one)) (omega arith))
                ∙ ap (slice_index mid) (lock_is i lock) ∙ locks (i / block) near ∙ ap (λ j. mended_lock (slice_index words j)) (sym (lock_is i lock))
                ∙ sym (ap (λ t. mended_by i t (i % block == 1)) (eq-eqb (i % block) 0 lock))
            | inr free ↦ elim (cases_eq (i % block) 1) [
              | inl one ↦
                  at_number i 1 one ∙ here (i / block) near ∙ is (i / block) near ∙ mended_is (i / block) near
                  ∙ sym (ap (λ t. mended_by i t (i % block == 1)) (ne_eqb (i % block) 0 free) ∙ ap (λ t. if t then mended_first words shape head (i / block) else slice_index words i) (eq-eqb (i % block) 1 one))
              | inr apart ↦
                  others i (other_number i 1 buckets apart (omega arith)) ∙ no_locks i (no_lock i free)
                  ∙ sym (ap (λ t. mended_by i t (i % block == 1)) (ne_eqb (i % block) 0 free) ∙ ap (λ t. if t then mended_first words shape head (i / block) else slice_index words i) (ne_eqb (i % block) 1 apart))
            ]
          ]

      pub all_mended : next ≡ made Mend shape head words
      all_mended = same_words words_of_buckets (mended words shape head) next long mended_word

    -- with exact notes
    module _ (first third mid : List ℕ)
        (ones : (b : ℕ) → b < homes → slice_index first b ≡ first_with (first_in loaded b) (rebuilt (first_in loaded) (key_in loaded) hash b))
        (threes : (b : ℕ) → b < homes → slice_index third b ≡ third_with (third_in loaded b) (rebuilt (first_in loaded) (key_in loaded) hash b))
        (firsts : (b : ℕ) → b < homes → slice_index mid (block * b + 1) ≡ slice_index first b)
        (no_firsts : (i : ℕ) → ((b : ℕ) → b < homes → i ≢ block * b + 1) → slice_index mid i ≡ slice_index words i)
        (thirds : (b : ℕ) → b < homes → slice_index next (block * b + 3) ≡ slice_index third b)
        (no_thirds : (i : ℕ) → ((b : ℕ) → b < homes → i ≢ block * b + 3) → slice_index next i ≡ slice_index mid i) where
      abbrev noted_by : ℕ → (home one three : Bool) → ℕ
      noted_by i home one three =
          if home && one then first_with (first_of words (i / block)) (notes_of words shape head (i / block))
          else if home && three then third_with (third_of words (i / block)) (notes_of words shape head (i / block))
          else slice_index words i

      abbrev is_one : ℕ → Bool
      is_one i = i % block == 1

      abbrev is_three : ℕ → Bool
      is_three i = i % block == 3

      stash_number : (i n : ℕ) → homes ≤ i / block → n < block → (b : ℕ) → b < homes → i ≢ block * b + n
      stash_number i n high low b near same = omega (arith, same, high, low, near)

      one_made : (b : ℕ) → b < homes → slice_index first b ≡ first_with (first_of words b) (notes_of words shape head b)
      one_made b home =
          ones b home ∙ ap (λ (x : ℕ). first_with x (rebuilt (first_in loaded) (key_in loaded) hash b)) (has.first b (omega (arith, home)))
          ∙ ap (λ (o : Overflow). first_with (first_of words b) o) (notes_are b)

      three_made : (b : ℕ) → b < homes → slice_index third b ≡ third_with (third_of words b) (notes_of words shape head b)
      three_made b home =
          threes b home ∙ ap (λ (x : ℕ). third_with x (rebuilt (first_in loaded) (key_in loaded) hash b)) (has.third b (omega (arith, home)))
          ∙ ap (λ (o : Overflow). third_with (third_of words b) o) (notes_are b)

      home_word : (i : ℕ) → i / block < homes → slice_index next i ≡ noted_by i true (is_one i) (is_three i)
      home_word i home = elim (cases_eq (i % block) 1) [
        | inl one ↦
            no_thirds i (other_number i 3 homes (λ three. omega (arith, one, three)) (omega arith))
            ∙ ap (slice_index mid) (number_is i 1 one) ∙ firsts (i / block) home ∙ one_made (i / block) home
            ∙ sym (ap (λ t. noted_by i true t (is_three i)) (eq-eqb (i % block) 1 one))
        | inr no_one ↦ elim (cases_eq (i % block) 3) [
          | inl three ↦
              at_number i 3 three ∙ thirds (i / block) home ∙ three_made (i / block) home
              ∙ sym (ap (λ t. noted_by i true t (is_three i)) (ne_eqb (i % block) 1 no_one) ∙ ap (λ t. noted_by i true false t) (eq-eqb (i % block) 3 three))
          | inr no_three ↦
              no_thirds i (other_number i 3 homes no_three (omega arith)) ∙ no_firsts i (other_number i 1 homes no_one (omega arith))
              ∙ sym (ap (λ t. noted_by i true t (is_three i)) (ne_eqb (i % block) 1 no_one) ∙ ap (λ t. noted_by i true false t) (ne_eqb (i % block) 3 no_three))
        ]
      ]

      noted_word : (i : ℕ) → i < words_of_buckets → slice_index next i ≡ noted words shape head i
      noted_word i low = elim (cases_lt (i / block) homes) [
        | inl home ↦ home_word i home ∙ sym (ap (λ t. noted_by i t (is_one i) (is_three i)) (lt-ltb (i / block) homes home))
        | inr stash ↦
            no_thirds i (stash_number i 3 stash (omega arith)) ∙ no_firsts i (stash_number i 1 stash (omega arith))
            ∙ sym (ap (λ t. noted_by i t (is_one i) (is_three i)) (le-ltb (i / block) homes stash))
      ]

      pub all_noted : next ≡ made Note shape head words
      all_noted = same_words words_of_buckets (noted words shape head) next long noted_word
