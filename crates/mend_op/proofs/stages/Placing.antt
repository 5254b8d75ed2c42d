-- The words that a stage may change, and those that it leaves.
use Rattle.std.proofs.Common.{◌≡◌, ◌≢◌, ℕ, ◌+◌, ◌*◌, ◌/◌, ◌%◌, ◌^◌, ◌<◌, ◌≤◌, ◌⊎◌, Bool, true, false, List, slice_index, inl, inr, refl, sym, ap, ◌∙◌, subst, arith}
use Rattle.std.specs.Prelude.{◌==◌, ◌&&◌, nat_lt, if◌then◌else◌}
use Rattle.std.specs.Int.{bit_not, w64}
use Rattle.std.proofs.lemmas.Bool.{cases_eq, cases_lt, eq-eqb, ne_eqb, lt-ltb, le-ltb}
use Rattle.std.proofs.lemmas.Nat.{and_le_r}
use Rattle.bucket_meta.specs.Marks.{slot_bits, cleared_mark}
use Rattle.image_layout.specs.Places.{Shape, homes, block, words_of_buckets}
use Rattle.sound_image.specs.Records.{key_hash}
use Rattle.whole_segment.specs.Rebuilding.{first_with, third_with}
use Rattle.whole_segment.proofs.Words.{word_is, words_small}
use Rattle.whole_segment.proofs.rebuilding.Written.{first_made_small, third_made_small}
use Rattle.mend_op.specs.declared.stage.Stage.{Stage}
use Rattle.mend_op.specs.declared.stage.Stage.TheVariants.{Clear, Mend, Note}
use Rattle.mend_op.specs.Words.{mended_lock, first_of, third_of, key_of, halved_first, mended_first, notes_of, halved, mended, noted}
use Rattle.mend_op.specs.Stages.{most, place, made_word, made}

-- each is a word of the buckets, and they are apart
pub place_low : (stage : Stage) (n : ℕ) → n < most stage → place stage n < words_of_buckets
place_low Clear n low = omega (arith, low)
place_low Mend n low = omega (arith, low)
place_low Note n low = omega (arith, low)

pub place_apart : (stage : Stage) (n m : ℕ) → place stage n ≡ place stage m → n ≡ m
place_apart Clear n m same = omega (arith, same)
place_apart Mend n m same = omega (arith, same)
place_apart Note n m same = omega (arith, same)

-- ---- what is made of the word of a bucket
module _ (words : List ℕ) (shape : Shape) (head : ℕ) where
  at_bucket : (b n : ℕ) → n < block → (block * b + n) / block ≡ b
  at_bucket b n low = omega (arith, low)

  at_number : (b n : ℕ) → n < block → (block * b + n) % block ≡ n
  at_number b n low = omega (arith, low)

  abbrev mended_by : ℕ → (lock one : Bool) → ℕ
  mended_by i lock one = if lock then mended_lock (slice_index words i) else if one then mended_first words shape head (i / block) else slice_index words i

  abbrev noted_by : ℕ → (home one three : Bool) → ℕ
  noted_by i home one three =
      if home && one then first_with (first_of words (i / block)) (notes_of words shape head (i / block))
      else if home && three then third_with (third_of words (i / block)) (notes_of words shape head (i / block))
      else slice_index words i

  abbrev is_at : ℕ → ℕ → Bool
  is_at i n = i % block == n

  -- word 1 without the records of the 1-side
  pub halved_at : (b : ℕ) → halved words shape head (block * b + 1) ≡ halved_first words shape head b
  halved_at b =
      let i : ℕ = block * b + 1 in
      ap (λ t. if t then halved_first words shape head (i / block) else slice_index words i) (eq-eqb (i % block) 1 (at_number b 1 (omega arith))) ∙ ap (halved_first words shape head) (at_bucket b 1 (omega arith))

  halved_else : (i : ℕ) → i % block ≢ 1 → halved words shape head i ≡ slice_index words i
  halved_else i apart = ap (λ t. if t then halved_first words shape head (i / block) else slice_index words i) (ne_eqb (i % block) 1 apart)

  -- a free lock, and word 1 without spoiled records
  pub freed_at : (b : ℕ) → mended words shape head (block * b) ≡ mended_lock (slice_index words (block * b))
  freed_at b = let i : ℕ = block * b in ap (λ t. mended_by i t (is_at i 1)) (eq-eqb (i % block) 0 (omega arith))

  pub mended_at : (b : ℕ) → mended words shape head (block * b + 1) ≡ mended_first words shape head b
  mended_at b =
      let i : ℕ = block * b + 1 in
      let one : i % block ≡ 1 = at_number b 1 (omega arith) in
      ap (λ t. mended_by i t (is_at i 1)) (ne_eqb (i % block) 0 (λ zero. omega (arith, one, zero))) ∙ ap (λ t. mended_by i false t) (eq-eqb (i % block) 1 one)
      ∙ ap (mended_first words shape head) (at_bucket b 1 (omega arith))

  pub mended_else : (i : ℕ) → i % block ≢ 0 → i % block ≢ 1 → mended words shape head i ≡ slice_index words i
  mended_else i lock one = ap (λ t. mended_by i t (is_at i 1)) (ne_eqb (i % block) 0 lock) ∙ ap (λ t. mended_by i false t) (ne_eqb (i % block) 1 one)

  -- words 1 and 3 of a home with notes
  pub first_at : (b : ℕ) → b < homes → noted words shape head (block * b + 1) ≡ first_with (first_of words b) (notes_of words shape head b)
  first_at b home =
      let i : ℕ = block * b + 1 in
      let bucket : i / block ≡ b = at_bucket b 1 (omega arith) in
      ap (λ t. noted_by i t (is_at i 1) (is_at i 3)) (lt-ltb (i / block) homes (omega (arith, bucket, home))) ∙ ap (λ t. noted_by i true t (is_at i 3)) (eq-eqb (i % block) 1 (at_number b 1 (omega arith)))
      ∙ ap (λ c. first_with (first_of words c) (notes_of words shape head c)) bucket

  pub third_at : (b : ℕ) → b < homes → noted words shape head (block * b + 3) ≡ third_with (third_of words b) (notes_of words shape head b)
  third_at b home =
      let i : ℕ = block * b + 3 in
      let bucket : i / block ≡ b = at_bucket b 3 (omega arith) in
      let three : i % block ≡ 3 = at_number b 3 (omega arith) in
      ap (λ t. noted_by i t (is_at i 1) (is_at i 3)) (lt-ltb (i / block) homes (omega (arith, bucket, home))) ∙ ap (λ t. noted_by i true t (is_at i 3)) (ne_eqb (i % block) 1 (λ one. omega (arith, three, one)))
      ∙ ap (λ t. noted_by i true false t) (eq-eqb (i % block) 3 three)
      ∙ ap (λ c. third_with (third_of words c) (notes_of words shape head c)) bucket

  pub noted_else : (i : ℕ) → i % block ≢ 1 → i % block ≢ 3 → noted words shape head i ≡ slice_index words i
  noted_else i one three = by (nat_lt (i / block) homes)
      ∙ refl
    where
      by : (t : Bool) → noted_by i t (is_at i 1) (is_at i 3) ≡ slice_index words i
      by true = ap (λ t. noted_by i true t (is_at i 3)) (ne_eqb (i % block) 1 one) ∙ ap (λ t. noted_by i true false t) (ne_eqb (i % block) 3 three)
      by false = refl

  pub noted_stash : (i : ℕ) → homes ≤ i / block → noted words shape head i ≡ slice_index words i
  noted_stash i stash = ap (λ t. noted_by i t (is_at i 1) (is_at i 3)) (le-ltb (i / block) homes stash)

  -- ---- A WORD IS AS IT WAS, or is one that the stage may change
  abbrev Cases : Stage → ℕ → Type 0
  Cases stage i = (made_word stage shape head words i ≡ slice_index words i) ⊎ ((m : ℕ) × (m < most stage) × (i ≡ place stage m))

  pub made_cases : (stage : Stage) (i : ℕ) → i < words_of_buckets → Cases stage i
  made_cases Clear i low = elim (cases_eq (i % block) 1) [
    | inl one ↦ inr (i / block, omega (arith, low), omega (arith, one))
    | inr apart ↦ inl (halved_else i apart)
  ]
  made_cases Mend i low = elim (cases_eq (i % block) 0) [
    | inl lock ↦ inr (2 * (i / block), omega (arith, low), omega (arith, lock))
    | inr free ↦ elim (cases_eq (i % block) 1) [
      | inl one ↦ inr (2 * (i / block) + 1, omega (arith, low), omega (arith, one))
      | inr apart ↦ inl (mended_else i free apart)
    ]
  ]
  made_cases Note i low = elim (cases_lt (i / block) homes) [
    | inr stash ↦ inl (noted_stash i stash)
    | inl home ↦ elim (cases_eq (i % block) 1) [
      | inl one ↦ inr (2 * (i / block), omega (arith, home), omega (arith, one))
      | inr no_one ↦ elim (cases_eq (i % block) 3) [
        | inl three ↦ inr (2 * (i / block) + 1, omega (arith, home), omega (arith, three))
        | inr no_three ↦ inl (noted_else i no_one no_three)
      ]
    ]
  ]

  pub made_is : (stage : Stage) (i : ℕ) → i < words_of_buckets → slice_index (made stage shape head words) i ≡ made_word stage shape head words i
  made_is stage i low = word_is words_of_buckets (made_word stage shape head words) i low

  -- ---- what is made are words
  cleared_small : (w slots : ℕ) → cleared_mark w slots < 2 ^ 64
  cleared_small w slots = let most = and_le_r w (bit_not w64 (slot_bits slots)) in omega (arith, most)

  module _ (small : (i : ℕ) → slice_index words i < 2 ^ 64) where
    by_choice : (t : Bool) (x y : ℕ) → x < 2 ^ 64 → y < 2 ^ 64 → (if t then x else y) < 2 ^ 64
    by_choice true x y a b = a
    by_choice false x y a b = b

    made_small_at : (stage : Stage) (i : ℕ) → i < words_of_buckets → made_word stage shape head words i < 2 ^ 64
    made_small_at Clear i low = by_choice (is_at i 1) (halved_first words shape head (i / block)) (slice_index words i) (cleared_small (first_of words (i / block)) _) (small i)
    made_small_at Mend i low =
        let was = small i in
        by_choice (is_at i 0) (mended_lock (slice_index words i)) (if is_at i 1 then mended_first words shape head (i / block) else slice_index words i) (omega (arith, was))
        (by_choice (is_at i 1) (mended_first words shape head (i / block)) (slice_index words i) (cleared_small (first_of words (i / block)) _) (small i))
    made_small_at Note i low = elim (cases_lt (i / block) homes) [
      | inr stash ↦ subst (λ (x : ℕ). x < 2 ^ 64) (sym (noted_stash i stash)) (small i)
      | inl home ↦ by_choice (nat_lt (i / block) homes && is_at i 1) (first_with (first_of words (i / block)) (notes_of words shape head (i / block)))
          (if nat_lt (i / block) homes && is_at i 3 then third_with (third_of words (i / block)) (notes_of words shape head (i / block)) else slice_index words i)
          (first_made_small (first_of words) (third_of words) (key_of words) (key_hash shape) (i / block) home)
          (by_choice (nat_lt (i / block) homes && is_at i 3) (third_with (third_of words (i / block)) (notes_of words shape head (i / block))) (slice_index words i)
          (third_made_small (first_of words) (third_of words) (key_of words) (key_hash shape) (i / block) home) (small i))
    ]

    pub made_small : (stage : Stage) (i : ℕ) → slice_index (made stage shape head words) i < 2 ^ 64
    made_small stage = words_small words_of_buckets (made_word stage shape head words) (made_small_at stage)
