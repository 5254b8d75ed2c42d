-- The words of the segment, as one function of all words, and by the words of its buckets.
use Rattle.std.proofs.Common.{◌≡◌, ◌≢◌, ℕ, ◌+◌, ◌*◌, ◌-◌, ◌/◌, ◌%◌, ◌<◌, refl, ap, ◌∙◌, arith}
use Rattle.std.specs.Prelude.{◌==◌, if◌then◌else◌}
use Rattle.std.proofs.lemmas.Bool.{eq-eqb, ne_eqb}
use Rattle.trace.specs.Events.{Words}
use Rattle.image_layout.specs.Places.{Shape, head_at, bucket_at, block}
use Rattle.world.specs.areas.Areas.{header_word}
use Rattle.world.specs.areas.Splitting.{link_word}
use Rattle.enclose_op.specs.declared.enclosed.Enclosed.{Enclosed}
use Rattle.enclose_op.specs.Whole.{kept_word}
use Rattle.rest_op.specs.Stands.{value_of}
use Rattle.rest_op.proofs.whole.Places.{no_header, no_link, link_no_header}

-- the words that are neither word 1 nor word 3
pub other_value : (e : Enclosed) (first third : ℕ → ℕ) (b n : ℕ) → n ≢ 1 → n ≢ 3 → value_of e first third b n ≡ kept_word e b n
other_value e first third b n one three =
    ap (λ t. if t then first b else if n == 3 then third b else kept_word e b n) (ne_eqb n 1 one) ∙ ap (λ t. if t then third b else kept_word e b n) (ne_eqb n 3 three)

-- where words 1 and 3 are the same, all are
pub same_value : (e : Enclosed) (first third later_first later_third : ℕ → ℕ) (b n : ℕ) → later_first b ≡ first b → later_third b ≡ third b
    → value_of e later_first later_third b n ≡ value_of e first third b n
same_value e first third later_first later_third b n one three =
    ap (λ x. if n == 1 then x else if n == 3 then later_third b else kept_word e b n) one ∙ ap (λ x. if n == 1 then first b else if n == 3 then x else kept_word e b n) three

-- ---- ALL WORDS
module _ (shape : Shape) (e : Enclosed) (first third : ℕ → ℕ) (head link : ℕ) where
  abbrev pub rest_words : Words
  rest_words i =
      if i == header_word shape e.segment then head
      else if i == link_word shape e.segment then link
      else value_of e first third ((i - bucket_at shape e.segment 0) / block) ((i - bucket_at shape e.segment 0) % block)

  pub header_here : rest_words (header_word shape e.segment) ≡ head
  header_here =
      ap (λ t. if t then head else if header_word shape e.segment == link_word shape e.segment then link
      else value_of e first third ((header_word shape e.segment - bucket_at shape e.segment 0) / block) ((header_word shape e.segment - bucket_at shape e.segment 0) % block))
      (eq-eqb (header_word shape e.segment) (header_word shape e.segment) refl)

  pub link_here : rest_words (link_word shape e.segment) ≡ link
  link_here =
      ap (λ t. if t then head else if link_word shape e.segment == link_word shape e.segment then link
      else value_of e first third ((link_word shape e.segment - bucket_at shape e.segment 0) / block) ((link_word shape e.segment - bucket_at shape e.segment 0) % block))
      (ne_eqb (link_word shape e.segment) (header_word shape e.segment) (link_no_header shape e.segment))
      ∙ ap (λ t. if t then link
      else value_of e first third ((link_word shape e.segment - bucket_at shape e.segment 0) / block) ((link_word shape e.segment - bucket_at shape e.segment 0) % block))
      (eq-eqb (link_word shape e.segment) (link_word shape e.segment) refl)

  bucket_number : (f b n : ℕ) → n < 32 → (f + 32 + 32 * b + n - (f + 32 + 32 * 0)) / 32 ≡ b
  bucket_number f b n low = omega (arith, low)

  word_number : (f b n : ℕ) → n < 32 → (f + 32 + 32 * b + n - (f + 32 + 32 * 0)) % 32 ≡ n
  word_number f b n low = omega (arith, low)

  pub bucket_here : (b n : ℕ) → n < block → rest_words (bucket_at shape e.segment b + n) ≡ value_of e first third b n
  bucket_here b n low =
      let i : ℕ = bucket_at shape e.segment b + n in
      let j : ℕ = i - bucket_at shape e.segment 0 in
      ap (λ t. if t then head else if i == link_word shape e.segment then link else value_of e first third (j / block) (j % block)) (ne_eqb i (header_word shape e.segment) (no_header shape e.segment b n))
      ∙ ap (λ t. if t then link else value_of e first third (j / block) (j % block)) (ne_eqb i (link_word shape e.segment) (no_link shape e.segment b n))
      ∙ ap (λ c. value_of e first third c (j % block)) (bucket_number (head_at shape e.segment) b n low)
      ∙ ap (value_of e first third b) (word_number (head_at shape e.segment) b n low)
