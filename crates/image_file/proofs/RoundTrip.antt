-- The file of words of 64 bits says the words, and the words of a sound image say its shape.
use Rattle.std.proofs.Common.{◌≡◌, ℕ, suc, ◌^◌, ◌<◌, refl, sym, ap, ◌∙◌, arith, List, [], ◌∷◌, length, drop, Result, Ok, Err, IfOk}
use Rattle.std.specs.Prelude.{slice_index}
use Rattle.std.proofs.lemmas.List.{drop_at}
use Rattle.byteorder.specs.Endian.{little_bytes, little_number}
use Rattle.byteorder.specs.Numbers.{little_number-reads_back}
use Rattle.image_layout.specs.Places.{Shape}
use Rattle.sound_image.specs.Image.{image_bytes, IsSoundImage}
use Rattle.image_file.specs.declared.medium.Medium.{Medium}
use Rattle.image_file.specs.declared.fault.ImageFault.{ImageFault}
use Rattle.image_file.proofs.FileWords.{length-image_bytes}

pub same_words : (xs ys : List ℕ) → ((k : ℕ) → slice_index xs k < 2 ^ 64) → ((k : ℕ) → slice_index ys k < 2 ^ 64) → image_bytes xs ≡ image_bytes ys → xs ≡ ys
same_words [] [] f g e = refl
same_words [] (y ∷ ys) f g e = absurd (omega (arith, ap length e, length-image_bytes (y ∷ ys)))
same_words (x ∷ xs) [] f g e = absurd (omega (arith, ap length e, length-image_bytes (x ∷ xs)))
same_words (x ∷ xs) (y ∷ ys) f g e =
    let word : x ≡ y =
    sym (little_number-reads_back 8 x (image_bytes xs) (f 0)) ∙ ap (little_number 8) e ∙ little_number-reads_back 8 y (image_bytes ys) (g 0) in
    let behind : image_bytes xs ≡ image_bytes ys =
    sym (drop_at (little_bytes 8 x) (image_bytes xs) 8 refl) ∙ ap (drop 8) e ∙ drop_at (little_bytes 8 y) (image_bytes ys) 8 refl in
    let rest : xs ≡ ys = same_words xs ys (λ k. f (suc k)) (λ k. g (suc k)) behind in
    cc

pub same_shape : (s t : Shape) (xs ys : List ℕ) → xs ≡ ys → IsSoundImage s xs → IsSoundImage t ys → s ≡ t
same_shape s t xs ys same a b =
    let word : (i : ℕ) → slice_index xs i ≡ slice_index ys i = λ i. ap (λ (ws : List ℕ). slice_index ws i) same in
    let kinds : s.kind ≡ t.kind = omega (arith, word 1, a.says_shape.format, b.says_shape.format) in
    λ j. record {
      segments = (sym a.says_shape.segments ∙ word 2 ∙ b.says_shape.segments) j;
      depth = (sym a.says_shape.depth ∙ word 3 ∙ b.says_shape.depth) j;
      kind = kinds j;
    }

-- WHAT IS READ of a file is what was written
module _ (shape : Shape) (words bytes : List ℕ) (sound : IsSoundImage shape words) (file : bytes ≡ image_bytes words) where
  pub words_back : (r : Result Medium ImageFault) → IfOk r (λ m. IsSoundImage m.geometry m.words) → IfOk r (λ m. bytes ≡ image_bytes m.words)
      → IfOk r (λ m. m.words ≡ words)
  words_back (Ok m) read says = same_words m.words words read.each_fits sound.each_fits (sym says ∙ file)
  words_back (Err fault) read says = tt

  pub geometry_back : (r : Result Medium ImageFault) → IfOk r (λ m. IsSoundImage m.geometry m.words) → IfOk r (λ m. bytes ≡ image_bytes m.words)
      → IfOk r (λ m. m.geometry ≡ shape)
  geometry_back (Ok m) read says =
      same_shape m.geometry shape m.words words (same_words m.words words read.each_fits sound.each_fits (sym says ∙ file)) read sound
  geometry_back (Err fault) read says = tt
