-- Bytes that pass every look are the file of a sound image, and such a file has no fault.
use Rattle.std.proofs.Common.{◌≡◌, ℕ, ◌*◌, ◌/◌, ◌^◌, ◌<◌, refl, sym, ap, subst, ◌∙◌, arith, inl, inr, List, length}
use Rattle.std.specs.Prelude.{slice_index}
use Rattle.image_layout.specs.Places.{Shape, IsShape, words_of}
use Rattle.image_layout.specs.Faults.{HasGeoFault}
use Rattle.image_layout.specs.declared.shape.GeoFault.{GeoFault}
use Rattle.image_layout.specs.declared.shape.GeoFault.TheVariants.{Segments, Depth, Kind}
use Rattle.sound_image.specs.Segments.{ImageWords}
use Rattle.sound_image.specs.Image.{image_bytes, SaysShape, IsSoundImage}
use Rattle.image_file.specs.declared.fault.ImageFault.{ImageFault}
use Rattle.image_file.specs.declared.fault.ImageFault.TheVariants.{Length, Magic, Format, Geometry, Unsound, NoMemory}
use Rattle.image_rules.specs.declared.breach.Rule.{Rule}
use Rattle.image_rules.specs.Breach.{HoldsAt, IsFirstBreach}
use Rattle.image_file.specs.Fault.{word_in_file, shape_in, HasMagic, HasFormat, IsFramed, HasFault, IsSoundFile}
use Rattle.image_rules.proofs.Breaches.{follows_rules, rules_hold}
use Rattle.image_file.proofs.FileWords.{length-image_bytes, words_there}

-- A SHAPE that Geometry refuses is none
pub refused-no_shape : (segments depth kind : ℕ) (fault : GeoFault) → HasGeoFault segments depth kind fault
    → IsShape (record { segments = segments; depth = depth; kind = kind }) → ⊥
refused-no_shape segments depth kind Segments (inl few) is = absurd (omega (arith, few, is.some))
refused-no_shape segments depth kind Segments (inr many) is = absurd (omega (arith, many, is.segments))
refused-no_shape segments depth kind Depth h is = absurd (omega (arith, h.1, is.depth))
refused-no_shape segments depth kind Kind h is = absurd (omega (arith, h.2, is.kind))

-- ALL LOOKS PASSED
module _ (bytes words : List ℕ) (file : bytes ≡ image_bytes words) (fits : (k : ℕ) → slice_index words k < 2 ^ 64) where
  pub spelled : word_in_file bytes ≡ slice_index words
  spelled = ap word_in_file file ∙ words_there words fits

  at_word : (i : ℕ) → word_in_file bytes i ≡ slice_index words i
  at_word i = ap (λ (w : ImageWords). w i) spelled

  module _ (shape : Shape) (framed : IsFramed bytes) (is : shape ≡ shape_in (word_in_file bytes)) where
    pub all_words : length words ≡ words_of shape
    all_words =
        let long : length bytes ≡ 8 * length words = ap length file ∙ length-image_bytes words in
        let said : length bytes ≡ 8 * words_of shape = framed.whole ∙ ap (λ (s : Shape). 8 * words_of s) (sym is) in
        omega (arith, long, said)

    kind_is : shape.kind ≡ word_in_file bytes 1 / 2 ^ 32
    kind_is = ap (λ (s : Shape). s.kind) is

    says_shape : SaysShape shape (slice_index words)
    says_shape =
        record {
          magic_word = sym (at_word 0) ∙ framed.magic_there;
          format = sym (at_word 1) ∙ omega (arith, framed.format_there.number, kind_is);
          segments = sym (at_word 2) ∙ ap (λ (s : Shape). s.segments) (sym is);
          depth = sym (at_word 3) ∙ ap (λ (s : Shape). s.depth) (sym is);
        }

    pub accepted-IsSoundImage : ((r : Rule) (w : ℕ) → HoldsAt shape (slice_index words) r w) → IsSoundImage shape words
    accepted-IsSoundImage holds =
        record {
          in_range = subst IsShape (sym is) framed.shape_there;
          whole = all_words;
          each_fits = fits;
          says_shape = says_shape;
          follows = follows_rules shape (slice_index words) holds;
        }

    -- a breach of the words is one of the bytes
    pub breach-HasFault : (r : Rule) (w : ℕ) → IsFirstBreach shape (slice_index words) r w → HasFault bytes (Unsound r w)
    breach-HasFault r w breach = (
      framed,
      subst (λ (s : Shape). IsFirstBreach s (word_in_file bytes) r w) is
          (subst (λ (word : ImageWords). IsFirstBreach shape word r w) (sym spelled) breach),
    )

-- SUCH A FILE has no fault
module _ (bytes : List ℕ) (f : IsSoundFile bytes) where
  sound_spelled : word_in_file bytes ≡ slice_index f.1.words
  sound_spelled = spelled bytes f.1.words f.1.file f.1.sound.each_fits

  sound_word : (i : ℕ) → word_in_file bytes i ≡ slice_index f.1.words i
  sound_word i = ap (λ (w : ImageWords). w i) sound_spelled

  upper_half : word_in_file bytes 1 / 2 ^ 32 ≡ f.0.kind
  upper_half = omega (arith, sound_word 1, f.1.sound.says_shape.format)

  sound_shape : shape_in (word_in_file bytes) ≡ f.0
  sound_shape =
      λ j. record {
        segments = (sound_word 2 ∙ f.1.sound.says_shape.segments) j;
        depth = (sound_word 3 ∙ f.1.sound.says_shape.depth) j;
        kind = upper_half j;
      }

  sound_format : HasFormat (word_in_file bytes)
  sound_format =
      record {
        number = omega (arith, sound_word 1, f.1.sound.says_shape.format);
        kind = omega (arith, upper_half, f.1.sound.in_range.kind);
      }

  sound_magic : HasMagic (word_in_file bytes)
  sound_magic = sound_word 0 ∙ f.1.sound.says_shape.magic_word

  sound_in_range : IsShape (shape_in (word_in_file bytes))
  sound_in_range = subst IsShape (sym sound_shape) f.1.sound.in_range

  sound_long : length bytes ≡ 8 * words_of (shape_in (word_in_file bytes))
  sound_long =
      ap length f.1.file ∙ length-image_bytes f.1.words ∙ ap (λ n. 8 * n) (f.1.sound.whole ∙ ap words_of (sym sound_shape))

  long_enough : length bytes < 256 → ⊥
  long_enough short =
      let long : length bytes ≡ 8 * words_of f.0 = ap length f.1.file ∙ length-image_bytes f.1.words ∙ ap (λ n. 8 * n) f.1.sound.whole in
      absurd (omega (arith, short, long, f.1.sound.in_range.some))

  sound_holds : (r : Rule) (w : ℕ) → HoldsAt (shape_in (word_in_file bytes)) (word_in_file bytes) r w
  sound_holds r w =
      subst (λ (s : Shape). HoldsAt s (word_in_file bytes) r w) (sym sound_shape)
      (subst (λ (word : ImageWords). HoldsAt f.0 word r w) (sym sound_spelled)
      (rules_hold f.0 (slice_index f.1.words) f.1.sound.follows r w))

  pub no_fault : (fault : ImageFault) → HasFault bytes fault → fault ≡ NoMemory
  no_fault Length (inl short) = absurd (long_enough short)
  no_fault Length (inr front) = absurd (front.says.1 sound_long)
  no_fault Magic h = absurd (h.1 sound_magic)
  no_fault Format h = absurd (h.2 sound_format)
  no_fault Geometry front = absurd (front.says sound_in_range)
  no_fault (Unsound r word) h = absurd (h.1.least.broken (sound_holds r word))
  no_fault NoMemory h = refl
