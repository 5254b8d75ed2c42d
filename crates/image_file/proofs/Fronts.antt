-- What the words in front say of a file, and of one that has the geometry's length or another.
use Rattle.std.proofs.Common.{◌≡◌, ◌≢◌, ℕ, zero, suc, ◌*◌, ◌<◌, ◌≤◌, ◌^◌, arith, inr, sym, subst, List, [], ◌∷◌, length, slice_index}
use Rattle.image_layout.specs.Places.{Shape, IsShape, words_of}
use Rattle.sound_image.specs.Image.{image_bytes}
use Rattle.image_file.specs.declared.fault.ImageFault.TheVariants.{Length}
use Rattle.image_file.specs.Fault.{word_in_file, IsFramed, HasFront, HasFault}
use Rattle.image_file.specs.Front.{BeginsWith}
use Rattle.image_file.proofs.FileWords.{length-image_bytes, word_there}

-- BYTES begin with the words that were read, and a file with its words
pub four-BeginsWith : (bytes : List ℕ) (a b c d : ℕ) → 256 ≤ length bytes → a ≡ word_in_file bytes 0 → b ≡ word_in_file bytes 1 → c ≡ word_in_file bytes 2
    → d ≡ word_in_file bytes 3 → BeginsWith bytes (a ∷ b ∷ c ∷ d ∷ [])
four-BeginsWith bytes a b c d long is_a is_b is_c is_d = record { long = long; each = each }
  where
    each : (i : ℕ) → i < 4 → word_in_file bytes i ≡ slice_index (a ∷ b ∷ c ∷ d ∷ []) i
    each zero below = sym is_a
    each (suc zero) below = sym is_b
    each (suc (suc zero)) below = sym is_c
    each (suc (suc (suc zero))) below = sym is_d
    each (suc (suc (suc (suc i)))) below = absurd (omega (arith, below))

pub file-BeginsWith : (words : List ℕ) → ((k : ℕ) → slice_index words k < 2 ^ 64) → 32 ≤ length words → BeginsWith (image_bytes words) words
file-BeginsWith words fits long =
    record { long = omega (arith, long, length-image_bytes words); each = λ i below. word_there words i fits }

-- A FRONT that says a geometry
module _ (bytes : List ℕ) (geometry : Shape) (front : HasFront bytes (λ shape. geometry ≡ shape)) (is : IsShape geometry) where
  pub front-IsFramed : length bytes ≡ 8 * words_of geometry → IsFramed bytes
  front-IsFramed whole =
      record {
        long = front.long;
        magic_there = front.magic_there;
        format_there = front.format_there;
        shape_there = subst IsShape front.says is;
        whole = subst (λ (shape : Shape). length bytes ≡ 8 * words_of shape) front.says whole;
      }

  pub front-Length : length bytes ≢ 8 * words_of geometry → HasFault bytes Length
  front-Length other =
      inr (record {
        long = front.long;
        magic_there = front.magic_there;
        format_there = front.format_there;
        says = subst (λ (shape : Shape). IsShape shape × (length bytes ≢ 8 * words_of shape)) front.says (is, other);
      })
