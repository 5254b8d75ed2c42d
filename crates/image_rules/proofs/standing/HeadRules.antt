-- Rules 1 and 6 are broken first in the header of the first segment of which they do not hold.
use Rattle.std.proofs.Common.{◌≡◌, ℕ, ◌+◌, ◌*◌, ◌<◌, ◌≤◌, refl, subst, arith, ⊎_elim}
use Rattle.std.proofs.lemmas.Bool.{cases_lt}
use Rattle.image_layout.specs.Places.{Shape, first_segment, head_at}
use Rattle.sound_image.specs.Segments.{ImageWords, frame_of, image_version}
use Rattle.sound_image.specs.Directory.{HeadInRange, LinkInRange, VersionIsPast}
use Rattle.sound_image.specs.Rules.{NumbersFit, VersionsArePast}
use Rattle.image_rules.specs.Breach.{IsLeast}

-- HEADERS IN ORDER: their words rise with the slots
head_below_head : (base s t v : ℕ) → v < base + 2144 * s + 1 → v ≡ base + 2144 * t + 1 → t < s
head_below_head base s t v less at = omega arith

link_below_head : (base s t v : ℕ) → v < base + 2144 * s + 1 → v ≡ base + 2144 * t + 2 → t < s
link_below_head base s t v less at = omega arith

head_below_link : (base s t v : ℕ) → v < base + 2144 * s + 2 → v ≡ base + 2144 * t + 1 → t ≤ s
head_below_link base s t v less at = omega arith

link_below_link : (base s t v : ℕ) → v < base + 2144 * s + 2 → v ≡ base + 2144 * t + 2 → t < s
link_below_link base s t v less at = omega arith

-- a version above the image's is not past
pub not_past : (version most v m : ℕ) → v ≡ version → m ≡ most → m < v → version ≤ most → ⊥
not_past version most v m one two above past = absurd (omega arith)

module _ (shape : Shape) (word : ImageWords) where
  -- RULE 1
  module _ (root : word 8 ≤ shape.depth) (version : 1 ≤ image_version (frame_of shape word)) where
    pub numbers_fit : ((t : ℕ) → t < shape.segments → HeadInRange (frame_of shape word) shape.depth t)
        → ((t : ℕ) → t < shape.segments → LinkInRange (frame_of shape word) t) → (w : ℕ) → NumbersFit shape word w
    numbers_fit heads links w =
        record { root = λ _. root; version_fits = λ _. version; head = λ t slot _. heads t slot; side = λ t slot _. links t slot }

    module _ (s : ℕ) (slot : s < shape.segments) (heads : (t : ℕ) → t < s → HeadInRange (frame_of shape word) shape.depth t)
        (links : (t : ℕ) → t < s → LinkInRange (frame_of shape word) t) where
      pub head_astray : (HeadInRange (frame_of shape word) shape.depth s → ⊥) → IsLeast (NumbersFit shape word) (head_at shape s + 1)
      head_astray wrong =
          record {
            broken = λ fit. wrong (fit.head s slot refl);
            words_before = λ v less. record {
              root = λ _. root;
              version_fits = λ _. version;
              head = λ t _ at. heads t (head_below_head (first_segment shape) s t v less at);
              side = λ t _ at. links t (link_below_head (first_segment shape) s t v less at);
            };
          }

      pub link_astray : HeadInRange (frame_of shape word) shape.depth s → (LinkInRange (frame_of shape word) s → ⊥)
          → IsLeast (NumbersFit shape word) (head_at shape s + 2)
      link_astray right wrong =
          record {
            broken = λ fit. wrong (fit.side s slot refl);
            words_before = λ v less. record {
              root = λ _. root;
              version_fits = λ _. version;
              head = λ t _ at. up_to t (head_below_link (first_segment shape) s t v less at);
              side = λ t _ at. links t (link_below_link (first_segment shape) s t v less at);
            };
          }
        where
          up_to : (t : ℕ) → t ≤ s → HeadInRange (frame_of shape word) shape.depth t
          up_to t most =
              ⊎_elim (λ (earlier : t < s). heads t earlier)
              (λ (last : s ≤ t). let same : s ≡ t = omega arith in subst (HeadInRange (frame_of shape word) shape.depth) same right)
              (cases_lt t s)

  -- RULE 6
  pub version_ahead : (s : ℕ) → s < shape.segments → ((t : ℕ) → t < s → VersionIsPast (frame_of shape word) t)
      → (VersionIsPast (frame_of shape word) s → ⊥) → IsLeast (VersionsArePast shape word) (head_at shape s + 1)
  version_ahead s slot before wrong =
      record {
        broken = λ past. wrong (past s slot refl);
        words_before = λ v less t _ at. before t (head_below_head (first_segment shape) s t v less at);
      }
