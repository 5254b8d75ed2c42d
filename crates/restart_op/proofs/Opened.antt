-- Words that differ from a sound image in versions alone, with the marker clear: a table with the same pairs, which follows the rules; and where the
-- version is kept or raised, an open structure, whose current segments are at rest.
use Rattle.std.proofs.Common.{◌≡◌, ℕ, ◌^◌, ◌<◌, ◌⊎◌, List, Option, inl, inr, sym, ◌∙◌, arith}
use Rattle.std.specs.Prelude.{slice_index}
use Rattle.segment_head.specs.HeadWord.{version_in}
use Rattle.trace.specs.Events.{Words}
use Rattle.image_layout.specs.Places.{Shape, state_word}
use Rattle.image_layout.specs.StateWord.{marker_in}
use Rattle.sound_image.specs.Segments.{frame_of, image_version}
use Rattle.sound_image.specs.Records.{HasAt}
use Rattle.sound_image.specs.Rules.{FollowsRules}
use Rattle.sound_image.specs.Image.{IsSoundImage}
use Rattle.segment_table.specs.Claims.{HasSoundFrame}
use Rattle.bucket_words.specs.Hits.{find}
use Rattle.bucket_words.specs.Standing.{IsTable}
use Rattle.world.specs.areas.Areas.{header_word}
use Rattle.world.specs.areas.Restarting.{KeepsVersion, RaisesVersion}
use Rattle.restart_op.specs.AtRest.{IsCurrent, IsAtRest, IsOpenStructure, HasOwnRecords}
use Rattle.restart_op.proofs.images.Facts.{frame_is, table_is, is_normal, current_at_rest, own_records}
use Rattle.restart_op.proofs.images.Frames.{IsReversioned, sound_frame, current_back}
use Rattle.restart_op.proofs.images.Rules.{unmarked_rules}
use Rattle.restart_op.proofs.images.Pairs as pairs
use Rattle.restart_op.proofs.images.Same.{kept, same_rest, same_own}

module _ (shape : Shape) (words : List ℕ) (image : IsSoundImage shape words) (other : Words) (of : IsReversioned shape (slice_index words) other) where
  abbrev word : Words
  word = slice_index words

  pub open_frame : HasSoundFrame shape other
  open_frame = sound_frame shape word other image.in_range (frame_is shape words image) of

  pub open_table : IsTable shape other
  open_table = (kept shape word other image.in_range (frame_is shape words image) of (table_is shape words image)).table

  pub same_find : (k : ℕ) → find shape other k ≡ find shape word k
  same_find k = (kept shape word other image.in_range (frame_is shape words image) of (table_is shape words image)).pairs k

  module _ (fits : (i : ℕ) → other i < 2 ^ 64) where
    -- what the image has at a key is what is found there
    pub open_found : (k : ℕ) (a : Option ℕ) → HasAt shape word k a → find shape other k ≡ a
    open_found k a has =
        same_find k ∙ pairs.found_of_has shape image.in_range word (frame_is shape words image) image.each_fits (table_is shape words image) k a has

    pub open_has : (k : ℕ) (a : Option ℕ) → HasAt shape word k a → HasAt shape other k a
    open_has k a has = pairs.has_of_found shape image.in_range other open_frame fits open_table k a (open_found k a has)

    pub had_there : (k : ℕ) (a : Option ℕ) → find shape other k ≡ a → HasAt shape word k a
    had_there k a found =
        pairs.has_of_found shape image.in_range word (frame_is shape words image) image.each_fits (table_is shape words image) k a (sym (same_find k) ∙ found)

  module _ (not_clean : marker_in (other state_word) ≡ 0) where
    pub open_rules : ((i : ℕ) → other i < 2 ^ 64) → FollowsRules shape other
    open_rules fits = unmarked_rules shape other image.in_range open_frame open_table fits not_clean

    -- ---- where the version is kept or raised
    module _ (version : KeepsVersion shape word other ⊎ RaisesVersion shape word other) where
      raised : RaisesVersion shape word other → (s : ℕ) → IsCurrent shape other s → ⊥
      raised up s c = below (version_in (other (header_word shape s))) (image_version (frame_of shape other)) (up s c.live.slot) c.current
        where
          below : (has now : ℕ) → has < now → has ≡ now → ⊥
          below has now less same = omega (arith, less, same)

      kept_back : KeepsVersion shape word other → (s : ℕ) → IsCurrent shape other s → IsCurrent shape word s
      kept_back k = current_back shape word other image.in_range (frame_is shape words image) of k.version k.headers

      pub open_structure : IsOpenStructure shape other
      open_structure = record {
        frame = open_frame;
        not_clean = not_clean;
        takes_calls = λ s c. elim version [
          | inl k ↦ (of.heads s c.live.slot).state ∙ is_normal shape words image k.clean s (kept_back k s c)
          | inr up ↦ absurd (raised up s c)
        ];
      }

      pub open_rest : (s : ℕ) → IsCurrent shape other s → IsAtRest shape other s
      open_rest s c = elim version [
        | inl k ↦ same_rest shape word other image.in_range (frame_is shape words image) of s c.live.slot (current_at_rest shape words image k.clean s (kept_back k s c))
        | inr up ↦ absurd (raised up s c)
      ]

      pub open_own : HasOwnRecords shape other
      open_own = elim version [
        | inl k ↦ same_own shape word other image.in_range (frame_is shape words image) of (kept_back k) (own_records shape words image k.clean)
        | inr up ↦ λ s b r k c h. absurd (raised up s c)
      ]
