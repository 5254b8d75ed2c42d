-- The words that a cut leaves are those of a possible medium.
use Rattle.std.proofs.Common.{◌≡◌, ℕ, ◌<◌, ◌⊎◌, List, length, map, arith, sym, ap, ◌∙◌, inl, inr}
use Rattle.std.specs.Prelude.{slice_index}
use Rattle.std.specs.List.{range_with_len}
use Rattle.std.proofs.lemmas.List.FromFn.{get_or-map-range_with_len, length-map-range_with_len}
use Rattle.trace.specs.Events.{Words, value}
use Rattle.trace.specs.Settling.{IsSettledValue}
use Rattle.trace.specs.Media.{IsPossible}
use Rattle.trace.specs.Steps.{settled_value}
use Rattle.trace.proofs.Media.{between_is_possible}
use Rattle.trace.proofs.SettledValues.{settled_here}
use Rattle.pm_trace.specs.Choice.{chosen}
use Rattle.pm_trace.proofs.Chosen.{chosen_is_either, chosen_length}
use Rattle.image_layout.specs.Places.{Shape, words_of}
use Rattle.engine.specs.Core.{Core}

-- the words of an image, by their numbers, as a list
listed : (words : Words) (width i : ℕ) → i < width → slice_index (map words (range_with_len 0 width)) i ≡ words i
listed words width i within = get_or-map-range_with_len words 0 width i i 0 within (omega arith)

pub words_listed : (shape : Shape) (words : Words) (i : ℕ) → i < words_of shape → slice_index (map words (range_with_len 0 (words_of shape))) i ≡ words i
words_listed shape words i within = listed words (words_of shape) i within

pub newest_length : (shape : Shape) (words : Words) → length (map words (range_with_len 0 (words_of shape))) ≡ words_of shape
newest_length shape words = length-map-range_with_len words 0 (words_of shape)

module _ (shape : Shape) (start : Words) (core : Core) (newest : core.words ≡ value start core.trace) (choice : ℕ) where
  abbrev settled_words : List ℕ
  settled_words = map (settled_value start core.trace) (range_with_len 0 (words_of shape))

  abbrev newest_words : List ℕ
  newest_words = map core.words (range_with_len 0 (words_of shape))

  pub cut_length : length (chosen choice settled_words newest_words) ≡ words_of shape
  cut_length =
      chosen_length choice settled_words newest_words (newest_length shape (settled_value start core.trace) ∙ sym (newest_length shape core.words))
      ∙ newest_length shape (settled_value start core.trace)

  word_left : (i : ℕ) → i < words_of shape
      → IsSettledValue start core.trace i (slice_index (chosen choice settled_words newest_words) i)
      ⊎ (slice_index (chosen choice settled_words newest_words) i ≡ value start core.trace i)
  word_left i within = elim (chosen_is_either choice settled_words newest_words i) [
    | inl s ↦ inl (settled_here start core.trace i _ (s ∙ words_listed shape (settled_value start core.trace) i within))
    | inr n ↦ inr (n ∙ words_listed shape core.words i within ∙ ap (λ (ws : Words). ws i) newest)
  ]

  pub cut_is_possible : IsPossible (words_of shape) start core.trace (slice_index (chosen choice settled_words newest_words))
  cut_is_possible = between_is_possible (words_of shape) start core.trace (slice_index (chosen choice settled_words newest_words)) word_left
