-- The entries of a 1-side: their numbers, without the bits below those of the side, are its pattern.
use Rattle.std.proofs.Common.{◌≡◌, ℕ, ◌+◌, ◌-◌, ◌*◌, ◌/◌, ◌^◌, ◌<◌, ◌≤◌, sym, ap, subst, ◌∙◌, ◌↔◌, arith}
use Rattle.std.proofs.lemmas.Nat.{pow_pos}
use Rattle.std.proofs.Math.Nat.{div-eq_of_lt-le, div-mul-le_self, lt-div-mul-add}
use Rattle.hash_word.specs.Hash.{top, index_of}
use Rattle.sound_image.specs.Segments.{Frame, depth_at, pattern_at, InOneSide}
use Rattle.segment_table.specs.Claims.{IsSideEntry}
use Rattle.segment_table.proofs.frames.Regions.{fewer}

next_times : (q m : ℕ) → (q + 1) * m ≡ q * m + m
next_times q m = grind arith

module _ (frame : Frame) (s h : ℕ) (less : depth_at frame s < frame.root) (most : frame.root ≤ 64) where
  abbrev size : ℕ
  size = 2 ^ (frame.root - depth_at frame s - 1)

  abbrev side : ℕ
  side = 2 * pattern_at frame s + 1

  whole : depth_at frame s + 1 + (frame.root - depth_at frame s - 1) ≡ frame.root
  whole = omega (arith, less)

  top_is : top (depth_at frame s + 1) h ≡ index_of frame.root h / size
  top_is = fewer (depth_at frame s + 1) (frame.root - depth_at frame s - 1) h (omega (arith, whole, most)) ∙ ap (λ d. top d h / size) whole

  pub side_entry : InOneSide frame s h ↔ IsSideEntry frame s (index_of frame.root h)
  side_entry = (
    λ inside.
        let is : index_of frame.root h / size ≡ side = sym top_is ∙ inside in
        let above : index_of frame.root h < index_of frame.root h / size * size + size = lt-div-mul-add (pow_pos (frame.root - depth_at frame s - 1)) in
        record {
          from = subst (λ q. q * size ≤ index_of frame.root h) is (div-mul-le_self (index_of frame.root h) size);
          to = subst (λ n. index_of frame.root h < n) (sym (next_times side size)) (subst (λ q. index_of frame.root h < q * size + size) is above);
        },
    λ entry. top_is ∙ div-eq_of_lt-le size entry.from entry.to,
  )
