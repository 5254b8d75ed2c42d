-- The mask of 16 lanes that are compared with a byte, cut to its 14 lowest bits, is the scan of the first 14 lanes.
use Rattle.std.proofs.Common.{◌≡◌, ℕ, ◌%◌, ◌^◌, ◌<◌, cond, eqb, false, List, [], ◌∷◌, map, length, replicate, refl, ap, ◌∙◌, arith, get_or, bit_and, below_more}
use borrow.Author.Count.{below_none}
use lib.Lanes.{zip2, mask_l, top}
use Rattle.std.proofs.lemmas.List.{get_or-map}
use Rattle.std.proofs.lemmas.Nat.{and_le_r}
use Rattle.std.proofs.lemmas.Nat.Bits.{bit_at_and, bit_at_ones, bit_at-lt}
use Rattle.std.proofs.lemmas.Simd.{bitmask_splat, bit_mask_l}
use Rattle.std.specs.Int.{bit_at, w8}
use Rattle.finger_scan.specs.Scan.{IsScanOf}
use Rattle.finger_scan.proofs.ScanBits.{scan_of_bits}

-- the vector that the fingerprints are put in
abbrev pub lanes_of : List ℕ → List ℕ
lanes_of fps = get_or fps 0 0 ∷ get_or fps 1 0 ∷ get_or fps 2 0 ∷ get_or fps 3 0 ∷ get_or fps 4 0 ∷ get_or fps 5 0 ∷ get_or fps 6 0
    ∷ get_or fps 7 0 ∷ get_or fps 8 0 ∷ get_or fps 9 0 ∷ get_or fps 10 0 ∷ get_or fps 11 0 ∷ get_or fps 12 0 ∷ get_or fps 13 0 ∷ 0 ∷ 0 ∷ []

-- lane s is fingerprint s
lanes_are : (fps : List ℕ) (s : ℕ) → s < 14 → get_or (lanes_of fps) s 0 ≡ get_or fps s 0
lanes_are fps =
    let P : ℕ → Type 0 = λ s. get_or (lanes_of fps) s 0 ≡ get_or fps s 0 in
    below_more P 13 (below_more P 12 (below_more P 11 (below_more P 10 (below_more P 9 (below_more P 8 (below_more P 7
    (below_more P 6 (below_more P 5 (below_more P 4 (below_more P 3 (below_more P 2 (below_more P 1 (below_more P 0
    (below_none P) refl) refl) refl) refl) refl) refl) refl) refl) refl) refl) refl) refl) refl) refl

-- what `to_bitmask` gives
abbrev pub mask_of : List ℕ → ℕ → ℕ
mask_of xs byte = mask_l (map (top 7) (zip2 (λ a b. cond (eqb a b) 255 0) xs (replicate 16 byte))) % 2 ^ 64

mask_bit : (xs : List ℕ) (byte s : ℕ) → length xs ≡ 16 → s < 14 → bit_at (mask_of xs byte) s ≡ cond (eqb (get_or xs s 0) byte) 1 0
mask_bit xs byte s sixteen low =
    ap (λ m. bit_at m s) (bitmask_splat w8 eqb xs 16 byte sixteen (omega arith))
    ∙ bit_mask_l (map (λ x. eqb x byte) xs) s
    ∙ ap (λ b. cond b 1 0) (get_or-map (λ x. eqb x byte) xs s 0 false (omega arith))

pub scan_of_lanes : (fps : List ℕ) (byte : ℕ) → IsScanOf fps byte (bit_and (mask_of (lanes_of fps) byte) 16383)
scan_of_lanes fps byte =
    let m : ℕ = mask_of (lanes_of fps) byte in
    scan_of_bits fps byte (bit_and m 16383) (record {
      within = omega (arith, and_le_r m 16383);
      compared = λ s low.
          let one : bit_at 16383 s ≡ 1 = bit_at_ones 14 s low in
          let kept : bit_at (bit_and m 16383) s ≡ bit_at m s = omega (arith, bit_at_and m 16383 s, bit_at-lt m s) in
          kept ∙ mask_bit (lanes_of fps) byte s refl low ∙ ap (λ x. cond (eqb x byte) 1 0) (lanes_are fps s low);
    })
