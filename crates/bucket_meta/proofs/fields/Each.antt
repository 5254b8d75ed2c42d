-- What holds at each of 4 places, of 8 bytes or of 14 slots, each shown alone, holds of them all.
use Rattle.std.proofs.Common.{ℕ, ◌<◌, below_more}
use borrow.Author.Count.{below_none}

pub each_place : (P : ℕ → Type 0) → P 0 → P 1 → P 2 → P 3 → (i : ℕ) → i < 4 → P i
each_place P p0 p1 p2 p3 =
    below_more P 3 (below_more P 2 (below_more P 1 (below_more P 0 (below_none P) p0) p1) p2) p3

pub each_byte : (P : ℕ → Type 0) → P 0 → P 1 → P 2 → P 3 → P 4 → P 5 → P 6 → P 7 → (i : ℕ) → i < 8 → P i
each_byte P p0 p1 p2 p3 p4 p5 p6 p7 =
    below_more P 7 (below_more P 6 (below_more P 5 (below_more P 4 (each_place P p0 p1 p2 p3) p4) p5) p6) p7

pub each_slot : (P : ℕ → Type 0) → P 0 → P 1 → P 2 → P 3 → P 4 → P 5 → P 6 → P 7 → P 8 → P 9 → P 10 → P 11 → P 12 → P 13 → (s : ℕ) → s < 14 → P s
each_slot P p0 p1 p2 p3 p4 p5 p6 p7 p8 p9 p10 p11 p12 p13 =
    below_more P 13 (below_more P 12 (below_more P 11 (below_more P 10 (below_more P 9 (below_more P 8
    (each_byte P p0 p1 p2 p3 p4 p5 p6 p7) p8) p9) p10) p11) p12) p13
