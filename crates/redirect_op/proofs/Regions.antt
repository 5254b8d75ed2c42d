-- The entries of the 1-side by their numbers; and where a segment begins that such an entry names: no later than the stale one, where it is no
-- deeper, and else behind the stale one's first hash.
use Rattle.std.proofs.Common.{◌≡◌, ℕ, suc, ◌+◌, ◌-◌, ◌*◌, ◌/◌, ◌%◌, ◌^◌, ◌<◌, ◌≤◌, sym, ap, ◌∙◌, subst, arith, add-one}
use Rattle.std.specs.Prelude.{min}
use Rattle.std.proofs.lemmas.Nat.{pow_pos, pow-add, le-div}
use Rattle.std.proofs.Math.Nat.{div-lt_iff_lt-mul, le-div_iff_mul-le, mul-le-mul_right}
use Rattle.std.proofs.Math.Pow.{pow_mono}
use Rattle.hash_word.specs.Hash.{index_of}
use Rattle.segment_head.specs.HeadWord.{depth_in, pattern_in}
use Rattle.segment_head.proofs.Headers.{header_depth, header_pattern}
use Rattle.image_layout.specs.Places.{most_depth}
use Rattle.sound_image.specs.Segments.{Frame, depth_at, pattern_at, IsLive, IsLiveFor, CoversHash, InOneSide}
use Rattle.segment_table.specs.Claims.{IsSoundFrame, IsSideEntry, named_for}
use Rattle.segment_table.specs.Media.{first_hash}
use Rattle.segment_table.proofs.frames.Regions.{first, first_fits, top_of_first, first_least}
use Rattle.segment_table.proofs.frames.SideEntries.{side_entry}
use Rattle.segment_table.proofs.frames.SoundFrames.{first_covered, way_begins, live_low, nested, nested_side, side_covered}
use Rattle.world.specs.areas.Repairing.{IsEntryOfSide}
use Rattle.world.proofs.holders.repairing.SideEntries.{stands_in_row, side_later}
use Rattle.directory_op.specs.Places.{entries_there, run_of, side_first, side_last}
use Rattle.directory_op.proofs.Words.{all_entries, doubled}
use Rattle.redirect_op.specs.Steps.{side_region_head}

-- ---- the entries of the 1-side
module _ (head root : ℕ) (deeper : depth_in head < root) (most : root ≤ most_depth) (fits : pattern_in head < 2 ^ depth_in head) where
  abbrev d : ℕ
  d = depth_in head

  abbrev p : ℕ
  p = pattern_in head

  low : d < most_depth
  low = let a = deeper in let b = most in omega (arith, a, b)

  few : p < 2 ^ most_depth
  few = let more = pow_mono {i = d} {j = most_depth} (let less = low in omega (arith, less)) in let less = fits in omega (arith, more, less)

  whole_depth : (d + 1) % 2 ^ 8 ≡ suc d
  whole_depth = let less = low in omega (arith, less)

  whole_pattern : (2 * p + 1) % 2 ^ 32 ≡ 2 * p + 1
  whole_pattern = let less = few in omega (arith, less)

  side_deep : depth_in (side_region_head head) ≡ suc d
  side_deep = header_depth 0 0 ((d + 1) % 2 ^ 8) ((2 * p + 1) % 2 ^ 32) (omega arith) (omega arith) (omega arith) ∙ whole_depth

  side_region : pattern_in (side_region_head head) ≡ 2 * p + 1
  side_region = header_pattern 0 0 ((d + 1) % 2 ^ 8) ((2 * p + 1) % 2 ^ 32) (omega arith) (omega arith) (omega arith) ∙ whole_pattern

  -- how many there are
  abbrev run : ℕ
  run = 2 ^ (root - suc d)

  abbrev pattern : ℕ
  pattern = 2 * p + 1

  abbrev first_entry : ℕ
  first_entry = side_first root (side_region_head head)

  abbrev last_entry : ℕ
  last_entry = side_last root (side_region_head head)

  some_run : 0 < run
  some_run = pow_pos (root - suc d)

  run_is : run_of root (side_region_head head) ≡ run
  run_is = ap (λ n. entries_there (root - n)) side_deep ∙ all_entries (root - suc d) (let far = most in omega (arith, far))

  first_is : first_entry ≡ pattern * run
  first_is = ap (λ n. pattern_in (side_region_head head) * n) run_is ∙ ap (λ n. n * run) side_region

  -- all of them are entries of the root's area
  whole_area : (pattern + 1) * run ≤ 2 ^ root
  whole_area =
      let parts : suc d + (root - suc d) ≡ root = (let far = deeper in omega (arith, far)) in
      let all : 2 ^ root ≡ 2 ^ suc d * run = ap (λ n. 2 ^ n) (sym parts) ∙ pow-add 2 (suc d) (root - suc d) in
      let below : pattern + 1 ≤ 2 ^ suc d = (let less = fits in let twice = doubled d in omega (arith, less, twice)) in
      subst (λ n. (pattern + 1) * run ≤ n) (sym all) (mul-le-mul_right run below)

  last_is : last_entry ≡ (pattern + 1) * run - 1
  last_is =
      ap (λ n. min ((pattern_in (side_region_head head) + 1) * n) (entries_there root) - 1) run_is
      ∙ ap (λ n. min ((n + 1) * run) (entries_there root) - 1) side_region
      ∙ ap (λ n. min ((pattern + 1) * run) n - 1) (all_entries root most)
      ∙ least ((pattern + 1) * run) (2 ^ root) whole_area
    where
      least : (a b : ℕ) → a ≤ b → min a b - 1 ≡ a - 1
      least a b less = omega (arith, less)

  one_run : 1 * run ≤ (pattern + 1) * run
  one_run = let least : 1 ≤ pattern + 1 = omega arith in mul-le-mul_right run least

  pub near_of : (i : ℕ) → i ≤ last_entry → i < 2 ^ root
  near_of i upto =
      let some = some_run in
      let to : i ≤ (pattern + 1) * run - 1 = subst (λ n. i ≤ n) last_is upto in
      let one = one_run in
      let all = whole_area in
      omega (arith, to, all, some, one)

  -- an entry is one of them where it lies between
  pub is_of_side : (i : ℕ) → first_entry ≤ i → i ≤ last_entry → IsEntryOfSide root d p i
  is_of_side i from upto =
      let some = some_run in
      let from : pattern * run ≤ i = subst (λ n. n ≤ i) first_is from in
      let to : i ≤ (pattern + 1) * run - 1 = subst (λ n. i ≤ n) last_is upto in
      let one = one_run in
      let low : pattern ≤ i / run = le-div pattern i run some from in
      let high : i / run < pattern + 1 = (div-lt_iff_lt-mul some).1 (omega (arith, to, some, one)) in
      record { deep = deeper; index = near_of i upto; inside = omega (arith, low, high) }

  pub first_of : (i : ℕ) → IsEntryOfSide root d p i → first_entry ≤ i
  first_of i is = let e = is.inside in subst (λ n. n ≤ i) (sym first_is) ((le-div_iff_mul-le {k = run} some_run).0 (omega (arith, e)))

  pub last_of : (i : ℕ) → IsEntryOfSide root d p i → i ≤ last_entry
  last_of i is =
      let e = is.inside in
      let below : i < (pattern + 1) * run = (div-lt_iff_lt-mul {k = run} some_run).0 (omega (arith, e)) in
      subst (λ n. i ≤ n) (sym last_is) (omega (arith, below))

  -- the first of them is no later than the last
  pub first_last : first_entry ≤ last_entry
  first_last =
      let some = some_run in
      let more : (pattern + 1) * run ≡ pattern * run + run = spread pattern run in
      subst (λ n. n ≤ last_entry) (sym first_is) (subst (λ n. pattern * run ≤ n) (sym last_is) (omega (arith, some, more)))
    where
      spread : (a b : ℕ) → (a + 1) * b ≡ a * b + b
      spread a b = grind arith

-- ---- where the segment begins that such an entry names
module _ (greatest : ℕ) (most : greatest ≤ 16) (frame : Frame) (sound : IsSoundFrame greatest frame) (s i : ℕ) (slot : s < frame.segments) (live : IsLive frame s)
    (entry : IsEntryOfSide frame.root (depth_at frame s) (pattern_at frame s) i) where
  abbrev t : ℕ
  t = frame.entry i

  -- the first hash of the entry
  abbrev h : ℕ
  h = first frame.root i

  root_low : frame.root ≤ 64
  root_low = let a = sound.root in let b = most in omega (arith, a, b)

  fits_hash : h < 2 ^ 64
  fits_hash = first_fits frame.root i root_low entry.index

  index_is : index_of frame.root h ≡ i
  index_is = top_of_first frame.root i

  -- it is one of the 1-side, and the segment that is named covers it
  inside : InOneSide frame s h
  inside = (side_entry frame s h entry.deep root_low).1 (subst (IsSideEntry frame s) (sym index_is) (stands_in_row frame s root_low i entry))

  covered : IsLiveFor frame h t
  covered = subst (λ k. IsLiveFor frame h (frame.entry k)) index_is (way_begins frame h (named_for frame h) (sound.leads h fits_hash))

  pub begins_before : depth_at frame t ≤ depth_at frame s → first_hash frame t ≤ first_hash frame s
  begins_before up =
      let mine : CoversHash frame s h = side_covered greatest most frame sound s h slot live inside in
      first_least (depth_at frame t) (pattern_at frame t) (first_hash frame s)
      (nested greatest most frame sound t s h (first_hash frame s) slot live up covered.covers mine (first_covered frame s))

  pub begins_behind : depth_at frame s < depth_at frame t → first_hash frame s < first_hash frame t
  begins_behind deeper =
      let in_side : InOneSide frame s (first_hash frame t) = nested_side greatest most frame sound s t h (first_hash frame t) covered.slot covered.live deeper inside covered.covers (first_covered frame t) in
      let from : first (depth_at frame s + 1) (2 * pattern_at frame s + 1) ≤ first_hash frame t = first_least (depth_at frame s + 1) (2 * pattern_at frame s + 1) (first_hash frame t) in_side in
      let low : depth_at frame s < 64 = (let a = live_low greatest most frame sound s slot live in omega (arith, a)) in
      let later : first (depth_at frame s) (pattern_at frame s) < first (suc (depth_at frame s)) (2 * pattern_at frame s + 1) = side_later (depth_at frame s) (pattern_at frame s) low in
      let same : first (depth_at frame s + 1) (2 * pattern_at frame s + 1) ≡ first (suc (depth_at frame s)) (2 * pattern_at frame s + 1) = ap (λ k. first k (2 * pattern_at frame s + 1)) (add-one (depth_at frame s)) in
      omega (arith, from, later, same)
