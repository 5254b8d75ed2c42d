-- The segment and its side: their headers, and the entries of the 1-side.
use Rattle.std.proofs.Common.{◌≡◌, ◌≢◌, ℕ, suc, ◌+◌, ◌-◌, ◌*◌, ◌/◌, ◌%◌, ◌^◌, ◌<◌, ◌≤◌, inl, inr, cond, sym, ap, ◌∙◌, subst, arith}
use Rattle.std.specs.Prelude.{◌==◌, nat_le, min, slice_index}
use Rattle.std.proofs.lemmas.Bool.{and_parts, eqb-true, eq-eqb, ne_eqb}
use Rattle.std.proofs.lemmas.Nat.{pow_pos, pow-add, le-div}
use Rattle.std.proofs.Math.Nat.{div-lt_iff_lt-mul, le-div_iff_mul-le, mul-le-mul_right}
use Rattle.std.proofs.Math.Pow.{pow_mono}
use Rattle.hash_word.specs.Hash.{top}
use Rattle.segment_head.specs.HeadWord.{version_in, state_in, depth_in, pattern_in, normal, splitting, fresh, HasLiveState}
use Rattle.segment_head.proofs.Headers.{header_version, header_state, header_depth, header_pattern}
use Rattle.image_layout.specs.Places.{Shape, head_at, bucket_at, block, buckets, most_depth}
use Rattle.segment_table.proofs.frames.Regions.{top_below}
use Rattle.way.specs.Ways.{is_covering}
use Rattle.frame_facts.specs.DeadSlots.{IsInSlot}
use Rattle.map_model.specs.declared.call.Call.{Call}
use Rattle.world.specs.declared.site.Site.{Site}
use Rattle.world.specs.Ground.{Ground, IsGround, version_of}
use Rattle.world.specs.areas.Areas.{header_word}
use Rattle.world.specs.areas.Kinds.{is_in_slot}
use Rattle.world.specs.areas.Splitting.{link_word, IsHeader}
use Rattle.world.proofs.fitting.OneHolder.{head_in_slot, link_in_slot}
use Rattle.world.proofs.moving.media.MediaKept.{bucket_in_slot}
use Rattle.split_op.specs.Enclosed.{Enclosed}
use Rattle.split_op.specs.Whole.{kept_words, IsOf, IsWhole}
use Rattle.split_op.specs.declared.copied.Copied.{Copied}
use Rattle.split_op.specs.Copied.{split_head, side_head, side_words, split_words, copied_words, IsCopy}
use Rattle.directory_op.specs.Places.{entries_there, run_of, side_first, side_last}
use Rattle.directory_op.specs.Fits.{side_depth, side_pattern, IsOfSide}
use Rattle.directory_op.proofs.Words.{all_entries, doubled, not_in_slot, in_slot, other_slot}

-- ---- numbers
module _ (site : Ground) (ground : IsGround site) (here : Site) (call : Call) (c : Copied) (is : IsOf site here call c.whole) (whole : IsWhole site c.whole) where
  abbrev e : Enclosed
  e = c.whole

  -- how deep the segment is, and its pattern
  abbrev d : ℕ
  d = depth_in e.head

  abbrev p : ℕ
  p = pattern_in e.head

  pub low : d < most_depth
  low = let most = ground.shape.depth in let less = whole.shallow in omega (arith, most, less)

  covers : top d e.hash ≡ p
  covers = let parts = and_parts (state_in e.head == normal) (is_covering e.head e.hash) whole.head.leads in
      eqb-true (top d e.hash) p (and_parts (nat_le d 64) (top d e.hash == p) parts.1).1

  pub fits : p < 2 ^ d
  fits = subst (λ q. q < 2 ^ d) covers (top_below d e.hash (let few = low in omega (arith, few)) is.fits)

  pub few : p < 2 ^ most_depth
  few = let most = pow_mono {i = d} {j = most_depth} (let less = low in omega (arith, less)) in let less = fits in omega (arith, most, less)

  version_small : e.site.version < 2 ^ 8
  version_small = let v = is.version in omega (arith, v)

  -- ---- the header of the segment
  pub split_state : state_in (split_head e) ≡ splitting
  split_state = header_state (version_in e.head) splitting d p (omega arith) (omega arith) (omega arith)

  pub split_depth : depth_in (split_head e) ≡ d
  split_depth = header_depth (version_in e.head) splitting d p (omega arith) (omega arith) (omega arith)

  pub split_pattern : pattern_in (split_head e) ≡ p
  split_pattern = header_pattern (version_in e.head) splitting d p (omega arith) (omega arith) (omega arith)

  pub split_header : IsHeader (split_head e) splitting d p (version_in e.head)
  split_header = record {
    state_is = split_state;
    depth_is = split_depth;
    pattern_is = split_pattern;
    version_is = header_version (version_in e.head) splitting d p (omega arith) (omega arith) (omega arith);
  }

  -- ---- that of the side
  whole_depth : (d + 1) % 2 ^ 8 ≡ suc d
  whole_depth = let less = low in omega (arith, less)

  whole_pattern : (2 * p + 1) % 2 ^ 32 ≡ 2 * p + 1
  whole_pattern = let less = few in omega (arith, less)

  pub side_state : state_in (side_head e) ≡ fresh
  side_state = header_state e.site.version fresh ((d + 1) % 2 ^ 8) ((2 * p + 1) % 2 ^ 32) version_small (omega arith) (omega arith)

  pub side_deep : depth_in (side_head e) ≡ suc d
  side_deep = header_depth e.site.version fresh ((d + 1) % 2 ^ 8) ((2 * p + 1) % 2 ^ 32) version_small (omega arith) (omega arith) ∙ whole_depth

  pub side_region : pattern_in (side_head e) ≡ 2 * p + 1
  side_region = header_pattern e.site.version fresh ((d + 1) % 2 ^ 8) ((2 * p + 1) % 2 ^ 32) version_small (omega arith) (omega arith) ∙ whole_pattern

  pub side_version : version_in (side_head e) ≡ version_of site
  side_version = header_version e.site.version fresh ((d + 1) % 2 ^ 8) ((2 * p + 1) % 2 ^ 32) version_small (omega arith) (omega arith) ∙ is.version

  pub side_new : IsHeader (side_head e) fresh (suc (depth_in (split_head e))) (2 * pattern_in (split_head e) + 1) (version_of site)
  side_new = record {
    state_is = side_state;
    depth_is = side_deep ∙ ap suc (sym split_depth);
    pattern_is = side_region ∙ ap (λ q. 2 * q + 1) (sym split_pattern);
    version_is = side_version;
  }

  pub side_dead : HasLiveState (side_head e) → ⊥
  side_dead live = let new = side_state in elim live [ inl n ↦ omega (arith, n, new) | inr s ↦ omega (arith, s, new) ]

  -- ---- what is kept of the headers and the link
  module _ (copy : IsCopy site c) where
    abbrev shape : Shape
    shape = site.shape

    out : (i : ℕ) → IsInSlot shape e.segment i → copied_words c i ≡ split_words c i
    out i inside = subst (λ (s : Shape). cond (is_in_slot s c.side i) (side_words c i) (split_words c i) ≡ split_words c i) (sym is.located.shape)
        (ap (λ b. cond b (side_words c i) (split_words c i)) (not_in_slot shape c.side i (other_slot shape e.segment c.side i copy.apart inside)))

    inside : (i : ℕ) → IsInSlot shape c.side i → copied_words c i ≡ side_words c i
    inside i there = subst (λ (s : Shape). cond (is_in_slot s c.side i) (side_words c i) (split_words c i) ≡ side_words c i) (sym is.located.shape)
        (ap (λ b. cond b (side_words c i) (split_words c i)) (in_slot shape c.side i there))

    header_here : (s : ℕ) → header_word e.site.geometry s ≡ header_word shape s
    header_here s = ap (λ (g : Shape). header_word g s) is.located.shape

    link_here : (s : ℕ) → link_word e.site.geometry s ≡ link_word shape s
    link_here s = ap (λ (g : Shape). link_word g s) is.located.shape

    pub head_kept : copied_words c (header_word shape e.segment) ≡ split_head e
    head_kept = out (header_word shape e.segment) (head_in_slot shape e.segment)
        ∙ ap (λ b. cond b (split_head e) (cond (header_word shape e.segment == link_word e.site.geometry e.segment) (suc c.side) (kept_words e (header_word shape e.segment))))
        (eq-eqb (header_word shape e.segment) (header_word e.site.geometry e.segment) (sym (header_here e.segment)))

    link_no_head : link_word shape e.segment ≢ header_word e.site.geometry e.segment
    link_no_head same = by (head_at shape e.segment) (same ∙ header_here e.segment)
      where
        by : (at : ℕ) → at + 2 ≡ at + 1 → ⊥
        by at f = omega (arith, f)

    pub link_kept : copied_words c (link_word shape e.segment) ≡ suc c.side
    link_kept = out (link_word shape e.segment) (link_in_slot shape e.segment)
        ∙ ap (λ b. cond b (split_head e) (cond (link_word shape e.segment == link_word e.site.geometry e.segment) (suc c.side) (kept_words e (link_word shape e.segment))))
        (ne_eqb (link_word shape e.segment) (header_word e.site.geometry e.segment) link_no_head)
        ∙ ap (λ b. cond b (suc c.side) (kept_words e (link_word shape e.segment))) (eq-eqb (link_word shape e.segment) (link_word e.site.geometry e.segment) (sym (link_here e.segment)))

    -- a word of a bucket is neither
    bucket_no_head : (b m k : ℕ) → k < 32 → bucket_at shape e.segment b + m ≢ head_at e.site.geometry e.segment + k
    bucket_no_head b m k low same = by (head_at shape e.segment) b m k low (same ∙ ap (λ (g : Shape). head_at g e.segment + k) is.located.shape)
      where
        by : (at b m k : ℕ) → k < 32 → at + 32 + 32 * b + m ≡ at + k → ⊥
        by at b m k low f = omega (arith, low, f)

    pub bucket_kept : (b m : ℕ) → b < buckets → 1 ≤ m → m < block → copied_words c (bucket_at shape e.segment b + m) ≡ kept_words e (bucket_at shape e.segment b + m)
    bucket_kept b m near above low =
        let i = bucket_at shape e.segment b + m in
        out i (bucket_in_slot shape e.segment b m near low)
        ∙ ap (λ t. cond t (split_head e) (cond (i == link_word e.site.geometry e.segment) (suc c.side) (kept_words e i))) (ne_eqb i (header_word e.site.geometry e.segment) (bucket_no_head b m 1 (omega arith)))
        ∙ ap (λ t. cond t (suc c.side) (kept_words e i)) (ne_eqb i (link_word e.site.geometry e.segment) (bucket_no_head b m 2 (omega arith)))

    pub side_kept : copied_words c (header_word shape c.side) ≡ side_head e
    side_kept = inside (header_word shape c.side) (head_in_slot shape c.side)
        ∙ ap (λ b. cond b (side_head e) (slice_index c.words (header_word shape c.side - bucket_at c.whole.site.geometry c.side 0))) (eq-eqb (header_word shape c.side) (header_word e.site.geometry c.side) (sym (header_here c.side)))

  -- ---- the entries of the 1-side
  module _ (root : ℕ) (deeper : side_depth c ≤ root) (most : root ≤ most_depth) where
    -- how many there are
    abbrev run : ℕ
    run = 2 ^ (root - side_depth c)

    run_is : run_of root (side_head e) ≡ run
    run_is = ap (λ n. entries_there (root - n)) side_deep ∙ all_entries (root - suc d) (let far = most in omega (arith, far))

    first_is : side_first root (side_head e) ≡ side_pattern c * run
    first_is = ap (λ n. pattern_in (side_head e) * n) run_is ∙ ap (λ n. n * run) side_region

    -- all of them are entries of the root's area
    whole_area : (side_pattern c + 1) * run ≤ 2 ^ root
    whole_area =
        let parts : suc d + (root - suc d) ≡ root = (let far = deeper in omega (arith, far)) in
        let all : 2 ^ root ≡ 2 ^ suc d * run = ap (λ n. 2 ^ n) (sym parts) ∙ pow-add 2 (suc d) (root - suc d) in
        let below : side_pattern c + 1 ≤ 2 ^ suc d = (let less = fits in let twice = doubled d in omega (arith, less, twice)) in
        subst (λ n. (side_pattern c + 1) * run ≤ n) (sym all) (mul-le-mul_right run below)

    last_is : side_last root (side_head e) ≡ (side_pattern c + 1) * run - 1
    last_is =
        ap (λ n. min ((pattern_in (side_head e) + 1) * n) (entries_there root) - 1) run_is
        ∙ ap (λ n. min ((n + 1) * run) (entries_there root) - 1) side_region
        ∙ ap (λ n. min ((side_pattern c + 1) * run) n - 1) (all_entries root most)
        ∙ least ((side_pattern c + 1) * run) (2 ^ root) whole_area
      where
        least : (a b : ℕ) → a ≤ b → min a b - 1 ≡ a - 1
        least a b less = omega (arith, less)

    -- an entry is one of them where it lies between
    pub is_of_side : (i : ℕ) → side_first root (side_head e) ≤ i → i ≤ side_last root (side_head e) → IsOfSide c root i
    is_of_side i from to =
        let some : 0 < run = pow_pos (root - side_depth c) in
        let from : side_pattern c * run ≤ i = subst (λ n. n ≤ i) first_is from in
        let to : i ≤ (side_pattern c + 1) * run - 1 = subst (λ n. i ≤ n) last_is to in
        let least : 1 ≤ side_pattern c + 1 = omega arith in
        let one : 1 * run ≤ (side_pattern c + 1) * run = mul-le-mul_right run least in
        let low : side_pattern c ≤ i / run = le-div (side_pattern c) i run some from in
        let high : i / run < side_pattern c + 1 = (div-lt_iff_lt-mul some).1 (omega (arith, to, some, one)) in
        omega (arith, low, high)

    pub first_of : (i : ℕ) → IsOfSide c root i → side_first root (side_head e) ≤ i
    first_of i is = subst (λ n. n ≤ i) (sym first_is) ((le-div_iff_mul-le {k = run} (pow_pos (root - side_depth c))).0 (omega (arith, is)))

    pub last_of : (i : ℕ) → IsOfSide c root i → i ≤ side_last root (side_head e)
    last_of i is =
        let below : i < (side_pattern c + 1) * run = (div-lt_iff_lt-mul {k = run} (pow_pos (root - side_depth c))).0 (omega (arith, is)) in
        subst (λ n. i ≤ n) (sym last_is) (omega (arith, below))

    -- and then it is one of the area
    pub near_of : (i : ℕ) → i ≤ side_last root (side_head e) → i < 2 ^ root
    near_of i to =
        let some : 0 < run = pow_pos (root - side_depth c) in
        let to : i ≤ (side_pattern c + 1) * run - 1 = subst (λ n. i ≤ n) last_is to in
        let least : 1 ≤ side_pattern c + 1 = omega arith in
        let one : 1 * run ≤ (side_pattern c + 1) * run = mul-le-mul_right run least in
        let all = whole_area in
        omega (arith, to, all, some, one)

    -- the first of them is no later than the last
    pub first_last : side_first root (side_head e) ≤ side_last root (side_head e)
    first_last =
        let some : 0 < run = pow_pos (root - side_depth c) in
        let more : (side_pattern c + 1) * run ≡ side_pattern c * run + run = spread (side_pattern c) run in
        subst (λ n. n ≤ side_last root (side_head e)) (sym first_is) (subst (λ n. side_pattern c * run ≤ n) (sym last_is) (omega (arith, some, more)))
      where
        spread : (a b : ℕ) → (a + 1) * b ≡ a * b + b
        spread a b = grind arith
