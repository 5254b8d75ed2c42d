-- The depth and the pattern of the segment, and the two halves of what it covers.
use Rattle.std.proofs.Common.{◌≡◌, ℕ, suc, ◌+◌, ◌*◌, ◌/◌, ◌%◌, ◌^◌, ◌<◌, ap, ◌∙◌, subst, arith}
use Rattle.std.proofs.lemmas.Nat.{pow_below}
use Rattle.hash_word.specs.Hash.{Covers, top}
use Rattle.segment_head.specs.HeadWord.{version_in, depth_in, pattern_in, header_of, normal}
use Rattle.segment_head.specs.SplitHeads.{finished_head}
use Rattle.segment_head.proofs.Headers.{header_version, header_state, header_depth, header_pattern}
use Rattle.image_layout.specs.Places.{most_depth}
use Rattle.segment_head.proofs.Tops.{top_halved}
use Rattle.segment_table.proofs.frames.Regions.{top_below}
use Rattle.way.proofs.Leading.{leading_is}
use Rattle.map_model.specs.declared.call.Call.{Call}
use Rattle.world.specs.declared.site.Site.{Site}
use Rattle.world.specs.Ground.{Ground, IsGround}
use Rattle.world.specs.areas.Splitting.{IsHeader}
use Rattle.enclose_op.specs.declared.enclosed.Enclosed.{Enclosed}
use Rattle.enclose_op.specs.Whole.{IsOf, IsWhole}

-- a half is one of two
half_is : (q p : ℕ) → q / 2 ≡ p → (q ≡ 2 * p + 1 → ⊥) → q ≡ 2 * p
half_is q p half other = omega (arith, half, other)

-- WHAT IS COVERED and not by the 1-side, is by the 0-side
pub zero_side : (d p h : ℕ) → d < 64 → Covers d p h → (Covers (suc d) (2 * p + 1) h → ⊥) → Covers (suc d) (2 * p) h
zero_side d p h low covers other =
    let one : suc d ≡ d + 1 = omega arith in
    let half : top (suc d) h / 2 ≡ p = ap (λ n. top n h / 2) one ∙ top_halved d h low ∙ covers in
    half_is (top (suc d) h) p half other

-- ---- fields of the header
head_fields : (version depth pattern : ℕ) → version < 2 ^ 8 → depth + 1 < 2 ^ 8 → 2 * pattern < 2 ^ 32
    → IsHeader (header_of version normal ((depth + 1) % 2 ^ 8) (2 * pattern % 2 ^ 32)) normal (suc depth) (2 * pattern) version
head_fields version depth pattern small deep wide =
    let d : ℕ = (depth + 1) % 2 ^ 8 in
    let p : ℕ = 2 * pattern % 2 ^ 32 in
    record {
      state_is = header_state version normal d p small (omega arith) (omega arith);
      depth_is = header_depth version normal d p small (omega arith) (omega arith) ∙ omega (arith, deep);
      pattern_is = header_pattern version normal d p small (omega arith) (omega arith) ∙ omega (arith, wide);
      version_is = header_version version normal d p small (omega arith) (omega arith);
    }

module _ (site : Ground) (ground : IsGround site) (here : Site) (call : Call) (e : Enclosed) (is : IsOf site here call e) (whole : IsWhole site e) where
  pub depth_low : depth_in e.head < most_depth
  depth_low = let shallow = whole.shallow in let most = ground.shape.depth in omega (arith, shallow, most)

  few : (d p : ℕ) → d < most_depth → p < 2 ^ d → p < 2 ^ most_depth
  few d p low small = let most = pow_below d most_depth low in omega (arith, small, most)

  pub pattern_low : pattern_in e.head < 2 ^ most_depth
  pattern_low =
      let below : top (depth_in e.head) e.hash < 2 ^ depth_in e.head = top_below (depth_in e.head) e.hash (omega (arith, depth_low)) is.fits in
      few (depth_in e.head) (pattern_in e.head) depth_low (subst (λ p. p < 2 ^ depth_in e.head) (leading_is e.head e.hash whole.head.leads).covers below)

  pub rest_is : IsHeader (finished_head e.head) normal (suc (depth_in e.head)) (2 * pattern_in e.head) (version_in e.head)
  rest_is = head_fields (version_in e.head) (depth_in e.head) (pattern_in e.head) (omega arith) (omega (arith, depth_low)) (omega (arith, pattern_low))
