-- The two headers that are stored.
use Rattle.std.proofs.Common.{◌≡◌, ℕ, ◌+◌, ◌*◌, ◌%◌, ◌^◌, ◌<◌, ◌∙◌, arith}
use Rattle.segment_head.specs.HeadWord.{version_in, state_in, depth_in, pattern_in, header_of, normal}
use Rattle.segment_head.specs.SplitHeads.{finished_head}
use Rattle.segment_head.proofs.Headers.{header_version, header_state, header_depth, header_pattern, header_below}
use Rattle.world.specs.areas.Splitting.{IsHeader}
use Rattle.world.specs.areas.Repairing.{side_depth_in}
use Rattle.mend_op.specs.Words.{renewed_head}
use Rattle.mend_op.proofs.whole.Newest.{IsInRange}

-- a header of these fields
fields : (version depth pattern : ℕ) → version < 2 ^ 8 → depth < 2 ^ 8 → pattern < 2 ^ 32 → IsHeader (header_of version normal depth pattern) normal depth pattern version
fields version depth pattern small deep wide = record {
  state_is = header_state version normal depth pattern small (omega arith) deep;
  depth_is = header_depth version normal depth pattern small (omega arith) deep;
  pattern_is = header_pattern version normal depth pattern small (omega arith) deep;
  version_is = header_version version normal depth pattern small (omega arith) deep;
}

-- when its split ends
pub finished_is : (head : ℕ) → IsInRange head → IsHeader (finished_head head) normal (side_depth_in head) (2 * pattern_in head) (version_in head)
finished_is head range =
    let d : ℕ = (depth_in head + 1) % 2 ^ 8 in
    let p : ℕ = 2 * pattern_in head % 2 ^ 32 in
    let h = fields (version_in head) d p (omega arith) (omega arith) (omega arith) in
    let deep = range.deep in
    let wide = range.wide in
    record {
      state_is = h.state_is;
      depth_is = h.depth_is ∙ omega (arith, deep);
      pattern_is = h.pattern_is ∙ omega (arith, wide);
      version_is = h.version_is;
    }

pub finished_normal : (head : ℕ) → state_in (finished_head head) ≡ normal
finished_normal head = (fields (version_in head) ((depth_in head + 1) % 2 ^ 8) (2 * pattern_in head % 2 ^ 32) (omega arith) (omega arith) (omega arith)).state_is

pub finished_version : (head : ℕ) → version_in (finished_head head) ≡ version_in head
finished_version head = (fields (version_in head) ((depth_in head + 1) % 2 ^ 8) (2 * pattern_in head % 2 ^ 32) (omega arith) (omega arith) (omega arith)).version_is

pub finished_small : (head : ℕ) → finished_head head < 2 ^ 64
finished_small head = header_below (version_in head) normal ((depth_in head + 1) % 2 ^ 8) (2 * pattern_in head % 2 ^ 32) (omega arith) (omega arith) (omega arith) (omega arith)

-- when it is mended
pub renewed_is : (version head : ℕ) → version < 2 ^ 8 → head < 2 ^ 64 → IsHeader (renewed_head version head) normal (depth_in head) (pattern_in head) version
renewed_is version head small fits = fields version (depth_in head) (pattern_in head) small (omega arith) (omega (arith, fits))

pub renewed_small : (version head : ℕ) → version < 2 ^ 8 → head < 2 ^ 64 → renewed_head version head < 2 ^ 64
renewed_small version head small fits = header_below version normal (depth_in head) (pattern_in head) small (omega arith) (omega arith) (omega (arith, fits))
