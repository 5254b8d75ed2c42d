use Rattle.std.proofs.Common.{◌≡◌, ℕ, ◌+◌, ◌<◌, ◌≤◌, slice_index}
use Rattle.image_rules.proofs.leaves.raise.Given as goal

abbrev pub invariant-loop-leaf : goal.invariant-loop-leaf
invariant-loop-leaf l =
    record {
      raised : (k : ℕ) → l.from ≤ k → k < l.leaf → slice_index l.fn.leaves k ≤ l.prefix.depth → slice_index l.leaves k ≡ l.prefix.depth + 1;
      higher : (k : ℕ) → l.prefix.depth < slice_index l.fn.leaves k → slice_index l.leaves k ≡ slice_index l.fn.leaves k;
      before : (k : ℕ) → k < l.from → slice_index l.leaves k ≡ slice_index l.fn.leaves k;
      behind : (k : ℕ) → l.leaf ≤ k → slice_index l.leaves k ≡ slice_index l.fn.leaves k;
    }
