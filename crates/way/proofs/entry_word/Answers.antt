-- A hash has its entry within the directory of each depth that an image may have.
use Rattle.std.proofs.Common.{◌<◌, ◌≤◌, ◌^◌, ℕ, sym, subst, arith, rules}
use Rattle.way.proofs.Indexes.{index_below}
use Rattle.way.proofs.entry_word.Goals as goal

pub entry_at-requires-clause-index : goal.entry_at-requires-clause-index
entry_at-requires-clause-index c =
    let most = c.depth.ensures.most in
    let within = c.if-root-depth.true in
    let low : c.args.root ≤ 16 = omega (arith, most, within) in
    subst (λ (n : ℕ). n < 2 ^ c.args.root) (sym c.dir_index.ensures) (index_below c.args.root c.args.hash (omega (arith, low)) c.ranges.hash.fits)

pub returns-else-root-depth : goal.returns-else-root-depth
returns-else-root-depth c = search rules

pub returns-then-root-depth : goal.returns-then-root-depth
returns-then-root-depth c = search rules
