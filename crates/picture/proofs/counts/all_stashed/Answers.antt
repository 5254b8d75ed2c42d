-- Behind the last home bucket all are counted.
use Rattle.std.proofs.Common.{◌≡◌, ◌∙◌, ap, arith, slice_index}
use Rattle.picture.specs.Counts.{stashed_below}
use Rattle.picture.proofs.counts.all_stashed.Goals as goal

pub returns : goal.returns
returns c =
    let last : c.loop-b.b ≡ 64 = omega (arith, c.loop-b-test.false, c.loop-b.auto.b-end) in
    c.loop-b.invariant.counted ∙ ap (λ n. stashed_below n c.args.geometry.now (slice_index c.args.words.now) c.args.s) last
