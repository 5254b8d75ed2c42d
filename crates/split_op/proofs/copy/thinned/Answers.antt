-- One bucket after another.
use Rattle.std.proofs.Common.{◌≡◌, ℕ, ◌+◌, ◌*◌, slice_index, sym, ◌∙◌, subst, arith}
use Rattle.std.specs.Prelude.{slice_set}
use Rattle.split_op.specs.Sides.{low_fingers, high_fingers}
use Rattle.split_op.proofs.sides.Thinning.{IsThinning, thin_begun, thin_more, thin_done}
use Rattle.split_op.proofs.copy.thinned.Goals as goal

pub loop-bucket-init : goal.loop-bucket-init
loop-bucket-init c = thin_begun c.args.words.now c.told-words

pub loop-bucket-preserved : goal.loop-bucket-preserved
loop-bucket-preserved c =
    let words = c.args.words.now in
    let k = c.loop-bucket.bucket in
    let near = c.loop-bucket-test.true in
    let x : ℕ = c.low_fingers.result in
    let y : ℕ = c.high_fingers.result in
    let at : c.from-at.result ≡ 32 * k = c.from-at.ensures ∙ c.first_among_buckets.ensures in
    subst (λ (a : ℕ). IsThinning words (k + 1) (slice_set (slice_set c.loop-bucket.thin (a + 2) x) (a + 3) y)) (sym at)
    (thin_more words k c.loop-bucket.thin x y near c.loop-bucket.invariant
    (subst (λ (a : ℕ). x ≡ low_fingers (slice_index words (a + 1)) (slice_index words (a + 2))) at c.low_fingers.ensures)
    (subst (λ (a : ℕ). y ≡ high_fingers (slice_index words (a + 1)) (slice_index words (a + 3))) at c.high_fingers.ensures))

pub returns : goal.returns
returns c = thin_done c.args.words.now c.loop-bucket.bucket c.loop-bucket.thin (let past = c.loop-bucket-test.false in omega (arith, past)) c.loop-bucket.invariant
