-- By the list with one word more put.
use Rattle.std.proofs.Common.{◌≡◌, ◌+◌, ◌*◌, ◌<◌, ℕ, length, slice_index, slice_set, sym, ap, ◌∙◌, arith, below_more, length-set, get_or-set_same, get_or-set_other}
use Rattle.image_layout.specs.Places.{block}
use Rattle.mend_op.proofs.make.put.Goals as goal

pub loop-bucket-preserved : goal.loop-bucket-preserved
loop-bucket-preserved c =
    let value : ℕ = slice_index c.args.values.now c.loop-bucket.bucket in
    let at : ℕ = c.from.result + c.args.number in
    let first = c.from.ensures ∙ c.first_among_buckets.ensures in
    let near = c.loop-bucket-test.true in
    let few = c.requires.few in
    let small = c.requires.number in
    let each = c.loop-bucket.invariant.long in
    let long : at < length c.loop-bucket.words = omega (arith, near, few, small, each, first) in
    let is : at ≡ block * c.loop-bucket.bucket + c.args.number = omega (arith, near, few, first) in
    record {
      long = length-set c.loop-bucket.words at value ∙ each;
      here = below_more _ _
          (λ b low. get_or-set_other c.loop-bucket.words at (block * b + c.args.number) value 0 (λ same. omega (arith, same, low, is)) ∙ c.loop-bucket.invariant.here b low)
          (ap (slice_index (slice_set c.loop-bucket.words at value)) (sym is) ∙ get_or-set_same c.loop-bucket.words at value 0 long);
      others = λ i apart.
          get_or-set_other c.loop-bucket.words at i value 0 (λ same. apart c.loop-bucket.bucket (omega arith) (same ∙ is))
          ∙ c.loop-bucket.invariant.others i (λ b low. apart b (omega (arith, low)));
    }

pub returns-clause-others : goal.returns-clause-others
returns-clause-others c i apart = let past = c.loop-bucket-test.false in c.loop-bucket.invariant.others i (λ b low. apart b (let end = c.loop-bucket.auto.bucket-end in omega (arith, low, end)))
