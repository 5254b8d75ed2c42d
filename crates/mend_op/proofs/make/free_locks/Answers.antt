-- By the list with one word more freed.
use Rattle.std.proofs.Common.{◌≡◌, ◌*◌, ◌<◌, ℕ, length, slice_index, slice_set, ◌∙◌, sym, ap, arith, below_more, length-set, get_or-set_same, get_or-set_other}
use Rattle.image_layout.specs.Places.{block}
use Rattle.mend_op.specs.Words.{mended_lock}
use Rattle.mend_op.proofs.make.free_locks.Goals as goal

pub loop-bucket-preserved : goal.loop-bucket-preserved
loop-bucket-preserved c =
    let b : ℕ = c.loop-bucket.bucket in
    let lock = c.from-lock.result in
    let is : lock ≡ block * b = c.from-lock.ensures ∙ c.first_among_buckets.ensures in
    let value = c.without_lock.result in
    let near = c.loop-bucket-test.true in
    let each = c.loop-bucket.invariant.long in
    let long : lock < length c.loop-bucket.words = omega (arith, near, each, is) in
    record {
      long = length-set c.loop-bucket.words lock value ∙ each;
      here = below_more _ _
          (λ d low. get_or-set_other c.loop-bucket.words lock (block * d) value 0 (λ same. omega (arith, same, low, is)) ∙ c.loop-bucket.invariant.here d low)
          (ap (slice_index (slice_set c.loop-bucket.words lock value)) (sym is) ∙ get_or-set_same c.loop-bucket.words lock value 0 long ∙ c.without_lock.ensures
          ∙ ap (λ (n : ℕ). mended_lock (slice_index c.loop-bucket.words n)) is ∙ ap mended_lock (c.loop-bucket.invariant.others (32 * b) (λ d low same. omega (arith, same, low))));
      others = λ i apart.
          get_or-set_other c.loop-bucket.words lock i value 0 (λ same. apart b (omega arith) (same ∙ is)) ∙ c.loop-bucket.invariant.others i (λ d low. apart d (omega (arith, low)));
    }

pub returns-clause-others : goal.returns-clause-others
returns-clause-others c i apart = c.loop-bucket.invariant.others i (λ b low. apart b (let end = c.loop-bucket.auto.bucket-end in omega (arith, low, end)))
