-- By the first number that passes.
use Rattle.std.proofs.Common.{◌≡◌, ◌-◌, sym, ap, ◌∙◌, arith}
use Rattle.image_layout.specs.Places.{buckets}
use Rattle.rest_op.specs.Steps.{is_cleared}
use Rattle.rounds.specs.Seeking.{seek}
use Rattle.rounds.proofs.Seeking.{seek_below_here, seek_below_on, seek_at_end}
use Rattle.rest_op.proofs.op.RestOp.clear_from.Goals as goal

pub returns-then-is_cleared : goal.returns-then-is_cleared
returns-then-is_cleared c = record {
  is = sym (seek_below_here (is_cleared c.args.self.now) buckets c.loop-bucket.bucket c.loop-bucket-test.true (sym c.is_cleared.ensures ∙ c.if-is_cleared.true)) ∙ c.loop-bucket.invariant.rest;
}

pub loop-bucket-preserved : goal.loop-bucket-preserved
loop-bucket-preserved c = record {
  near = omega (arith, c.loop-bucket-test.true);
  rest = sym (seek_below_on (is_cleared c.args.self.now) buckets c.loop-bucket.bucket c.loop-bucket-test.true (sym c.is_cleared.ensures ∙ c.if-is_cleared.false)) ∙ c.loop-bucket.invariant.rest;
}

pub returns : goal.returns
returns c =
    let last : c.loop-bucket.bucket ≡ buckets = omega (arith, c.loop-bucket.invariant.near, c.loop-bucket-test.false) in
    record {
      is = sym (ap (λ n. seek (is_cleared c.args.self.now) (buckets - n) n) last ∙ seek_at_end (is_cleared c.args.self.now) buckets buckets (omega arith)) ∙ c.loop-bucket.invariant.rest;
    }
