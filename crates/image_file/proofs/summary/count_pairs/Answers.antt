-- A record slot more counts one, if it is the first of its key.
use Rattle.std.proofs.Common.{◌*◌, ◌<◌, ◌++◌, ◌∷◌, [], refl, arith, length-append, slice_index}
use Rattle.image_rules.specs.Own.{pair_at}
use Rattle.image_file.proofs.Listed.{none_below, one_added, one_skipped}
use Rattle.image_file.proofs.summary.count_pairs.Goals as goal
use Rattle.image_file.proofs.summary.count_pairs.Goals.{then-is_first_at, else-is_first_at}

pub loop-n-init : goal.loop-n-init
loop-n-init c = record { counted = ([], none_below c.args.geometry.now (slice_index c.args.words.now), refl); few = omega arith }

pub loop-n-preserved : goal.loop-n-preserved
loop-n-preserved c =
    let shape = c.args.geometry.now in
    let word = slice_index c.args.words.now in
    let below : c.loop-n.n < 924 * shape.segments = omega (arith, c.loop-n-test.true, c.segments-n-end.ensures.is) in
    let before = c.loop-n.invariant.counted in
    let few = c.loop-n.invariant.few in
    elim c.if-is_first_at.branch [
      | then-is_first_at w ↦
          let longer = length-append before.0 (pair_at shape word c.loop-n.n ∷ []) in
          record {
            counted = (
              before.0 ++ pair_at shape word c.loop-n.n ∷ [],
              one_added shape word c.requires.standing c.requires.values c.loop-n.n below before.0 before.1 (w.if-is_first_at.ensures.0 refl),
              omega (arith, longer, before.2, w.count-is),
            );
            few = omega (arith, few, w.count-is);
          }
      | else-is_first_at w ↦
          record {
            counted = (
              before.0,
              one_skipped shape word c.requires.standing c.requires.values c.loop-n.n below before.0 before.1 (λ first. absurd (let no = w.if-is_first_at.ensures.1 first in cc)),
              omega (arith, before.2, w.count-is),
            );
            few = omega (arith, few, w.count-is);
          }
    ]
