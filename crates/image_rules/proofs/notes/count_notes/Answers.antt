-- Those of both buckets.
use Rattle.std.proofs.Common.{slice_index}
use Rattle.image_rules.proofs.stashed.Counts.{both_sides}
use Rattle.image_rules.proofs.notes.count_notes.Goals as goal

pub returns-clause-is : goal.returns-clause-is
returns-clause-is c =
    both_sides c.args.geometry.now (slice_index c.args.words.now) c.args.s c.args.b c.args.sought c.probing-beside.result c.probing-beside.ensures.of
    c.meta_in.result c.meta_in-2.result c.meta_in-3.result c.meta_in-4.result c.meta_in.ensures c.meta_in-2.ensures c.meta_in-3.ensures c.meta_in-4.ensures
    c.count_on-own.result c.count_on-others.result c.count_on-own.ensures.is c.count_on-others.ensures.is
