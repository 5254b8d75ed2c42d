-- One note slot more.
use Rattle.image_rules.specs.Noted.{matches, piece_on}
use Rattle.image_rules.proofs.stashed.Counts.{one_count_more, one_few_more}
use Rattle.image_rules.proofs.notes.count_on.Goals as goal

pub loop-note_slot-preserved : goal.loop-note_slot-preserved
loop-note_slot-preserved c =
    record {
      counted = one_count_more (λ i. piece_on c.args.w1 c.args.w3 c.args.side i) (matches c.args.sought) c.loop-note_slot.note_slot c.loop-note_slot.count
          c.count_at-count.result c.loop-note_slot.invariant.counted c.count_at-count.ensures.is;
      few = one_few_more c.loop-note_slot.note_slot c.loop-note_slot.count c.count_at-count.result c.loop-note_slot.invariant.few c.count_at-count.ensures.most;
    }
