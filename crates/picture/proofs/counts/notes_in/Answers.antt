-- A note slot more counts one where it holds a note.
use Rattle.std.proofs.Common.{sym, arith}
use Rattle.std.specs.Prelude.{◌==◌}
use Rattle.bucket_meta.specs.Bucket.{note_used}
use Rattle.picture.proofs.Filters.{one_more, no_more}
use Rattle.picture.proofs.counts.notes_in.Goals as goal
use Rattle.picture.proofs.counts.notes_in.Goals.{then-has_note, else-has_note}

pub loop-note_slot-preserved : goal.loop-note_slot-preserved
loop-note_slot-preserved c =
    let before = c.loop-note_slot.invariant.counted in
    let few = c.loop-note_slot.invariant.few in
    elim c.if-has_note.branch [
      | then-has_note w ↦
          let more = one_more (λ i. note_used i c.args.w1 == 1) c.loop-note_slot.note_slot (sym w.if-has_note.ensures) in
          record { counted = omega (arith, more, before, w.count-is); few = omega (arith, few, w.count-is) }
      | else-has_note w ↦
          let same = no_more (λ i. note_used i c.args.w1 == 1) c.loop-note_slot.note_slot (sym w.if-has_note.ensures) in
          record { counted = omega (arith, same, before, w.count-is); few = omega (arith, few, w.count-is) }
    ]
