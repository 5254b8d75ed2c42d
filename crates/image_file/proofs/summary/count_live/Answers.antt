-- A slot more counts one where its segment is live.
use Rattle.std.proofs.Common.{◌≡◌, ◌∙◌, sym, ap, arith, slice_index}
use Rattle.segment_head.specs.HeadWord.{is_live}
use Rattle.sound_image.specs.Segments.{frame_of}
use Rattle.image_file.proofs.Listed.{live_more, live_same}
use Rattle.image_file.proofs.summary.count_live.Goals as goal
use Rattle.image_file.proofs.summary.count_live.Goals.{then-is_live, else-is_live}

pub loop-slot-preserved : goal.loop-slot-preserved
loop-slot-preserved c =
    let frame = frame_of c.args.geometry.now (slice_index c.args.words.now) in
    let here : slice_index c.args.words.now c.header_word.result ≡ frame.header c.loop-slot.slot =
    ap (slice_index c.args.words.now) c.header_word.ensures.is in
    let before = c.loop-slot.invariant.counted in
    let few = c.loop-slot.invariant.few in
    elim c.if-is_live.branch [
      | then-is_live w ↦
          let more = live_more frame c.loop-slot.slot (sym (w.if-is_live.ensures.is ∙ ap is_live here)) in
          record { counted = omega (arith, more, before, w.live-is); few = omega (arith, few, w.live-is) }
      | else-is_live w ↦
          let same = live_same frame c.loop-slot.slot (sym (w.if-is_live.ensures.is ∙ ap is_live here)) in
          record { counted = omega (arith, same, before, w.live-is); few = omega (arith, few, w.live-is) }
    ]
