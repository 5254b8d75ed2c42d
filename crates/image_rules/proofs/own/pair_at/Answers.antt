-- It is put together of what stands in the record slot.
use Rattle.std.proofs.Common.{◌≡◌, subst, slice_index}
use Rattle.sound_image.specs.Records.{slot_key, slot_value}
use Rattle.image_rules.specs.declared.record_slot.RecordSlot.{RecordSlot}
use Rattle.image_rules.proofs.own.pair_at.Goals as goal

pub returns : goal.returns
returns c =
    let shape = c.args.geometry.now in
    let word = slice_index c.args.words.now in
    let is = c.record_slot_of-record_slot.ensures in
    let key = subst (λ (p : RecordSlot). c.key_in.result ≡ slot_key shape word p.segment p.bucket p.slot) is c.key_in.ensures in
    let value = subst (λ (p : RecordSlot). c.value_in.result ≡ slot_value shape word p.segment p.bucket p.slot) is c.value_in.ensures in
    cc
