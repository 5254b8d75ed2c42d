-- A record that is the segment's own and that none of its key is before is the first.
use Rattle.std.proofs.Common.{refl, sym, subst, slice_index}
use Rattle.sound_image.specs.Segments.{frame_of, Owns}
use Rattle.sound_image.specs.Records.{slot_hash}
use Rattle.image_rules.specs.declared.record_slot.RecordSlot.{RecordSlot}
use Rattle.image_rules.specs.declared.records.RecordRule.TheVariants.{Once}
use Rattle.image_rules.specs.Slots.{IsTaken, AgreeBefore}
use Rattle.image_rules.proofs.Answered.{untrue}
use Rattle.image_rules.proofs.standing.SoundSegments.{standing_in}
use Rattle.image_rules.proofs.own.is_first_at.Goals as goal

pub agree_before-requires-clause-standing : goal.agree_before-requires-clause-standing
agree_before-requires-clause-standing c =
    standing_in c.args.geometry.now (slice_index c.args.words.now) c.requires.standing c.record_slot_of-record_slot.result.segment

pub returns-then-not-is_taken : goal.returns-then-not-is_taken
returns-then-not-is_taken c =
    let shape = c.args.geometry.now in
    let word = slice_index c.args.words.now in
    let is = sym c.record_slot_of-record_slot.ensures in
    (untrue, λ first. c.if-not-is_taken.ensures.1 (subst (λ (p : RecordSlot). IsTaken shape word p.segment p.bucket p.slot) is first.own.taken))

pub returns-then-not-is_own : goal.returns-then-not-is_own
returns-then-not-is_own c =
    let shape = c.args.geometry.now in
    let word = slice_index c.args.words.now in
    let is = sym c.record_slot_of-record_slot.ensures in
    (untrue, λ first. c.if-not-is_own.ensures.1 (subst (λ (p : RecordSlot). Owns (frame_of shape word) p.segment (slot_hash shape word p.segment p.bucket p.slot)) is first.own.owned))

pub returns : goal.returns
returns c =
    let shape = c.args.geometry.now in
    let word = slice_index c.args.words.now in
    let is = c.record_slot_of-record_slot.ensures in (
      (λ before. record {
        own = record {
          taken = subst (λ (p : RecordSlot). IsTaken shape word p.segment p.bucket p.slot) is (c.if-not-is_taken.ensures.0 refl);
          owned = subst (λ (p : RecordSlot). Owns (frame_of shape word) p.segment (slot_hash shape word p.segment p.bucket p.slot)) is (c.if-not-is_own.ensures.0 refl);
        };
        first = subst (AgreeBefore shape word Once) is (c.agree_before.ensures.0 before);
      }),
      (λ first. c.agree_before.ensures.1 (subst (AgreeBefore shape word Once) (sym is) first.first)),
    )
