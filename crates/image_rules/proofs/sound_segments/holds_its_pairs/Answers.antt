-- Where a segment is repaired no key of it stands twice.
use Rattle.std.proofs.Common.{refl, slice_index}
use Rattle.image_rules.proofs.Answered.{untrue}
use Rattle.image_rules.proofs.standing.SoundSegments.{repaired_values}
use Rattle.image_rules.proofs.sound_segments.holds_its_pairs.Goals as goal

pub returns-then-is_clean_and_current : goal.returns-then-is_clean_and_current
returns-then-is_clean_and_current c _ =
    let repaired = c.in_default.ensures.none (c.if-is_clean_and_current.ensures.0 refl) in
    record { values = repaired_values c.args.geometry.now (slice_index c.args.words.now) c.args.s repaired; repaired = λ _. repaired }

pub returns : goal.returns
returns c _ =
    record { values = c.in_default-first_key.ensures.none; repaired = λ clean _. untrue (c.if-is_clean_and_current.ensures.1 clean) }
