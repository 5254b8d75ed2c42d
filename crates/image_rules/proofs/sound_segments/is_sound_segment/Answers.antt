-- Each rule was looked at.
use Rattle.std.proofs.Common.{refl, sym, ◌∙◌, slice_index}
use Rattle.image_rules.proofs.Answered.{untrue}
use Rattle.image_rules.proofs.standing.SoundSegments.{standing_from}
use Rattle.image_rules.proofs.sound_segments.is_sound_segment.Goals as goal

pub holds_its_pairs-requires-clause-standing : goal.holds_its_pairs-requires-clause-standing
holds_its_pairs-requires-clause-standing c =
    standing_from c.args.geometry.now (slice_index c.args.words.now) c.requires.divided c.args.s c.in_default.ensures.none

pub returns-then-is_past : goal.returns-then-is_past
returns-then-is_past c = λ holds. record {
  stand = c.in_default.ensures.none;
  past = c.if-is_past.ensures.0 refl;
  pairs = c.holds_its_pairs.ensures holds;
}

pub returns-else-is_past : goal.returns-else-is_past
returns-else-is_past c = λ past. untrue (sym c.if-is_past.false ∙ past)
