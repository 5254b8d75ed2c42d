-- Rule 5 is broken first at the first record of a second value.
use Rattle.std.proofs.Common.{slice_index}
use Rattle.std.proofs.lemmas.Option.{IfSome_then}
use Rattle.image_rules.proofs.Answered.{if_none}
use Rattle.image_rules.proofs.standing.KeyRules.{keys_have_one_value, first_of_two_values}
use Rattle.image_rules.proofs.standing.SoundSegments.{standing_in}
use Rattle.image_rules.proofs.rules.rule_five.Goals as goal

pub first_of_all-requires-clause-needs : goal.first_of_all-requires-clause-needs
first_of_all-requires-clause-needs c s = standing_in c.args.geometry.now (slice_index c.args.words.now) c.requires.standing s

pub returns-clause-none : goal.returns-clause-none
returns-clause-none c =
    if_none c.first_of_all.result (keys_have_one_value c.args.geometry.now (slice_index c.args.words.now)) c.first_of_all.ensures.none

pub returns-clause-some : goal.returns-clause-some
returns-clause-some c =
    IfSome_then c.first_of_all.result c.first_of_all.ensures.some (first_of_two_values c.args.geometry.now (slice_index c.args.words.now))
