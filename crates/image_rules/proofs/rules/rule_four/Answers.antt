-- Rule 4 is broken first at the first record that does not stand right.
use Rattle.std.proofs.Common.{slice_index}
use Rattle.std.proofs.lemmas.Option.{IfSome_then}
use Rattle.image_rules.proofs.Answered.{if_none}
use Rattle.image_rules.proofs.standing.KeyRules.{records_stand, first_astray}
use Rattle.image_rules.proofs.rules.rule_four.Goals as goal

pub returns-clause-none : goal.returns-clause-none
returns-clause-none c =
    if_none c.first_of_all.result (records_stand c.args.geometry.now (slice_index c.args.words.now)) c.first_of_all.ensures.none

pub returns-clause-some : goal.returns-clause-some
returns-clause-some c =
    IfSome_then c.first_of_all.result c.first_of_all.ensures.some (first_astray c.args.geometry.now (slice_index c.args.words.now))
