-- Rule 1 is looked at first, and rule 2 second.
use Rattle.std.proofs.Common.{slice_index}
use Rattle.image_rules.specs.declared.breach.Rule.TheVariants.{Numbers, Owners}
use Rattle.image_rules.proofs.Answered.{told_some}
use Rattle.image_rules.proofs.Breaches.{no_rules, and_rule, breaks}
use Rattle.image_rules.proofs.breach.first_breach.Goals as goal

pub returns-in-Some-clause-some : goal.returns-in-Some-clause-some
returns-in-Some-clause-some c =
    let shape = c.args.geometry.now in
    let word = slice_index c.args.words.now in
    breaks shape word Numbers c.in-Some.word (no_rules shape word) c.in-Some.ensures.some

pub returns-in-Some-2-clause-some : goal.returns-in-Some-2-clause-some
returns-in-Some-2-clause-some c =
    let shape = c.args.geometry.now in
    let word = slice_index c.args.words.now in
    let one = and_rule shape word Numbers (no_rules shape word) c.in_default.ensures.none in
    breaks shape word Owners c.in-Some-2.word one (told_some _ c.in_ok-word.field-0 c.in-Some-2.word c.in-Some-2.is c.in_ok-word.ensures.some)
