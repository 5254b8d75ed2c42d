-- The rules that were looked at before hold.
use Rattle.std.proofs.Common.{refl, slice_index}
use Rattle.image_rules.specs.declared.breach.Rule.TheVariants.{Entries, Records, Values, Versions, Repaired}
use Rattle.image_rules.proofs.Breaches.{of_divided, and_rule, breaks, all_hold}
use Rattle.image_rules.proofs.standing.SoundSegments.{all_follow}
use Rattle.image_rules.proofs.breach.later_breach.Goals as goal

pub returns-in-Some-clause-some : goal.returns-in-Some-clause-some
returns-in-Some-clause-some c =
    let shape = c.args.geometry.now in
    let word = slice_index c.args.words.now in
    let two = of_divided shape word c.requires.divided in
    breaks shape word Entries c.in-Some.word two c.in-Some.ensures.some

pub returns-then-are_sound_segments-clause-none : goal.returns-then-are_sound_segments-clause-none
returns-then-are_sound_segments-clause-none c =
    let shape = c.args.geometry.now in
    let word = slice_index c.args.words.now in
    let two = of_divided shape word c.requires.divided in
    let three = and_rule shape word Entries two c.in_default.ensures.none in
    all_follow shape word three (c.if-are_sound_segments.ensures refl)

pub returns-in-Some-rule_four-clause-some : goal.returns-in-Some-rule_four-clause-some
returns-in-Some-rule_four-clause-some c =
    let shape = c.args.geometry.now in
    let word = slice_index c.args.words.now in
    let two = of_divided shape word c.requires.divided in
    let three = and_rule shape word Entries two c.in_default.ensures.none in
    breaks shape word Records c.in-Some-rule_four.word three c.in-Some-rule_four.ensures.some

pub returns-in-Some-rule_five-clause-some : goal.returns-in-Some-rule_five-clause-some
returns-in-Some-rule_five-clause-some c =
    let shape = c.args.geometry.now in
    let word = slice_index c.args.words.now in
    let two = of_divided shape word c.requires.divided in
    let three = and_rule shape word Entries two c.in_default.ensures.none in
    let four = and_rule shape word Records three c.in_default-rule_four.ensures.none in
    breaks shape word Values c.in-Some-rule_five.word four c.in-Some-rule_five.ensures.some

pub returns-in-Some-rule_six-clause-some : goal.returns-in-Some-rule_six-clause-some
returns-in-Some-rule_six-clause-some c =
    let shape = c.args.geometry.now in
    let word = slice_index c.args.words.now in
    let two = of_divided shape word c.requires.divided in
    let three = and_rule shape word Entries two c.in_default.ensures.none in
    let four = and_rule shape word Records three c.in_default-rule_four.ensures.none in
    let five = and_rule shape word Values four c.in_default-rule_five.ensures.none in
    breaks shape word Versions c.in-Some-rule_six.word five c.in-Some-rule_six.ensures.some

pub returns-in-Some-rule_seven-clause-some : goal.returns-in-Some-rule_seven-clause-some
returns-in-Some-rule_seven-clause-some c =
    let shape = c.args.geometry.now in
    let word = slice_index c.args.words.now in
    let two = of_divided shape word c.requires.divided in
    let three = and_rule shape word Entries two c.in_default.ensures.none in
    let four = and_rule shape word Records three c.in_default-rule_four.ensures.none in
    let five = and_rule shape word Values four c.in_default-rule_five.ensures.none in
    let six = and_rule shape word Versions five c.in_default-rule_six.ensures.none in
    breaks shape word Repaired c.in-Some-rule_seven.word six c.in-Some-rule_seven.ensures.some

pub returns-clause-none : goal.returns-clause-none
returns-clause-none c =
    let shape = c.args.geometry.now in
    let word = slice_index c.args.words.now in
    let two = of_divided shape word c.requires.divided in
    let three = and_rule shape word Entries two c.in_default.ensures.none in
    let four = and_rule shape word Records three c.in_default-rule_four.ensures.none in
    let five = and_rule shape word Values four c.in_default-rule_five.ensures.none in
    let six = and_rule shape word Versions five c.in_default-rule_six.ensures.none in
    all_hold shape word (and_rule shape word Repaired six c.in_default-rule_seven.ensures.none)
