-- Each clause is a lemma, for the images in both orders.
use Rattle.sound_image.proofs.Agreement as lemma
use Rattle.sound_image.proofs.SameRecords.{owns_there, pair_there, has_there}
use Rattle.sound_image.proofs.laws.locks_and_overflow_apart.Goals as goal

pub returns-clause-owners : goal.returns-clause-owners
returns-clause-owners c shape word other agree s h =
    (owns_there shape word other (lemma.same_records shape word other agree) s h, owns_there shape other word (lemma.same_records shape other word (lemma.turned shape word other agree)) s h)

pub returns-clause-pairs : goal.returns-clause-pairs
returns-clause-pairs c shape word other agree k v =
    (pair_there shape word other (lemma.same_records shape word other agree) k v, pair_there shape other word (lemma.same_records shape other word (lemma.turned shape word other agree)) k v)

pub returns-clause-at_keys : goal.returns-clause-at_keys
returns-clause-at_keys c shape word other agree k a =
    (has_there shape word other (lemma.same_records shape word other agree) k a, has_there shape other word (lemma.same_records shape other word (lemma.turned shape word other agree)) k a)

pub returns-clause-rule_4 : goal.returns-clause-rule_4
returns-clause-rule_4 c shape word other agree w =
    (lemma.rule_4_there shape word other agree w, lemma.rule_4_there shape other word (lemma.turned shape word other agree) w)

pub returns-clause-rule_5 : goal.returns-clause-rule_5
returns-clause-rule_5 c shape word other agree w =
    (lemma.rule_5_there shape word other agree w, lemma.rule_5_there shape other word (lemma.turned shape word other agree) w)
