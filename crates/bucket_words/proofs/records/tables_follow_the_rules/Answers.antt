-- Each clause is a lemma.
use Rattle.bucket_words.proofs.segments.Rules.{follows_rules, from_rules, at_of_find, find_of_at}
use Rattle.bucket_words.proofs.records.tables_follow_the_rules.Goals as goal

pub returns-clause-rules : goal.returns-clause-rules
returns-clause-rules c shape word is sound fit = (follows_rules shape is word sound fit, from_rules shape word)

pub returns-clause-pairs : goal.returns-clause-pairs
returns-clause-pairs c shape word is sound fit table k a fits =
    (find_of_at shape is word sound fit table k fits a, at_of_find shape is word sound fit table k fits a)
