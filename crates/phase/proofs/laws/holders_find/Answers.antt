use Rattle.phase.proofs.locks.Finding.{words_stand, loads_are_known, known_was_loaded, search_tells, holders_find, prepared_nowhere, publish_tells}
use Rattle.phase.proofs.laws.holders_find.Goals as goal

pub returns-clause-words : goal.returns-clause-words
returns-clause-words c = words_stand

pub returns-clause-known : goal.returns-clause-known
returns-clause-known c = loads_are_known

pub returns-clause-loaded : goal.returns-clause-loaded
returns-clause-loaded c = known_was_loaded

pub returns-clause-tells : goal.returns-clause-tells
returns-clause-tells c = search_tells

pub returns-clause-finds : goal.returns-clause-finds
returns-clause-finds c = holders_find

pub returns-clause-prepared : goal.returns-clause-prepared
returns-clause-prepared c = prepared_nowhere

pub returns-clause-published : goal.returns-clause-published
returns-clause-published c = publish_tells
