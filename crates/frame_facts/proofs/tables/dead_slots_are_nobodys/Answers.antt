-- An owner lives, so it is in another slot.
use Rattle.bucket_words.proofs.StoreLaws.{stores_apart}
use Rattle.frame_facts.proofs.Stores.{untouched}
use Rattle.frame_facts.proofs.DeadSlots.{plain_apart, plain_no_entry, owners_same, dead_store}
use Rattle.frame_facts.proofs.tables.dead_slots_are_nobodys.Goals as goal

pub returns-clause-owners : goal.returns-clause-owners
returns-clause-owners c = owners_same

pub returns-clause-table : goal.returns-clause-table
returns-clause-table c = dead_store

pub returns-clause-frame : goal.returns-clause-frame
returns-clause-frame c shape word is_shape sound n i x plain = stores_apart shape word is_shape sound i x (plain_apart shape n i plain word sound.root)

pub returns-clause-facts : goal.returns-clause-facts
returns-clause-facts c shape version words medium sound n i x plain =
    untouched shape version words medium sound i x (plain_apart shape n i plain words sound.newest.root, plain_apart shape n i plain medium sound.there.root)
    (plain_no_entry shape n i plain words sound.newest.root)
