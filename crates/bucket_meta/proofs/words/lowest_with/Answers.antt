-- The slot that is looked at is the one that is sought, or the search goes on behind it; and what the whole search finds, it finds so.
use Rattle.std.proofs.Common.{rules, ◌∙◌, sym, arith}
use Rattle.bucket_meta.proofs.Search.{with_found, with_bit, with_key, with_end}
use Rattle.bucket_meta.proofs.Found.{none_with}
use Rattle.bucket_meta.proofs.words.lowest_with.Goals as goal
use Rattle.bucket_meta.proofs.words.lowest_with.Goals.{else-is_taken-via-then-is_taken+else-words-key_place, else-is_taken-via-else-is_taken}

pub returns-then-words-key_place-clause-is : goal.returns-then-words-key_place-clause-is
returns-then-words-key_place-clause-is c = sym (c.loop-slot.invariant ∙ with_found c.args.words.now c.loop-slot.slot c.args.key (search rules) (search rules) (search rules))

pub returns-clause-nowhere : goal.returns-clause-nowhere
returns-clause-nowhere c slot within there =
    none_with c.args.words.now c.args.key (c.loop-slot.invariant ∙ with_end c.args.words.now c.loop-slot.slot c.args.key (omega arith)) slot within there

pub loop-slot-preserved : goal.loop-slot-preserved
loop-slot-preserved c = elim c.else-is_taken.branch [
  | else-is_taken-via-then-is_taken+else-words-key_place w ↦ c.loop-slot.invariant ∙ with_key c.args.words.now c.loop-slot.slot c.args.key (search rules) (search rules)
  | else-is_taken-via-else-is_taken w ↦ c.loop-slot.invariant ∙ with_bit c.args.words.now c.loop-slot.slot c.args.key (search rules) (search rules)
]

pub returns-clause-is : goal.returns-clause-is
returns-clause-is c = sym (c.loop-slot.invariant ∙ with_end c.args.words.now c.loop-slot.slot c.args.key (omega arith))
