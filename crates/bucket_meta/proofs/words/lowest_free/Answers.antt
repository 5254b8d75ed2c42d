-- The slot that is looked at is free, or the search goes on behind it; and a search that finds no free slot has seen each taken.
use Rattle.std.proofs.Common.{rules, ◌∙◌, sym, arith}
use Rattle.bucket_meta.proofs.Search.{free_found, free_next, free_end}
use Rattle.bucket_meta.proofs.Found.{none_free}
use Rattle.bucket_meta.proofs.words.lowest_free.Goals as goal

pub returns-then-not-is_taken-clause-is : goal.returns-then-not-is_taken-clause-is
returns-then-not-is_taken-clause-is c = sym (c.loop-slot.invariant ∙ free_found c.args.w1 c.loop-slot.slot (search rules) (search rules))

pub loop-slot-preserved : goal.loop-slot-preserved
loop-slot-preserved c = c.loop-slot.invariant ∙ free_next c.args.w1 c.loop-slot.slot (search rules) (search rules)

pub returns-clause-is : goal.returns-clause-is
returns-clause-is c = sym (c.loop-slot.invariant ∙ free_end c.args.w1 c.loop-slot.slot (omega arith))

pub returns-clause-full : goal.returns-clause-full
returns-clause-full c slot within = none_free c.args.w1 (c.loop-slot.invariant ∙ free_end c.args.w1 c.loop-slot.slot (omega arith)) slot within
