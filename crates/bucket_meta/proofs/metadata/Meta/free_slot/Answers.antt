-- The trailing ones end at the lowest clear bit, and there are 14 of them where no slot is free.
use Rattle.std.proofs.Common.{refl, arith}
use Rattle.bucket_meta.proofs.FullSets.{lowest_clear, full_is_all, all_is_full}
use Rattle.bucket_meta.proofs.metadata.Meta.free_slot.Goals as goal

pub returns-then-slot-from-clause-free : goal.returns-then-slot-from-clause-free
returns-then-slot-from-clause-free c =
    (lowest_clear c.args.self.now.alloc _ c.args.self.now.alloc_fits c.trailing_ones-slot.ensures).0

pub returns-then-slot-from-clause-lowest : goal.returns-then-slot-from-clause-lowest
returns-then-slot-from-clause-lowest c =
    (lowest_clear c.args.self.now.alloc _ c.args.self.now.alloc_fits c.trailing_ones-slot.ensures).1

pub returns-then-slot-from-clause-full : goal.returns-then-slot-from-clause-full
returns-then-slot-from-clause-full c =
    let found = lowest_clear c.args.self.now.alloc _ c.args.self.now.alloc_fits c.trailing_ones-slot.ensures in
    (λ e. absurd (cc e), λ full. absurd (omega (arith, found.0, full c.trailing_ones-slot.result (omega arith))))

pub returns-else-slot-from-clause-full : goal.returns-else-slot-from-clause-full
returns-else-slot-from-clause-full c =
    let found = lowest_clear c.args.self.now.alloc _ c.args.self.now.alloc_fits c.trailing_ones-slot.ensures in
    (λ _ s within. found.1 s (omega arith), λ _. refl)

pub returns-then-slot-from-clause-filled : goal.returns-then-slot-from-clause-filled
returns-then-slot-from-clause-filled c =
    let found = lowest_clear c.args.self.now.alloc _ c.args.self.now.alloc_fits c.trailing_ones-slot.ensures in
    let all = all_is_full c.args.self.now.alloc c.args.self.now.alloc_fits in
    (λ e. absurd (cc e), λ count. absurd (omega (arith, found.0, all count c.trailing_ones-slot.result (omega arith))))

pub returns-else-slot-from-clause-filled : goal.returns-else-slot-from-clause-filled
returns-else-slot-from-clause-filled c =
    let found = lowest_clear c.args.self.now.alloc _ c.args.self.now.alloc_fits c.trailing_ones-slot.ensures in
    (λ _. full_is_all c.args.self.now.alloc c.args.self.now.alloc_fits (λ s within. found.1 s (omega arith)), λ _. refl)
