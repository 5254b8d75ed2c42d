-- A set of 14 slots has at most 14 ones, and has 14 where none is missing.
use Rattle.std.proofs.lemmas.Nat.{ones-le}
use Rattle.bucket_meta.proofs.FullSets.{full_is_all, all_is_full}
use Rattle.bucket_meta.proofs.metadata.Meta.filled.Goals as goal

pub returns-clause-at_most : goal.returns-clause-at_most
returns-clause-at_most c = ones-le 14 c.args.self.now.alloc c.args.self.now.alloc_fits

pub returns-clause-full : goal.returns-clause-full
returns-clause-full c =
    (all_is_full c.args.self.now.alloc c.args.self.now.alloc_fits, full_is_all c.args.self.now.alloc c.args.self.now.alloc_fits)
