-- A sort by key moves pairs alone, and their keys differ.
use Rattle.std.proofs.Common.{ℕ, List, subst, rules, slice_index}
use Rattle.std.proofs.lemmas.List.Sorted.{IsNonDecreasingBy-from_sort_by_key}
use Rattle.image_file.specs.Pairs.{ArePairs}
use Rattle.image_file.proofs.Listed.{all-ArePairs, sorted-ArePairs, rising, sound-IsStanding, sound-values}
use Rattle.image_file.proofs.summary.list.Goals as goal

pub all_pairs-requires-clause-standing : goal.all_pairs-requires-clause-standing
all_pairs-requires-clause-standing c =
    sound-IsStanding c.args.medium.now.geometry c.args.medium.now.words c.as_slice.result.now c.as_slice.ensures.value c.requires.sound

pub all_pairs-requires-clause-values : goal.all_pairs-requires-clause-values
all_pairs-requires-clause-values c =
    sound-values c.args.medium.now.geometry c.args.medium.now.words c.as_slice.result.now c.as_slice.ensures.value c.requires.sound

pub returns-clause-pairs : goal.returns-clause-pairs
returns-clause-pairs c =
    let shape = c.args.medium.now.geometry in
    sorted-ArePairs shape (slice_index c.args.medium.now.words) c.in_ok-pairs.pairs.items _ c.in_ok-sort_by_key.ensures.permutation
    (subst (λ (words : List ℕ). ArePairs shape (slice_index words) c.in_ok-pairs.pairs.items) c.as_slice.ensures.value
    (all-ArePairs shape (slice_index c.as_slice.result.now) c.in_ok-pairs.pairs.items c.in_ok-pairs.ensures))

pub returns-clause-rising : goal.returns-clause-rising
returns-clause-rising c =
    let shape = c.args.medium.now.geometry in
    let are = sorted-ArePairs shape (slice_index c.as_slice.result.now) c.in_ok-pairs.pairs.items c.sort_by_key.new.self.items
    c.in_ok-sort_by_key.ensures.permutation
    (all-ArePairs shape (slice_index c.as_slice.result.now) c.in_ok-pairs.pairs.items c.in_ok-pairs.ensures) in
    rising _ are.once (IsNonDecreasingBy-from_sort_by_key (λ (pair : ℕ × ℕ). pair.0) _ c.in_ok-sort_by_key.ensures.sorted (λ a r q k. search rules))
