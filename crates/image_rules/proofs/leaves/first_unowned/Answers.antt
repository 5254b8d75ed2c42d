-- The first bare leaf breaks rule 2 at its entry, and else the first segment at fault at its header.
use Rattle.std.proofs.Common.{◌≢◌, ℕ, ◌-◌, ◌/◌, ◌^◌, ◌<◌, sym, subst, arith, slice_index}
use Rattle.sound_image.specs.Segments.{frame_of}
use Rattle.sound_image.specs.Rules.{HashesAreOwned}
use Rattle.image_rules.specs.Breach.{IsLeast}
use Rattle.image_rules.proofs.covered.Parts.{root_fits, entry_below, all_owned, owned_before, bare_unowned, entry_breaks, segment_breaks, none_breaks}
use Rattle.image_rules.proofs.leaves.first_unowned.Goals as goal

pub returns-in-Some-clause-some : goal.returns-in-Some-clause-some
returns-in-Some-clause-some c =
    let shape = c.args.geometry.now in
    let word = slice_index c.args.words.now in
    let frame = frame_of shape word in
    let most = c.requires.numbered.in_range.depth in
    let shallow = root_fits shape word c.requires.numbered in
    let below : c.in-Some.leaf < 2 ^ shape.depth = omega (arith, c.in-Some.ensures.within, c.requires.leaves) in
    subst (IsLeast (HashesAreOwned shape word)) (sym c.entry_over.ensures)
    (entry_breaks shape word c.requires.numbered (c.in-Some.leaf / 2 ^ (shape.depth - word 8))
    (entry_below shape word c.requires.numbered shape.depth (λ _. shape.depth) c.in-Some.leaf below)
    (bare_unowned frame shape.depth most c.args.leaves.now c.requires.deepest shallow c.in-Some.leaf below c.in-Some.ensures.bare)
    (owned_before frame shape.depth most c.args.leaves.now c.requires.deepest shallow c.in-Some.leaf c.in-Some.ensures.before))

pub returns-in-Some-first_at_fault-clause-some : goal.returns-in-Some-first_at_fault-clause-some
returns-in-Some-first_at_fault-clause-some c =
    let shape = c.args.geometry.now in
    let word = slice_index c.args.words.now in
    let frame = frame_of shape word in
    let all = all_owned frame shape.depth c.requires.numbered.in_range.depth c.args.leaves.now c.requires.deepest (root_fits shape word c.requires.numbered)
    (subst (λ (n : ℕ). (l : ℕ) → l < n → slice_index c.args.leaves.now l ≢ 0) c.requires.leaves c.in_default.ensures.none) in
    subst (IsLeast (HashesAreOwned shape word)) (sym c.header_word.ensures.is)
    (segment_breaks shape word c.requires.numbered c.in-Some-first_at_fault.s all c.in-Some-first_at_fault.ensures.some)

pub returns-in-None-clause-none : goal.returns-in-None-clause-none
returns-in-None-clause-none c =
    let shape = c.args.geometry.now in
    let word = slice_index c.args.words.now in
    let frame = frame_of shape word in
    let all = all_owned frame shape.depth c.requires.numbered.in_range.depth c.args.leaves.now c.requires.deepest (root_fits shape word c.requires.numbered)
    (subst (λ (n : ℕ). (l : ℕ) → l < n → slice_index c.args.leaves.now l ≢ 0) c.requires.leaves c.in_default.ensures.none) in
    none_breaks shape word c.requires.numbered all c.in-None.ensures.none
