-- The words that are lent are the image's.
use Rattle.std.proofs.Common.{◌≡◌, ℕ, ◌/◌, ◌%◌, ◌^◌, ◌≤◌, ◌↔◌, IsTrue, List, ap, refl, subst, ◌∙◌, arith, length, rules, slice_index}
use Rattle.sound_image.specs.Segments.{frame_of}
use Rattle.image_file.specs.Pairs.{live_slots, ArePairs}
use Rattle.image_file.proofs.Listed.{all-ArePairs, sound-IsStanding, sound-values}
use Rattle.image_file.proofs.summary.check.Goals as goal

pub overflow_cast-result : goal.overflow_cast-result
overflow_cast-result c =
    let root : slice_index c.args.medium.now.words 8 ≤ c.args.medium.now.geometry.depth = ((c.requires.sound.follows 1 8).one refl).root refl in
    let same : slice_index c.as_slice-words.result.now 8 ≡ slice_index c.args.medium.now.words 8 =
    ap (λ (words : List ℕ). slice_index words 8) c.as_slice-words.ensures.value in
    let low : slice_index c.as_slice-words.result.now 8 ≤ 16 = omega (arith, root, same, c.requires.sound.in_range.depth) in
    search rules

pub count_pairs-requires-clause-standing : goal.count_pairs-requires-clause-standing
count_pairs-requires-clause-standing c =
    sound-IsStanding c.args.medium.now.geometry c.args.medium.now.words c.as_slice-words.result.now c.as_slice-words.ensures.value c.requires.sound

pub count_pairs-requires-clause-values : goal.count_pairs-requires-clause-values
count_pairs-requires-clause-values c =
    sound-values c.args.medium.now.geometry c.args.medium.now.words c.as_slice-words.result.now c.as_slice-words.ensures.value c.requires.sound

pub returns-clause-live : goal.returns-clause-live
returns-clause-live c =
    c.count_live.ensures
    ∙ ap (λ (words : List ℕ). length (live_slots (frame_of c.args.medium.now.geometry (slice_index words)) c.args.medium.now.geometry.segments))
    c.as_slice-words.ensures.value

pub returns-clause-pairs : goal.returns-clause-pairs
returns-clause-pairs c =
    let counted = c.count_pairs.ensures in (
      counted.0,
      subst (λ (words : List ℕ). ArePairs c.args.medium.now.geometry (slice_index words) counted.0) c.as_slice-words.ensures.value
          (all-ArePairs c.args.medium.now.geometry (slice_index c.as_slice-words.result.now) counted.0 counted.1),
      counted.2,
    )

pub returns-clause-clean : goal.returns-clause-clean
returns-clause-clean c =
    subst (λ (words : List ℕ). IsTrue c.is_marked.result ↔ (slice_index words 16 / 2 ^ 8 % 2 ≡ 1)) c.as_slice-words.ensures.value c.is_marked.ensures
