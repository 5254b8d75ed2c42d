-- What is made of what is loaded of the words is what is to be made of them.
use Rattle.std.proofs.Common.{◌≡◌, ℕ, length, ap, ◌∙◌, arith}
use Rattle.image_layout.specs.Places.{buckets}
use Rattle.sound_image.specs.Records.{key_hash}
use Rattle.whole_segment.specs.Records.{first_in, key_in, uncovered_first}
use Rattle.mend_op.specs.Words.{capped_side_depth}
use Rattle.mend_op.proofs.Making.{all_halved}
use Rattle.mend_op.proofs.make.halved.Goals as goal

pub returns : goal.returns
returns c =
    let loaded = c.of_words.result in
    let rest = c.without_half-rest in
    let pattern = c.one_pattern_field in
    let cleared : ℕ → ℕ → ℕ → ℕ = λ d p b. uncovered_first (first_in loaded) (key_in loaded) (key_hash c.args.geometry.now) d p b in
    let each : length rest.result.first ≡ buckets = rest.result.each_first in
    all_halved c.args.words.now loaded c.of_words.ensures c.args.geometry.now c.args.head c.put.new.words c.put.array_long rest.result.first
    (λ b near. rest.ensures.is b near ∙ ap (λ d. cleared d pattern.result b) c.capped_side_depth.ensures ∙ ap (λ p. cleared (capped_side_depth c.args.head) p b) pattern.ensures)
    (λ b near. c.put.ensures.here b (omega (arith, near, each)))
    (λ i apart. c.put.ensures.others i (λ b low. apart b (omega (arith, low, each))))
