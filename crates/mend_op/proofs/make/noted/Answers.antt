-- What is made of what is loaded of the words is what is to be made of them.
use Rattle.std.proofs.Common.{◌≡◌, length, arith, rules}
use Rattle.image_layout.specs.Places.{homes}
use Rattle.mend_op.proofs.Making.{all_noted}
use Rattle.mend_op.proofs.make.noted.Goals as goal

pub returns : goal.returns
returns c head =
    let loaded = c.of_words.result in
    let notes = c.rebuilt_notes-notes in
    let ones : length notes.result.first ≡ homes = search rules in
    let threes : length notes.result.third ≡ homes = search rules in
    all_noted c.args.words.now loaded c.of_words.ensures c.args.geometry.now head c.put-2.new.words c.put-2.array_long notes.result.first notes.result.third c.put.new.words
    (λ b home. (notes.ensures.is b home).0) (λ b home. (notes.ensures.is b home).1)
    (λ b home. c.put.ensures.here b (omega (arith, home, ones)))
    (λ i apart. c.put.ensures.others i (λ b low. apart b (omega (arith, low, ones))))
    (λ b home. c.put-2.ensures.here b (omega (arith, home, threes)))
    (λ i apart. c.put-2.ensures.others i (λ b low. apart b (omega (arith, low, threes))))
