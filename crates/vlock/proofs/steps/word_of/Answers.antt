-- The first word of a line is a word of the image or right behind it.
use Rattle.std.proofs.Common.{◌<◌, subst, arith}
use Rattle.op_core.specs.declared.want.Want.{Want}
use Rattle.image_layout.specs.Volatile.{all_words_of}
use Rattle.world.specs.Wants.{word_of}
use Rattle.vlock.proofs.steps.word_of.Goals as goal

pub overflow_mul-result : goal.overflow_mul-result
overflow_mul-result c =
    let inside = subst (λ (want : Want). word_of c.args.geometry.now want < all_words_of c.args.geometry.now) c.in-Flush.is c.requires in
    let is = c.words-counter.ensures.is in
    let most = c.words-counter.ensures.most in
    let few = c.words-counter.ensures.shape.segments in
    omega (arith, inside, is, most, few)
