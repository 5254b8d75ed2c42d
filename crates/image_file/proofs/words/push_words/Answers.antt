-- A word more.
use Rattle.std.proofs.Common.{ap, ◌∙◌, arith, rules}
use Rattle.sound_image.specs.Image.{image_bytes}
use Rattle.image_file.proofs.FileWords.{word_more}
use Rattle.image_file.proofs.words.push_words.Goals as goal

pub loop-index-preserved : goal.loop-index-preserved
loop-index-preserved c = (
  ap image_bytes c.push_reserved.ensures.items
      ∙ word_more c.loop-index.words.items c.args.words.now.items c.args.piece.now c.loop-index.index c.word_at.result
      (omega (arith, c.loop-index-test.true, c.requires.whole)) c.each_byte_fits.ensures c.word_at.ensures c.loop-index.invariant.0,
  omega (arith, c.push_reserved.ensures.len, c.loop-index.invariant.1),
  omega (arith, c.push_reserved.ensures.capacity, c.loop-index.invariant.2),
)

pub loop-index-init : goal.loop-index-init
loop-index-init c = search rules
