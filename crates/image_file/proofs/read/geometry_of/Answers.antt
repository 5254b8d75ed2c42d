-- A file begins with its words, and has eight bytes for each.
use Rattle.std.proofs.Common.{arith, inl}
use Rattle.sound_image.specs.Image.{image_bytes}
use Rattle.image_file.proofs.FileWords.{length-image_bytes}
use Rattle.image_file.proofs.Fronts.{file-BeginsWith, front-IsFramed, front-Length}
use Rattle.image_file.proofs.read.geometry_of.Goals as goal

pub returns-then-words-clause-fault : goal.returns-then-words-clause-fault
returns-then-words-clause-fault c = inl (omega (arith, c.if-words.true, length-image_bytes c.args.words.now))

pub returns-in-Err-clause-fault : goal.returns-in-Err-clause-fault
returns-in-Err-clause-fault c =
    c.in-Err.ensures.fault (image_bytes c.args.words.now)
    (file-BeginsWith c.args.words.now c.each_fits.ensures (omega (arith, c.if-words.false)))

pub returns-then-words-2-clause-fault : goal.returns-then-words-2-clause-fault
returns-then-words-2-clause-fault c =
    front-Length (image_bytes c.args.words.now) c.in-Ok.geometry
    (c.in-Ok.ensures.ok (image_bytes c.args.words.now) (file-BeginsWith c.args.words.now c.each_fits.ensures (omega (arith, c.if-words.false))))
    c.words.ensures.shape
    (λ same. absurd (omega (arith, same, c.words.ensures.is, c.if-words-2.true, length-image_bytes c.args.words.now)))

pub returns-clause-framed : goal.returns-clause-framed
returns-clause-framed c =
    front-IsFramed (image_bytes c.args.words.now) c.in-Ok.geometry
    (c.in-Ok.ensures.ok (image_bytes c.args.words.now) (file-BeginsWith c.args.words.now c.each_fits.ensures (omega (arith, c.if-words.false))))
    c.words.ensures.shape
    (omega (arith, c.words.ensures.is, c.if-words-2.false, length-image_bytes c.args.words.now))

pub returns-clause-shape : goal.returns-clause-shape
returns-clause-shape c =
    (c.in-Ok.ensures.ok (image_bytes c.args.words.now) (file-BeginsWith c.args.words.now c.each_fits.ensures (omega (arith, c.if-words.false)))).says
