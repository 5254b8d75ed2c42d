-- The words that were read are those in front of the bytes.
use Rattle.std.proofs.Common.{arith}
use Rattle.image_file.proofs.Fronts.{four-BeginsWith, front-IsFramed, front-Length}
use Rattle.image_file.proofs.read.geometry_in.Goals as goal

pub returns-in-Err-clause-fault : goal.returns-in-Err-clause-fault
returns-in-Err-clause-fault c =
    c.in-Err.ensures.fault c.args.bytes.now
    (four-BeginsWith c.args.bytes.now _ _ _ _ (omega (arith, c.if-bytes-lt-FRONT_BYTES.false)) c.word_at.ensures c.word_at-2.ensures c.word_at-3.ensures
    c.word_at-4.ensures)

pub returns-then-bytes-words-clause-fault : goal.returns-then-bytes-words-clause-fault
returns-then-bytes-words-clause-fault c =
    front-Length c.args.bytes.now c.in-Ok.geometry
    (c.in-Ok.ensures.ok c.args.bytes.now
    (four-BeginsWith c.args.bytes.now _ _ _ _ (omega (arith, c.if-bytes-lt-FRONT_BYTES.false)) c.word_at.ensures c.word_at-2.ensures c.word_at-3.ensures
    c.word_at-4.ensures))
    c.words.ensures.shape
    (λ same. absurd (omega (arith, same, c.words.ensures.is, c.if-bytes-words.true)))

pub returns-clause-framed : goal.returns-clause-framed
returns-clause-framed c =
    front-IsFramed c.args.bytes.now c.in-Ok.geometry
    (c.in-Ok.ensures.ok c.args.bytes.now
    (four-BeginsWith c.args.bytes.now _ _ _ _ (omega (arith, c.if-bytes-lt-FRONT_BYTES.false)) c.word_at.ensures c.word_at-2.ensures c.word_at-3.ensures
    c.word_at-4.ensures))
    c.words.ensures.shape
    (omega (arith, c.words.ensures.is, c.if-bytes-words.false))

pub returns-clause-shape : goal.returns-clause-shape
returns-clause-shape c =
    (c.in-Ok.ensures.ok c.args.bytes.now
    (four-BeginsWith c.args.bytes.now _ _ _ _ (omega (arith, c.if-bytes-lt-FRONT_BYTES.false)) c.word_at.ensures c.word_at-2.ensures c.word_at-3.ensures
    c.word_at-4.ensures)).says
