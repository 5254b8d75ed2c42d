-- Each bit is the answer for its stash bucket, and where no record is without a note, each is named.
use Rattle.std.proofs.Common.{◌≡◌, refl, arith}
use Rattle.word_bits.specs.Bits.{bit}
use Rattle.stash.specs.Exact.{IsNamed, notes_of}
use Rattle.bucket_meta.proofs.ExactNotes.{each_is_named}
use Rattle.stash.proofs.Visits.{each_stash, set_of_two, often_contained}
use Rattle.stash.proofs.notes.must_visit.Goals as goal

pub returns-then-home-gt0-clause-exact : goal.returns-then-home-gt0-clause-exact
returns-then-home-gt0-clause-exact c stashed k within exact there = each_stash (λ k. bit k 3 ≡ 1) refl refl k within

pub returns-clause-named : goal.returns-clause-named
returns-clause-named c none =
    set_of_two (λ k. IsNamed c.args.home.now c.args.probe.now (c.args.finger, k)) c.named_bit-first.result c.named_bit-second.result
    c.named_bit-first.ensures.is_bit c.named_bit-second.ensures.is_bit c.named_bit-first.ensures.named c.named_bit-second.ensures.named

pub returns-clause-exact : goal.returns-clause-exact
returns-clause-exact c stashed k within exact there =
    let visits = set_of_two (λ k. IsNamed c.args.home.now c.args.probe.now (c.args.finger, k)) c.named_bit-first.result c.named_bit-second.result
    c.named_bit-first.ensures.is_bit c.named_bit-second.ensures.is_bit c.named_bit-first.ensures.named c.named_bit-second.ensures.named in
    (visits k within).1 (each_is_named (notes_of c.args.home.now c.args.probe.now) stashed c.args.home.now.ocount (c.args.finger, k) exact (omega arith) (often_contained (c.args.finger, k) stashed there))
