-- The count and the notes of both buckets are looked at.
use Rattle.std.proofs.Common.{ℕ, refl, sym, subst, arith, slice_index}
use Rattle.hash_word.specs.Hash.{probing_of}
use Rattle.bucket_meta.specs.Bucket.{note_slots}
use Rattle.image_rules.specs.Noted.{AreNamed}
use Rattle.image_rules.proofs.Answered.{never, untrue}
use Rattle.image_rules.proofs.stashed.Counts.{counts-exact, exact-count, exact-named}
use Rattle.image_rules.proofs.notes.has_exact_notes.Goals as goal

pub returns-then-unnoted-noted : goal.returns-then-unnoted-noted
returns-then-unnoted-noted c = (
  (λ false. untrue false),
  (λ exact. absurd
      (omega (
        arith,
        exact-count c.args.geometry.now (slice_index c.args.words.now) c.args.s c.args.b exact,
        c.meta_in.ensures,
        c.count_notes-noted.ensures.is,
        c.count_stashed.ensures.is,
        c.if-unnoted-noted.true,
      ))),
)

pub returns-then-not-are_named : goal.returns-then-not-are_named
returns-then-not-are_named c = (
  (λ false. untrue false),
  (λ exact. absurd
      (never c.are_named.result c.are_named.ensures c.if-not-are_named.true
      (exact-named c.args.geometry.now (slice_index c.args.words.now) c.args.s c.args.b exact c.args.b 0))),
)

pub returns : goal.returns
returns c = (
  (λ last. counts-exact c.args.geometry.now (slice_index c.args.words.now) c.args.s c.args.b
      (omega (arith, c.meta_in.ensures, c.count_notes-noted.ensures.is, c.count_stashed.ensures.is, c.if-unnoted-noted.false))
      (c.if-not-are_named.ensures.0 refl)
      (subst (λ (n : ℕ). AreNamed c.args.geometry.now (slice_index c.args.words.now) c.args.s c.args.b n 1 note_slots) c.probing.ensures.of
      (c.are_named-2.ensures.0 last))),
  (λ exact. c.are_named-2.ensures.1
      (subst (λ (n : ℕ). AreNamed c.args.geometry.now (slice_index c.args.words.now) c.args.s c.args.b n 1 note_slots) (sym c.probing.ensures.of)
      (exact-named c.args.geometry.now (slice_index c.args.words.now) c.args.s c.args.b exact (probing_of c.args.b) 1))),
)

pub returns-then-has_nothing_noted : goal.returns-then-has_nothing_noted
returns-then-has_nothing_noted c = ((λ _. c.if-has_nothing_noted.ensures refl), (λ _. refl))
