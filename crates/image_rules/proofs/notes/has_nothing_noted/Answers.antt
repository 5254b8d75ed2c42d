-- Where nothing is noted and nothing is in the stash, the notes are exact.
use Rattle.std.proofs.Common.{◌≡◌, ℕ, ◌+◌, ◌<◌, refl, sym, ap, subst, ◌∙◌, arith, below_more, slice_index}
use Rattle.bucket_meta.specs.Bucket.{allocated, note_used}
use Rattle.sound_image.specs.Records.{word_in}
use Rattle.sound_image.proofs.Unnoted.{IsUnnoted}
use Rattle.sound_image.proofs.NoNotes.{unnoted-exact}
use Rattle.image_rules.proofs.notes.has_nothing_noted.Goals as goal

pub returns : goal.returns
returns c last =
    let shape = c.args.geometry.now in
    let word = slice_index c.args.words.now in
    let s = c.args.s in
    let each : (k : ℕ) → k < 2 → (r : ℕ) → r < 14 → allocated r (word_in shape word s (64 + k) 1) ≡ 1 → ⊥ =
    below_more (λ k. (r : ℕ) → r < 14 → allocated r (word_in shape word s (64 + k) 1) ≡ 1 → ⊥) 1
    (below_more (λ k. (r : ℕ) → r < 14 → allocated r (word_in shape word s (64 + k) 1) ≡ 1 → ⊥) 0 (λ k below. absurd (omega (arith, below)))
    (c.if-not-is_empty.ensures refl)) (c.is_empty-2.ensures last) in
    let beside = c.meta_in.ensures ∙ ap (λ (b : ℕ). word_in shape word s b 1) c.probing.ensures.of in
    let unnoted : IsUnnoted shape word s c.args.b =
    record {
      no_count = omega (arith, c.meta_in-own.ensures, c.overflow_count_of.ensures.is, c.if-overflow_count_of-gt0.false);
      none_here = λ n. let used = subst (λ w. note_used n.note_slot w ≡ 1) (sym c.meta_in-own.ensures) n.used in
          absurd (omega (arith, used, c.if-not-has_no_note.ensures.0 refl n.note_slot n.within));
      none_beside = λ n. let used = subst (λ w. note_used n.note_slot w ≡ 1) (sym beside) n.used in
          absurd (omega (arith, used, c.if-not-has_no_note-2.ensures.0 refl n.note_slot n.within));
    } in
    unnoted-exact shape word s c.args.b (λ k r two slot taken home. each k two r slot taken) unnoted
