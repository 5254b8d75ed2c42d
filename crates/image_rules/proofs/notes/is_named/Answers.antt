-- The note is sought among all notes and in the stash.
use Rattle.std.proofs.Common.{◌≡◌, ℕ, ◌∙◌, ap, sym, subst, refl, arith, slice_index}
use Rattle.bucket_meta.specs.Bucket.{note_finger, note_index}
use Rattle.bucket_meta.specs.Notes.{IsNoteOn}
use Rattle.sound_image.specs.Records.{word_in, notes_of, stashed_of}
use Rattle.image_rules.proofs.Answered.{never, untrue}
use Rattle.image_rules.proofs.stashed.Counts.{sought_often}
use Rattle.image_rules.proofs.notes.is_named.Goals as goal

pub returns-then-not-is_note_on : goal.returns-then-not-is_note_on
returns-then-not-is_note_on c = (
  (λ _ on. absurd
      (never c.is_note_on.result c.is_note_on.ensures c.if-not-is_note_on.true
      (subst (λ (w : ℕ). IsNoteOn w c.args.side c.args.note_slot) (sym c.meta_in-w1.ensures) on))),
  (λ _. refl),
)

pub returns-then-noted-stashed : goal.returns-then-noted-stashed
returns-then-noted-stashed c =
    let word = slice_index c.args.words.now in
    let first : ℕ = word_in c.args.geometry.now word c.args.s c.args.c 1 in
    let third : ℕ = word_in c.args.geometry.now word c.args.s c.args.c 3 in
    let finger : c.note_on-note.result.finger ≡ note_finger c.args.note_slot first third =
    c.note_on-note.ensures.finger ∙ ap (λ (w : ℕ). note_finger c.args.note_slot w c.meta_in.result) c.meta_in-w1.ensures
    ∙ ap (λ (w : ℕ). note_finger c.args.note_slot first w) c.meta_in.ensures in
    let index : c.note_on-note.result.index ≡ note_index c.args.note_slot first =
    c.note_on-note.ensures.index ∙ ap (λ (w : ℕ). note_index c.args.note_slot w) c.meta_in-w1.ensures in
    let notes = sought_often c.note_on-note.result _ _ finger index (notes_of c.args.geometry.now word c.args.s c.args.b) in
    let stash = sought_often c.note_on-note.result _ _ finger index (stashed_of c.args.geometry.now word c.args.s c.args.b) in (
      (λ false. untrue false),
      (λ named. absurd
          (omega (
            arith,
            named (subst (λ (w : ℕ). IsNoteOn w c.args.side c.args.note_slot) c.meta_in-w1.ensures (c.if-not-is_note_on.ensures.0 refl)),
            notes,
            stash,
            c.count_notes-noted.ensures.is,
            c.count_stashed-stashed.ensures.is,
            c.if-noted-stashed.true,
          ))),
    )

pub returns : goal.returns
returns c =
    let word = slice_index c.args.words.now in
    let first : ℕ = word_in c.args.geometry.now word c.args.s c.args.c 1 in
    let third : ℕ = word_in c.args.geometry.now word c.args.s c.args.c 3 in
    let finger : c.note_on-note.result.finger ≡ note_finger c.args.note_slot first third =
    c.note_on-note.ensures.finger ∙ ap (λ (w : ℕ). note_finger c.args.note_slot w c.meta_in.result) c.meta_in-w1.ensures
    ∙ ap (λ (w : ℕ). note_finger c.args.note_slot first w) c.meta_in.ensures in
    let index : c.note_on-note.result.index ≡ note_index c.args.note_slot first =
    c.note_on-note.ensures.index ∙ ap (λ (w : ℕ). note_index c.args.note_slot w) c.meta_in-w1.ensures in
    let notes = sought_often c.note_on-note.result _ _ finger index (notes_of c.args.geometry.now word c.args.s c.args.b) in
    let stash = sought_often c.note_on-note.result _ _ finger index (stashed_of c.args.geometry.now word c.args.s c.args.b) in (
      (λ _ on. omega (arith, notes, stash, c.count_notes-noted.ensures.is, c.count_stashed-stashed.ensures.is, c.if-noted-stashed.false)),
      (λ _. refl),
    )
