-- The bucket's lock and notes were looked at before its keys.
use Rattle.std.proofs.Common.{◌≡◌, ◌+◌, ◌*◌, ℕ, subst, refl, arith, slice_index}
use Rattle.image_rules.specs.Slots.{IsBrokenIn}
use Rattle.image_rules.proofs.Answered.{never}
use Rattle.image_rules.proofs.standing.CleanSegments.{unlocked_word, once_breaks, notes_break, none_breaks}
use Rattle.image_rules.proofs.repaired.bucket_breach.Goals as goal

pub returns-then-not-has_its_notes-clause-some : goal.returns-then-not-has_its_notes-clause-some
returns-then-not-has_its_notes-clause-some c =
    notes_break c.args.geometry.now (slice_index c.args.words.now) c.args.s c.args.b c.bucket_word-at.result c.bucket_word-at.ensures.is
    (unlocked_word _ c.if-is_locked.ensures) (never c.has_its_notes.result c.has_its_notes.ensures c.if-not-has_its_notes.true)

pub returns-in-Some-clause-some : goal.returns-in-Some-clause-some
returns-in-Some-clause-some c =
    let at = c.bucket_word-at.result in
    let key : at + 4 + 2 * c.in-Some.slot ≡ at + c.key_place.result = omega (arith, c.key_place.ensures) in
    subst (λ (n : ℕ). IsBrokenIn c.args.geometry.now (slice_index c.args.words.now) c.args.s c.args.b n) key
    (once_breaks c.args.geometry.now (slice_index c.args.words.now) c.args.s c.args.b c.in-Some.slot c.bucket_word-at.result c.bucket_word-at.ensures.is
    (unlocked_word _ c.if-is_locked.ensures) (c.if-not-has_its_notes.ensures.0 refl) c.in-Some.ensures.some)

pub returns-in-None-clause-none : goal.returns-in-None-clause-none
returns-in-None-clause-none c =
    none_breaks c.args.geometry.now (slice_index c.args.words.now) c.args.s c.args.b c.bucket_word-at.result c.bucket_word-at.ensures.is
    (unlocked_word _ c.if-is_locked.ensures) (c.if-not-has_its_notes.ensures.0 refl) c.in-None.ensures.none
