-- A slot counts where it has a record of that home that is the one that is sought.
use Rattle.std.proofs.Common.{◌≡◌, ◌+◌, ℕ, sym, subst, ap, ◌∙◌, refl, slice_index}
use Rattle.hash_word.specs.Hash.{home_of, finger_of}
use Rattle.bucket_meta.specs.Bucket.{allocated}
use Rattle.sound_image.specs.Records.{word_in, slot_hash}
use Rattle.image_rules.specs.Noted.{matches}
use Rattle.image_rules.proofs.Answered.{never}
use Rattle.image_rules.proofs.stashed.Counts.{counts_none, counts_one, counts_other}
use Rattle.image_rules.proofs.notes.count_slot.Goals as goal

pub returns-then-not-is_stashed-clause-is : goal.returns-then-not-is_stashed-clause-is
returns-then-not-is_stashed-clause-is c =
    let shape = c.args.geometry.now in
    let word = slice_index c.args.words.now in
    let bucket = c.stash_bucket.ensures.is in
    let is_taken : ℕ → Type 0 = λ (n : ℕ). allocated c.args.slot (word_in shape word c.args.s n 1) ≡ 1 in
    let is_at_home : ℕ → Type 0 = λ (n : ℕ). home_of (slot_hash shape word c.args.s n c.args.slot) ≡ c.args.b in
    sym
    (counts_none (matches c.args.sought) (allocated c.args.slot (word_in shape word c.args.s (64 + c.args.k) 1)) 1
    (home_of (slot_hash shape word c.args.s (64 + c.args.k) c.args.slot)) c.args.b
    (finger_of (slot_hash shape word c.args.s (64 + c.args.k) c.args.slot), c.args.k)
    (λ both. never c.is_stashed.result c.is_stashed.ensures c.if-not-is_stashed.true (record { taken = subst is_taken (sym bucket) both.0; home = subst is_at_home (sym bucket) both.1 })))

pub returns-then-is_sought-clause-is : goal.returns-then-is_sought-clause-is
returns-then-is_sought-clause-is c =
    let shape = c.args.geometry.now in
    let word = slice_index c.args.words.now in
    let bucket = c.stash_bucket.ensures.is in
    let is_taken : ℕ → Type 0 = λ (n : ℕ). allocated c.args.slot (word_in shape word c.args.s n 1) ≡ 1 in
    let is_at_home : ℕ → Type 0 = λ (n : ℕ). home_of (slot_hash shape word c.args.s n c.args.slot) ≡ c.args.b in
    let there = c.if-not-is_stashed.ensures.0 refl in
    let finger = c.finger-finger.ensures ∙ ap finger_of (c.hash_in.ensures ∙ ap (λ (n : ℕ). slot_hash shape word c.args.s n c.args.slot) bucket) in
    sym
    (counts_one (matches c.args.sought) (allocated c.args.slot (word_in shape word c.args.s (64 + c.args.k) 1)) 1
    (home_of (slot_hash shape word c.args.s (64 + c.args.k) c.args.slot)) c.args.b
    (finger_of (slot_hash shape word c.args.s (64 + c.args.k) c.args.slot), c.args.k)
    (subst is_taken bucket there.taken) (subst is_at_home bucket there.home)
    (ap (λ (f : ℕ). matches c.args.sought (f, c.args.k)) (sym finger) ∙ sym c.is_sought.ensures ∙ c.if-is_sought.true))

pub returns-else-is_sought-clause-is : goal.returns-else-is_sought-clause-is
returns-else-is_sought-clause-is c =
    let shape = c.args.geometry.now in
    let word = slice_index c.args.words.now in
    let bucket = c.stash_bucket.ensures.is in
    let is_taken : ℕ → Type 0 = λ (n : ℕ). allocated c.args.slot (word_in shape word c.args.s n 1) ≡ 1 in
    let is_at_home : ℕ → Type 0 = λ (n : ℕ). home_of (slot_hash shape word c.args.s n c.args.slot) ≡ c.args.b in
    let there = c.if-not-is_stashed.ensures.0 refl in
    let finger = c.finger-finger.ensures ∙ ap finger_of (c.hash_in.ensures ∙ ap (λ (n : ℕ). slot_hash shape word c.args.s n c.args.slot) bucket) in
    sym
    (counts_other (matches c.args.sought) (allocated c.args.slot (word_in shape word c.args.s (64 + c.args.k) 1)) 1
    (home_of (slot_hash shape word c.args.s (64 + c.args.k) c.args.slot)) c.args.b
    (finger_of (slot_hash shape word c.args.s (64 + c.args.k) c.args.slot), c.args.k)
    (subst is_taken bucket there.taken) (subst is_at_home bucket there.home)
    (ap (λ (f : ℕ). matches c.args.sought (f, c.args.k)) (sym finger) ∙ sym c.is_sought.ensures ∙ c.if-is_sought.false))
