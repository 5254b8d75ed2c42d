-- A record stands right with its fingerprint, in the bucket that its membership bit says or in the stash.
use Rattle.std.proofs.Common.{◌≡◌, ◌≢◌, ℕ, ◌+◌, inl, inr, sym, ap, ◌∙◌, true, false, arith, slice_index}
use Rattle.std.specs.Prelude.{◌==◌}
use Rattle.std.proofs.lemmas.Bool.Decides.{nat_tests}
use Rattle.std.proofs.lemmas.Bool.{eq-eqb}
use Rattle.hash_word.specs.Hash.{home_of, probing_of, finger_of}
use Rattle.bucket_meta.specs.Bucket.{finger, member}
use Rattle.sound_image.specs.Records.{word_in, slot_hash}
use Rattle.image_rules.proofs.Answered.{untrue}
use Rattle.image_rules.proofs.Within.{in_bucket}
use Rattle.image_rules.proofs.records.stands_right.Goals as goal
use Rattle.image_rules.proofs.records.stands_right.Goals.{then-is_member, else-is_member}

is_one : (n : ℕ) → true ≡ (n == 1) → n ≡ 1
is_one n test = grind (arith, nat_tests, test)

is_other : (n : ℕ) → false ≡ (n == 1) → n ≢ 1
is_other n test = grind (arith, nat_tests, test)

pub bounds-words-at : goal.bounds-words-at
bounds-words-at c = in_bucket _ _ _ _ c.requires.whole c.bucket_word-at.ensures.within (omega arith)

pub bounds-words-at-2 : goal.bounds-words-at-2
bounds-words-at-2 c = in_bucket _ _ _ _ c.requires.whole c.bucket_word-at.ensures.within (omega arith)

pub bounds-words-at-3 : goal.bounds-words-at-3
bounds-words-at-3 c = in_bucket _ _ _ _ c.requires.whole c.bucket_word-at.ensures.within (omega arith)

pub returns-then-finger_of-finger : goal.returns-then-finger_of-finger
returns-then-finger_of-finger c = (
  (λ false. untrue false),
  (λ right. absurd
      (c.if-finger_of-finger.true
      (c.finger_of.ensures
      ∙ ap (λ (at : ℕ). finger c.args.record_slot.slot (slice_index c.args.words.now (at + 2)) (slice_index c.args.words.now (at + 3)))
      c.bucket_word-at.ensures.is ∙ right.fingerprint ∙ ap finger_of (sym c.hash_in-hash.ensures) ∙ sym c.finger.ensures))),
)

pub returns-then-record_slot-own : goal.returns-then-record_slot-own
returns-then-record_slot-own c =
    let shape = c.args.geometry.now in
    let word = slice_index c.args.words.now in
    let s = c.args.record_slot.segment in
    let b = c.args.record_slot.bucket in
    let r = c.args.record_slot.slot in
    let print : finger r (word_in shape word s b 2) (word_in shape word s b 3) ≡ finger_of (slot_hash shape word s b r) =
    ap (λ (at : ℕ). finger r (word (at + 2)) (word (at + 3))) (sym c.bucket_word-at.ensures.is) ∙ sym c.finger_of.ensures ∙ c.if-finger_of-finger.false
    ∙ c.finger.ensures ∙ ap finger_of c.hash_in-hash.ensures in
    let home : c.home-home.result ≡ home_of (slot_hash shape word s b r) = c.home-home.ensures.of ∙ ap home_of c.hash_in-hash.ensures in
    let bit : member r (word (c.bucket_word-at.result + 1)) ≡ member r (word_in shape word s b 1) =
    ap (λ (at : ℕ). member r (word (at + 1))) c.bucket_word-at.ensures.is in (
      (λ _. record {
        bucket = elim c.if-is_member.branch [
          | then-is_member w ↦
              inr (inl (c.if-record_slot-own.true ∙ w.own-is ∙ w.probing-own.ensures.of ∙ ap probing_of home, sym bit ∙ is_one _ w.if-is_member.ensures))
          | else-is_member w ↦
              let other = is_other _ w.if-is_member.ensures in
              inl (c.if-record_slot-own.true ∙ w.own-is ∙ home, omega (arith, bit, other))
        ];
        fingerprint = print;
      }),
      (λ _. eq-eqb _ _ c.if-record_slot-own.true),
    )
