-- One slot more, or none.
use Rattle.std.proofs.Common.{◌≡◌, ℕ, ◌+◌, ◌<◌, ◌≤◌, arith, refl, sym, subst, slice_index, Fits, w8}
use borrow.Author.Count.{falls}
use Rattle.image_rules.specs.Noted.{matches, how_many, piece_in, stashed_below}
use Rattle.hash_word.specs.Hash.{home_of, finger_of}
use Rattle.bucket_meta.specs.Bucket.{allocated}
use Rattle.sound_image.specs.Records.{word_in, slot_hash}
use Rattle.image_rules.proofs.stashed.Counts.{counts_none, none_counted, one_count_more, one_few_more}
use Rattle.image_rules.proofs.notes.count_in.Goals as goal

-- at the last slot the loop ends
all_counted : (slot : ℕ) → slot ≤ 14 → 14 ≤ slot → slot ≡ 14
all_counted slot most least = omega arith

count_fits : (count slot one : ℕ) → count ≤ slot → slot < 14 → one ≤ 1 → Fits w8 (count + one)
count_fits count slot one few below most = omega arith

pub loop-slot-init : goal.loop-slot-init
loop-slot-init c = record { counted = refl; few = omega arith }

pub loop-slot-preserved : goal.loop-slot-preserved
loop-slot-preserved c =
    record {
      counted = one_count_more (λ r. piece_in c.args.geometry.now (slice_index c.args.words.now) c.args.s c.args.b c.args.k r) (matches c.args.sought)
          c.loop-slot.slot c.loop-slot.count c.count_slot-count.result c.loop-slot.invariant.counted c.count_slot-count.ensures.is;
      few = one_few_more c.loop-slot.slot c.loop-slot.count c.count_slot-count.result c.loop-slot.invariant.few c.count_slot-count.ensures.most;
    }

pub returns-then-is_empty-clause-is : goal.returns-then-is_empty-clause-is
returns-then-is_empty-clause-is c =
    let shape = c.args.geometry.now in
    let word = slice_index c.args.words.now in
    let k = c.args.k in
    sym
    (none_counted (λ r. piece_in shape word c.args.s c.args.b k r) (matches c.args.sought) 14
    (λ r slot.
    counts_none (matches c.args.sought) (allocated r (word_in shape word c.args.s (64 + k) 1)) 1
    (home_of (slot_hash shape word c.args.s (64 + k) r)) c.args.b (finger_of (slot_hash shape word c.args.s (64 + k) r), k)
    (λ both. c.if-is_empty.ensures refl r slot (subst (λ (n : ℕ). allocated r (word_in shape word c.args.s n 1) ≡ 1) (sym c.stash_bucket.ensures.is) both.0))))

pub overflow_add-count : goal.overflow_add-count
overflow_add-count c =
    count_fits c.loop-slot.count c.loop-slot.slot c.count_slot-count.result c.loop-slot.invariant.few c.loop-slot-test.true c.count_slot-count.ensures.most

pub loop-slot-smaller : goal.loop-slot-smaller
loop-slot-smaller c = falls 14 c.loop-slot.slot c.loop-slot-test.true

pub returns-clause-is : goal.returns-clause-is
returns-clause-is c =
    subst (λ (n : ℕ). c.loop-slot.count ≡ how_many c.args.sought (stashed_below c.args.geometry.now (slice_index c.args.words.now) c.args.s c.args.b c.args.k n))
    (all_counted c.loop-slot.slot c.loop-slot.auto.slot-end c.loop-slot-test.false) c.loop-slot.invariant.counted

pub returns-clause-most : goal.returns-clause-most
returns-clause-most c =
    subst (λ (n : ℕ). c.loop-slot.count ≤ n) (all_counted c.loop-slot.slot c.loop-slot.auto.slot-end c.loop-slot-test.false) c.loop-slot.invariant.few
