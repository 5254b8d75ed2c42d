-- Bucket by bucket; and what the marks of all buckets say of records.
use Rattle.std.proofs.Common.{ℕ, ◌^◌, ◌<◌, slice_index, ap, ◌∙◌, arith}
use Rattle.bucket_meta.specs.Marks.{cleared_mark}
use Rattle.sound_image.specs.Records.{key_hash}
use Rattle.whole_segment.specs.Records.{first_in, key_in}
use Rattle.whole_segment.specs.Mending.{IsSpoiled, spoiled_set}
use Rattle.whole_segment.proofs.Telling.{sets_agree, spoiled_is}
use Rattle.whole_segment.proofs.marking.Marking.{marked_more, mended_is}
use Rattle.whole_segment.proofs.loaded.Loaded.mended.Goals as goal

pub loop-bucket-preserved : goal.loop-bucket-preserved
loop-bucket-preserved c =
    let self = c.args.self.now in
    let P : ℕ → ℕ → Type 0 = IsSpoiled (first_in self) (key_in self) (key_hash c.args.geometry.now) c.args.depth c.args.pattern in
    let slots = c.spoiled_slots-spoiled.result in
    let here = c.set_first.ensures.here ∙ (c.cleared_mark-mark.ensures ∙ ap (λ n. cleared_mark (slice_index self.first n) slots) c.from.ensures) in
    record {
      marks = marked_more cleared_mark P (first_in self) c.loop-bucket.bucket slots (first_in c.loop-bucket.mended) (first_in c.set_first.new.self) c.spoiled_slots-spoiled.ensures.set
          here c.set_first.ensures.others c.loop-bucket.invariant.marks;
      third = c.set_first.ensures.third ∙ c.loop-bucket.invariant.third;
      keys = c.set_first.ensures.keys ∙ c.loop-bucket.invariant.keys;
    }

pub returns-clause-mended : goal.returns-clause-mended
returns-clause-mended c =
    let self = c.args.self.now in
    let word : (b : ℕ) → first_in self b < 2 ^ 64 = c.each_fits.ensures in
    mended_is (first_in self) (first_in c.loop-bucket.mended) (key_in self) (key_hash c.args.geometry.now) c.args.depth c.args.pattern word
    (λ b low. c.loop-bucket.invariant.marks b (omega (arith, low, c.loop-bucket-test.false)))

pub returns-clause-is : goal.returns-clause-is
returns-clause-is c b low =
    let self = c.args.self.now in
    let P : ℕ → Type 0 = IsSpoiled (first_in self) (key_in self) (key_hash c.args.geometry.now) c.args.depth c.args.pattern b in
    let made = c.loop-bucket.invariant.marks b (omega (arith, low, c.loop-bucket-test.false)) in
    made.2 ∙ ap (λ slots. cleared_mark (first_in self b) slots) (sets_agree P made.0 (spoiled_set (first_in self) (key_in self) (key_hash c.args.geometry.now) c.args.depth c.args.pattern b) made.1 (spoiled_is (first_in self) (key_in self) (key_hash c.args.geometry.now) c.args.depth c.args.pattern b))
