-- Bucket by bucket; and what the marks of all buckets say of records.
use Rattle.std.proofs.Common.{ℕ, ◌+◌, ◌*◌, ◌^◌, ◌<◌, ◌↔◌, List, slice_index, sym, ap, ◌∙◌, subst, arith}
use Rattle.bucket_meta.specs.Marks.{cleared_mark}
use Rattle.hash_word.specs.Hash.{Covers}
use Rattle.sound_image.specs.Records.{key_hash}
use Rattle.whole_segment.specs.Records.{first_in, key_in, Stands, IsCovered, covered_set}
use Rattle.whole_segment.proofs.Telling.{sets_agree, covered_is}
use Rattle.whole_segment.proofs.marking.Marking.{marked_more, rest_has}
use Rattle.whole_segment.proofs.loaded.Loaded.without_half.Goals as goal

pub loop-bucket-preserved : goal.loop-bucket-preserved
loop-bucket-preserved c =
    let self = c.args.self.now in
    let P : ℕ → ℕ → Type 0 = IsCovered (first_in self) (key_in self) (key_hash c.args.geometry.now) c.args.depth c.args.pattern in
    let slots = c.covered_slots-covered.result in
    let here = c.set_first.ensures.here ∙ (c.cleared_mark-mark.ensures ∙ ap (λ n. cleared_mark (slice_index self.first n) slots) c.from.ensures) in
    record {
      marks = marked_more cleared_mark P (first_in self) c.loop-bucket.bucket slots (first_in c.loop-bucket.rest) (first_in c.set_first.new.self) c.covered_slots-covered.ensures.set
          here c.set_first.ensures.others c.loop-bucket.invariant.marks;
      third = c.set_first.ensures.third ∙ c.loop-bucket.invariant.third;
      keys = c.set_first.ensures.keys ∙ c.loop-bucket.invariant.keys;
    }

pub returns-clause-records : goal.returns-clause-records
returns-clause-records c b r k =
    let self = c.args.self.now in
    let hash : ℕ → ℕ = key_hash c.args.geometry.now in
    let word : (b : ℕ) → first_in self b < 2 ^ 64 = c.each_fits.ensures in
    let P : List ℕ → Type 0 = λ keys. Stands (first_in c.loop-bucket.rest) (λ c t. slice_index keys (14 * c + t)) b r k
    ↔ (Stands (first_in self) (key_in self) b r k × (Covers c.args.depth c.args.pattern (hash k) → ⊥)) in
    subst P (sym c.loop-bucket.invariant.keys)
    (rest_has (first_in self) (first_in c.loop-bucket.rest) (key_in self) hash c.args.depth c.args.pattern word
    (λ b low. c.loop-bucket.invariant.marks b (omega (arith, low, c.loop-bucket-test.false))) b r k)

pub returns-clause-is : goal.returns-clause-is
returns-clause-is c b low =
    let self = c.args.self.now in
    let P : ℕ → Type 0 = IsCovered (first_in self) (key_in self) (key_hash c.args.geometry.now) c.args.depth c.args.pattern b in
    let made = c.loop-bucket.invariant.marks b (omega (arith, low, c.loop-bucket-test.false)) in
    made.2 ∙ ap (λ slots. cleared_mark (first_in self b) slots) (sets_agree P made.0 (covered_set (first_in self) (key_in self) (key_hash c.args.geometry.now) c.args.depth c.args.pattern b) made.1 (covered_is (first_in self) (key_in self) (key_hash c.args.geometry.now) c.args.depth c.args.pattern b))
