-- A home or a stash bucket more.
use Rattle.std.proofs.Common.{◌≡◌, ℕ, ◌+◌, ◌*◌, List, slice_index, sym, ap, ◌∙◌, subst, arith}
use Rattle.std.specs.Prelude.{slice_set}
use Rattle.bucket_meta.specs.Bucket.{slot_fingers_part}
use Rattle.whole_segment.specs.Records.{first_in}
use Rattle.split_op.proofs.sides.Copying.{IsMarking, begun_marking, home_marked, stash_marked, all_marked}
use Rattle.split_op.proofs.copy.with_marks.Goals as goal
use Rattle.split_op.proofs.copy.with_marks.Goals.{then-bucket-lt-HOMES, else-bucket-lt-HOMES}

pub loop-bucket-init : goal.loop-bucket-init
loop-bucket-init c = begun_marking c.args.kept.now c.args.half.now c.args.notes.now c.told-kept

pub loop-bucket-preserved : goal.loop-bucket-preserved
loop-bucket-preserved c =
    let kept = c.args.kept.now in
    let half = c.args.half.now in
    let notes = c.args.notes.now in
    let k = c.loop-bucket.bucket in
    let w = c.loop-bucket.words in
    let near = c.loop-bucket-test.true in
    let number = c.from-number.ensures in
    let at : c.from-at.result ≡ 32 * k = c.from-at.ensures ∙ c.first_among_buckets.ensures in
    let home : ℕ → ℕ → Type 0 = λ (a n : ℕ). IsMarking kept half notes (k + 1) (slice_set (slice_set w (a + 1) (slice_index notes.first n)) (a + 3) (slice_index notes.third n)) in
    let stash : ℕ → ℕ → Type 0 = λ (a n : ℕ). IsMarking kept half notes (k + 1) (slice_set (slice_set w (a + 1) (first_in half n)) (a + 3) (slot_fingers_part (slice_index kept (a + 3)))) in
    elim c.if-bucket-lt-HOMES.branch [
      | then-bucket-lt-HOMES z ↦ subst (λ (l : List ℕ). IsMarking kept half notes (k + 1) l) (sym z.words-is)
          (subst (λ (a : ℕ). home a c.from-number.result) (sym at) (subst (home (32 * k)) (sym number)
          (home_marked kept half notes k w near c.loop-bucket.invariant z.if-bucket-lt-HOMES.true)))
      | else-bucket-lt-HOMES z ↦ subst (λ (l : List ℕ). IsMarking kept half notes (k + 1) l) (sym (z.words-is ∙ ap (slice_set (slice_set w (c.from-at.result + 1) (first_in half c.from-number.result)) (c.from-at.result + 3)) z.slot_fingers_part.ensures))
          (subst (λ (a : ℕ). stash a c.from-number.result) (sym at) (subst (stash (32 * k)) (sym number)
          (stash_marked kept half notes k w near c.loop-bucket.invariant (let past = z.if-bucket-lt-HOMES.false in omega (arith, past)))))
    ]

pub returns : goal.returns
returns c = all_marked c.args.kept.now c.args.half.now c.args.notes.now c.loop-bucket.bucket c.loop-bucket.words (let past = c.loop-bucket-test.false in omega (arith, past)) c.loop-bucket.invariant
