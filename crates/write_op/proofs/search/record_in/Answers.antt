-- Field by field.
use Rattle.std.proofs.Common.{◌≡◌, ◌∙◌, ℕ, List, ap, slice_index}
use Rattle.hash_word.specs.Hash.{finger_of}
use Rattle.bucket_meta.specs.Bucket.{mark_place}
use Rattle.bucket_meta.specs.Marks.{finger_place, with_finger}
use Rattle.phase.specs.declared.role.Role.{Role}
use Rattle.phase.specs.Makes.{brought}
use Rattle.write_op.specs.declared.step.Task.{Task}
use Rattle.write_op.specs.Search.{published_word, published_mark, record_in}
use Rattle.write_op.proofs.search.record_in.Goals as goal

record_of : (task : Task) (place : Role) (words : List ℕ) (slot value fingers at finger published mark : ℕ) → value ≡ brought task.change.effect → fingers ≡ with_finger (slice_index words at) slot finger
    → at ≡ finger_place slot → finger ≡ finger_of task.hash → published ≡ published_word task.change.effect slot → mark ≡ published_mark task.change.effect place (slice_index words mark_place) slot
    → record { slot = slot; key = task.change.key; value = value; fingers = fingers; published = published; mark = mark } ≡ record_in task place words slot
record_of task place words slot value fingers at finger published mark value_is fingers_are at_is finger_is published_is mark_is =
    let end = record_in task place words slot in
    ap (λ (n : ℕ). record end { value = n; fingers = fingers; published = published; mark = mark }) value_is
    ∙ (ap (λ (n : ℕ). record end { fingers = n; published = published; mark = mark }) (fingers_are ∙ (ap (λ (n : ℕ). with_finger (slice_index words n) slot finger) at_is ∙ ap (λ (n : ℕ). with_finger (slice_index words (finger_place slot)) slot n) finger_is))
    ∙ (ap (λ (n : ℕ). record end { published = n; mark = mark }) published_is
    ∙ ap (λ (n : ℕ). record end { mark = n }) mark_is))

pub returns : goal.returns
returns c = record_of c.args.task.now c.args.place c.args.words.now c.args.slot _ _ _ _ _ _ c.brought.ensures c.with_finger.ensures c.finger_place.ensures.is c.finger.ensures c.published_word.ensures c.published_mark.ensures
