use Rattle.std.proofs.Common.{◌≡◌, ℕ, rules, inl, inr, ◌+◌, ◌/◌, ◌<◌, ◌∙◌, sym, ap, refl, subst}
use Rattle.image_layout.specs.Places.{Shape, bucket_at, buckets}
use Rattle.world.specs.Ground.{IsLockWord}
use Rattle.world.specs.Views.{View}
use Rattle.world.specs.Kinds.{looks, glances_word, validates}
use Rattle.world.specs.StepKinds.{of_call}
use Rattle.vlock.specs.declared.knows.Watch.{Watch}
use Rattle.vlock.specs.declared.bucket.ReadReply.TheVariants.{Clean, Moved, Held}
use Rattle.vlock.specs.Ruling.{ground_of}
use Rattle.vlock.specs.Buckets.{MayCall, IsBesideNotes, ReadSays}
use Rattle.vlock.proofs.Noting.{odd_of, even_of, found_at, says_there, looked, starts, goes_on, clean, notes_bucket, may_call, validated_view, first_load, next_load, last_load, looked_once, read_to_its_end}
use Rattle.vlock.proofs.bucket.read_bucket.Goals as goal

-- it may load of the lock of this bucket, in a view beside the one that it had
may_load : (shape given : Shape) (segment bucket lock : ℕ) (v w : View) → (segment < shape.segments) × (bucket < buckets) → lock ≡ bucket_at given segment bucket → given ≡ shape
    → IsBesideNotes v w → MayCall v → IsLockWord shape lock × MayCall w
may_load shape given segment bucket lock v w place is same beside may =
    ((segment, bucket, place.0, place.1, is ∙ ap (λ (g : Shape). bucket_at g segment bucket) same), may_call v w beside may)

pub look-before-requires-clause-table : goal.look-before-requires-clause-table
look-before-requires-clause-table c = c.requires.table

pub returns-then-is_locked-clause-table : goal.returns-then-is_locked-clause-table
returns-then-is_locked-clause-table c = c.look-before.ensures.table

pub returns-then-is_locked-clause-past : goal.returns-then-is_locked-clause-past
returns-then-is_locked-clause-past c = ap (λ (w : Watch). w.past) c.look-before.ensures.view.0

pub returns-then-is_locked-clause-view : goal.returns-then-is_locked-clause-view
returns-then-is_locked-clause-view c = looked (ground_of c.args.image.now.key) c.bucket_at-lock.result c.look-before.result c.args.seat.now.me.0 _ c.look-before.ensures.view c.requires.caller.1

pub returns-then-is_locked-clause-read : goal.returns-then-is_locked-clause-read
returns-then-is_locked-clause-read c =
    let lock = c.bucket_at-lock.result in
    let lock_is = c.bucket_at-lock.ensures.is ∙ ap (λ (g : Shape). bucket_at g c.args.segment c.args.bucket) c.requires.geometry in
    let site = ground_of c.args.image.now.key in
    let p = c.args.seat.now.me.0 in
    says_there site lock _ p c.look-before.new.seat.me.0 (Held c.look-before.result) lock_is (
      odd_of c.look-before.result c.if-is_locked.ensures,
      found_at site p.view lock c.look-before.result (λ n. of_call (looks lock)) p _ refl c.look-before.ensures.view,
      inl (looked_once site lock c.look-before.result (λ n. of_call (looks lock)) p _ c.look-before.ensures.view),
    )

pub loop-i-init : goal.loop-i-init
loop-i-init c =
    let lock = c.bucket_at-lock.result in
    let site = ground_of c.args.image.now.key in
    let p = c.args.seat.now.me.0 in
    record {
      table = c.look-before.ensures.table;
      past = ap (λ (w : Watch). w.past) c.look-before.ensures.view.0;
      took = first_load site lock c.look-before.result (λ n. of_call (looks lock)) p _ c.look-before.ensures.view;
      reading = starts site lock c.look-before.result _ p _ c.look-before.ensures.view (even_of _ c.if-is_locked.ensures) refl refl c.requires.caller.1;
    }

pub glance-requires-clause-table : goal.glance-requires-clause-table
glance-requires-clause-table c = c.loop-i.invariant.table

pub glance-requires-clause-lock : goal.glance-requires-clause-lock
glance-requires-clause-lock c =
    may_load c.args.image.now.key.geometry c.args.geometry.now c.args.segment c.args.bucket c.bucket_at-lock.result c.args.seat.now.me.0.view c.loop-i.seat.me.0.view c.requires.place c.bucket_at-lock.ensures.is c.requires.geometry
    c.loop-i.invariant.reading.same_view c.requires.caller.0

pub loop-i-preserved : goal.loop-i-preserved
loop-i-preserved c =
    let lock = c.bucket_at-lock.result in
    let site = ground_of c.args.image.now.key in
    let i = c.loop-i.invariant in
    let o = c.args.seat.now.me.0 in
    let p = c.loop-i.seat.me.0 in
    record {
      table = c.glance.ensures.table;
      past = ap (λ (w : Watch). w.past) c.glance.ensures.view.0 ∙ i.past;
      took = next_load site lock c.loop-i.words c.loop-i.i c.glance.result (λ n. of_call (glances_word lock (lock + c.loop-i.i))) o p _ i.reading.whole (search rules) i.took c.glance.ensures.view;
      reading = goes_on site o.view lock c.look-before.result c.loop-i.words c.loop-i.i c.glance.result p _ (search rules) (search rules) i.reading c.glance.ensures.view;
    }

pub validate-after-requires-clause-table : goal.validate-after-requires-clause-table
validate-after-requires-clause-table c = c.loop-i.invariant.table

pub validate-after-requires-clause-lock : goal.validate-after-requires-clause-lock
validate-after-requires-clause-lock c =
    may_load c.args.image.now.key.geometry c.args.geometry.now c.args.segment c.args.bucket c.bucket_at-lock.result c.args.seat.now.me.0.view c.loop-i.seat.me.0.view c.requires.place c.bucket_at-lock.ensures.is c.requires.geometry
    c.loop-i.invariant.reading.same_view c.requires.caller.0

pub returns-then-is_locked-2-clause-table : goal.returns-then-is_locked-2-clause-table
returns-then-is_locked-2-clause-table c = c.validate-after.ensures.table

pub returns-then-is_locked-2-clause-past : goal.returns-then-is_locked-2-clause-past
returns-then-is_locked-2-clause-past c = ap (λ (w : Watch). w.past) c.validate-after.ensures.view.0 ∙ c.loop-i.invariant.past

pub returns-then-is_locked-2-clause-view : goal.returns-then-is_locked-2-clause-view
returns-then-is_locked-2-clause-view c =
    validated_view (ground_of c.args.image.now.key) c.args.seat.now.me.0.view c.bucket_at-lock.result c.validate-after.result c.loop-i.seat.me.0 _ c.validate-after.ensures.view c.loop-i.invariant.reading.same_view c.requires.caller.1

pub returns-then-is_locked-2-clause-read : goal.returns-then-is_locked-2-clause-read
returns-then-is_locked-2-clause-read c =
    let lock = c.bucket_at-lock.result in
    let lock_is = c.bucket_at-lock.ensures.is ∙ ap (λ (g : Shape). bucket_at g c.args.segment c.args.bucket) c.requires.geometry in
    let site = ground_of c.args.image.now.key in
    let i = c.loop-i.invariant in
    let o = c.args.seat.now.me.0 in
    let p = c.loop-i.seat.me.0 in
    says_there site lock _ o c.validate-after.new.seat.me.0 (Held c.validate-after.result) lock_is (
      odd_of c.validate-after.result c.if-is_locked-2.ensures,
      found_at site o.view lock c.validate-after.result (λ n. of_call (validates lock)) p _ i.reading.same_view c.validate-after.ensures.view,
      inr (
        c.look-before.result,
        i.reading.even,
        read_to_its_end site lock c.look-before.result c.validate-after.result c.loop-i.words c.loop-i.i (λ n. of_call (validates lock)) o p _ (search rules) i.reading.first i.took c.validate-after.ensures.view,
      ),
    )

pub returns-then-after-before-clause-table : goal.returns-then-after-before-clause-table
returns-then-after-before-clause-table c = c.validate-after.ensures.table

pub returns-then-after-before-clause-past : goal.returns-then-after-before-clause-past
returns-then-after-before-clause-past c = ap (λ (w : Watch). w.past) c.validate-after.ensures.view.0 ∙ c.loop-i.invariant.past

pub returns-then-after-before-clause-view : goal.returns-then-after-before-clause-view
returns-then-after-before-clause-view c =
    validated_view (ground_of c.args.image.now.key) c.args.seat.now.me.0.view c.bucket_at-lock.result c.validate-after.result c.loop-i.seat.me.0 _ c.validate-after.ensures.view c.loop-i.invariant.reading.same_view c.requires.caller.1

pub returns-then-after-before-clause-read : goal.returns-then-after-before-clause-read
returns-then-after-before-clause-read c =
    let lock = c.bucket_at-lock.result in
    let lock_is = c.bucket_at-lock.ensures.is ∙ ap (λ (g : Shape). bucket_at g c.args.segment c.args.bucket) c.requires.geometry in
    let site = ground_of c.args.image.now.key in
    let i = c.loop-i.invariant in
    let o = c.args.seat.now.me.0 in
    let p = c.loop-i.seat.me.0 in
    subst (λ (n : ℕ). ReadSays site (bucket_at c.args.image.now.key.geometry c.args.segment c.args.bucket) o (Clean n c.loop-i.words) c.validate-after.new.seat.me.0) (sym c.lock_version-version.ensures)
    (says_there site lock _ o c.validate-after.new.seat.me.0 (Clean (c.look-before.result / 2) c.loop-i.words) lock_is (
      clean site o.view lock c.look-before.result c.validate-after.result c.loop-i.words c.loop-i.i p _ i.reading (search rules) c.validate-after.ensures.view (search rules),
      last_load site lock c.look-before.result c.validate-after.result c.loop-i.words c.loop-i.i (λ n. of_call (validates lock)) o p _ (search rules) (search rules) i.reading.even i.took c.validate-after.ensures.view,
      notes_bucket site o.view lock c.look-before.result c.validate-after.result c.loop-i.words c.loop-i.i p _ i.reading (search rules) c.validate-after.ensures.view (search rules) c.requires.caller.1,
    ))

pub returns-else-after-before-clause-table : goal.returns-else-after-before-clause-table
returns-else-after-before-clause-table c = c.validate-after.ensures.table

pub returns-else-after-before-clause-past : goal.returns-else-after-before-clause-past
returns-else-after-before-clause-past c = ap (λ (w : Watch). w.past) c.validate-after.ensures.view.0 ∙ c.loop-i.invariant.past

pub returns-else-after-before-clause-view : goal.returns-else-after-before-clause-view
returns-else-after-before-clause-view c =
    validated_view (ground_of c.args.image.now.key) c.args.seat.now.me.0.view c.bucket_at-lock.result c.validate-after.result c.loop-i.seat.me.0 _ c.validate-after.ensures.view c.loop-i.invariant.reading.same_view c.requires.caller.1

pub returns-else-after-before-clause-read : goal.returns-else-after-before-clause-read
returns-else-after-before-clause-read c =
    let lock = c.bucket_at-lock.result in
    let lock_is = c.bucket_at-lock.ensures.is ∙ ap (λ (g : Shape). bucket_at g c.args.segment c.args.bucket) c.requires.geometry in
    let site = ground_of c.args.image.now.key in
    let i = c.loop-i.invariant in
    let r = i.reading in
    let o = c.args.seat.now.me.0 in
    let p = c.loop-i.seat.me.0 in
    says_there site lock _ o c.validate-after.new.seat.me.0 (Moved c.look-before.result c.validate-after.result) lock_is (
      (λ e. c.if-after-before.false (sym e)),
      r.even,
      even_of c.validate-after.result c.if-is_locked-2.ensures,
      r.found,
      found_at site o.view lock c.validate-after.result (λ n. of_call (validates lock)) p _ r.same_view c.validate-after.ensures.view,
      read_to_its_end site lock c.look-before.result c.validate-after.result c.loop-i.words c.loop-i.i (λ n. of_call (validates lock)) o p _ (search rules) r.first i.took c.validate-after.ensures.view,
    )
