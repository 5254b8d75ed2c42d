-- What is left once all is mended: records are the segment's own, each key stands once, and locks are free.
use Rattle.std.proofs.Common.{◌≡◌, ℕ, ◌+◌, ◌*◌, ◌%◌, ◌^◌, ◌<◌, ◌≤◌, List, slice_index, sym, ap, ◌∙◌, arith}
use Rattle.bucket_meta.specs.Bucket.{allocated, record_slots}
use Rattle.segment_head.specs.HeadWord.{depth_in}
use Rattle.image_layout.specs.Places.{Shape, buckets, block}
use Rattle.whole_segment.specs.Records.{Stands}
use Rattle.world.specs.Ground.{Ground}
use Rattle.repair_op.specs.declared.guarded.Guarded.{Guarded}
use Rattle.mend_op.specs.declared.stage.Stage.TheVariants.{Mend}
use Rattle.mend_op.specs.Words.{mended_lock, first_of, key_of, mended_first}
use Rattle.mend_op.specs.Stages.{made}
use Rattle.mend_op.specs.Stands.{AreLookedFor, AreMended}
use Rattle.mend_op.proofs.stages.Placing.{made_is, freed_at, mended_at, mended_else}
use Rattle.mend_op.proofs.stages.Mending.{left_mended}

module _ (site : Ground) (guarded : Guarded) (base : List ℕ) (small : (i : ℕ) → slice_index base i < 2 ^ 64) (deep : depth_in guarded.head ≤ 64) (looked : AreLookedFor site guarded base) where
  abbrev shape : Shape
  shape = site.shape

  abbrev left : List ℕ
  left = made Mend shape guarded.head base

  left_first : (b : ℕ) → b < buckets → first_of left b ≡ mended_first base shape guarded.head b
  left_first b near = made_is base shape guarded.head Mend (block * b + 1) (omega (arith, near)) ∙ mended_at base shape guarded.head b

  left_key : (b r : ℕ) → b < buckets → r < record_slots → key_of left b r ≡ key_of base b r
  left_key b r near low =
      let i : ℕ = block * b + (4 + 2 * r) in
      made_is base shape guarded.head Mend i (omega (arith, near, low)) ∙ mended_else base shape guarded.head i (λ zero. omega (arith, zero, low)) (λ one. omega (arith, one, low))

  -- a record that is left
  stood : (b r k : ℕ) → Stands (first_of left) (key_of left) b r k → Stands (mended_first base shape guarded.head) (key_of base) b r k
  stood b r k stands = record {
    bucket = stands.bucket;
    slot = stands.slot;
    taken = ap (allocated r) (sym (left_first b stands.bucket)) ∙ stands.taken;
    has_key = sym (left_key b r stands.bucket stands.slot) ∙ stands.has_key;
  }

  freed_even : (w : ℕ) → mended_lock w % 2 ≡ 0
  freed_even w = omega arith

  pub is_left_mended : AreMended site guarded left
  is_left_mended = record {
    own = λ b r k stands. ((left_mended shape guarded.head base small deep).own b r k (stood b r k stands)).1;
    once = λ b r c t k one other. (left_mended shape guarded.head base small deep).once looked b r c t k (stood b r k one) (stood c t k other);
    free = λ b near. ap (λ w. w % 2) (made_is base shape guarded.head Mend (block * b) (omega (arith, near)) ∙ freed_at base shape guarded.head b) ∙ freed_even (slice_index base (block * b));
  }
