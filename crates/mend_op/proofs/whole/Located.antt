-- Where the words of the segment stand, by its number and the layout.
use Rattle.std.proofs.Common.{◌≡◌, ℕ, ◌+◌, ◌<◌, sym, ap, ◌∙◌, subst}
use Rattle.std.specs.Prelude.{if◌then◌else◌}
use Rattle.std.proofs.lemmas.Bool.{lt-ltb}
use Rattle.image_layout.specs.Places.{Shape, root_word, head_at as header_at, bucket_at}
use Rattle.image_layout.specs.Volatile.{segment_guard}
use Rattle.world.specs.Ground.{Ground}
use Rattle.world.specs.areas.Areas.{header_word}
use Rattle.repair_op.specs.declared.guarded.Guarded.{Guarded}
use Rattle.repair_op.specs.Guarded.{guard_of}
use Rattle.mend_op.specs.declared.op.MendOp.{MendOp}
use Rattle.mend_op.specs.Steps.{own_head_word, word_at}
use Rattle.mend_op.specs.Stands.{place_of}

module _ (site : Ground) (op : MendOp) (same_shape : op.guarded.site.geometry ≡ site.shape) (within : op.guarded.segment < site.shape.segments) where
  abbrev guarded : Guarded
  guarded = op.guarded

  here : guarded.segment < guarded.site.geometry.segments
  here = subst (λ (g : Shape). guarded.segment < g.segments) (sym same_shape) within

  pub word_is : (i : ℕ) → word_at op i ≡ place_of site guarded i
  word_is i = ap (λ w. w + i)
      (ap (λ t. if t then bucket_at guarded.site.geometry guarded.segment 0 else root_word) (lt-ltb guarded.segment guarded.site.geometry.segments here) ∙ ap (λ (g : Shape). bucket_at g guarded.segment 0) same_shape)

  pub head_is : own_head_word op ≡ header_word site.shape guarded.segment
  head_is = ap (λ t. if t then header_at guarded.site.geometry guarded.segment + 1 else root_word) (lt-ltb guarded.segment guarded.site.geometry.segments here) ∙ ap (λ (g : Shape). header_at g guarded.segment + 1) same_shape

  pub guard_is : guard_of guarded ≡ segment_guard site.shape guarded.segment
  guard_is = ap (λ t. if t then segment_guard guarded.site.geometry guarded.segment else root_word) (lt-ltb guarded.segment guarded.site.geometry.segments here) ∙ ap (λ (g : Shape). segment_guard g guarded.segment) same_shape
