-- Who has all locks of a segment and knows its words and its header knows that each key stands once in it, that it covers each of its records,
-- and that it is no deeper than the image allows.
use Rattle.std.proofs.Common.{◌≡◌, ◌≢◌, ℕ, ◌+◌, ◌<◌, ◌≤◌, sym, ap, ◌∙◌, subst, arith}
use Rattle.trace.specs.Events.{Words}
use Rattle.hash_word.specs.Hash.{Covers}
use Rattle.segment_head.specs.HeadWord.{state_in, depth_in, pattern_in, free, normal}
use Rattle.image_layout.specs.Places.{bucket_at, buckets}
use Rattle.sound_image.specs.Segments.{frame_of}
use Rattle.sound_image.specs.Records.{key_hash}
use Rattle.segment_table.proofs.frames.Owner.{found_owns}
use Rattle.way.proofs.Leading.{leading_is}
use Rattle.bucket_words.specs.Hits.{Hit}
use Rattle.world.specs.Ground.{Ground, IsUnder}
use Rattle.world.specs.Views.{View}
use Rattle.world.specs.Conditions.{IsNewest}
use Rattle.world.specs.areas.Areas.{header_word}
use Rattle.world.proofs.basics.Grounds.{under_lock}
use Rattle.world.proofs.holders.filling.Ordered.{in_order_by_locks}
use Rattle.world.proofs.holding.Known.{hit_from}
use Rattle.enclose_op.specs.declared.enclosed.Enclosed.{Enclosed}
use Rattle.enclose_op.specs.Whole.{kept_words}
use Rattle.enclose_op.proofs.causes.Causing.{IsCrowd}

module _ (site : Ground) (e : Enclosed) (v : View) (crowd : IsCrowd site e v) (words : Words) (new : IsNewest site v words) where
  pub stands_once : (b r c t k : ℕ) → Hit site.shape (kept_words e) e.segment b r k → Hit site.shape (kept_words e) e.segment c t k → (b ≡ c) × (r ≡ t)
  stands_once = (in_order_by_locks site v).once words (kept_words e) e.segment new crowd.moving crowd.located.within crowd.locks crowd.words

  -- the newest words are those that are kept, behind each lock
  same_there : (b : ℕ) → b < buckets → (i : ℕ) → IsUnder (bucket_at site.shape e.segment b) i → words i ≡ kept_words e i
  same_there b near i under =
      let u = under_lock site.shape e.segment b i under in
      let at = bucket_at site.shape e.segment b + u.0 in
      ap words u.3 ∙ new.knows at (kept_words e at) (crowd.words b u.0 near u.1 u.2).known ∙ ap (kept_words e) (sym u.3)

  head_now : words (header_word site.shape e.segment) ≡ e.head
  head_now = new.knows (header_word site.shape e.segment) e.head crowd.header

  pub covers_own : (b r k : ℕ) → Hit site.shape (kept_words e) e.segment b r k → Covers (depth_in e.head) (pattern_in e.head) (key_hash site.shape k)
  covers_own b r k hit =
      let now = hit_from site.shape (kept_words e) words e.segment b (same_there b hit.bucket) r k hit in
      let owns = found_owns (frame_of site.shape words) (key_hash site.shape k) e.segment (new.own e.segment b r k (crowd.locks b hit.bucket) now) in
      subst (λ (z : ℕ). Covers (depth_in z) (pattern_in z) (key_hash site.shape k)) head_now owns.own.covers

  -- no deeper than the image allows, and so less deep where it is not as deep
  pub less_deep : depth_in e.head ≢ site.shape.depth → depth_in e.head < site.shape.depth
  less_deep apart =
      let leads = leading_is e.head e.hash crowd.leads in
      let not_free : state_in (words (header_word site.shape e.segment)) ≢ free = λ is. (let one : normal ≡ free = sym leads.normal ∙ ap state_in (sym head_now) ∙ is in absurd (cc)) in
      let most : depth_in (words (header_word site.shape e.segment)) ≤ site.shape.depth = (new.structure.sound.head e.segment crowd.located.within).depth_fits not_free in
      let bound : depth_in e.head ≤ site.shape.depth = subst (λ (z : ℕ). depth_in z ≤ site.shape.depth) head_now most in
      omega (arith, bound, apart)
