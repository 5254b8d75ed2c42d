-- Who holds all locks of a segment and knows its buckets knows that each key stands once there, and that the records are its own.
use Rattle.std.proofs.Common.{◌≡◌, ℕ, ◌+◌, ◌<◌, List, [], inl, inr, sym, ap, ◌∙◌, subst, arith}
use Rattle.trace.specs.Events.{Words}
use Rattle.hash_word.specs.Hash.{home_of, Covers}
use Rattle.segment_head.specs.HeadWord.{depth_in, pattern_in}
use Rattle.image_layout.specs.Places.{bucket_at, buckets}
use Rattle.sound_image.specs.Segments.{frame_of}
use Rattle.sound_image.specs.Records.{key_hash}
use Rattle.frame_facts.proofs.frames.Owner.{found_owns}
use Rattle.frame_facts.specs.Hits.{Hit}
use Rattle.world.specs.Ground.{Ground, IsUnder}
use Rattle.world.specs.Views.{Move, View, Has, HasLock}
use Rattle.world.specs.Conditions.{IsNewest}
use Rattle.world.specs.areas.Areas.{header_word}
use Rattle.world.specs.areas.Splitting.{KnowsBuckets, IsInOrderByLocks}
use Rattle.world.proofs.basics.Grounds.{home_near, under_lock}
use Rattle.world.proofs.holding.Known.{hit_from}

module _ (site : Ground) (v : View) (words word : Words) (s : ℕ) (new : IsNewest site v words) (knows : KnowsBuckets site.shape v s word) where
  -- the newest words are those that are known, behind each lock
  same_there : (b : ℕ) → b < buckets → (i : ℕ) → IsUnder (bucket_at site.shape s b) i → words i ≡ word i
  same_there b near i under =
      let u = under_lock site.shape s b i under in
      let at = bucket_at site.shape s b + u.0 in
      ap words u.3 ∙ new.knows at (word at) (knows b u.0 near u.1 u.2).known ∙ ap word (sym u.3)

  -- so a known record stands there
  stands_now : (b r k : ℕ) → Hit site.shape word s b r k → Hit site.shape words s b r k
  stands_now b r k hit = hit_from site.shape word words s b (same_there b hit.bucket) r k hit

  module _ (locks : (b : ℕ) → b < buckets → HasLock v.held (bucket_at site.shape s b)) where
    pub stands_once : v.moving ≡ [] → (b r c t k : ℕ) → Hit site.shape word s b r k → Hit site.shape word s c t k → (b ≡ c) × (r ≡ t)
    stands_once none b r c t k hit other =
        let near = home_near site.shape k in
        elim (new.once s b r c t k (locks (home_of (key_hash site.shape k)) (omega (arith, near))) (stands_now b r k hit) (stands_now c t k other)) [
          | inl same ↦ same
          | inr m ↦ absurd (subst (λ (ms : List Move). Has m.0 ms) none m.1)
        ]

    pub is_own : Has (header_word site.shape s, word (header_word site.shape s)) v.known → (b r k : ℕ) → Hit site.shape word s b r k
        → Covers (depth_in (word (header_word site.shape s))) (pattern_in (word (header_word site.shape s))) (key_hash site.shape k)
    is_own head b r k hit =
        let own = new.own s b r k (locks b hit.bucket) (stands_now b r k hit) in
        let owns = found_owns (frame_of site.shape words) (key_hash site.shape k) s own in
        subst (λ (z : ℕ). Covers (depth_in z) (pattern_in z) (key_hash site.shape k))
        (new.knows (header_word site.shape s) (word (header_word site.shape s)) head) owns.own.covers

pub in_order_by_locks : (site : Ground) (v : View) → IsInOrderByLocks site v
in_order_by_locks site v = record {
  once = λ words word s new none slot locks knows. stands_once site v words word s new knows locks none;
  own = λ words word s new slot locks head knows. is_own site v words word s new knows locks head;
}
