-- What a reader has to note of buckets to place an answer.
use Rattle.std.proofs.Common.{◌≡◌, ◌⊎◌, ℕ, ◌+◌, ◌-◌, ◌/◌, ◌%◌, ◌^◌, ◌<◌, ◌≤◌, Some, inl, inr, ap, ◌∙◌, subst, arith}
use Rattle.bucket_meta.specs.Bucket.{overflow_count}
use Rattle.bucket_meta.specs.Notes.{how_often}
use Rattle.hash_word.specs.Hash.{home_of, probing_of, finger_of}
use Rattle.trace.specs.Events.{Words}
use Rattle.image_layout.specs.Places.{bucket_at}
use Rattle.sound_image.specs.Records.{key_hash}
use Rattle.frame_facts.specs.Hits.{Hit, HasNone}
use Rattle.frame_facts.proofs.segments.Finding.{find_is, find_none}
use Rattle.world.specs.Ground.{Ground, IsUnder}
use Rattle.world.specs.Views.{View}
use Rattle.world.specs.Conditions.{IsNow}
use Rattle.frame_facts.specs.HomeNotes.{IsUnnoted}
use Rattle.world.specs.Readers.{NotedBucket, Looked, MayAnswer}
use Rattle.frame_facts.proofs.segments.Noted.{notes_same}
use Rattle.frame_facts.proofs.segments.Stashed.{not_there}
use Rattle.world.proofs.holding.Known.{hit_to, hit_from, same_value}

module _ (site : Ground) (v : View) where
  abbrev home : ℕ → ℕ
  home k = home_of (key_hash site.shape k)

  home_near : (k : ℕ) → home k < 64
  home_near k = let h = key_hash site.shape k in let r : h / 2 ^ 8 % 64 < 64 = omega arith in r

  stash_of : (b : ℕ) → b < 66 → 64 ≤ b → (c : ℕ) × (c < 2) × (b ≡ 64 + c)
  stash_of b near above = (b - 64, omega (arith, near, above), omega (arith, above))

  same : (words word : Words) (s b : ℕ) → IsNow site v.notes words → NotedBucket site.shape v.notes s b word → (i : ℕ) → IsUnder (bucket_at site.shape s b) i → words i ≡ word i
  same words word s b n k i u = n.agrees k.note i (word i) k.has (k.words i u)

  module _ (s k : ℕ) (word : Words) (l : Looked site v.notes word s k) (words : Words) (n : IsNow site v.notes words) where
    unnoted : (c : ℕ) → IsUnnoted site.shape word s (home k) (finger_of (key_hash site.shape k)) c → IsUnnoted site.shape words s (home k) (finger_of (key_hash site.shape k)) c
    unnoted c u = record {
      none = ap (how_often (finger_of (key_hash site.shape k), c)) (notes_same site.shape word words s (home k)
          (λ i above below. same words word s (home k) n l.home (bucket_at site.shape s (home k) + i) (omega (arith, above), omega (arith, below)))
          (λ i above below. same words word s (probing_of (home k)) n l.probing (bucket_at site.shape s (probing_of (home k)) + i) (omega (arith, above), omega (arith, below)))) ∙ u.none;
      counted = ap overflow_count (same words word s (home k) n l.home (bucket_at site.shape s (home k) + 1) (omega arith, omega arith)) ∙ u.counted;
    }

    nowhere : ((t : ℕ) → Hit site.shape word s (home k) t k → ⊥) → ((t : ℕ) → Hit site.shape word s (probing_of (home k)) t k → ⊥)
        → ((c : ℕ) → c < 2 → (NotedBucket site.shape v.notes s (64 + c) word × ((t : ℕ) → Hit site.shape word s (64 + c) t k → ⊥))
        ⊎ IsUnnoted site.shape word s (home k) (finger_of (key_hash site.shape k)) c) → HasNone site.shape words s k
    nowhere not_home not_probing stash c t h = elim (n.table.stands s c t k h (l.led words n)).bucket [
      | inl a ↦ not_home t (hit_to site.shape word words s (home k) (same words word s (home k) n l.home) t k (subst (λ (z : ℕ). Hit site.shape words s z t k) a.0 h))
      | inr e ↦ elim e [
        | inl a ↦ not_probing t (hit_to site.shape word words s (probing_of (home k)) (same words word s (probing_of (home k)) n l.probing) t k (subst (λ (z : ℕ). Hit site.shape words s z t k) a.0 h))
        | inr a ↦ (let d = stash_of c h.bucket a in let h' = subst (λ (z : ℕ). Hit site.shape words s z t k) d.2 h in elim (stash d.0 d.1) [
          | inl q ↦ q.1 t (hit_to site.shape word words s (64 + d.0) (same words word s (64 + d.0) n q.0) t k h')
          | inr u ↦ not_there site.shape words s d.0 t k d.1 (n.exact s (home k) l.home.note l.segment (home_near k) l.home.has l.home.lock) (unnoted d.0 u) h'
        ])
      ]
    ]

  pub may_answer : MayAnswer site v
  may_answer = record {
    none = λ s k word l not_home not_probing stash. (
      s,
      (l.home.note, l.home.has, l.home.lock),
      λ words n. (l.led words n, find_none site.shape words s k l.segment (l.led words n) (nowhere s k word l words n not_home not_probing stash)),
    );
    some = λ s b r k word l there hit. (
      s,
      (l.home.note, l.home.has, l.home.lock),
      λ words n. (
        l.led words n,
        find_is site.shape words n.table s b r k (hit_from site.shape word words s b (same words word s b n there) r k hit) (l.led words n)
            ∙ ap Some (same_value site.shape word words s b (same words word s b n there) r hit.slot),
      ),
    );
  }
