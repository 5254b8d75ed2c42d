-- What is known of a bucket under its lock, in the newest words and in a medium beside them.
use Rattle.std.proofs.Common.{◌≡◌, ℕ, ◌+◌, ◌*◌, ◌-◌, ◌/◌, ◌^◌, ◌<◌, ◌≤◌, sym, ap, ◌∙◌, subst, arith}
use Rattle.bucket_meta.specs.Bucket.{allocated, finger}
use Rattle.trace.specs.Events.{Words}
use Rattle.image_layout.specs.Places.{Shape, bucket_at}
use Rattle.frame_facts.specs.Buckets.{key_in, value_in, finger_in}
use Rattle.bucket_meta.specs.Marks.{SameButSlot}
use Rattle.frame_facts.specs.Hits.{Hit}
use Rattle.frame_facts.specs.TableChanges.{IsReadyAt}
use Rattle.world.specs.Ground.{Ground, IsUnder}
use Rattle.world.specs.Views.{View}
use Rattle.world.specs.Conditions.{IsNewest, StandsBeside}
use Rattle.world.specs.Holders.{KnowsBucket}
use Rattle.image_layout.specs.Places.{homes, stash_buckets, buckets}

-- words that are another's under a lock
module _ (shape : Shape) (word w : Words) (s b : ℕ) (same : (i : ℕ) → IsUnder (bucket_at shape s b) i → w i ≡ word i) where
  abbrev at : ℕ
  at = bucket_at shape s b

  pub meta : w (at + 1) ≡ word (at + 1)
  meta = same (at + 1) (omega arith, omega arith)

  pub same_key : (t : ℕ) → t < 14 → key_in w at t ≡ key_in word at t
  same_key t slot = same (at + 4 + 2 * t) (omega arith, omega (arith, slot))

  pub same_value : (t : ℕ) → t < 14 → value_in w at t ≡ value_in word at t
  same_value t slot = same (at + 5 + 2 * t) (omega arith, omega (arith, slot))

  pub same_finger : (t : ℕ) → finger_in w at t ≡ finger_in word at t
  same_finger t = ap (λ z. finger t z (w (at + 3))) (same (at + 2) (omega arith, omega arith)) ∙ ap (finger t (word (at + 2))) (same (at + 3) (omega arith, omega arith))

  pub ready : (r k : ℕ) → IsReadyAt shape word s b r k → IsReadyAt shape w s b r k
  ready r k o = record {
    segment = o.segment;
    bucket = o.bucket;
    slot = o.slot;
    is_free = ap (allocated r) meta ∙ o.is_free;
    has_key = same_key r o.slot ∙ o.has_key;
    has_finger = same_finger r ∙ o.has_finger;
  }

  pub hit_to : (t k : ℕ) → Hit shape w s b t k → Hit shape word s b t k
  hit_to t k h = record { segment = h.segment; bucket = h.bucket; slot = h.slot; taken = ap (allocated t) (sym meta) ∙ h.taken; key = sym (same_key t h.slot) ∙ h.key }

  pub hit_from : (t k : ℕ) → Hit shape word s b t k → Hit shape w s b t k
  hit_from t k h = record { segment = h.segment; bucket = h.bucket; slot = h.slot; taken = ap (allocated t) meta ∙ h.taken; key = same_key t h.slot ∙ h.key }

  pub but_slot : (r x : ℕ) → SameButSlot r (word (at + 1)) x → SameButSlot r (w (at + 1)) x
  but_slot r x o = subst (λ z. SameButSlot r z x) (sym meta) o

  pub high_part : (x : ℕ) → x / 2 ^ 28 ≡ word (at + 1) / 2 ^ 28 → x / 2 ^ 28 ≡ w (at + 1) / 2 ^ 28
  high_part x e = e ∙ ap (λ z. z / 2 ^ 28) (sym meta)

-- a stash bucket by its number
pub stash_of : (b : ℕ) → b < buckets → homes ≤ b → (c : ℕ) × (c < stash_buckets) × (b ≡ homes + c)
stash_of b near above = (b - 64, omega (arith, near, above), omega (arith, above))

module _ (site : Ground) (v : View) where
  pub newest_same : (words word : Words) (s b : ℕ) → IsNewest site v words → KnowsBucket site.shape v s b word → (i : ℕ) → IsUnder (bucket_at site.shape s b) i → words i ≡ word i
  newest_same words word s b n k i u = n.knows i (word i) (k.words i u).known

  pub medium_same : (words medium word : Words) (s b : ℕ) → StandsBeside site v words medium → KnowsBucket site.shape v s b word → (i : ℕ) → IsUnder (bucket_at site.shape s b) i → medium i ≡ word i
  medium_same words medium word s b o k i u = let w = k.words i u in o.agrees i (word i) w.known w.firm
