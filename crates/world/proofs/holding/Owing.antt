-- What homes have noted of the stash, and what views owe to that, beside a store.
use Rattle.std.proofs.Common.{◌≡◌, ℕ, ◌+◌, ◌/◌, ◌^◌, ◌<◌, ◌≤◌, ap, sym, subst, arith}
use Rattle.hash_word.specs.Hash.{home_of, probing_of}
use Rattle.bucket_meta.specs.Bucket.{overflow_count}
use Rattle.trace.specs.Events.{Words, with_word}
use Rattle.image_layout.specs.Places.{Shape, bucket_at, block, homes, buckets}
use Rattle.sound_image.specs.Records.{key_hash, word_in, notes_of, stashed_of}
use Rattle.frame_facts.specs.Core.{core_of}
use Rattle.frame_facts.specs.TableChanges.{ChangesSlot}
use Rattle.frame_facts.specs.HomeNotes.{SameHomeNotes}
use Rattle.frame_facts.proofs.segments.Cores.{slots_of_cores}
use Rattle.frame_facts.proofs.segments.Noted.{notes_same, notes_kept, count_kept}
use Rattle.frame_facts.proofs.segments.Stashed.{stashed_same, others_stashed}
use Rattle.world.specs.Ground.{Ground}
use Rattle.world.specs.Views.{Owed, View}
use Rattle.world.specs.Conditions.{IsOwedOf, IsOwed, IsNewest}
use Rattle.world.specs.Holders.{KnowsBucket}
use Rattle.world.proofs.holding.Known.{newest_same}

-- where the words behind the lock words of a segment stay, so does what its homes have noted
pub same_notes : (shape : Shape) (word other : Words) (s b : ℕ) → s < shape.segments → b < homes
    → ((c n : ℕ) → c < buckets → 1 ≤ n → n < block → other (bucket_at shape s c + n) ≡ word (bucket_at shape s c + n)) → SameHomeNotes shape word other s b
same_notes shape word other s b seg near same = record {
  notes = notes_same shape word other s b (λ n above below. same b n (omega (arith, near)) above (omega (arith, below)))
      (λ n above below. same (probing_of b) n (omega arith) above (omega (arith, below)));
  count = ap overflow_count (same b 1 (omega (arith, near)) (omega arith) (omega arith));
  stashed = stashed_same shape word other s b (λ c t small slot. slots_of_cores shape word other s (homes + c) seg (omega (arith, small))
      (λ n above below. ap (core_of shape (bucket_at shape s (homes + c) + n)) (sym (same (homes + c) n (omega (arith, small)) above below))) t slot);
}

-- what is owed stays so where the records do
pub owed_same : (shape : Shape) (word other : Words) (o : Owed) → stashed_of shape other o.segment o.home ≡ stashed_of shape word o.segment o.home → IsOwed shape word o → IsOwed shape other o
owed_same shape word other o same x = subst (λ z. IsOwedOf o.added o.note o.notes o.count z) (sym same) x

-- a metadata word that changes one slot and keeps the overflow parts keeps what each home has noted, but where it has the slot's
-- record in the stash
pub notes_beside : (shape : Shape) (word : Words) (s b r k x : ℕ) → ChangesSlot shape word (with_word word (bucket_at shape s b + 1) x) s b r k → b < buckets
    → x / 2 ^ 28 ≡ word (bucket_at shape s b + 1) / 2 ^ 28 → (q d : ℕ) → q < shape.segments → d < homes → (q ≡ s → homes ≤ b → d ≡ home_of (key_hash shape k) → ⊥)
    → SameHomeNotes shape word (with_word word (bucket_at shape s b + 1) x) q d
notes_beside shape word s b r k x change bucket high q d seg near apart = record {
  notes = notes_kept shape word s b x bucket high q d near;
  count = count_kept shape word s b x bucket high q d near;
  stashed = others_stashed shape word (with_word word (bucket_at shape s b + 1) x) s b r k change q d seg apart;
}

-- the notes of a home whose two buckets are known
module _ (site : Ground) (v : View) where
  pub notes_known : (words word : Words) (s b : ℕ) → IsNewest site v words → KnowsBucket site.shape v s b word → KnowsBucket site.shape v s (probing_of b) word
      → notes_of site.shape words s b ≡ notes_of site.shape word s b
  notes_known words word s b n home probing = notes_same site.shape word words s b
      (λ i above below. newest_same site v words word s b n home (bucket_at site.shape s b + i) (omega (arith, above), omega (arith, below)))
      (λ i above below. newest_same site v words word s (probing_of b) n probing (bucket_at site.shape s (probing_of b) + i) (omega (arith, above), omega (arith, below)))

  pub count_known : (words word : Words) (s b : ℕ) → IsNewest site v words → KnowsBucket site.shape v s b word → overflow_count (word_in site.shape words s b 1) ≡ overflow_count (word_in site.shape word s b 1)
  count_known words word s b n home = ap overflow_count (newest_same site v words word s b n home (bucket_at site.shape s b + 1) (omega arith, omega arith))
